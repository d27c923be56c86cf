-- `InState::count` meets its contract. Assumes nothing.
use Rattle.placement.proofs.CountSteps.{Counting}
use Rattle.placement.proofs.InState.count.Given as goal

abbrev pub invariant-loop-block : goal.invariant-loop-block
invariant-loop-block l = Counting l.self.edges.now l.self.starts.now l.blocks l.waits l.block-index
