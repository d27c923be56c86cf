-- `state::joins::BlockProgress::assign_all` meets its contract. Assumes nothing.
use lib.ListN.{drop}
use Rattle.cfg.specs.Graph.{instructions_of}
use Rattle.cfg.specs.Table.{block_at}
use Rattle.state.specs.Wires.{assign, assigns}
use Rattle.state.specs.Steps.{block_in}
use Rattle.state.proofs.StepLaws.{Walking}
use Rattle.state.proofs.joins.BlockProgress.assign_all.Given as goal

abbrev pub invariant-loop-i : goal.invariant-loop-i
invariant-loop-i l =
    let is = instructions_of (block_at l.graph.words.now l.x) in
    Walking assign (drop l.i is) (assigns is (block_in l.initial.self l.initial.wires)) l.initial.self.registers l.initial.wires l.self l.wires
