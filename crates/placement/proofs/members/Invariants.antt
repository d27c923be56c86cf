-- `placement::members` meets its contract. Assumes nothing.
use Rattle.placement.proofs.PlacementSteps.{Members}
use Rattle.placement.proofs.members.Given as goal

abbrev pub invariant-loop-x : goal.invariant-loop-x
invariant-loop-x l = Members l.states l.blocks.items l.k l.x
