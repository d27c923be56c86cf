-- `placement::to_front` meets its contract: the places passed hold the block and then those before them. Assumes nothing.
use Rattle.placement.proofs.PlacementSteps.{Moving}
use Rattle.placement.proofs.to_front.Given as goal

abbrev pub invariant-loop-j : goal.invariant-loop-j
invariant-loop-j l = Moving l.initial.left l.i l.left l.carried l.j
