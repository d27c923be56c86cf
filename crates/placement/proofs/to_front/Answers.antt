-- `placement::to_front` meets its contract: the places passed hold the block and then those before them. Assumes nothing.
use Rattle.std.proofs.Common.{arith}
use Rattle.placement.proofs.PlacementSteps.{moving_on, moving_done}
use Rattle.placement.proofs.to_front.Goals as goal

pub loop-j-preserved : goal.loop-j-preserved
loop-j-preserved c = let l = c.loop-j in moving_on l.invariant c.requires (omega (arith, c.loop-j-test.true, l.auto.j-end))

pub returns-2 : goal.returns-2
returns-2 c =
    let l = c.loop-j in
    moving_done (moving_on l.invariant c.requires (omega (arith, c.loop-j-test.true, l.auto.j-end))) (omega (arith, c.loop-j-test.true, l.auto.j-end))
