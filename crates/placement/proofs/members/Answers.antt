-- `placement::members` meets its contract. Assumes nothing.
use native.Mathlib.Omega.{arith}
use Rattle.placement.proofs.PlacementSteps.{members_one, members_other, members_all}
use Rattle.placement.proofs.members.Goals.{then-state-k, else-state-k}
use Rattle.placement.proofs.members.Goals as goal

pub loop-x-preserved : goal.loop-x-preserved
loop-x-preserved c =
    elim c.if-state-k.branch [
      | then-state-k w ↦ rw (w.blocks-is, w.push.ensures.items) (members_one c.loop-x.invariant c.loop-x-test.true (omega (arith, c.loop-x-test.true, c.requires.0)) w.if-state-k.true)
      | else-state-k w ↦ rw w.blocks-is (members_other c.loop-x.invariant c.loop-x-test.true (omega (arith, c.loop-x-test.true, c.requires.0)) w.if-state-k.false)
    ]

pub returns : goal.returns
returns c = members_all c.loop-x.invariant c.loop-x-test.false c.requires.1
