-- `InState::count` meets its contract. Assumes nothing.
use native.Mathlib.Omega.{arith}
use Rattle.placement.proofs.CountSteps.{counting_begins, counting_on}
use Rattle.placement.proofs.InState.count.Goals as goal

pub loop-block-init : goal.loop-block-init
loop-block-init c = counting_begins _ _ _

pub loop-block-preserved : goal.loop-block-preserved
loop-block-preserved c =
    let first = c.raise in
    let second = c.raise-in-loop-block in
    counting_on c.loop-block.invariant c.loop-block-test.true second.new.waits (λ x. rw (← c.row.ensures) (omega (arith, second.ensures x, first.ensures x)))
