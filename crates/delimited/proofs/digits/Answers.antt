-- Each byte of a number: the end, no digit, a digit too many, or one more. Assumes nothing.
use Rattle.std.proofs.Common.{◌∙◌, arith}
use Rattle.delimited.proofs.Numbers.{at_byte, at_none, digits_end, digits_bad, digits_over, digits_next}
use Rattle.delimited.proofs.digits.Goals as goal

pub returns-then-text-i : goal.returns-then-text-i
returns-then-text-i c =
    let l = c.loop-i in
    at_byte _ _ _ _ (omega arith) (rw c.if-text-i.true (digits_end _ _ _ _ _ c.requires l.invariant.0)) ∙ l.invariant.1

pub returns-else-text-i : goal.returns-else-text-i
returns-else-text-i c =
    let l = c.loop-i in
    at_byte _ _ _ _ (omega arith) (digits_bad _ _ _ _ _ c.requires _ (λ h. omega arith) c.if-text-i.false) ∙ l.invariant.1

pub returns-then-from-longer : goal.returns-then-from-longer
returns-then-from-longer c =
    let l = c.loop-i in
    at_byte _ _ _ _ (omega arith) (digits_over _ _ _ _ _ c.requires _ (omega arith) (omega arith) (omega arith)) ∙ l.invariant.1

pub loop-i-preserved : goal.loop-i-preserved
loop-i-preserved c =
    let l = c.loop-i in
    (omega arith, digits_next _ _ _ _ _ _ c.requires (omega arith) (omega arith) (omega arith) (omega arith) ∙ l.invariant.1)

pub returns : goal.returns
returns c =
    let l = c.loop-i in
    at_none _ _ _ _ c.requires (omega arith) ∙ l.invariant.1
