-- Only a sum and a difference go over, where 32 bits do not hold them. Assumes nothing.
use Rattle.std.proofs.Common.{sym, refl, ◌∙◌, arith, to_z-of_z, w32}
use Rattle.word.specs.Word.{over_of}
use Rattle.word.proofs.OverLaws.{over_other, none_outside}
use Rattle.word.proofs.over.Goals as goal

pub returns-in-3 : goal.returns-in-3
unfolding over_of
returns-in-3 c =
    let x = to_z-of_z {w = w32} (record { sfits = c.signed.type_inv }) ∙ c.signed.ensures in
    let y = to_z-of_z {w = w32} (record { sfits = c.signed-in-3.type_inv }) ∙ c.signed-in-3.ensures in
    none_outside _ _ _ c.checked_add.ensures c.is_none.ensures ∙ rw (c.in-3.is, x, y) refl

pub returns-in-4 : goal.returns-in-4
unfolding over_of
returns-in-4 c =
    let x = to_z-of_z {w = w32} (record { sfits = c.signed-in-4.type_inv }) ∙ c.signed-in-4.ensures in
    let y = to_z-of_z {w = w32} (record { sfits = c.signed-in-4-2.type_inv }) ∙ c.signed-in-4-2.ensures in
    none_outside _ _ _ c.checked_sub.ensures c.is_none-in-4.ensures ∙ rw (c.in-4.is, x, y) refl

pub returns-in_default : goal.returns-in_default
returns-in_default c = sym (over_other c.args.code c.args.a c.args.b (λ e. absurd (omega arith)) (λ e. absurd (omega arith)))
