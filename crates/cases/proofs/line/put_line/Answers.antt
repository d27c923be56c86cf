-- A field takes at most eleven bytes. Assumes nothing.
use Rattle.std.proofs.Common.{get_or, ◌∙◌, arith}
use Rattle.decimal.proofs.Laws.{decimal_word}
use Rattle.cases.proofs.line.put_line.Goals as goal

pub overflow_add-at : goal.overflow_add-at
overflow_add-at c =
    let d = decimal_word (get_or c.args.fields.now c.loop-i.i 0) (c.type_inv.fields c.loop-i.i).fits in
    omega (arith, c.put_decimal-at.ensures.1)

pub loop-i-preserved : goal.loop-i-preserved
loop-i-preserved c =
    let d = decimal_word (get_or c.args.fields.now c.loop-i.i 0) (c.type_inv.fields c.loop-i.i).fits in
    (omega (arith, c.put_decimal-at.ensures.1), c.put_byte.auto.out ∙ (c.put_decimal-at.auto.out ∙ c.loop-i.invariant.1))
