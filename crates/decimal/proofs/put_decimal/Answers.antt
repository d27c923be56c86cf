-- `put_decimal` stores the digits from the last to the first. Assumes nothing.
use Rattle.std.proofs.Common.{◌+◌, ◌-◌, ◌%◌, refl, ◌∙◌, length-set, arith}
use lib.Seq.{sets}
use Rattle.decimal.specs.Decimal.{decimal_of}
use Rattle.decimal.proofs.Laws.{left_all, left_step, left_none}
use Rattle.decimal.proofs.put_decimal.Goals as goal

pub loop-i-init : goal.loop-i-init
loop-i-init c =
    let e = c.width.ensures.0 in
    (rw e refl, rw e (left_all c.args.at c.args.n c.args.out.now), refl, omega arith)

pub loop-i-preserved : goal.loop-i-preserved
loop-i-preserved c =
    let l = c.loop-i in
    let a = c.args in
    let e = c.put_byte.ensures in (
      l.invariant.0,
      rw e (left_step a.at l.i l.left l.out (sets a.out.now a.at (decimal_of a.n)) l.invariant.1 (omega arith)),
      rw e (length-set l.out (l.i - 1) (48 + l.left % 10) ∙ l.invariant.2),
      omega arith,
    )

pub returns : goal.returns
returns c =
    let l = c.loop-i in
    let a = c.args in
    (left_none a.at l.i l.left l.out (sets a.out.now a.at (decimal_of a.n)) l.invariant.1 (omega arith), l.invariant.0)
