-- What is written and what is left come to the same as the whole. Assumes nothing.
use Rattle.std.proofs.Common.{◌≡◌, ◌+◌, ◌≤◌, length}
use lib.Seq.{sets}
use Rattle.decimal.specs.Decimal.{decimal_of}
use Rattle.decimal.proofs.Laws.{Left}
use Rattle.decimal.proofs.put_decimal.Given as goal

abbrev pub invariant-loop-i : goal.invariant-loop-i
invariant-loop-i l =
    (l.end ≡ l.at + length (decimal_of l.n))
    × Left l.at l.i l.left l.out (sets l.initial.out l.at (decimal_of l.n))
    × (length l.out ≡ length l.initial.out)
    × (l.i ≤ l.end)
