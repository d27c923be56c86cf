-- What is read so far and what is left come to the same as the whole. Assumes nothing.
use Rattle.std.proofs.Common.{◌≡◌, ◌≤◌, drop}
use Rattle.delimited.specs.Cursor.{field_at, digits_at_most}
use Rattle.delimited.proofs.digits.Given as goal

abbrev pub invariant-loop-i : goal.invariant-loop-i
invariant-loop-i l = (l.value ≤ l.most) × (field_at (digits_at_most l.most l.value) l.end l.i (drop l.i l.text) ≡ field_at (digits_at_most l.most 0) l.end l.at (drop l.at l.text))
