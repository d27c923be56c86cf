-- What is packed so far and what is left come to the same as the whole. Assumes nothing.
use Rattle.std.proofs.Common.{◌≡◌, ◌<◌, ◌^◌, drop}
use Rattle.cfg_line.specs.Cursor.{name_at}
use Rattle.cfg_line.proofs.Packing.{name_from}
use Rattle.cfg_line.proofs.name_at.Given as goal

abbrev pub invariant-loop-i : goal.invariant-loop-i
invariant-loop-i l = (l.key < 2 ^ 48) × (name_from l.key l.i (drop l.i l.text) ≡ name_at l.at (drop l.at l.text))
