-- `fsmd::clock::taken` meets its contract: the first i registers are taken, the others as they were. Assumes nothing.
use Prim.Native.Nat.{◌≤◌}
use mathlib.Core.List.{◌++◌, map}
use mathlib.Core.Path.{◌≡◌}
use lib.ListN.{take, drop}
use Rattle.fsmd.specs.Clock.{read_in}
use Rattle.fsmd.proofs.clock.taken.Given as goal

abbrev pub invariant-loop-i : goal.invariant-loop-i
invariant-loop-i g l = (l.i ≤ l.count) × (l.next.words ≡ take l.i (map (read_in l.room.words) (take l.count (drop l.at l.table))) ++ drop l.i l.initial.next.words)
