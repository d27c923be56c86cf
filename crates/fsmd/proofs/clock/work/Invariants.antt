-- `fsmd::clock::work` meets its contract: the words so far, then the wires from n on, give what all wires give, and whether one goes over. Assumes nothing.
use Prim.Native.Nat.{◌+◌}
use mathlib.Core.Bool.{true, ◌||◌}
use mathlib.Core.Path.{◌≡◌}
use lib.ListN.{length, take, drop, get_or}
use Rattle.fsmd.specs.Layout.{max_registers}
use Rattle.fsmd.specs.Machine.{worked, wires_over}
use Rattle.fsmd.specs.Table.{valid_wires}
use Rattle.fsmd.proofs.Windows.{wires_from}
use Rattle.fsmd.proofs.clock.work.Given as goal

abbrev pub invariant-loop-n : goal.invariant-loop-n
invariant-loop-n g l = (length l.room.words ≡ length l.initial.room.words)
    × (valid_wires (get_or l.table.words.now 1 0) l.n (drop l.n (wires_from l.table.words.now l.first l.count)) ≡ true)
    × (worked l.sampled (take (max_registers + l.n) l.room.words) (drop l.n (wires_from l.table.words.now l.first l.count)) ≡ worked l.sampled (take max_registers l.initial.room.words) (wires_from l.table.words.now l.first l.count))
    × ((l.over || wires_over l.sampled (take (max_registers + l.n) l.room.words) (drop l.n (wires_from l.table.words.now l.first l.count))) ≡ wires_over l.sampled (take max_registers l.initial.room.words) (wires_from l.table.words.now l.first l.count))
