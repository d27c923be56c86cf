-- `fsmd::run::run` meets its contract: the configuration so far is reached after `count` cycles, which counted `blocks`. Assumes nothing.
use Prim.Native.Nat.{◌*◌, ◌<◌, ◌≤◌}
use mathlib.Core.Path.{◌≡◌}
use lib.ListN.{get_or, take}
use Rattle.runs.proofs.RunLaws.{Reached}
use Rattle.runs.proofs.TotalLaws.{Totalled}
use Rattle.runs.specs.Runs.{stands_at, start_at, up_to}
use Rattle.fsmd.specs.Layout.{max_blocks, max_registers}
use Rattle.fsmd.specs.Machine.{machine_runner, blocks_run}
use Rattle.fsmd.specs.Table.{machine_of}
use Rattle.fsmd.proofs.run.run.Given as goal

abbrev pub invariant-loop-count : goal.invariant-loop-count
invariant-loop-count g l = let m = machine_of l.machine.table.words.now in
    let c = stands_at l.count l.state (record { registers = l.file.words; flag = l.flag }) in
    (l.state < get_or l.machine.table.words.now 0 0)
    × Reached (machine_runner m) (up_to l.limit l.words) l.budget (start_at l.start l.initial.file.words) l.count c
    × Totalled (machine_runner m) (up_to l.limit l.words) (blocks_run m) l.budget (start_at l.start l.initial.file.words) l.count c l.blocks
    × (l.blocks ≤ max_blocks * l.count)
    × (take max_registers l.room.words ≡ l.file.words)
