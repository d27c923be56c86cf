-- `bounds::cycle::work` meets its contract: the bounds so far, then the wires from n on, give what all wires give. Assumes nothing.
use Rattle.std.proofs.Common.{◌≡◌, ◌+◌, take, drop}
use Rattle.fsmd.specs.Layout.{max_registers}
use Rattle.fsmd.proofs.Windows.{wires_from}
use Rattle.bounds.specs.Bounds.{bounded}
use Rattle.bounds.specs.Cycle.{bounds_of}
use Rattle.bounds.proofs.cycle.work.Given as goal

abbrev pub invariant-loop-n : goal.invariant-loop-n
invariant-loop-n l =
    bounded (bounds_of (take (max_registers + l.n) l.room)) (drop l.n (wires_from l.machine.words.now l.first l.count))
    ≡ bounded (bounds_of (take max_registers l.initial.room)) (wires_from l.machine.words.now l.first l.count)
