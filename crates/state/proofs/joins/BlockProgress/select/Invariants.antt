-- `state::joins::BlockProgress::select` meets its contract. Assumes nothing.
use Prim.Native.Nat.{◌+◌}
use mathlib.Core.Path.{◌≡◌}
use lib.ListN.{take}
use Rattle.state.specs.Steps.{SameWords, values_of}
use Rattle.state.proofs.Selections.{Selected}
use Rattle.state.proofs.joins.BlockProgress.select.Given as goal

abbrev pub invariant-loop-r : goal.invariant-loop-r
invariant-loop-r l = SameWords l.initial.wires l.wires × (l.wires.count ≡ l.initial.wires.count + l.r)
    × (l.self.arrival ≡ l.initial.self.arrival) × (l.self.registers ≡ l.initial.self.registers)
    × Selected l.initial.wires.words.now l.initial.wires.count l.edge.taken (take l.initial.self.registers l.edge.values) (values_of l.initial.self)
    l.wires.words.now (take l.initial.self.registers l.self.values) l.r
