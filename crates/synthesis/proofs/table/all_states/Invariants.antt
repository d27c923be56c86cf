-- `synthesis::table::all_states` meets its contract. Assumes nothing.
use mathlib.Core.Path.{◌≡◌}
use lib.ListN.{take}
use Rattle.fsmd.specs.Layout.{records_offset}
use Rattle.synthesis.specs.Plans.{Written}
use Rattle.synthesis.proofs.table.all_states.Given as goal

abbrev pub invariant-loop-k : goal.invariant-loop-k
invariant-loop-k l = Written l.plan l.k l.first l.table l.arrivals × (take records_offset l.table ≡ take records_offset l.initial.table)
