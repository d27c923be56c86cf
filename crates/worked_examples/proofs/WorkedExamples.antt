-- The worked examples hold, as one theorem. Assumes nothing.
use mathlib.Core.Bool.{Bool, true, false, ◌&&◌}
use mathlib.Core.List.{List, [], ◌∷◌, ◌++◌}
use lib.Dec.{T}
use Rattle.runs.specs.Lists.{every}
use Rattle.worked_examples.specs.Rows.{Row}
use Rattle.worked_examples.specs.Table.{rows, table, WorkedExamples}
use Rattle.worked_examples.specs.ThroughTables.{through_tables}
use Rattle.worked_examples.specs.Orders.{orders}
use Rattle.worked_examples.specs.Admission.{admission}
use Rattle.worked_examples.specs.Kept.{kept}
use Rattle.worked_examples.specs.RunsAhead.{ahead}
use Rattle.worked_examples.specs.Flags.{flags}
use Rattle.worked_examples.specs.Touches.{touch_rows}
use Rattle.worked_examples.specs.Ranges.{range_rows}
use Rattle.worked_examples.specs.Shifts.{shift_rows}
use Rattle.worked_examples.specs.Blocks.{block_rows}
use Rattle.worked_examples.proofs.Endless.{graph_endless, machine_endless, run_graph_endless, run_machine_endless}

-- ---- the rows of each file, computed one file at a time

abbrev Hold : List Row → Type 0
Hold rs = T (every (λ (r : Row). r.holds) rs)

hold_rows : Hold rows
unfolding rows
hold_rows = tt

hold_through_tables : Hold through_tables
unfolding through_tables
hold_through_tables = tt

hold_orders : Hold orders
unfolding orders
hold_orders = tt

hold_admission : Hold admission
unfolding admission
hold_admission = tt

hold_kept : Hold kept
unfolding kept
hold_kept = tt

hold_ahead : Hold ahead
unfolding ahead
hold_ahead = tt

hold_flags : Hold flags
unfolding flags
hold_flags = tt

hold_touches : Hold touch_rows
unfolding touch_rows
hold_touches = tt

hold_ranges : Hold range_rows
unfolding range_rows
hold_ranges = tt

hold_shifts : Hold shift_rows
unfolding shift_rows
hold_shifts = tt

hold_blocks : Hold block_rows
unfolding block_rows
hold_blocks = tt

-- and so of all together
both : (rs qs : List Row) → Hold rs → Hold qs → Hold (rs ++ qs)
both [] qs h k = k
both (r ∷ rs) qs h k = go r.holds h (λ h. both rs qs h k)
  where
    go : (b : Bool) → T (b && every (λ (r : Row). r.holds) rs) → (Hold rs → Hold (rs ++ qs)) → T (b && every (λ (r : Row). r.holds) (rs ++ qs))
    go true h rest = rest h
    go false h rest = h

all : Hold table
all =
    both rows _ hold_rows
    (both through_tables _ hold_through_tables
    (both orders _ hold_orders
    (both admission _ hold_admission (both kept _ hold_kept (both ahead _ hold_ahead (both flags _ hold_flags (both touch_rows _ hold_touches (both range_rows _ hold_ranges (both shift_rows block_rows hold_shifts hold_blocks)))))))))

pub worked_examples : WorkedExamples
worked_examples =
    record {
      rows_hold = all;
      graph_endless = graph_endless;
      machine_endless = machine_endless;
      run_graph_endless = run_graph_endless;
      run_machine_endless = run_machine_endless;
    }
