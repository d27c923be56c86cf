-- `cfg::run::run_blocks` meets its contract: a turn of the outer loop is a step, the inner one runs the block's instructions. Assumes nothing.
use Prim.Native.Nat.{◌≤◌, ◌<◌}
use mathlib.Core.Bool.{◌||◌}
use mathlib.Core.Path.{◌≡◌}
use lib.ListN.{drop}
use Rattle.runs.proofs.RunLaws.{Reached}
use Rattle.runs.specs.Runs.{stands_at, start_at, up_to}
use Rattle.cfg.specs.Steps.{marked_runner}
use Rattle.cfg.specs.Table.{block_count, graph_of}
use Rattle.cfg.specs.Graph.{execute_all, instructions_over}
use Rattle.cfg.proofs.run.run_blocks.Given as goal

abbrev pub invariant-loop-next : goal.invariant-loop-next
invariant-loop-next l = (execute_all l.sampled l.next-items l.initial.registers.words ≡ execute_all l.sampled (drop l.next-index l.next-items) l.registers.words)
    × ((l.initial.flag || instructions_over l.sampled l.next-items l.initial.registers.words) ≡ (l.flag || instructions_over l.sampled (drop l.next-index l.next-items) l.registers.words))

abbrev pub invariant-loop-count : goal.invariant-loop-count
invariant-loop-count l = (l.at < block_count l.graph.words.now) × (l.arrivals ≤ l.count)
    × Reached (marked_runner (graph_of l.graph.words.now) l.marks) (up_to l.limit l.words) l.budget (start_at l.start l.initial.registers.words) l.count (stands_at l.arrivals l.at (record { registers = l.registers.words; flag = l.flag }))
