-- `cfg::decode::block_at` meets its contract. Assumes nothing.
use Prim.Native.Nat.{ℕ, ◌<◌}
use mathlib.Core.Path.{◌≡◌}
use lib.ListN.{length, get_or}
use Rattle.cfg.specs.Layout.{max_instructions}
use Rattle.cfg.specs.Graph.{no_instruction}
use Rattle.cfg.specs.Table.{instruction_at}
use Rattle.cfg.proofs.decode.block_at.Given as goal

abbrev pub invariant-loop-i : goal.invariant-loop-i
invariant-loop-i l = (length l.block.instructions ≡ max_instructions) × ((j : ℕ) → j < l.i → get_or l.block.instructions j no_instruction ≡ instruction_at l.table l.start j)
