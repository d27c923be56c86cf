-- `cfg::starters::mark` meets its contract. Assumes nothing.
use Prim.Native.Nat.{ℕ}
use mathlib.Core.Bool.{false, ◌||◌}
use mathlib.Core.Path.{◌≡◌}
use lib.ListN.{length, get_or, drop}
use Rattle.runs.specs.Lists.{mem}
use Rattle.cfg.specs.Layout.{max_blocks}
use Rattle.cfg.proofs.starters.mark.Given as goal

abbrev pub invariant-loop-s : goal.invariant-loop-s
invariant-loop-s l = (length l.marks ≡ max_blocks) × ((b : ℕ) → (get_or l.marks b false || mem b (drop l.s-index l.starters)) ≡ mem b l.starters)
