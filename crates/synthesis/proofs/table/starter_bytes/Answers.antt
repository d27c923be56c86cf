-- `synthesis::table::starter_bytes` meets its contract. Assumes nothing.
use Prim.Native.Nat.{ℕ}
use mathlib.Core.Path.{ap}
use mathlib.Core.List.{List, ◌++◌}
use lib.ListN.{length}
use Rattle.std.proofs.lemmas.List.{drop-replicate}
use Rattle.synthesis.proofs.table.starter_bytes.Goals as goal

pub returns : goal.returns
returns c = let s = c.args.starters.now in rw c.copy_from_slice.ensures.after (ap (λ (l : List ℕ). s ++ l) (drop-replicate (length s) 64 0))
