-- `listing::table::count_of` meets its contract: the words that pass are counted. Assumes nothing.
use Prim.Native.Nat.{ℕ}
use mathlib.Core.Path.{◌≡◌, ◌∙◌}
use lib.Dec.{eqb}
use Rattle.std.proofs.Common.{rules}
use Rattle.std.proofs.iter.runs.Made.{chains}
use Rattle.std.specs.List.{count_by}
use Rattle.listing.proofs.Counts.{counted}
use Rattle.listing.proofs.table.count_of.Goals as goal

pub returns : goal.returns
returns c =
    let k = c.args.k in
    let words = c.args.words.now in
    let n : c.count.result ≡ count_by (λ (x : ℕ). eqb k x) words = search (rules, chains) in
    n ∙ counted k words
