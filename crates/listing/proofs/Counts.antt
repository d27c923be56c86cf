-- How often a word stands in a list, by std's count. Assumes nothing.
use Prim.Native.Nat.{ℕ}
use mathlib.Core.Path.{◌≡◌, refl, sym, ap, ◌∙◌}
use mathlib.Core.Bool.{Bool, true, false, cond}
use mathlib.Core.List.{List, [], ◌∷◌}
use lib.Dec.{eqb}
use lib.ListN.{length}
use Rattle.std.specs.List.{count_by, filter}
use Rattle.std.proofs.lemmas.List.Sums.{length-filter}
use Rattle.runs.specs.Lists.{keep, only, occurrences}

only_is : (p : ℕ → Bool) (l : List ℕ) → filter p l ≡ only p l
only_is p [] = refl
only_is p (x ∷ l) = go (p x) (only_is p l)
  where
    go : (b : Bool) → filter p l ≡ only p l → cond b (x ∷ filter p l) (filter p l) ≡ keep b x (only p l)
    go true e = ap (λ (m : List ℕ). x ∷ m) e
    go false e = e

pub counted : (k : ℕ) (l : List ℕ) → count_by (λ (x : ℕ). eqb k x) l ≡ occurrences k l
counted k l = sym (length-filter (eqb k) l) ∙ ap length (only_is (eqb k) l)
