-- A test of every number below n. Assumes nothing.
use Prim.Native.Nat.{ℕ, ◌<◌}
use native.Mathlib.Omega.{arith}
use mathlib.Core.Bool.{Bool, true}
use mathlib.Core.Path.{◌≡◌, sym, ap, ◌∙◌}
use Rattle.runs.proofs.ListLaws.{length-up_from, get_or-up_from, every_at, every_all}
use Rattle.runs.specs.Lists.{up_from, every}

module _ (p : ℕ → Bool) (n k : ℕ) where
  pub below_at : every p (up_from 0 n) ≡ true → k < n → p k ≡ true
  below_at e h = ap p (sym (get_or-up_from 0 n k 0 h ∙ omega arith)) ∙ every_at p (up_from 0 n) e k 0 (rw length-up_from h)

pub below_of : (p : ℕ → Bool) (n : ℕ) → ((k : ℕ) → k < n → p k ≡ true) → every p (up_from 0 n) ≡ true
below_of p n f =
    every_all p (up_from 0 n) 0 (λ i h.
    let b : i < n = rw length-up_from at h in
    ap p (get_or-up_from 0 n i 0 b ∙ omega arith) ∙ f i b)
