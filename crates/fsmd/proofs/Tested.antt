-- A test of every number below n, one number after another as a loop does. Assumes nothing.
use Prim.Native.Nat.{ℕ, ◌+◌, ◌<◌}
use native.Mathlib.Nat.{eq-or-lt_of_le}
use native.Mathlib.Omega.{arith}
use mathlib.Core.Bool.{Bool, true, false, true≢false}
use mathlib.Core.Logic.{◌⊎◌, inl, inr}
use mathlib.Core.Path.{◌≡◌, sym, ap, ◌∙◌}
use Rattle.runs.specs.Lists.{up_from, every}
use Rattle.runs.proofs.Every.{below_at, below_of}
use Rattle.runs.proofs.Tests.{true_or_false}

module _ (p : ℕ → Bool) where
  -- all below j passed, and j does
  pub below_more : (j : ℕ) → every p (up_from 0 j) ≡ true → p j ≡ true → every p (up_from 0 (j + 1)) ≡ true
  below_more j e h = below_of p (j + 1) (λ i l. at i (eq-or-lt_of_le {n = i} {m = j} (omega arith)))
    where
      at : (i : ℕ) → (i ≡ j) ⊎ (i < j) → p i ≡ true
      at i (inl q) = ap p q ∙ h
      at i (inr l) = below_at p j i e l

  -- one below n fails
  pub below_fails : (n j : ℕ) → j < n → p j ≡ false → every p (up_from 0 n) ≡ false
  below_fails n j l h = by_cases (true_or_false (every p (up_from 0 n)))
    where
      by_cases : (every p (up_from 0 n) ≡ true) ⊎ (every p (up_from 0 n) ≡ false) → every p (up_from 0 n) ≡ false
      by_cases (inl e) = absurd (true≢false (sym (below_at p n j e l) ∙ h))
      by_cases (inr e) = e
