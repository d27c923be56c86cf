-- The first of the numbers counted up that passes a test: what a search finds. Assumes nothing.
use Prim.Native.Nat.{ℕ, zero, suc, ◌+◌, ◌<◌, ◌≤◌}
use native.Mathlib.Nat.{eq-or-lt_of_le}
use native.Mathlib.Omega.{arith}
use mathlib.Core.Bool.{Bool, true, false}
use mathlib.Core.Logic.{◌⊎◌, inl, inr}
use Rattle.std.specs.Prelude.{Option, None, Some, MatchOption}
use mathlib.Core.Path.{◌≡◌, refl, sym, ap, ap₂, ◌∙◌}
use Rattle.runs.specs.Lists.{up_from, or_else, first}

module _ (p : ℕ → Bool) where
  -- ---- what it finds among n numbers from a up

  pub first_lowest : (a n k : ℕ) → a ≤ k → k < a + n → p k ≡ true → ((j : ℕ) → a ≤ j → j < k → p j ≡ false) → first p (up_from a n) ≡ Some k
  first_lowest a zero k lo hi e below = absurd (omega arith)
  first_lowest a (suc n) k lo hi e below =
      go (eq-or-lt_of_le lo) (λ h. first_lowest (suc a) n k (omega arith) (omega arith) e (λ j l m. below j (omega arith) m))
    where
      go : (a ≡ k) ⊎ (a < k) → (a < k → first p (up_from (suc a) n) ≡ Some k) → first p (up_from a (suc n)) ≡ Some k
      go (inl q) rest = ap (λ (b : Bool). or_else b a (first p (up_from (suc a) n))) (ap p q ∙ e) ∙ ap Some q
      go (inr h) rest = ap (λ (b : Bool). or_else b a (first p (up_from (suc a) n))) (below a (omega arith) h) ∙ rest h

  pub first_nowhere : (a n : ℕ) → ((k : ℕ) → a ≤ k → k < a + n → p k ≡ false) → first p (up_from a n) ≡ None
  first_nowhere a zero h = refl
  first_nowhere a (suc n) h =
      ap (λ (b : Bool). or_else b a (first p (up_from (suc a) n))) (h a (omega arith) (omega arith))
      ∙ first_nowhere (suc a) n (λ k lo hi. h k (omega arith) (omega arith))

  -- what `find` over the numbers below n says of its answer
  pub first_found : (n : ℕ) (r : Option ℕ)
      → MatchOption r ((k : ℕ) → 0 ≤ k → k < n → p k ≡ false) (λ i. (0 ≤ i) × (i < n) × (p i ≡ true) × ((k : ℕ) → 0 ≤ k → k < i → p k ≡ false))
      → r ≡ first p (up_from 0 n)
  first_found n None h = sym (first_nowhere 0 n (λ k lo hi. h k lo (omega arith)))
  first_found n (Some i) h = sym (first_lowest 0 n i h.0 (omega (arith, h.1)) h.2 h.3)

-- two tests that agree there find the same
pub first_same : (p q : ℕ → Bool) (a n : ℕ) → ((k : ℕ) → a ≤ k → k < a + n → p k ≡ q k) → first p (up_from a n) ≡ first q (up_from a n)
first_same p q a zero h = refl
first_same p q a (suc n) h =
    ap₂ (λ (b : Bool) (o : Option ℕ). or_else b a o) (h a (omega arith) (omega arith)) (first_same p q (suc a) n (λ k lo hi. h k (omega arith) (omega arith)))
