-- States whose wires stand one behind another share none. Assumes nothing.
use Prim.Native.Nat.{ℕ, ◌+◌, ◌<◌, ◌≤◌}
use native.Mathlib.Nat.{eq-or-lt_of_le}
use native.Mathlib.Omega.{arith}
use mathlib.Core.Bool.{true, ◌||◌}
use mathlib.Core.List.{List}
use mathlib.Core.Logic.{◌⊎◌, inl, inr}
use mathlib.Core.Path.{◌≡◌, refl, ap}
use lib.Dec.{eqb}
use borrow.Author.Tests.{le-leb}
use Rattle.runs.specs.Lists.{up_from, every}
use Rattle.runs.proofs.Every.{below_of}
use Rattle.runs.proofs.Tests.{or_right}
use Rattle.fsmd.specs.Table.{first_wire_at, wire_count_at, apart}

-- where the wires of state j end
abbrev pub end_of : List ℕ → ℕ → ℕ
end_of t j = first_wire_at t j + wire_count_at t j

pub behind_apart : (t : List ℕ) (j k : ℕ) → end_of t j ≤ first_wire_at t k → apart t j k ≡ true
behind_apart t j k h = rw (le-leb (end_of t j) (first_wire_at t k) h, or_right (eqb (wire_count_at t j) 0 || eqb (wire_count_at t k) 0) true refl)

-- the first k states stand in order and end by `end`
pub record InOrder (t : List ℕ) (end k : ℕ) : Type 0 where
  pub ended : (j : ℕ) → j < k → end_of t j ≤ end
  pub ordered : (i j : ℕ) → i < j → j < k → end_of t i ≤ first_wire_at t j

module _ (t : List ℕ) where
  pub order_none : InOrder t 0 0
  order_none = record { ended = λ j h. absurd (omega arith); ordered = λ i j l h. absurd (omega arith) }

  pub order_more : (end k : ℕ) → InOrder t end k → end ≤ first_wire_at t k → InOrder t (end_of t k) (k + 1)
  order_more end k o h = record {
    ended = λ j l. last j (eq-or-lt_of_le {n = j} {m = k} (omega arith));
    ordered = λ i j l m. pair i j l (eq-or-lt_of_le {n = j} {m = k} (omega arith));
  }
    where
      last : (j : ℕ) → (j ≡ k) ⊎ (j < k) → end_of t j ≤ end_of t k
      last j (inl q) = omega (arith, ap (end_of t) q)
      last j (inr l) = omega (arith, o.ended j l, h)

      pair : (i j : ℕ) → i < j → (j ≡ k) ⊎ (j < k) → end_of t i ≤ first_wire_at t j
      pair i j l (inl q) = omega (arith, o.ended i (omega arith), h, ap (first_wire_at t) q)
      pair i j l (inr m) = o.ordered i j l m

  pub order_apart : (end n : ℕ) → InOrder t end n → every (λ k. every (λ j. apart t j k) (up_from 0 k)) (up_from 0 n) ≡ true
  order_apart end n o =
      below_of (λ k. every (λ j. apart t j k) (up_from 0 k)) n (λ k p. below_of (λ j. apart t j k) k (λ j q. behind_apart t j k (o.ordered j k q p)))
