-- What the default arm of a `match` on consecutive numbers is told. Assumes nothing.
use Rattle.std.proofs.Common.{◌≡◌, ℕ, zero, suc, ◌+◌, ◌<◌, sym, arith}
use lib.Arith.{lt_of_le-ne}

-- k is none of the n numbers after m, in the form in which the arm is told it
abbrev pub NoKey : ℕ → ℕ → ℕ → Type 0
NoKey m zero k = Unit {0}
NoKey m (suc n) k = NoKey m n k × (k ≡ suc (m + n) → ⊥)

-- so a number past the first of them is past the last
pub past : (m n k : ℕ) → NoKey m n k → m < k → m + n < k
past m zero k h p = omega arith
past m (suc n) k h p =
    let q = past m n k h.0 p in
    let r : (suc (m + n) ≡ k) → ⊥ = λ e. h.1 (sym e) in
    let s : suc (m + n) < k = lt_of_le-ne q r in
    omega arith
