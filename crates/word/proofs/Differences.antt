-- Differences of two natural numbers as integers: equal, summed, negated, inside the range. Assumes nothing.
use Rattle.std.proofs.Common.{◌≡◌, ℕ, zero, suc, ◌+◌, ◌-◌, ◌^◌, ◌<◌, ◌≤◌, Bool, true, false, ◌||◌, ltb, pos, negsuc, ◌+ℤ◌, neg_ℤ, refl, ap, ◌∙◌, true≢false, arith, ltb-false, ltb-true, le-ltb, lt-ltb}
use lib.IntN.{sub_ℕ}
use Rattle.word.specs.Word.{outside}

pub same_difference : (a b c d : ℕ) → a + d ≡ c + b → sub_ℕ a b ≡ sub_ℕ c d
same_difference a b c d e = go (ltb a b) refl
  where
    go : (t : Bool) → ltb a b ≡ t → sub_ℕ a b ≡ sub_ℕ c d
    go true h =
        let l = ltb-true a b h in
        rw (h, lt-ltb c d (omega arith)) (ap negsuc (omega arith))
    go false h =
        let l = ltb-false a b h in
        rw (h, le-ltb c d (omega arith)) (ap pos (omega arith))

pub sum_differences : (a b c d : ℕ) → sub_ℕ a b +ℤ sub_ℕ c d ≡ sub_ℕ (a + c) (b + d)
sum_differences a b c d = go (ltb a b) (ltb c d) refl refl
  where
    go : (s t : Bool) → ltb a b ≡ s → ltb c d ≡ t → sub_ℕ a b +ℤ sub_ℕ c d ≡ sub_ℕ (a + c) (b + d)
    go true true h k =
        let l = ltb-true a b h in
        let m = ltb-true c d k in
        rw (h, k, lt-ltb (a + c) (b + d) (omega arith)) (ap negsuc (omega arith))
    go true false h k =
        let l = ltb-true a b h in
        let m = ltb-false c d k in
        rw (h, k) (same_difference (c - d) (suc (b - suc a)) (a + c) (b + d) (omega arith))
    go false true h k =
        let l = ltb-false a b h in
        let m = ltb-true c d k in
        rw (h, k) (same_difference (a - b) (suc (d - suc c)) (a + c) (b + d) (omega arith))
    go false false h k =
        let l = ltb-false a b h in
        let m = ltb-false c d k in
        rw (h, k, le-ltb (a + c) (b + d) (omega arith)) (ap pos (omega arith))

neg_pos : (n : ℕ) → neg_ℤ (pos n) ≡ sub_ℕ 0 n
neg_pos zero = refl
neg_pos (suc n) = rw (lt-ltb 0 (suc n) (omega arith)) (ap negsuc (omega arith))

pub neg_difference : (a b : ℕ) → neg_ℤ (sub_ℕ a b) ≡ sub_ℕ b a
neg_difference a b = go (ltb a b) refl
  where
    go : (t : Bool) → ltb a b ≡ t → neg_ℤ (sub_ℕ a b) ≡ sub_ℕ b a
    go true h =
        let l = ltb-true a b h in
        rw (h, le-ltb b a (omega arith)) (ap pos (omega arith))
    go false h =
        let l = ltb-false a b h in
        rw h (neg_pos (a - b) ∙ same_difference 0 (a - b) b a (omega arith))

-- ---- inside the range

neither : (s t : Bool) → (s || t) ≡ false → (s ≡ false) × (t ≡ false)
neither true t e = absurd (true≢false e)
neither false t e = (refl, e)

-- a - b is from -2 ^ 31 to 2 ^ 31 - 1
pub record Inside (a b : ℕ) : Type 0 where
  pub least : b ≤ a + 2 ^ 31
  pub most : a < b + 2 ^ 31

pub inside_difference : (a b : ℕ) → outside (sub_ℕ a b) ≡ false → Inside a b
inside_difference a b e = go (ltb a b) refl
  where
    go : (t : Bool) → ltb a b ≡ t → Inside a b
    go true h =
        let l = ltb-true a b h in
        let f = neither (ltb (2 ^ 31 - 1) (b - suc a)) false (rw h at e) in
        let p = ltb-false (2 ^ 31 - 1) (b - suc a) f.0 in
        record { least = omega arith; most = omega arith }
    go false h =
        let l = ltb-false a b h in
        let p = ltb-false (2 ^ 31 - 1) (a - b) (rw h at e) in
        record { least = omega arith; most = omega arith }
