-- Shifts by the whole amount: from 32 up nothing of the word is left but copies of its sign; below 32 they give what they gave when the amount was
-- taken modulo 32; and that every larger amount is taken as 32 changes no result. Assumes nothing.
use Rattle.std.proofs.Common.{◌≡◌, ℕ, suc, ◌-◌, ◌*◌, ◌/◌, ◌%◌, ◌^◌, ◌<◌, ◌≤◌, Bool, true, false, ltb, pos, negsuc, sym, refl, ap, ◌∙◌, lt_of_lt_of_le, mod-eq_of_lt, mul_assoc, arith, pow_mono, pow-add, ltb-false, ltb-true, le-ltb, lt-ltb}
use native.Mathlib.Nat.{div-eq_of_lt, mul-mod_left}
use lib.Signed.{shr_z}
use Rattle.word.specs.Word.{choose, signed_of, word_of, amount_of, shl_of, shr_of, sar_of}

-- ---- the amount

pub amount_below : (b : ℕ) → b < 32 → amount_of b ≡ b
amount_below b h = rw (lt-ltb b 32 h)

pub amount_from : (b : ℕ) → 32 ≤ b → amount_of b ≡ 32
amount_from b h = rw (le-ltb b 32 h)

-- ---- from 32 up

pub shl_from : (a b : ℕ) → 32 ≤ b → shl_of a b ≡ 0
shl_from a b h = rw (amount_from b h) (omega arith)

pub shr_from : (a b : ℕ) → a < 2 ^ 32 → 32 ≤ b → shr_of a b ≡ 0
shr_from a b k h = rw (amount_from b h) (omega arith)

-- from 31 up a signed number of 32 bits is shifted to 0 or -1
only_sign : (a n : ℕ) → a < 2 ^ 32 → 31 ≤ n → shr_z (signed_of a) (2 ^ n) ≡ choose (ltb a (2 ^ 31)) (pos 0) (negsuc 0)
only_sign a n h k = go (ltb a (2 ^ 31)) refl
  where
    gone : (m : ℕ) → m < 2 ^ 31 → m / 2 ^ n ≡ 0
    gone m l = div-eq_of_lt (lt_of_lt_of_le l (pow_mono k))

    go : (t : Bool) → ltb a (2 ^ 31) ≡ t → shr_z (choose t (pos a) (negsuc (2 ^ 32 - suc a))) (2 ^ n) ≡ choose t (pos 0) (negsuc 0)
    go true e = ap pos (gone a (ltb-true a (2 ^ 31) e))
    go false e = ap negsuc (gone (2 ^ 32 - suc a) (let l = ltb-false a (2 ^ 31) e in omega arith))

-- so all such amounts do the same
pub same_sign : (a m n : ℕ) → a < 2 ^ 32 → 31 ≤ m → 31 ≤ n → shr_z (signed_of a) (2 ^ m) ≡ shr_z (signed_of a) (2 ^ n)
same_sign a m n h k l = only_sign a m h k ∙ sym (only_sign a n h l)

-- 32 copies of a word's sign bit
abbrev pub sign_copies : ℕ → ℕ
sign_copies a = choose (ltb a (2 ^ 31)) 0 (2 ^ 32 - 1)

pub sar_from : (a b : ℕ) → a < 2 ^ 32 → 32 ≤ b → sar_of a b ≡ sign_copies a
sar_from a b k h = rw (amount_from b h) (ap word_of (only_sign a 32 k (omega arith)) ∙ go (ltb a (2 ^ 31)))
  where
    go : (t : Bool) → word_of (choose t (pos 0) (negsuc 0)) ≡ choose t 0 (2 ^ 32 - 1)
    go true = refl
    go false = refl

-- ---- below 32, and every amount

-- the three shifts of a by b are those by n bits
pub record ShiftsBy (n a b : ℕ) : Type 0 where
  pub shl : shl_of a b ≡ (a * 2 ^ n) % 2 ^ 32
  pub shr : shr_of a b ≡ a / 2 ^ n
  pub sar : sar_of a b ≡ word_of (shr_z (signed_of a) (2 ^ n))

shifts_by : (n a b : ℕ) → amount_of b ≡ n → ShiftsBy n a b
shifts_by n a b e =
    record {
      shl = ap (λ (m : ℕ). (a * 2 ^ m) % 2 ^ 32) e;
      shr = ap (λ (m : ℕ). a / 2 ^ m) e;
      sar = ap (λ (m : ℕ). word_of (shr_z (signed_of a) (2 ^ m))) e;
    }

-- the amount before R-6
abbrev pub old_amount : ℕ → ℕ
old_amount b = b % 32

-- "Amounts below 32 give what they gave."
pub below_32 : (a b : ℕ) → b < 32 → ShiftsBy (old_amount b) a b
below_32 a b h = shifts_by (old_amount b) a b (amount_below b h ∙ sym (mod-eq_of_lt h))

-- a product with 2 ^ 32 or a higher power has no digit below 2 ^ 32
all_out : (a b : ℕ) → 32 ≤ b → (a * 2 ^ b) % 2 ^ 32 ≡ 0
all_out a b h =
    let split : 2 ^ b ≡ 2 ^ (b - 32) * 2 ^ 32 = ap (λ (n : ℕ). 2 ^ n) (omega arith) ∙ pow-add 2 (b - 32) 32 in
    ap (λ (n : ℕ). n % 2 ^ 32) (ap (λ (n : ℕ). a * n) split ∙ sym (mul_assoc a (2 ^ (b - 32)) (2 ^ 32))) ∙ mul-mod_left (a * 2 ^ (b - 32)) (2 ^ 32)

-- each shift is by the second operand itself
pub whole : (a b : ℕ) → a < 2 ^ 32 → ShiftsBy b a b
whole a b k = go (ltb b 32) refl
  where
    go : (t : Bool) → ltb b 32 ≡ t → ShiftsBy b a b
    go true e = shifts_by b a b (amount_below b (ltb-true b 32 e))
    go false e =
        let h = ltb-false b 32 e in
        record {
          shl = shl_from a b h ∙ sym (all_out a b h);
          shr = shr_from a b k h ∙ sym (div-eq_of_lt (lt_of_lt_of_le k (pow_mono h)));
          sar = rw (amount_from b h) (ap word_of (same_sign a 32 b k (omega arith) (omega arith)));
        }
