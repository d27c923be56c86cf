-- A number in a field: what is written is read, and what is read was so written. Assumes nothing.
use Rattle.std.proofs.Common.{◌≡◌, ℕ, zero, suc, ◌+◌, ◌-◌, ◌*◌, ◌/◌, ◌%◌, ◌<◌, ◌≤◌, Bool, true, false, not, ◌&&◌, eqb, leb, List, [], ◌∷◌, ◌++◌, length, get_or, sym, refl, ap, ◌∙◌, append_assoc, append-nil, arith, ne_eqb, le-leb, leb-true}
use native.Mathlib.Decide.{dec_lt}
use mathlib.Core.Bool.{false≢true}
use Rattle.std.specs.Prelude.{None, Some}
use Rattle.std.proofs.lemmas.Option.{none-some}
use lib.ListN.{get_or-append}
use borrow.Author.Tests.{eqb-false, not-true}
use Rattle.word.specs.Word.{choose}
use Rattle.runs.specs.Lists.{every}
use Rattle.runs.proofs.ListLaws.{and_left, and_right, and_both, every_snoc}
use Rattle.decimal.specs.Decimal.{decimal_of}
use Rattle.decimal.proofs.Laws.{decimal_one, decimal_last, decimal_some}
use Rattle.delimited.specs.Number.{digit, decimal, value_from, at_most}

-- ---- digits

digit_is : (d : ℕ) → 48 ≤ d → d ≤ 57 → digit d ≡ true
digit_is d l h = and_both (leb 48 d) (leb d 57) (le-leb 48 d l) (le-leb d 57 h)

digit_one : (m : ℕ) → m < 10 → every digit ((48 + m) ∷ []) ≡ true
digit_one m l = and_both (digit (48 + m)) true (digit_is (48 + m) (omega arith) (omega arith)) refl

value_snoc : (v : ℕ) (xs : List ℕ) (d : ℕ) → value_from v (xs ++ (d ∷ [])) ≡ value_from v xs * 10 + (d - 48)
unfolding value_from
value_snoc v [] d = refl
value_snoc v (x ∷ xs) d = value_snoc (v * 10 + (x - 48)) xs d

-- the digits of a number: they are digits, have its value, and only 0 begins with the digit 0
record Digits (n : ℕ) (f : List ℕ) : Type 0 where
  digits : every digit f ≡ true
  value : value_from 0 f ≡ n
  leading : 1 ≤ n → get_or f 0 48 ≡ 48 → ⊥

digits_by : (k n : ℕ) → n ≤ k → Digits n (decimal_of n)
unfolding value_from
digits_by zero n h =
    let e : n ≡ 0 = omega arith in
    rw (decimal_one n (omega arith))
    record { digits = digit_one n (omega arith); value = omega arith; leading = λ l z. omega arith }
digits_by (suc k) n h = go (dec_lt n 10) (digits_by k (n / 10))
  where
    go : Dec (n < 10) → (n / 10 ≤ k → Digits (n / 10) (decimal_of (n / 10))) → Digits n (decimal_of n)
    go (yes l) ih =
        rw (decimal_one n l) record { digits = digit_one n l; value = omega arith; leading = λ p z. omega arith }
    go (no l) ih =
        let r = ih (omega arith) in
        let some = decimal_some (n / 10) in
        rw (decimal_last n (omega arith))
        record {
          digits = every_snoc digit (decimal_of (n / 10)) (48 + n % 10) r.digits (digit_is (48 + n % 10) (omega arith) (omega arith));
          value = let s = value_snoc 0 (decimal_of (n / 10)) (48 + n % 10) in let v = r.value in omega arith;
          leading = λ p z. r.leading (omega arith) (sym (get_or-append (decimal_of (n / 10)) ((48 + n % 10) ∷ []) 48 0 some) ∙ z);
        }

digits_of : (n : ℕ) → Digits n (decimal_of n)
digits_of n = digits_by n n (omega arith)

pub decimal_digits : (n : ℕ) → every digit (decimal_of n) ≡ true
decimal_digits n = (digits_of n).digits

-- ---- a number written is read

-- digits of which the first is not 0
decimal_is : (f : List ℕ) → 0 < length f → every digit f ≡ true → (get_or f 0 48 ≡ 48 → ⊥) → decimal f ≡ true
unfolding decimal
decimal_is [] s h k = absurd (omega arith)
decimal_is (b ∷ []) s h k = and_left (digit b) true h
decimal_is (b ∷ c ∷ bs) s h k = and_both (not (eqb b 48)) (every digit (b ∷ c ∷ bs)) (rw (ne_eqb b 48 k)) h

decimal_decimal : (n : ℕ) → decimal (decimal_of n) ≡ true
unfolding decimal
decimal_decimal n = go (dec_lt 0 n)
  where
    go : Dec (0 < n) → decimal (decimal_of n) ≡ true
    go (yes l) = decimal_is (decimal_of n) (decimal_some n) (decimal_digits n) ((digits_of n).leading l)
    go (no l) = let e : n ≡ 0 = omega arith in rw (e, decimal_one 0 (omega arith))

pub number_read : (m n : ℕ) → n ≤ m → at_most m (decimal_of n) ≡ Some n
unfolding at_most
number_read m n h = rw (decimal_decimal n, (digits_of n).value, le-leb n m h)

-- ---- a number read was so written

-- more digits behind those of a number that is not 0
more_digits : (v : ℕ) (bs : List ℕ) → 1 ≤ v → every digit bs ≡ true → decimal_of (value_from v bs) ≡ decimal_of v ++ bs
unfolding value_from
more_digits v [] l h = sym (append-nil (decimal_of v))
more_digits v (b ∷ bs) l h =
    let d = and_left (digit b) (every digit bs) h in
    let low = leb-true 48 b (and_left (leb 48 b) (leb b 57) d) in
    let high = leb-true b 57 (and_right (leb 48 b) (leb b 57) d) in
    let w = v * 10 + (b - 48) in
    let front : w / 10 ≡ v = omega arith in
    let last : 48 + w % 10 ≡ b = omega arith in
    let i = more_digits w bs (omega arith) (and_right (digit b) (every digit bs) h) in
    i ∙ rw (decimal_last w (omega arith), front, last, append_assoc (decimal_of v) (b ∷ []) bs)

digit_back : (b : ℕ) → digit b ≡ true → decimal_of (b - 48) ≡ b ∷ []
digit_back b d =
    let low = leb-true 48 b (and_left (leb 48 b) (leb b 57) d) in
    let high = leb-true b 57 (and_right (leb 48 b) (leb b 57) d) in
    let e : 48 + (b - 48) ≡ b = omega arith in
    rw (decimal_one (b - 48) (omega arith), e)

value_back : (f : List ℕ) → decimal f ≡ true → decimal_of (value_from 0 f) ≡ f
unfolding decimal value_from
value_back [] h = absurd (false≢true h)
value_back (b ∷ []) h = let e : 0 * 10 + (b - 48) ≡ b - 48 = omega arith in rw (e, digit_back b h)
value_back (b ∷ c ∷ bs) h =
    let e : 0 * 10 + (b - 48) ≡ b - 48 = omega arith in
    let n = eqb-false b 48 (not-true (eqb b 48) (and_left (not (eqb b 48)) (every digit (b ∷ c ∷ bs)) h)) in
    let ds = and_right (not (eqb b 48)) (every digit (b ∷ c ∷ bs)) h in
    let d = and_left (digit b) (every digit (c ∷ bs)) ds in
    let low = leb-true 48 b (and_left (leb 48 b) (leb b 57) d) in
    let first : 1 ≤ b - 48 = positive b low n in
    rw (e, more_digits (b - 48) (c ∷ bs) first (and_right (digit b) (every digit (c ∷ bs)) ds), digit_back b d)
  where
    positive : (b : ℕ) → 48 ≤ b → (b ≡ 48 → ⊥) → 1 ≤ b - 48
    positive b l n = go (dec_lt 48 b)
      where
        go : Dec (48 < b) → 1 ≤ b - 48
        go (yes h) = omega arith
        go (no h) = absurd (n (omega arith))

-- the field was written of that number, which is small enough
pub record WrittenAtMost (m n : ℕ) (f : List ℕ) : Type 0 where
  pub field : f ≡ decimal_of n
  pub small : n ≤ m

pub number_written : (m n : ℕ) (f : List ℕ) → at_most m f ≡ Some n → WrittenAtMost m n f
unfolding at_most
number_written m n f = go (decimal f) refl (leb (value_from 0 f) m) refl
  where
    go :
        (p : Bool) → decimal f ≡ p → (q : Bool) → leb (value_from 0 f) m ≡ q
        → choose (p && q) (Some (value_from 0 f)) None ≡ Some n → WrittenAtMost m n f
    go true d true l e =
        let v : value_from 0 f ≡ n = cc in
        record { field = sym (value_back f d) ∙ ap decimal_of v; small = rw v at (leb-true (value_from 0 f) m l) }
    go true d false l e = absurd (none-some n e)
    go false d q l e = absurd (none-some n e)
