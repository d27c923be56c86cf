-- Laws of a number's digits: the last one, and how many there are. Assumes nothing.
use Prim.Native.Nat.{ℕ, zero, suc, ◌+◌, ◌-◌, ◌*◌, ◌/◌, ◌%◌, ◌^◌, ◌≤◌, ◌<◌}
use native.Mathlib.Omega.{arith}
use Rattle.std.specs.Prelude.{max as larger}
use native.Mathlib.Nat.{one-le-pow, pow-suc, add-zero, add-suc, suc-add}
use native.Mathlib.Decide.{dec_lt}
use mathlib.Core.Path.{◌≡◌, refl, sym, ◌∙◌}
use mathlib.Core.Bool.{false}
use mathlib.Core.List.{List, [], ◌∷◌, ◌++◌}
use lib.ListN.{length, length-append, set}
use lib.Seq.{sets, set_comm}
use lib.Dec.{eqb}
use borrow.Author.Tests.{lt-ltb, le-ltb, eq-eqb, ne_eqb}
use Rattle.word.specs.Word.{choose}
use Rattle.decimal.specs.Decimal.{digits_of, decimal_of}

one : (k n : ℕ) → n < 10 → digits_of k n ≡ (48 + n) ∷ []
unfolding digits_of
one zero n h = let e : n % 10 ≡ n = omega arith in rw e refl
one (suc k) n h = rw (lt-ltb n 10 h, digits_of) refl

more : (k n : ℕ) → 10 ≤ n → digits_of (suc k) n ≡ digits_of k (n / 10) ++ ((48 + n % 10) ∷ [])
unfolding digits_of
more k n h = rw (le-ltb n 10 h, digits_of) refl

-- any bound from the number up gives the same
enough : (k m n : ℕ) → n ≤ k → n ≤ m → digits_of k n ≡ digits_of m n
enough zero m n p q = one zero n (omega arith) ∙ sym (one m n (omega arith))
enough (suc k) zero n p q = one (suc k) n (omega arith) ∙ sym (one zero n (omega arith))
enough (suc k) (suc m) n p q = go (dec_lt n 10) (enough k m (n / 10))
  where
    go : Dec (n < 10) → (n / 10 ≤ k → n / 10 ≤ m → digits_of k (n / 10) ≡ digits_of m (n / 10)) → digits_of (suc k) n ≡ digits_of (suc m) n
    go (yes h) ih = one (suc k) n h ∙ sym (one (suc m) n h)
    go (no h) ih = rw (more k n (omega arith), more m n (omega arith), ih (omega arith) (omega arith))

pub decimal_one : (n : ℕ) → n < 10 → decimal_of n ≡ (48 + n) ∷ []
unfolding decimal_of
decimal_one n h = one n n h

-- the last digit, and those before it
pub decimal_last : (n : ℕ) → 10 ≤ n → decimal_of n ≡ decimal_of (n / 10) ++ ((48 + n % 10) ∷ [])
unfolding decimal_of
decimal_last zero h = absurd (omega arith)
decimal_last (suc k) h = more k (suc k) h ∙ rw (enough k (suc k / 10) (suc k / 10) (omega arith) (omega arith))

pub decimal_length : (n : ℕ) → 10 ≤ n → length (decimal_of n) ≡ length (decimal_of (n / 10)) + 1
decimal_length n h = rw (decimal_last n h, length-append)

-- a number below 10 ^ (k + 1) has at most k + 1 digits
pub decimal_short : (k n : ℕ) → n < 10 ^ suc k → length (decimal_of n) ≤ suc k
decimal_short zero n h = rw (decimal_one n (omega arith)) (omega arith)
decimal_short (suc k) n h = go (dec_lt n 10) (decimal_short k (n / 10))
  where
    go : Dec (n < 10) → (n / 10 < 10 ^ suc k → length (decimal_of (n / 10)) ≤ suc k) → length (decimal_of n) ≤ suc (suc k)
    go (yes l) ih = rw (decimal_one n l) (omega arith)
    go (no l) ih =
        let e = pow-suc 10 (suc k) in
        let s = ih (omega arith) in
        let d = decimal_length n (omega arith) in
        omega arith

pub decimal_word : (n : ℕ) → n < 2 ^ 32 → length (decimal_of n) < 11
decimal_word n h = let s = decimal_short 9 n (omega arith) in omega arith

pub decimal_some : (n : ℕ) → 0 < length (decimal_of n)
decimal_some n = go (dec_lt n 10)
  where
    go : Dec (n < 10) → 0 < length (decimal_of n)
    go (yes l) = rw (decimal_one n l) (omega arith)
    go (no l) = let d = decimal_length n (omega arith) in omega arith

-- and one of 10 ^ k and more has at least k + 1
pub decimal_long : (k n : ℕ) → 10 ^ k ≤ n → suc k ≤ length (decimal_of n)
decimal_long zero n h = decimal_some n
decimal_long (suc k) n h =
    let e = pow-suc 10 k in
    let p = one-le-pow k 10 (omega arith) in
    let s = decimal_long k (n / 10) (omega arith) in
    let d = decimal_length n (omega arith) in
    omega arith

-- so their number is that of the number's whole logarithm, and one
pub decimal_width : (k m n : ℕ) → m ≡ larger n 1 → 10 ^ k ≤ m → m < 10 * 10 ^ k → k < 10 → (k + 1 ≡ length (decimal_of n)) × (k + 1 < 11)
decimal_width k m n e low high s = (go (dec_lt 0 n), omega arith)
  where
    none : (j : ℕ) → 10 ^ j ≤ 1 → j ≡ 0
    none zero h = refl
    none (suc j) h = let p = pow-suc 10 j in let q = one-le-pow j 10 (omega arith) in absurd (omega arith)

    go : Dec (0 < n) → k + 1 ≡ length (decimal_of n)
    go (yes h) =
        let p = pow-suc 10 k in
        let least = decimal_long k n (omega arith) in
        let most = decimal_short k n (omega arith) in
        omega arith
    go (no h) =
        let one : k ≡ 0 = none k (omega arith) in
        rw (one, decimal_one n (omega arith)) refl

-- ---- digits written from the last to the first

-- a store behind those still to come may be made first
sets_first : (l : List ℕ) (i j v : ℕ) (vs : List ℕ) → i + length vs ≤ j → sets (set l j v) i vs ≡ set (sets l i vs) j v
sets_first l i j v [] h = refl
sets_first l i j v (x ∷ vs) h =
    rw (set_comm l j i v x (λ e. absurd (omega arith))) (sets_first (set l i x) (suc i) j v vs (omega arith))

sets_snoc : (l : List ℕ) (i : ℕ) (vs : List ℕ) (v : ℕ) → sets l i (vs ++ (v ∷ [])) ≡ set (sets l i vs) (i + length vs) v
sets_snoc l i [] v = rw add-zero
sets_snoc l i (x ∷ vs) v = sets_snoc (set l i x) (suc i) vs v ∙ rw (suc-add, add-suc)

-- the digits still to write below place i, where `at` is the first place: none at `at`
abbrev pub digits_left : ℕ → ℕ → ℕ → List ℕ
digits_left at i n = choose (eqb i at) [] (decimal_of n)

-- what is written so far and what is left come to the same as the whole; i is behind what is left
pub record Left (at i n : ℕ) (out whole : List ℕ) : Type 0 where
  pub place : i ≡ at + length (digits_left at i n)
  pub same : sets out at (digits_left at i n) ≡ whole

pub left_all : (at n : ℕ) (out : List ℕ) → Left at (at + length (decimal_of n)) n out (sets out at (decimal_of n))
left_all at n out =
    let h = decimal_some n in
    let e = ne_eqb (at + length (decimal_of n)) at (λ q. absurd (omega arith)) in
    record { place = rw e refl; same = rw e refl }

pub left_none : (at i n : ℕ) (out whole : List ℕ) → Left at i n out whole → i ≤ at → out ≡ whole
left_none at i n out whole l h =
    let p = l.place in
    let e = eq-eqb i at (omega arith) in
    rw e at l.same

-- the last digit that is left is stored
pub left_step : (at i n : ℕ) (out whole : List ℕ) → Left at i n out whole → at < i → Left at (i - 1) (n / 10) (set out (i - 1) (48 + n % 10)) whole
left_step at i n out whole l h = go (dec_lt n 10) (rw e at l.place) (rw e at l.same)
  where
    e : eqb i at ≡ false
    e = ne_eqb i at (λ q. absurd (omega arith))

    go : Dec (n < 10) → i ≡ at + length (decimal_of n) → sets out at (decimal_of n) ≡ whole → Left at (i - 1) (n / 10) (set out (i - 1) (48 + n % 10)) whole
    go (yes s) p q =
        let p' = rw (decimal_one n s) at p in
        let q' = rw (decimal_one n s) at q in
        let j : i - 1 ≡ at = omega arith in
        let d : 48 + n % 10 ≡ 48 + n = omega arith in
        let f = eq-eqb (i - 1) at j in
        record { place = rw f (omega arith); same = rw (f, j, d) q' }
    go (no s) p q =
        let len = decimal_length n (omega arith) in
        let some = decimal_some (n / 10) in
        let j : i - 1 ≡ at + length (decimal_of (n / 10)) = omega arith in
        let f = ne_eqb (i - 1) at (λ z. absurd (omega arith)) in
        let q' = rw (decimal_last n (omega arith)) at q in
        record {
          place = rw f (omega arith);
          same = rw f (sets_first out at (i - 1) (48 + n % 10) (decimal_of (n / 10)) (omega arith) ∙ rw j (sym (sets_snoc out at (decimal_of (n / 10)) (48 + n % 10)) ∙ q'));
        }
