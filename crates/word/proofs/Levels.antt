-- Levels: a word's signed value plus 2 ^ 31, so that signed order and signed sums are those of natural numbers. Assumes nothing.
use Rattle.std.proofs.Common.{◌≡◌, ℕ, suc, ◌+◌, ◌-◌, ◌%◌, ◌^◌, ◌<◌, ◌≤◌, Bool, true, false, not, ltb, leb, ℤ, pos, negsuc, ◌+ℤ◌, ◌-ℤ◌, neg_ℤ, sym, refl, ap, ◌∙◌, ap₂, arith, ltb-false, ltb-true, le-ltb, lt-ltb, le-leb}
use lib.IntN.{sub_ℕ}
use lib.Signed.{lt_z, le_z}
use borrow.Author.Tests.{lt-leb}
use Rattle.word.specs.Word.{choose, signed_of, add_of, sub_of, sx_of, compare_of}
use Rattle.word.specs.declared.Comparison.TheVariants.{Lt, Ge}
use Rattle.word.proofs.Differences.{same_difference, sum_differences, neg_difference}

-- a word's place in signed order
abbrev pub level : ℕ → ℕ
level x = (x + 2 ^ 31) % 2 ^ 32

pub signed_level : (x : ℕ) → x < 2 ^ 32 → signed_of x ≡ sub_ℕ (level x) (2 ^ 31)
signed_level x h = go (ltb x (2 ^ 31)) refl
  where
    go : (t : Bool) → ltb x (2 ^ 31) ≡ t → choose t (pos x) (negsuc (2 ^ 32 - suc x)) ≡ sub_ℕ (level x) (2 ^ 31)
    go true e =
        let p = ltb-true x (2 ^ 31) e in
        rw (le-ltb (level x) (2 ^ 31) (omega arith)) (ap pos (omega arith))
    go false e =
        let p = ltb-false x (2 ^ 31) e in
        rw (lt-ltb (level x) (2 ^ 31) (omega arith)) (ap negsuc (omega arith))

-- the signed value as any difference
pub level_difference : (x m n : ℕ) → x < 2 ^ 32 → level x + n ≡ m + 2 ^ 31 → signed_of x ≡ sub_ℕ m n
level_difference x m n h e = signed_level x h ∙ same_difference (level x) (2 ^ 31) m n e

-- ---- order

order : (a b m n : ℕ) → (a < b → m < n) → (b ≤ a → n ≤ m) → ltb a b ≡ ltb m n
order a b m n f g = go (ltb a b) refl
  where
    go : (t : Bool) → ltb a b ≡ t → t ≡ ltb m n
    go true e = sym (lt-ltb m n (f (ltb-true a b e)))
    go false e = sym (le-ltb m n (g (ltb-false a b e)))

pub lt_level : (x y : ℕ) → x < 2 ^ 32 → y < 2 ^ 32 → compare_of Lt x y ≡ ltb (level x) (level y)
lt_level x y h k = go (ltb x (2 ^ 31)) (ltb y (2 ^ 31)) refl refl
  where
    go : (s t : Bool) → ltb x (2 ^ 31) ≡ s → ltb y (2 ^ 31) ≡ t → lt_z (choose s (pos x) (negsuc (2 ^ 32 - suc x))) (choose t (pos y) (negsuc (2 ^ 32 - suc y))) ≡ ltb (level x) (level y)
    go true true e f =
        let p = ltb-true x (2 ^ 31) e in
        let q = ltb-true y (2 ^ 31) f in
        order x y (level x) (level y) (λ l. omega arith) (λ l. omega arith)
    go true false e f =
        let p = ltb-true x (2 ^ 31) e in
        let q = ltb-false y (2 ^ 31) f in
        sym (le-ltb (level x) (level y) (omega arith))
    go false true e f =
        let p = ltb-false x (2 ^ 31) e in
        let q = ltb-true y (2 ^ 31) f in
        sym (lt-ltb (level x) (level y) (omega arith))
    go false false e f =
        let p = ltb-false x (2 ^ 31) e in
        let q = ltb-false y (2 ^ 31) f in
        order (2 ^ 32 - suc y) (2 ^ 32 - suc x) (level x) (level y) (λ l. omega arith) (λ l. omega arith)

ge_not : (a b : ℕ) → leb b a ≡ not (ltb a b)
ge_not a b = go (ltb a b) refl
  where
    go : (t : Bool) → ltb a b ≡ t → leb b a ≡ not t
    go true e = lt-leb b a (ltb-true a b e)
    go false e = le-leb b a (ltb-false a b e)

pub ge_z_not : (y z : ℤ) → le_z z y ≡ not (lt_z y z)
ge_z_not (pos a) (pos b) = ge_not a b
ge_z_not (pos a) (negsuc b) = refl
ge_z_not (negsuc a) (pos b) = refl
ge_z_not (negsuc a) (negsuc b) = ge_not b a

pub ge_level : (x y : ℕ) → x < 2 ^ 32 → y < 2 ^ 32 → compare_of Ge x y ≡ leb (level y) (level x)
ge_level x y h k = ge_z_not (signed_of x) (signed_of y) ∙ ap not (lt_level x y h k) ∙ sym (ge_not (level x) (level y))

-- ---- sums and differences of signed values

pub sum_level : (a b : ℕ) → a < 2 ^ 32 → b < 2 ^ 32 → signed_of a +ℤ signed_of b ≡ sub_ℕ (level a + level b) (2 ^ 31 + 2 ^ 31)
sum_level a b h k =
    ap₂ (λ (x y : ℤ). x +ℤ y) (signed_level a h) (signed_level b k)
    ∙ sum_differences (level a) (2 ^ 31) (level b) (2 ^ 31)

pub difference_level : (a b : ℕ) → a < 2 ^ 32 → b < 2 ^ 32 → signed_of a -ℤ signed_of b ≡ sub_ℕ (level a + 2 ^ 31) (2 ^ 31 + level b)
difference_level a b h k =
    ap₂ (λ (x y : ℤ). x +ℤ y) (signed_level a h) (ap neg_ℤ (signed_level b k) ∙ neg_difference (level b) (2 ^ 31))
    ∙ sum_differences (level a) (2 ^ 31) (2 ^ 31) (level b)

-- ---- sums and differences that stay in the range

pub record AddStays (a b : ℕ) : Type 0 where
  pub least : 2 ^ 31 ≤ level a + level b
  pub most : level a + level b < 2 ^ 31 + 2 ^ 32

pub add_level : (a b : ℕ) → AddStays a b → level (add_of a b) + 2 ^ 31 ≡ level a + level b
add_level a b s = omega arith

pub record SubStays (a b : ℕ) : Type 0 where
  pub least : level b ≤ level a + 2 ^ 31
  pub most : level a < level b + 2 ^ 31

pub sub_level : (a b : ℕ) → b < 2 ^ 32 → SubStays a b → level (sub_of a b) + level b ≡ level a + 2 ^ 31
sub_level a b h s = omega arith

-- ---- the low 16 bits as signed

-- sx gives what 16 signed bits hold, and a word that they hold as it is
pub record SixteenBits (a : ℕ) : Type 0 where
  pub least : 2 ^ 31 - 2 ^ 15 ≤ level (sx_of a)
  pub most : level (sx_of a) < 2 ^ 31 + 2 ^ 15
  pub same : 2 ^ 31 - 2 ^ 15 ≤ level a → level a < 2 ^ 31 + 2 ^ 15 → sx_of a ≡ a

pub sx_level : (a : ℕ) → a < 2 ^ 32 → SixteenBits a
sx_level a h = go (ltb (a % 2 ^ 16) (2 ^ 15)) refl
  where
    go : (t : Bool) → ltb (a % 2 ^ 16) (2 ^ 15) ≡ t → SixteenBits a
    go true e =
        let p = ltb-true (a % 2 ^ 16) (2 ^ 15) e in
        let s : sx_of a ≡ a % 2 ^ 16 = rw e in
        record { least = omega arith; most = omega arith; same = λ l m. s ∙ omega arith }
    go false e =
        let p = ltb-false (a % 2 ^ 16) (2 ^ 15) e in
        let s : sx_of a ≡ 2 ^ 32 - suc (2 ^ 16 - suc (a % 2 ^ 16)) = rw e in
        record { least = omega arith; most = omega arith; same = λ l m. s ∙ omega arith }
