-- How many entries of a list are blank, as one after another is filled. Assumes nothing.
use Prim.Native.Nat.{ℕ, zero, suc, ◌+◌, ◌≤◌, ◌<◌}
use mathlib.Core.Path.{◌≡◌, refl}
use mathlib.Core.Bool.{Bool, true, false}
use mathlib.Core.List.{List, [], ◌∷◌}
use native.Mathlib.Omega.{arith}
use lib.ListN.{length, get_or, set}
use Rattle.runs.specs.Lists.{only, keep}
use Rattle.grouping.specs.Marks.{blanks}

module _ {A : Type 0} where
  keep_length : (b : Bool) (x : A) (l : List A) → length (keep b x l) ≡ length (keep b x []) + length l
  keep_length true x l = omega arith
  keep_length false x l = omega arith

  keep_one : (b : Bool) (x : A) → length (keep b x []) ≤ 1
  keep_one true x = omega arith
  keep_one false x = omega arith

  module _ (blank : A → Bool) where
    one : A → ℕ
    one x = blanks blank (x ∷ [])

    blanks_cons : (x : A) (l : List A) → blanks blank (x ∷ l) ≡ one x + blanks blank l
    unfolding blanks one
    blanks_cons x l = keep_length (blank x) x (only blank l)

    blanks_nil : blanks blank [] ≡ 0
    unfolding blanks
    blanks_nil = refl

    one_le : (x : A) → one x ≤ 1
    unfolding blanks one
    one_le x = keep_one (blank x) x

    one_blank : (x : A) → blank x ≡ true → one x ≡ 1
    unfolding blanks one
    one_blank x e = rw e refl

    one_other : (x : A) → blank x ≡ false → one x ≡ 0
    unfolding blanks one
    one_other x e = rw e refl

    pub blanks_le : (l : List A) → blanks blank l ≤ length l
    blanks_le [] = omega (arith, blanks_nil)
    blanks_le (x ∷ l) = omega (arith, blanks_cons x l, one_le x, blanks_le l)

    -- a blank entry is filled
    pub blanks_set : (l : List A) (i : ℕ) (d m : A) → i < length l → blank (get_or l i d) ≡ true → blank m ≡ false → suc (blanks blank (set l i m)) ≡ blanks blank l
    blanks_set [] i d m h e f = absurd (omega arith)
    blanks_set (x ∷ l) zero d m h e f = omega (arith, blanks_cons x l, blanks_cons m l, one_blank x e, one_other m f)
    blanks_set (x ∷ l) (suc i) d m h e f = omega (arith, blanks_cons x l, blanks_cons x (set l i m), blanks_set l i d m (omega arith) e f)

    -- and any entry
    pub blanks_more : (l : List A) (i : ℕ) (m : A) → blank m ≡ false → blanks blank (set l i m) ≤ blanks blank l
    blanks_more [] i m f = omega arith
    blanks_more (x ∷ l) zero m f = omega (arith, blanks_cons x l, blanks_cons m l, one_other m f)
    blanks_more (x ∷ l) (suc i) m f = omega (arith, blanks_cons x l, blanks_cons x (set l i m), blanks_more l i m f)

    -- an entry that is not blank
    pub blanks_lt : (l : List A) (i : ℕ) (d : A) → i < length l → blank (get_or l i d) ≡ false → blanks blank l < length l
    blanks_lt [] i d h e = absurd (omega arith)
    blanks_lt (x ∷ l) zero d h e = omega (arith, blanks_cons x l, one_other x e, blanks_le l)
    blanks_lt (x ∷ l) (suc i) d h e = omega (arith, blanks_cons x l, one_le x, blanks_lt l i d (omega arith) e)
