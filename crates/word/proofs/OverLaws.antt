-- Sums that go over: which codes can, what it says of the word that they give, and how the code tells. Assumes nothing.
use Rattle.std.proofs.Common.{◌≡◌, ℕ, zero, suc, ◌+◌, ◌-◌, ◌%◌, ◌^◌, ◌<◌, Bool, true, false, not, eqb, ltb, ◌⊎◌, pos, negsuc, ◌+ℤ◌, ◌-ℤ◌, sym, refl, ap, ◌∙◌, inl, inr, arith, lit<, w32, SFits, ℤ, ltb-false, ltb-true, le-ltb, eqb-true}
use Rattle.std.specs.Prelude.{Option, Some, None, SomeIff, is_some}
use mathlib.Core.Bool.{false≢true, or-false}
use borrow.Author.Tests.{eqb-false}
use Rattle.word.specs.Word.{choose, signed_of, add_of, sub_of, add_code, sub_code, eval_of, outside, exact_of, over_of, arity}
use Rattle.word.proofs.Differences.{inside_difference}
use Rattle.word.proofs.Levels.{level, level_difference, sum_level, difference_level, AddStays, add_level, SubStays, sub_level}

-- ---- the codes that can

-- no code but add and sub goes over
pub over_other : (k a b : ℕ) → (k ≡ add_code → ⊥) → (k ≡ sub_code → ⊥) → over_of k a b ≡ false
unfolding over_of
over_other zero a b p q = refl
over_other (suc zero) a b p q = refl
over_other (suc (suc zero)) a b p q = refl
over_other (suc (suc (suc zero))) a b p q = absurd (p refl)
over_other (suc (suc (suc (suc zero)))) a b p q = absurd (q refl)
over_other (suc (suc (suc (suc (suc k))))) a b p q = refl

data Kind (k : ℕ) : Type 0 where
  is_add : k ≡ add_code → Kind k
  is_sub : k ≡ sub_code → Kind k
  other : (k ≡ add_code → ⊥) → (k ≡ sub_code → ⊥) → Kind k

kind : (k : ℕ) → Kind k
kind k = go (eqb k add_code) (eqb k sub_code) refl refl
  where
    go : (s t : Bool) → eqb k add_code ≡ s → eqb k sub_code ≡ t → Kind k
    go true t e f = is_add (eqb-true k add_code e)
    go false true e f = is_sub (eqb-true k sub_code f)
    go false false e f = other (eqb-false k add_code e) (eqb-false k sub_code f)

pub over_codes : (k a b : ℕ) → over_of k a b ≡ true → (k ≡ add_code) ⊎ (k ≡ sub_code)
over_codes k a b h = go (kind k)
  where
    go : Kind k → (k ≡ add_code) ⊎ (k ≡ sub_code)
    go (is_add e) = inl e
    go (is_sub e) = inr e
    go (other p q) = absurd (false≢true (sym (over_other k a b p q) ∙ h))

-- operands past a code's arity do not matter
pub over_uses : (a b a' b' k : ℕ) → (0 < arity k → a ≡ a') → (1 < arity k → b ≡ b') → over_of k a b ≡ over_of k a' b'
unfolding arity
over_uses a b a' b' k p q = go (kind k)
  where
    both : 1 < arity k → over_of k a b ≡ over_of k a' b'
    both h = rw (p (omega arith), q h)

    go : Kind k → over_of k a b ≡ over_of k a' b'
    go (is_add e) = both (rw e (lit< tt))
    go (is_sub e) = both (rw e (lit< tt))
    go (other n m) = over_other k a b n m ∙ sym (over_other k a' b' n m)

-- ---- what is not over is exact, and what is exact is not over

wrapped : (x : ℕ) → x % 2 ^ 32 < 2 ^ 32
wrapped x = omega arith

module _ (a b : ℕ) (h : a < 2 ^ 32) (k : b < 2 ^ 32) where
  pub add_stays : over_of add_code a b ≡ false → AddStays a b
  unfolding over_of
  add_stays e =
      let i = inside_difference (level a + level b) (2 ^ 31 + 2 ^ 31) (rw (sum_level a b h k) at e) in
      record { least = omega arith; most = omega arith }

  pub sub_stays : over_of sub_code a b ≡ false → SubStays a b
  unfolding over_of
  sub_stays e =
      let i = inside_difference (level a + 2 ^ 31) (2 ^ 31 + level b) (rw (difference_level a b h k) at e) in
      record { least = omega arith; most = omega arith }

  add_exact : AddStays a b → signed_of (add_of a b) ≡ signed_of a +ℤ signed_of b
  add_exact s =
      let e = add_level a b s in
      level_difference (add_of a b) (level a + level b) (2 ^ 31 + 2 ^ 31) (wrapped (a + b)) (omega arith) ∙ sym (sum_level a b h k)

  sub_exact : SubStays a b → signed_of (sub_of a b) ≡ signed_of a -ℤ signed_of b
  sub_exact s =
      let e = sub_level a b k s in
      level_difference (sub_of a b) (level a + 2 ^ 31) (2 ^ 31 + level b) (wrapped (a + (2 ^ 32 - b))) (omega arith) ∙ sym (difference_level a b h k)

-- a sum or a difference that does not go over is the word's signed reading
pub not_over_exact : (s k a b c : ℕ) → (k ≡ add_code) ⊎ (k ≡ sub_code) → a < 2 ^ 32 → b < 2 ^ 32 → over_of k a b ≡ false → signed_of (eval_of s k a b c) ≡ exact_of k a b
unfolding eval_of exact_of
not_over_exact s k a b c (inl i) h g e = rw i (add_exact a b h g (add_stays a b h g (rw i at e)))
not_over_exact s k a b c (inr i) h g e = rw i (sub_exact a b h g (sub_stays a b h g (rw i at e)))

signed_inside : (x : ℕ) → x < 2 ^ 32 → outside (signed_of x) ≡ false
signed_inside x h = go (ltb x (2 ^ 31)) refl
  where
    go : (t : Bool) → ltb x (2 ^ 31) ≡ t → outside (choose t (pos x) (negsuc (2 ^ 32 - suc x))) ≡ false
    go true e = let p = ltb-true x (2 ^ 31) e in le-ltb (2 ^ 31 - 1) x (omega arith)
    go false e = let p = ltb-false x (2 ^ 31) e in rw (le-ltb (2 ^ 31 - 1) (2 ^ 32 - suc x) (omega arith))

-- and one that goes over is not: a word that reads as the exact result did not go over
pub exact_not_over : (s k a b c : ℕ) → signed_of (eval_of s k a b c) ≡ exact_of k a b → over_of k a b ≡ false
unfolding eval_of over_of
exact_not_over s k a b c e = go (kind k)
  where
    go : Kind k → over_of k a b ≡ false
    go (is_add i) = sym (ap outside e) ∙ rw i (signed_inside (add_of a b) (wrapped (a + b)))
    go (is_sub i) = sym (ap outside e) ∙ rw i (signed_inside (sub_of a b) (wrapped (a + (2 ^ 32 - b))))
    go (other p q) = over_other k a b p q

-- ---- how the code tells: by whether 32 bits hold the result

fits_inside : (z : ℤ) → SFits w32 z → outside z ≡ false
fits_inside (pos n) f = let h = f.sfits in le-ltb (2 ^ 31 - 1) n (omega arith)
fits_inside (negsuc n) f = let h = f.sfits in rw (le-ltb (2 ^ 31 - 1) n (omega arith)) refl

inside_fits : (z : ℤ) → outside z ≡ false → SFits w32 z
inside_fits (pos n) e = let h = ltb-false (2 ^ 31 - 1) n e in record { sfits = omega arith }
inside_fits (negsuc n) e = let h = ltb-false (2 ^ 31 - 1) n (sym (or-false (ltb (2 ^ 31 - 1) n)) ∙ e) in record { sfits = omega arith }

-- an operation that gives its result where it fits gives none where it is outside
pub none_outside : (r : Option ℤ) (z : ℤ) (t : Bool) → SomeIff r (SFits w32 z) z → is_some r ≡ not t → t ≡ outside z
none_outside r z t h e = go (outside z) refl t r e h
  where
    go : (o : Bool) → outside z ≡ o → (t : Bool) (r : Option ℤ) → is_some r ≡ not t → SomeIff r (SFits w32 z) z → t ≡ o
    go true p true r e h = refl
    go false p false r e h = refl
    go true p false None e h = absurd (false≢true e)
    go true p false (Some x) e h = absurd (false≢true (sym (fits_inside z h.0) ∙ p))
    go false p true (Some x) e h = absurd (false≢true (sym e))
    go false p true None e h = absurd (h (inside_fits z p))
