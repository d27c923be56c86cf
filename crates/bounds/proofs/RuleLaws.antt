-- Ranges of a set and of a select. Assumes nothing.
use Rattle.std.proofs.Common.{◌≡◌, ℕ, zero, suc, ◌-◌, ◌^◌, Bool, true, false, ◌&&◌, eqb, ltb, leb, pos, negsuc, sym, refl, ap, ◌∙◌, arith, ltb-false, eq-eqb, ne_eqb, eqb-true}
use lib.Signed.{le_z}
use borrow.Author.Tests.{lt-leb}
use Rattle.word.specs.Word.{choose, compare_of, set_code, select_code, eval_of, arity}
use Rattle.word.specs.declared.Comparison.TheVariants.{Ge}
use Rattle.bounds.specs.declared.Range.{Range}
use Rattle.bounds.specs.Range.{span, exact, is_single, has_zero, select_range, rule_of, range_of}

-- a set gives its literal
pub range_literal : (x : ℕ) (b c : Range) → range_of set_code (exact x) b c ≡ exact x
unfolding range_of eval_of arity
range_literal x b c = rw (eq-eqb x x refl)

-- ---- a select's rule is exact

zero_natural : (x : ℕ) → (leb x 0 && leb 0 x) ≡ eqb x 0
zero_natural zero = refl
zero_natural (suc x) = rw (lt-leb (suc x) 0 (omega arith), ne_eqb (suc x) 0 (λ z. absurd (omega arith)))

-- only 0 is neither above nor below it
zero_word : (x : ℕ) → (compare_of Ge 0 x && compare_of Ge x 0) ≡ eqb x 0
zero_word x = go (ltb x (2 ^ 31)) refl
  where
    go : (t : Bool) → ltb x (2 ^ 31) ≡ t → (le_z (choose t (pos x) (negsuc (2 ^ 32 - suc x))) (pos 0) && le_z (pos 0) (choose t (pos x) (negsuc (2 ^ 32 - suc x)))) ≡ eqb x 0
    go true e = zero_natural x
    go false e = let l = ltb-false x (2 ^ 31) e in sym (ne_eqb x 0 (λ z. absurd (omega arith)))

single_zero : (r : Range) → is_single r ≡ true → has_zero r ≡ eqb r.low 0
single_zero r e = ap (λ (h : ℕ). compare_of Ge 0 r.low && compare_of Ge h 0) (sym (eqb-true r.low r.high e)) ∙ zero_word r.low

single_exact : (r : Range) → is_single r ≡ true → exact r.low ≡ r
single_exact r e = ap (span r.low) (eqb-true r.low r.high e)

pub range_select : (a b c : Range) → range_of select_code a b c ≡ select_range a b c
unfolding range_of rule_of eval_of arity
range_select a b c = go (is_single a) (is_single b) (is_single c) refl refl refl
  where
    arm : is_single a ≡ true → is_single b ≡ true → is_single c ≡ true → (t : Bool) → eqb a.low 0 ≡ t → exact (choose t c.low b.low) ≡ select_range a b c
    arm e f g true z = rw (single_zero a e, z, e) (single_exact c g)
    arm e f g false z = rw (single_zero a e, z) (single_exact b f)

    go : (s t u : Bool) → is_single a ≡ s → is_single b ≡ t → is_single c ≡ u
        → choose (s && t && u) (exact (choose (eqb a.low 0) c.low b.low)) (select_range a b c) ≡ select_range a b c
    go true true true e f g = arm e f g (eqb a.low 0) refl
    go true true false e f g = refl
    go true false u e f g = refl
    go false t u e f g = refl
