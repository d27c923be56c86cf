-- What a wire reads: how many words, and that a wire is valid exactly where its code is known and each reference it reads is valid. Assumes nothing.
use Prim.Native.Nat.{ℕ, zero, suc, ◌≤◌}
use native.Mathlib.Omega.{arith}
use mathlib.Core.Bool.{Bool, true, false, ◌&&◌, ◌||◌, and-true, and_assoc}
use mathlib.Core.List.{[], ◌∷◌}
use mathlib.Core.Path.{◌≡◌, refl, sym, ap, ◌∙◌}
use lib.Dec.{eqb, leb, ltb}
use lib.ListN.{take}
use borrow.Author.Tests.{le-leb, leb-true, le-ltb, ne_eqb, ltb-false, eqb-false}
use Rattle.word.specs.Word.{arity, set_code, add_code, sub_code, first_code, last_code}
use Rattle.runs.specs.Lists.{every}
use Rattle.runs.proofs.ListLaws.{and_left, and_right, and_both}
use Rattle.runs.proofs.Tests.{Compared, compared, same, other}
use Rattle.fsmd.specs.declared.Wire.{Wire}
use Rattle.fsmd.specs.Machine.{wire_arity, reads}
use Rattle.fsmd.specs.Table.{valid_reference, valid_wire}

-- ---- how many words

pub add_reads : wire_arity add_code ≡ 3
unfolding wire_arity
add_reads = refl

pub sub_reads : wire_arity sub_code ≡ 3
unfolding wire_arity
sub_reads = refl

pub other_reads : (k : ℕ) → (k ≡ add_code → ⊥) → (k ≡ sub_code → ⊥) → wire_arity k ≡ arity k
unfolding wire_arity
other_reads k p q = rw (ne_eqb k add_code p, ne_eqb k sub_code q)

-- all that the code's value is of
pub reads_operands : (k : ℕ) → arity k ≤ wire_arity k
unfolding wire_arity arity
reads_operands k = go (compared k add_code) (compared k sub_code)
  where
    go : Compared k add_code → Compared k sub_code → arity k ≤ wire_arity k
    go (same b e) d = rw e (omega arith)
    go (other b e) (same c d) = rw d (omega arith)
    go (other b e) (other c d) = rw (other_reads k e d) (omega arith)

-- ---- each of them tested

module _ (p : ℕ → Bool) where
  -- the first k of three, by k
  three_tests : (k a b c : ℕ) → every p (take k (a ∷ b ∷ c ∷ [])) ≡ ((ltb k 1 || p a) && (ltb k 2 || p b) && (ltb k 3 || p c))
  three_tests zero a b c = refl
  three_tests (suc zero) a b c = sym (and-true (p a && true))
  three_tests (suc (suc zero)) a b c = sym (and_assoc (p a) (p b) true)
  three_tests (suc (suc (suc k))) a b c =
      rw (le-ltb (suc (suc (suc k))) 1 (omega arith), le-ltb (suc (suc (suc k))) 2 (omega arith), le-ltb (suc (suc (suc k))) 3 (omega arith), end k, and-true (p c))
      (sym (and_assoc (p a) (p b) (p c)))
    where
      end : (k : ℕ) → take {A = ℕ} k [] ≡ []
      end zero = refl
      end (suc k) = refl

  -- a set's a is its literal
  pub reads_tests : (w : Wire)
      → every p (reads w)
      ≡ ((eqb w.code set_code || (ltb (wire_arity w.code) 1 || p w.a)) && (ltb (wire_arity w.code) 2 || p w.b) && (ltb (wire_arity w.code) 3 || p w.c))
  unfolding reads wire_arity arity
  reads_tests w = go (compared w.code set_code)
    where
      go : Compared w.code set_code
          → every p (reads w)
          ≡ ((eqb w.code set_code || (ltb (wire_arity w.code) 1 || p w.a)) && (ltb (wire_arity w.code) 2 || p w.b) && (ltb (wire_arity w.code) 3 || p w.c))
      go (same b e) = rw e
      go (other b e) = rw b (three_tests (wire_arity w.code) w.a w.b w.c)

-- the first two are the code's operands
pub first_two : (k : ℕ) → (ltb (wire_arity k) 1 ≡ ltb (arity k) 1) × (ltb (wire_arity k) 2 ≡ ltb (arity k) 2)
unfolding wire_arity arity
first_two k = go (compared k add_code) (compared k sub_code)
  where
    go : Compared k add_code → Compared k sub_code → (ltb (wire_arity k) 1 ≡ ltb (arity k) 1) × (ltb (wire_arity k) 2 ≡ ltb (arity k) 2)
    go (same b e) d = rw e (refl, refl)
    go (other b e) (same c d) = rw d (refl, refl)
    go (other b e) (other c d) = (ap (λ (n : ℕ). ltb n 1) (other_reads k e d), ap (λ (n : ℕ). ltb n 2) (other_reads k e d))

-- each of them tested by the code's operands and word c
pub operand_tests : (p : ℕ → Bool) (w : Wire)
    → every p (reads w)
    ≡ ((eqb w.code set_code || (ltb (arity w.code) 1 || p w.a)) && (ltb (arity w.code) 2 || p w.b) && (ltb (wire_arity w.code) 3 || p w.c))
operand_tests p w =
    let k = w.code in
    let c = ltb (wire_arity k) 3 || p w.c in
    reads_tests p w
    ∙ ap (λ (t : Bool). (eqb k set_code || (t || p w.a)) && (ltb (wire_arity k) 2 || p w.b) && c) (first_two k).0
    ∙ ap (λ (t : Bool). (eqb k set_code || (ltb (arity k) 1 || p w.a)) && (t || p w.b) && c) (first_two k).1

-- ---- a valid wire

pub record Valid (r n : ℕ) (w : Wire) : Type 0 where
  pub least : first_code ≤ w.code
  pub most : w.code ≤ last_code
  pub first : (w.code ≡ set_code → ⊥) → 1 ≤ wire_arity w.code → valid_reference r n w.a ≡ true
  pub second : 2 ≤ wire_arity w.code → valid_reference r n w.b ≡ true
  pub third : 3 ≤ wire_arity w.code → valid_reference r n w.c ≡ true

or_other : (a b : Bool) → (a || b) ≡ true → a ≡ false → b ≡ true
or_other a b h e = rw e at h

or_made : (a b : Bool) → (a ≡ false → b ≡ true) → (a || b) ≡ true
or_made true b h = refl
or_made false b h = h refl

module _ (r n : ℕ) (w : Wire) where
  pub valid_facts : valid_wire r n w ≡ true → Valid r n w
  unfolding valid_wire
  valid_facts h =
      let k = w.code in
      let m = wire_arity k in
      let l = leb first_code k in
      let u = leb k last_code in
      let e = every (valid_reference r n) (reads w) in
      let a = eqb k set_code || (ltb m 1 || valid_reference r n w.a) in
      let b = ltb m 2 || valid_reference r n w.b in
      let c = ltb m 3 || valid_reference r n w.c in
      let known = and_left (l && u) e h in
      let three = sym (reads_tests (valid_reference r n) w) ∙ and_right (l && u) e h in
      let two = and_left (a && b) c three in
      record {
        least = leb-true first_code k (and_left l u known);
        most = leb-true k last_code (and_right l u known);
        first = λ q s. or_other (ltb m 1) (valid_reference r n w.a) (or_other (eqb k set_code) (ltb m 1 || valid_reference r n w.a) (and_left a b two) (ne_eqb k set_code q)) (le-ltb m 1 s);
        second = λ s. or_other (ltb m 2) (valid_reference r n w.b) (and_right a b two) (le-ltb m 2 s);
        third = λ s. or_other (ltb m 3) (valid_reference r n w.c) (and_right (a && b) c three) (le-ltb m 3 s);
      }

  pub facts_valid : Valid r n w → valid_wire r n w ≡ true
  unfolding valid_wire
  facts_valid v =
      let k = w.code in
      let m = wire_arity k in
      let a = ltb m 1 || valid_reference r n w.a in
      let b = ltb m 2 || valid_reference r n w.b in
      let c = ltb m 3 || valid_reference r n w.c in
      rw (le-leb first_code k v.least, le-leb k last_code v.most)
      (reads_tests (valid_reference r n) w
      ∙ and_both ((eqb k set_code || a) && b) c
      (and_both (eqb k set_code || a) b
      (or_made (eqb k set_code) a (λ e. or_made (ltb m 1) (valid_reference r n w.a) (λ l. v.first (eqb-false k set_code e) (ltb-false m 1 l))))
      (or_made (ltb m 2) (valid_reference r n w.b) (λ l. v.second (ltb-false m 2 l))))
      (or_made (ltb m 3) (valid_reference r n w.c) (λ l. v.third (ltb-false m 3 l))))
