-- Which instructions are valid and pass, by their code. Assumes nothing.
use Prim.Native.Nat.{ℕ, zero, suc, ◌≤◌, ◌<◌}
use native.Mathlib.Omega.{arith}
use mathlib.Core.Bool.{Bool, true, false, ◌&&◌, ◌||◌, and-true, and_assoc, and_comm}
use mathlib.Core.Path.{◌≡◌, refl, sym, ap, ◌∙◌}
use lib.Dec.{eqb, ltb}
use lib.ListN.{get_or, take, drop}
use lib.Seq.{get_or-take}
use borrow.Author.Tests.{lt-leb, le-leb, ne_eqb, ltb-true}
use Rattle.word.specs.Word.{choose, arities, arity}
use Rattle.runs.proofs.ListLaws.{every_at}
use Rattle.cfg.specs.declared.Instruction.{Instruction}
use Rattle.cfg.specs.Graph.{valid_instruction}
use Rattle.cfg.specs.Fits.{passes}

-- codes 1 to 11 read an operand
reads : (k : ℕ) → 1 ≤ k → k ≤ 11 → 0 < arity k
unfolding arity
reads zero l h = absurd (omega arith)
reads (suc i) l h =
    ltb-true 0 (get_or arities (suc i) 0)
    (ap (ltb 0) (sym (get_or-take 11 (drop 1 arities) i 0 (omega arith))) ∙ every_at (λ x. ltb 0 x) (take 11 (drop 1 arities)) refl i 0 (omega arith))

-- and codes 3 to 10 read two
reads_two : (k : ℕ) → 3 ≤ k → k ≤ 10 → eqb (arity k) 2 ≡ true
unfolding arity
reads_two zero l h = absurd (omega arith)
reads_two (suc zero) l h = absurd (omega arith)
reads_two (suc (suc zero)) l h = absurd (omega arith)
reads_two (suc (suc (suc i))) l h =
    ap (λ (x : ℕ). eqb x 2) (sym (get_or-take 8 (drop 3 arities) i 0 (omega arith))) ∙ every_at (λ x. eqb x 2) (take 8 (drop 3 arities)) refl i 0 (omega arith)

or_true : (x : Bool) → x || true ≡ true
or_true true = refl
or_true false = refl

or_false : (x : Bool) → x || false ≡ x
or_false true = refl
or_false false = refl

module _ (r : ℕ) (i : Instruction) (words : Bool) where
  -- whether it is valid, and passes
  abbrev pub Good : Bool
  Good = valid_instruction r i && passes words i

  pub none_good : i.code < 1 → Good ≡ false
  unfolding valid_instruction
  none_good h = rw (lt-leb 1 i.code h, ne_eqb i.code 20 (λ e. absurd (omega arith)))

  pub other_good : 11 < i.code → (i.code ≡ 20 → ⊥) → Good ≡ false
  unfolding valid_instruction
  other_good h d = rw (le-leb 1 i.code (omega arith), lt-leb i.code 11 h, ne_eqb i.code 20 d)

  sample_parts : i.code ≡ 20 → Good ≡ (ltb i.d r && eqb i.a 0 && eqb i.b 0) && words
  unfolding valid_instruction arity
  sample_parts h = rw (h, or_false words)

  low_good : 1 ≤ i.code → i.code ≤ 11
      → Good ≡ ltb i.d r && (eqb i.code 1 || ltb i.a r) && choose (eqb (arity i.code) 2) (ltb i.b r) (eqb i.b 0)
  unfolding valid_instruction
  low_good l h =
      let n : arity i.code ≡ 0 → ⊥ = λ e. absurd (omega (arith, reads i.code l h)) in
      rw (le-leb 1 i.code l, le-leb i.code 11 h, ne_eqb i.code 20 (λ e. absurd (omega arith)), ne_eqb (arity i.code) 0 n, or_true words)
      (and-true (ltb i.d r && (eqb i.code 1 || ltb i.a r) && choose (eqb (arity i.code) 2) (ltb i.b r) (eqb i.b 0)))

  -- by their codes

  pub set_good : i.code ≡ 1 → Good ≡ ltb i.d r && eqb i.b 0
  unfolding arity
  set_good h = low_good (omega arith) (omega arith) ∙ rw h (ap (λ (x : Bool). x && eqb i.b 0) (and-true (ltb i.d r)))

  pub copy_good : i.code ≡ 2 → Good ≡ ltb i.d r && (ltb i.a r && eqb i.b 0)
  unfolding arity
  copy_good h = low_good (omega arith) (omega arith) ∙ rw h (and_assoc (ltb i.d r) (ltb i.a r) (eqb i.b 0))

  pub sx_good : i.code ≡ 11 → Good ≡ ltb i.d r && (ltb i.a r && eqb i.b 0)
  unfolding arity
  sx_good h = low_good (omega arith) (omega arith) ∙ rw h (and_assoc (ltb i.d r) (ltb i.a r) (eqb i.b 0))

  pub two_good : 3 ≤ i.code → i.code ≤ 10 → Good ≡ ltb i.d r && (ltb i.a r && ltb i.b r)
  two_good l h =
      low_good (omega arith) (omega arith)
      ∙ rw (reads_two i.code l h, ne_eqb i.code 1 (λ e. absurd (omega arith))) (and_assoc (ltb i.d r) (ltb i.a r) (ltb i.b r))

  pub sample_good : i.code ≡ 20 → Good ≡ words && (ltb i.d r && (eqb i.a 0 && eqb i.b 0))
  sample_good h =
      sample_parts h
      ∙ and_comm (ltb i.d r && eqb i.a 0 && eqb i.b 0) words
      ∙ ap (λ (x : Bool). words && x) (and_assoc (ltb i.d r) (eqb i.a 0) (eqb i.b 0))
