-- A write changes one register and no other. Assumes nothing.
use Rattle.std.proofs.Common.{◌≡◌, ℕ, ◌<◌, eqb, List, length, get_or, set, sym, refl, ◌∙◌, arith, length-set, get_or-set_other, get_or-set_same, Bool, true, false, eqb-true}
use Rattle.std.proofs.lemmas.Grind.{same_number_lists}
use borrow.Author.Tests.{eqb-false}
use Rattle.word.specs.Word.{choose}
use Rattle.word.specs.declared.Registers.{Registers}
use Rattle.word.specs.RegisterFile.{with_word}

pub write_same : (r : Registers) (i w : ℕ) → i < length r.words → get_or (with_word r i w).words i 0 ≡ w
write_same r i w h = get_or-set_same r.words i w 0 h

pub write_other : (r : Registers) (i j w : ℕ) → (j ≡ i → ⊥) → get_or (with_word r i w).words j 0 ≡ get_or r.words j 0
write_other r i j w h = get_or-set_other r.words i j w 0 h

pub write_length_lem : (r : Registers) (i w : ℕ) → length (with_word r i w).words ≡ length r.words
write_length_lem r i w = length-set r.words i w

-- a write is a choice for each register
pub written : (xs ys : List ℕ) (i w : ℕ)
    → length ys ≡ length xs → ((k : ℕ) → k < length ys → get_or ys k 0 ≡ choose (eqb k i) w (get_or xs k 0)) → ys ≡ set xs i w
written xs ys i w n h = same_number_lists ys (set xs i w) (n ∙ sym (length-set xs i w)) (λ k l. h k l ∙ go k (eqb k i) refl (omega arith))
  where
    go : (k : ℕ) (t : Bool) → eqb k i ≡ t → k < length xs → choose t w (get_or xs k 0) ≡ get_or (set xs i w) k 0
    go k true e l =
        let s = eqb-true k i e in
        rw s (sym (get_or-set_same xs i w 0 (rw s at l)))
    go k false e l = sym (get_or-set_other xs i k w 0 (eqb-false k i e))
