-- Lines by their fields, a line for each number, and what stands in front of a buffer that was written from its start. Assumes nothing.
use Prim.Native.Nat.{ℕ, zero, suc, ◌+◌, ◌*◌, ◌≤◌}
use native.Mathlib.Nat.{add-zero, zero-add, add-suc, suc-add, mul-add, mul-one, le_of_eq}
use native.Mathlib.Numerals.{add-one}
use native.Mathlib.Omega.{arith}
use mathlib.Core.Path.{◌≡◌, refl, sym, ◌∙◌}
use mathlib.Core.List.{List, [], ◌∷◌, ◌++◌, append_assoc, append-nil}
use lib.ListN.{length, take, drop}
use lib.Seq.{sets-eq, take_at}
use Rattle.runs.specs.Lists.{up_from, concat_map}
use Rattle.delimited.specs.Parts.{parted}
use Rattle.cfg_write.specs.declared.line.Writer.{Writer}
use Rattle.cfg_write.specs.Put.{Put, Wrote}
use Rattle.cfg_write.proofs.PutLaws.{wrote_then, wrote_as}
use Rattle.listing.specs.Listing.{listing_line}

-- ---- lines by their fields

pub line_of_three : (x y z : List ℕ) → x ++ ((44 ∷ y) ++ ((44 ∷ z) ++ (10 ∷ []))) ≡ listing_line (x ∷ y ∷ z ∷ [])
unfolding parted
line_of_three x y z = simp append_assoc

pub line_of_four : (w x y z : List ℕ) → w ++ ((44 ∷ x) ++ ((44 ∷ y) ++ ((44 ∷ z) ++ (10 ∷ [])))) ≡ listing_line (w ∷ x ∷ y ∷ z ∷ [])
unfolding parted
line_of_four w x y z = simp append_assoc

-- ---- a piece for each number from 0 up

concat_snoc : (f : ℕ → List ℕ) (j k : ℕ) → concat_map f (up_from j (suc k)) ≡ concat_map f (up_from j k) ++ f (j + k)
unfolding concat_map
concat_snoc f j zero = rw (append-nil, add-zero)
concat_snoc f j (suc k) = rw (concat_snoc f (suc j) k, append_assoc, add-suc, suc-add)

-- one more, where each takes at most `most`
pub wrote_each : {before middle after : Writer} (most : ℕ) (f : ℕ → List ℕ) (k : ℕ) → Wrote (most * k) before middle (concat_map f (up_from 0 k)) → Wrote most middle after (f k)
    → Wrote (most * (k + 1)) before after (concat_map f (up_from 0 (k + 1)))
wrote_each most f k p q =
    wrote_as (most * (k + 1)) (concat_map f (up_from 0 (k + 1))) (le_of_eq (rw (mul-add, mul-one) refl)) (rw add-one (sym (rw zero-add at (concat_snoc f 0 k)))) (wrote_then p q)

-- ---- a buffer written from its start on

module _ {most end : ℕ} {before after new : List ℕ} (p : Put most before after 0 new end) (h : end ≤ length before) where
  -- what was written stands in front
  pub put_front : take end after ≡ new
  put_front =
      let n = p.place in
      let e : end ≡ length new = omega arith in
      let w : after ≡ new ++ drop (0 + length new) before = p.stored ∙ sets-eq new before 0 (omega arith) in
      rw w (take_at new (drop (0 + length new) before) end (sym e))
