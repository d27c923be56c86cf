-- Laws of `sets`, a list with others stored from a number on: a part copied over, one copy after another, and what a copy is by `◌++◌` and `drop`. Assumes nothing.
use Prim.Native.Nat.{ℕ, suc, ◌+◌, ◌≤◌}
use native.Mathlib.Nat.{add-zero}
use native.Mathlib.Omega.{arith}
use mathlib.Core.Path.{◌≡◌, refl, sym, ap, ◌∙◌}
use mathlib.Core.List.{List, [], ◌∷◌, ◌++◌, append_assoc, append-nil}
use borrow.Rule.Slice.PartMut.{put_mid}
use lib.ListN.{length, take, set, drop, length-set, length-append, drop_of_length-le}
use lib.Seq.{sets, sets-eq, drop_at, take_at, drop-drop, set-append_left}

-- a part of a slice that is copied over, as `to[at..at + from.len()].copy_from_slice(from)` leaves it
pub sets_part : {A : Type 0} (l s t : List A) (at n : ℕ) → t ≡ s → n ≡ length s → at + length s ≤ length l → put_mid at n l t ≡ sets l at s
sets_part {A} l s t at n e m h =
    rw (e, m) (ap (λ (r : List A). take at l ++ (s ++ r)) (drop-drop (length s) at l) ∙ sym (append_assoc (take at l) s (drop (at + length s) l)) ∙ sym (sets-eq s l at h))

module _ {ℓ} {A : Type ℓ} where
  -- one copy behind another is one copy
  pub sets_append : (l : List A) (i : ℕ) (s t : List A) → sets (sets l i s) (i + length s) t ≡ sets l i (s ++ t)
  sets_append l i [] t = rw add-zero
  sets_append l i (x ∷ s) t =
      let e : i + suc (length s) ≡ suc i + length s = omega arith in
      rw e (sets_append (set l i x) (suc i) s t)

  -- a copy over the first elements, and over all
  pub sets_front : (l s : List A) → length s ≤ length l → sets l 0 s ≡ s ++ drop (length s) l
  sets_front l s h =
      let e : 0 + length s ≡ length s = omega arith in
      sets-eq s l 0 (omega arith) ∙ ap (λ (n : ℕ). s ++ drop n l) e

  pub sets_whole : (l s : List A) → length s ≡ length l → sets l 0 s ≡ s
  sets_whole l s e = sets_front l s (omega arith) ∙ ap (λ (r : List A). s ++ r) (drop_of_length-le l {i = length s} (omega arith)) ∙ append-nil s

  -- a copy over `old`, which stands between p and q
  pub sets_over : (p old q s : List A) (at : ℕ) → length p ≡ at → length old ≡ length s → sets (p ++ (old ++ q)) at s ≡ p ++ (s ++ q)
  sets_over p old q s at here as_many =
      let n = length-append p (old ++ q) in
      let m = length-append old q in
      let behind : drop (at + length s) (p ++ (old ++ q)) ≡ q =
      sym (drop-drop (length s) at (p ++ (old ++ q))) ∙ ap (drop (length s)) (drop_at p (old ++ q) at here) ∙ drop_at old q (length s) as_many in
      sets-eq s (p ++ (old ++ q)) at (omega arith)
      ∙ rw (take_at p (old ++ q) at here, behind) (append_assoc p s q)

  -- a copy within the first part, and one within the second
  pub sets_left : (a b s : List A) (at : ℕ) → at + length s ≤ length a → sets (a ++ b) at s ≡ sets a at s ++ b
  sets_left a b [] at h = refl
  sets_left a b (x ∷ s) at h =
      rw (set-append_left a b at x (omega arith)) (sets_left (set a at x) b s (suc at) (rw length-set (omega arith)))

  pub sets_right : (a b s : List A) (at to : ℕ) → to ≡ length a + at → sets (a ++ b) to s ≡ a ++ sets b at s
  sets_right [] b s at to e = let z : to ≡ at = omega arith in rw z
  sets_right (x ∷ a) b s at to e = within x (a ++ b) s (length a + at) to (omega arith) ∙ ap (λ (r : List A). x ∷ r) (sets_right a b s at (length a + at) refl)
    where
      within : (x : A) (l s : List A) (at to : ℕ) → to ≡ suc at → sets (x ∷ l) to s ≡ x ∷ sets l at s
      within x l [] at to e = refl
      within x l (y ∷ s) at to e = rw e (within x (set l at y) s (suc at) (suc (suc at)) refl)
