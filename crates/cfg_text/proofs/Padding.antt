-- A list that is padded to a length: storing behind its last element. Assumes nothing.
use mathlib.Core.Path.{◌≡◌, ◌∙◌, refl, sym, ap}
use mathlib.Core.List.{List, [], ◌∷◌, ◌++◌, append_assoc, append-nil}
use Prim.Native.Nat.{ℕ, zero, suc}
use native.Mathlib.Omega.{arith}
use lib.ListN.{length, set, replicate, length-append}
use lib.Seq.{sets}
use Rattle.runs.specs.Lists.{padded}

module _ {A : Type 0} (d : A) where
  -- what pads may be written out
  pub padded_more : (n k : ℕ) (xs : List A) → padded n d (xs ++ replicate k d) ≡ padded n d xs
  padded_more zero k xs = refl
  padded_more (suc n) zero [] = refl
  padded_more (suc n) (suc k) [] = ap (λ (l : List A). d ∷ l) (padded_more n k [])
  padded_more (suc n) k (x ∷ xs) = ap (λ (l : List A). x ∷ l) (padded_more n k xs)

  -- a store behind the last element
  pub set_next : (n : ℕ) (xs : List A) (v : A) → set (padded n d xs) (length xs) v ≡ padded n d (xs ++ (v ∷ []))
  set_next zero xs v = refl
  set_next (suc n) [] v = refl
  set_next (suc n) (x ∷ xs) v = ap (λ (l : List A). x ∷ l) (set_next n xs v)

  -- a store at an element
  pub set_at : (n : ℕ) (xs : List A) (y : A) (ys : List A) (v : A) → set (padded n d (xs ++ (y ∷ ys))) (length xs) v ≡ padded n d (xs ++ (v ∷ ys))
  set_at zero xs y ys v = refl
  set_at (suc n) [] y ys v = refl
  set_at (suc n) (x ∷ xs) y ys v = ap (λ (l : List A). x ∷ l) (set_at n xs y ys v)

  -- stores behind the last element
  pub sets_next : (n : ℕ) (xs vs : List A) → sets (padded n d xs) (length xs) vs ≡ padded n d (xs ++ vs)
  sets_next n xs [] = ap (padded n d) (sym (append-nil xs))
  sets_next n xs (v ∷ vs) =
      let e : suc (length xs) ≡ length (xs ++ (v ∷ [])) = rw length-append (omega arith) in
      ap (λ (l : List A). sets l (suc (length xs)) vs) (set_next n xs v)
      ∙ ap (λ (i : ℕ). sets (padded n d (xs ++ (v ∷ []))) i vs) e
      ∙ sets_next n (xs ++ (v ∷ [])) vs
      ∙ ap (padded n d) (append_assoc xs (v ∷ []) vs)
