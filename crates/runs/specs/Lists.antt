-- Lists: counting up, selecting, counting, testing, padding. Assumes nothing.
use Rattle.std.specs.Prelude.{ℕ, zero, suc, Bool, true, false, ◌&&◌, ◌||◌, List, [], ◌∷◌, ◌++◌, eqb, length, Option, Some, None}

-- n numbers from k up
abbrev pub up_from : ℕ → ℕ → List ℕ
up_from k zero = []
up_from k (suc n) = k ∷ up_from (suc k) n

-- x stands in the list
abbrev pub mem : ℕ → List ℕ → Bool
mem x [] = false
mem x (y ∷ ys) = eqb x y || mem x ys

-- two lists have the same numbers
abbrev pub same : List ℕ → List ℕ → Bool
same [] [] = true
same [] (y ∷ ys) = false
same (x ∷ xs) [] = false
same (x ∷ xs) (y ∷ ys) = eqb x y && same xs ys

module _ {A : Type 0} where
  abbrev pub keep : Bool → A → List A → List A
  keep true x xs = x ∷ xs
  keep false x xs = xs

  -- those that pass the test, in order
  abbrev pub only : (A → Bool) → List A → List A
  only p [] = []
  only p (x ∷ xs) = keep (p x) x (only p xs)

  -- all pass the test
  abbrev pub every : (A → Bool) → List A → Bool
  every p [] = true
  every p (x ∷ xs) = p x && every p xs

  abbrev pub or_else : Bool → A → Option A → Option A
  or_else true x o = Some x
  or_else false x o = o

  -- the first that passes the test
  abbrev pub first : (A → Bool) → List A → Option A
  first p [] = None
  first p (x ∷ xs) = let r = first p xs in or_else (p x) x r

  -- n elements: those of the list, then d as often as is needed
  abbrev pub padded : ℕ → A → List A → List A
  padded zero d xs = []
  padded (suc n) d [] = d ∷ padded n d []
  padded (suc n) d (x ∷ xs) = x ∷ padded n d xs

  -- f of each, one after another
  unfoldable pub concat_map {κ} : {B : Type κ} → (B → List A) → List B → List A
  concat_map f [] = []
  concat_map f (x ∷ xs) = f x ++ concat_map f xs

-- how often x stands in the list
abbrev pub occurrences : ℕ → List ℕ → ℕ
occurrences x l = length (only (eqb x) l)
