-- Bytes, and the parts of them that a byte parts: lines, and the fields of a line. Assumes nothing.
use Rattle.std.specs.Prelude.{ℕ, List, [], ◌∷◌, ◌++◌, ◌==◌}
use Prim.Native.Char.{code}
use Prim.Native.String.{String, [] as empty, ◌∷◌ as ◌then◌}
use Rattle.word.specs.Word.{choose}

-- a quoted text's bytes
abbrev pub bytes : String → List ℕ
bytes empty = []
bytes (c then s) = code c ∷ bytes s

-- a byte in front of the first part
abbrev pub onto : ℕ → List (List ℕ) → List (List ℕ)
onto x [] = (x ∷ []) ∷ []
onto x (f ∷ fs) = (x ∷ f) ∷ fs

-- the parts that a byte parts: always one more than there are such bytes
unfoldable pub split_at : ℕ → List ℕ → List (List ℕ)
split_at c [] = [] ∷ []
split_at c (x ∷ xs) = choose (x == c) ([] ∷ split_at c xs) (onto x (split_at c xs))

-- parts with the byte c between them
unfoldable pub parted : ℕ → List (List ℕ) → List ℕ
parted c [] = []
parted c (f ∷ []) = f
parted c (f ∷ g ∷ fs) = f ++ (c ∷ parted c (g ∷ fs))

-- the fields of a line
abbrev pub Fields : Type 0
Fields = List (List ℕ)
