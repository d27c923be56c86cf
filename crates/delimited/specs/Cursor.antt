-- A field and a line at the front of a text: what the steps of reading a line hand on. Assumes nothing.
use Rattle.std.specs.Prelude.{ℕ, ◌+◌, Bool, ◌&&◌, ◌||◌, List, [], ◌∷◌, length, ◌==◌, nat_le, Option, Some, None, option_map}
use Rattle.word.specs.Word.{choose}
use Rattle.runs.specs.Lists.{every}
use Rattle.delimited.specs.declared.Field.{Field}
use Rattle.delimited.specs.Number.{digit, value_from}
use Rattle.delimited.specs.Parts.{Fields, split_at}

-- a comma or a line feed ends a field
abbrev pub stops : ℕ → Bool
stops b = b == 44 || b == 10

-- the field at the front, and the byte that ends it: 0 where the text ends first
unfoldable pub front_field : List ℕ → List ℕ
front_field [] = []
front_field (x ∷ xs) = choose (stops x) [] (x ∷ front_field xs)

unfoldable pub stop_of : List ℕ → ℕ
stop_of [] = 0
stop_of (x ∷ xs) = choose (stops x) x (stop_of xs)

-- ---- fields; the text stands at `at`

-- a field of the value v, behind which the text goes on at n
abbrev pub found : ℕ → ℕ → Option Field
found v n = Some record { value = v; next = n }

-- such a field of a value that there may be
abbrev pub valued : Option ℕ → ℕ → Option Field
valued value n = option_map (λ v. record { value = v; next = n }) value

-- the field's value, where the byte `end` ends it
unfoldable pub field_at : (List ℕ → Option ℕ) → ℕ → ℕ → List ℕ → Option Field
unfolding front_field stop_of
field_at read end at s = choose (stop_of s == end) (valued (read (front_field s)) (at + length (front_field s) + 1)) None

-- digits behind the value v, or none
unfoldable pub digits_at_most : ℕ → ℕ → List ℕ → Option ℕ
unfolding value_from
digits_at_most most v f = choose (every digit f && nat_le (value_from v f) most) (Some (value_from v f)) None

-- ---- lines

-- the first of a text's lines, as `form` takes its fields and where the next line begins; `bad` without a line feed
abbrev pub first_line : {X : Type 0} → X → (Fields → ℕ → X) → ℕ → List (List ℕ) → X
first_line bad form at [] = bad
first_line bad form at (l ∷ []) = bad
first_line bad form at (l ∷ m ∷ ms) = form (split_at 44 l) (at + length l + 1)

unfoldable pub front_line : {X : Type 0} → X → (Fields → ℕ → X) → ℕ → List ℕ → X
unfolding split_at
front_line bad form at s = first_line bad form at (split_at 10 s)
