-- A name and a graph's line at the front of a text: what the steps of reading a line hand on. Assumes nothing.
use Rattle.std.specs.Prelude.{ℕ, ◌+◌, ◌*◌, ◌^◌, Bool, ◌&&◌, List, [], ◌∷◌, length, ltb, Option, Some, None, option_map}
use Rattle.word.specs.Word.{choose, comparison_at}
use Rattle.delimited.specs.declared.Field.{Field}
use Rattle.delimited.specs.Parts.{Fields}
use Rattle.delimited.specs.Cursor.{stops, front_field, stop_of, field_at, front_line}
use Rattle.cfg_line.specs.declared.Name.{Name}
use Rattle.cfg_line.specs.declared.Comparing.{Comparing}
use Rattle.cfg_line.specs.declared.Line.{Line}
use Rattle.cfg_line.specs.declared.Parsed.{Parsed}
use Rattle.cfg_line.specs.Name.{comparison_of}

-- ---- names; the text stands at `at`

abbrev pub byte : ℕ → Bool
byte b = ltb b 256

-- bytes behind k, as digits to base 256
unfoldable pub packed : ℕ → List ℕ → ℕ
packed k [] = k
packed k (b ∷ bs) = packed (k * 256 + b) bs

unfoldable pub name_at : ℕ → List ℕ → Option Name
unfolding front_field stop_of packed
name_at at s =
    choose (stops (stop_of s) && ltb (packed 1 (front_field s)) (2 ^ 48))
    (Some record { key = packed 1 (front_field s); next = at + length (front_field s) + 1; stop = stop_of s })
    None

-- the comparison whose code a field gave
abbrev pub compared : Option Field → Option Comparing
compared o = option_map (λ (f : Field). record { comparison = comparison_at f.value; next = f.next }) o

unfoldable pub comparing_at : ℕ → List ℕ → Option Comparing
unfolding field_at comparison_of
comparing_at at s = compared (field_at comparison_of 44 at s)

-- ---- lines

-- a line and where the next begins
abbrev pub parsed : Option Line → ℕ → Option Parsed
parsed o next = option_map (λ (l : Line). record { line = l; next = next }) o

-- the first line of a text as `form` takes its fields; without a line feed it has no form
unfoldable pub parsed_at : (Fields → Option Line) → ℕ → List ℕ → Option Parsed
unfolding front_line
parsed_at form at s = front_line None (λ fs. parsed (form fs)) at s
