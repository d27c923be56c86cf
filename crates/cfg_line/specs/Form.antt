-- The form of a line ("Text" of paper 01, R-1 of paper 02). Assumes nothing.
use Rattle.std.specs.Prelude.{ℕ, ◌&&◌, List, [], ◌∷◌, leb, Option, Some, None, option_and_then}
use Rattle.word.specs.Word.{choose, comparison_at, set_code, in_code}
use Rattle.cfg.specs.Layout.{max_blocks, max_registers}
use Rattle.delimited.specs.Parts.{Fields, split_at}
use Rattle.cfg_line.specs.declared.Keyword.{Keyword}
use Rattle.cfg_line.specs.declared.Keyword.TheVariants as keyword
use Rattle.cfg_line.specs.declared.Line.{Line}
use Rattle.cfg_line.specs.declared.Line.TheVariants as line
use Rattle.cfg_line.specs.Number.{small_number, literal_of}
use Rattle.cfg_line.specs.Name.{comparison_of, keyword_of}

-- ---- forms, by a line's fields behind the first

-- one field that `read` takes, and on with its value
abbrev pub field : (List ℕ → Option ℕ) → (ℕ → Fields → Option Line) → Fields → Option Line
field read k [] = None
field read k (f ∷ fs) = option_and_then (λ v. k v fs) (read f)

abbrev pub number : (ℕ → Fields → Option Line) → Fields → Option Line
number k fs = field small_number k fs

-- no field more
abbrev pub end : Option Line → Fields → Option Line
end o [] = o
end o (f ∷ fs) = None

-- "on the graph line B is 1 to 64 and R 1 to 16"
abbrev pub graph_line : ℕ → ℕ → Option Line
graph_line b r =
    choose (leb 1 b && leb b max_blocks && leb 1 r && leb r max_registers) (Some (line.Graph b r)) None

abbrev pub instruction : ℕ → ℕ → ℕ → ℕ → Line
instruction k d a b = line.Instruction (record { code = k; d = d; a = a; b = b })

abbrev pub ite_line : ℕ → ℕ → ℕ → ℕ → ℕ → Line
ite_line c a b t f = line.Ite (record { comparison = comparison_at c; a = a; b = b }) t f

-- what a line's fields behind its name make
unfoldable pub form_of : Keyword → Fields → Option Line
unfolding comparison_of literal_of
form_of keyword.Graph fs = number (λ b. number (λ r. end (graph_line b r))) fs
form_of keyword.Block fs = number (λ n. end (Some (line.Block n))) fs
form_of keyword.Goto fs = number (λ t. end (Some (line.Goto t))) fs
form_of keyword.Ite fs =
    field comparison_of (λ c. number (λ a. number (λ b. number (λ t. number (λ f. end (Some (ite_line c a b t f))))))) fs
form_of keyword.Halt fs = end (Some line.Halt) fs
form_of keyword.Set fs = number (λ d. field literal_of (λ a. end (Some (instruction set_code d a 0)))) fs
form_of keyword.In fs = number (λ d. end (Some (instruction in_code d 0 0))) fs
form_of (keyword.Unary k) fs = number (λ d. number (λ a. end (Some (instruction k d a 0)))) fs
form_of (keyword.Binary k) fs = number (λ d. number (λ a. number (λ b. end (Some (instruction k d a b))))) fs

-- by the first field's name
unfoldable pub by_name : Fields → Option Line
unfolding keyword_of form_of
by_name [] = None
by_name (name ∷ fs) = option_and_then (λ k. form_of k fs) (keyword_of name)

-- a line without its line feed; fields are parted by commas
unfoldable pub line_form : List ℕ → Option Line
unfolding split_at by_name
line_form l = by_name (split_at 44 l)
