-- Names in a line ("Text" of paper 01, R-1 of paper 02). Assumes nothing.
use Rattle.std.specs.Prelude.{ℕ, suc, List, [], ◌∷◌, eqb, Option, None, option_map}
use Rattle.word.specs.Word.{choose, arity, set_code, first_code, first_comparison}
use Rattle.runs.specs.Lists.{same, or_else}
use Rattle.delimited.specs.Parts.{bytes}
use Rattle.cfg_line.specs.declared.Keyword.{Keyword}
use Rattle.cfg_line.specs.declared.Keyword.TheVariants.{Graph, Block, Goto, Ite, Halt, Set, In, Unary, Binary}

-- the names of codes 1 to 11
unfoldable pub instruction_names : List (List ℕ)
instruction_names =
    bytes "set"
    ∷ bytes "copy"
    ∷ bytes "add"
    ∷ bytes "sub"
    ∷ bytes "and"
    ∷ bytes "or"
    ∷ bytes "xor"
    ∷ bytes "shl"
    ∷ bytes "shr"
    ∷ bytes "sar"
    ∷ bytes "sx"
    ∷ []

-- the names of codes 12 to 17
unfoldable pub comparison_names : List (List ℕ)
comparison_names = bytes "eq" ∷ bytes "ne" ∷ bytes "lt" ∷ bytes "ge" ∷ bytes "ltu" ∷ bytes "geu" ∷ []

-- the code that a field names, the first name being that of code k
abbrev pub code_in : ℕ → List (List ℕ) → List ℕ → Option ℕ
code_in k [] f = None
code_in k (n ∷ ns) f = or_else (same f n) k (code_in (suc k) ns f)

-- a field as a comparison's code
unfoldable pub comparison_of : List ℕ → Option ℕ
unfolding comparison_names
comparison_of f = code_in first_comparison comparison_names f

-- an instruction: set, one of one operand, or one of two
abbrev pub operation : ℕ → Keyword
operation k = choose (eqb k set_code) Set (choose (eqb (arity k) 1) (Unary k) (Binary k))

-- what a line's first field names
unfoldable pub keyword_of : List ℕ → Option Keyword
unfolding instruction_names arity
keyword_of f =
    or_else (same f (bytes "graph")) Graph
    (or_else (same f (bytes "block")) Block
    (or_else (same f (bytes "goto")) Goto
    (or_else (same f (bytes "ite")) Ite
    (or_else (same f (bytes "halt")) Halt
    (or_else (same f (bytes "in")) In
    (option_map operation (code_in first_code instruction_names f)))))))
