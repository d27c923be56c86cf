-- A graph's text, and "Write graph table as text" of paper 01: its answer and the bytes it leaves, on all inputs. Assumes nothing.
use Rattle.std.specs.Prelude.{ℕ, suc, ◌-◌, ◌^◌, not, List, [], ◌∷◌, ◌++◌, map, length, get_or, take, drop, eqb, ltb, Result, Ok, Err}
use Rattle.refusal.specs.declared.Refusal.TheVariants.{ShortBuffer, BadGraph, ShortOutput}
use Rattle.refusal.specs.Refusal.{number}
use Rattle.word.specs.declared.Comparison.{Comparison}
use Rattle.word.specs.Word.{choose, arity, comparison_code, set_code, in_code, first_comparison}
use Rattle.runs.specs.Lists.{concat_map}
use Rattle.decimal.specs.Decimal.{decimal_of}
use Rattle.cfg.specs.Layout.{graph_words}
use Rattle.cfg.specs.Graph.{CFG, instructions_of}
use Rattle.cfg.specs.Table.{graph_of, admitted_graph}
use Rattle.cfg.specs.declared.Instruction.{Instruction}
use Rattle.cfg.specs.declared.Ending.{Ending}
use Rattle.cfg.specs.declared.Ending.TheVariants as ending
use Rattle.cfg.specs.declared.Block.{Block}
use Rattle.cfg_line.specs.declared.Line.{Line}
use Rattle.cfg_line.specs.declared.Line.TheVariants as line
use Rattle.delimited.specs.Parts.{bytes, parted}
use Rattle.cfg_line.specs.Name.{instruction_names, comparison_names}
use Rattle.cfg_write.specs.declared.WriteError.{WriteError}

-- ---- the lines of a graph: the graph line, then for each block its block line, its instructions and its ending

abbrev pub ending_line : Ending → Line
ending_line (ending.Goto t) = line.Goto t
ending_line (ending.Ite c t f) = line.Ite c t f
ending_line ending.Halt = line.Halt

-- of block n
abbrev pub block_lines : ℕ → Block → List Line
block_lines n b = line.Block n ∷ (map line.Instruction (instructions_of b) ++ (ending_line b.ending ∷ []))

-- of the blocks from number n on
unfoldable pub lines_from : ℕ → List Block → List Line
lines_from n [] = []
lines_from n (b ∷ bs) = block_lines n b ++ lines_from (suc n) bs

abbrev pub lines_of : CFG → List Line
lines_of g = line.Graph (length g.blocks) g.registers ∷ lines_from 0 g.blocks

-- ---- the bytes of a line

-- codes 1 to 11, and 20, have a name
unfoldable pub instruction_name : ℕ → List ℕ
unfolding instruction_names
instruction_name k = choose (eqb k in_code) (bytes "in") (get_or ([] ∷ instruction_names) k [])

unfoldable pub comparison_name : Comparison → List ℕ
unfolding comparison_names
comparison_name c = get_or comparison_names (comparison_code c - first_comparison) []

-- a literal by its word, which is the value modulo 2 ^ 32: from 2 ^ 31 up the value is below zero
unfoldable pub literal_text : ℕ → List ℕ
unfolding decimal_of
literal_text w = choose (ltb w (2 ^ 31)) (decimal_of w) (45 ∷ decimal_of (2 ^ 32 - w))

-- behind name and d: a set's literal, else as many of a and b as the code reads
unfoldable pub operands_of : Instruction → List (List ℕ)
unfolding literal_text decimal_of arity
operands_of i =
    choose (eqb i.code set_code) (literal_text i.a ∷ []) (take (arity i.code) (decimal_of i.a ∷ decimal_of i.b ∷ []))

unfoldable pub fields_of : Line → List (List ℕ)
unfolding decimal_of instruction_name comparison_name operands_of
fields_of (line.Graph b r) = bytes "graph" ∷ decimal_of b ∷ decimal_of r ∷ []
fields_of (line.Block n) = bytes "block" ∷ decimal_of n ∷ []
fields_of (line.Instruction i) = instruction_name i.code ∷ decimal_of i.d ∷ operands_of i
fields_of (line.Goto t) = bytes "goto" ∷ decimal_of t ∷ []
fields_of (line.Ite c t f) =
    bytes "ite" ∷ comparison_name c.comparison ∷ decimal_of c.a ∷ decimal_of c.b ∷ decimal_of t ∷ decimal_of f ∷ []
fields_of line.Halt = bytes "halt" ∷ []

-- fields parted by commas, then a line feed
unfoldable pub line_text : Line → List ℕ
unfolding parted fields_of
line_text l = parted 44 (fields_of l) ++ (10 ∷ [])

unfoldable pub text_of : CFG → List ℕ
unfolding concat_map line_text lines_from
text_of g = concat_map line_text (lines_of g)

-- ---- the operation

-- a table that is short, one that reading does not make, or an output that is short, with the length needed
unfoldable pub write_answer : List ℕ → List ℕ → Result ℕ WriteError
unfolding admitted_graph text_of graph_of
write_answer table out =
    let needed = length (text_of (graph_of table)) in
    choose (ltb (length table) graph_words) (Err (record { refusal = ShortBuffer; length = 0 }))
    (choose (not (admitted_graph table)) (Err (record { refusal = BadGraph; length = 0 }))
    (choose (ltb (length out) needed) (Err (record { refusal = ShortOutput; length = needed })) (Ok needed)))

-- bytes past the text stay; on a refusal all do
abbrev pub bytes_after : Result ℕ WriteError → List ℕ → List ℕ → List ℕ
bytes_after (Err e) text out = out
bytes_after (Ok n) text out = text ++ drop n out

unfoldable pub write_bytes : List ℕ → List ℕ → List ℕ
unfolding write_answer text_of graph_of
write_bytes table out = bytes_after (write_answer table out) (text_of (graph_of table)) out

-- paper 01's fields of an answer: number and length
abbrev pub write_number : Result ℕ WriteError → ℕ
write_number (Err e) = number e.refusal
write_number (Ok n) = 0

abbrev pub write_length : Result ℕ WriteError → ℕ
write_length (Err e) = e.length
write_length (Ok n) = n
