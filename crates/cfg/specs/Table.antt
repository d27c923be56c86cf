-- The graph table ("Graph table" of paper 01): the words of a graph, the graph of some words, and which words are admitted. Assumes nothing.
use Rattle.std.specs.Prelude.{ℕ, ◌+◌, ◌*◌, Bool, ◌&&◌, List, [], ◌∷◌, ◌++◌, map, length, get_or, take, eqb}
use Rattle.word.specs.Word.{choose, comparison_at, comparison_code}
use Rattle.runs.specs.Lists.{up_from, same, padded, concat_map}
use Rattle.cfg.specs.declared.Instruction.{Instruction}
use Rattle.cfg.specs.declared.Ending.{Ending}
use Rattle.cfg.specs.declared.Ending.TheVariants.{Goto, Ite, Halt}
use Rattle.cfg.specs.declared.Block.{Block}
use Rattle.cfg.specs.Layout.{max_instructions, block_count_offset, register_count_offset, d_offset, a_offset, b_offset, instruction_words, goto_kind, ite_kind, halt_kind, comparison_offset, ending_a_offset, ending_b_offset, true_offset, false_offset, code_offset, ending_offset, all_block_words, graph_words, block_offset}
use Rattle.cfg.specs.Graph.{CFG, valid_graph}

-- ---- words of a graph

abbrev pub instruction_words_of : Instruction → List ℕ
instruction_words_of i = i.code ∷ i.d ∷ i.a ∷ i.b ∷ []

-- kind, comparison, a, b, t, f
abbrev pub ending_words_of : Ending → List ℕ
ending_words_of (Goto t) = goto_kind ∷ 0 ∷ 0 ∷ 0 ∷ t ∷ 0 ∷ []
ending_words_of (Ite c t f) = ite_kind ∷ comparison_code c.comparison ∷ c.a ∷ c.b ∷ t ∷ f ∷ []
ending_words_of Halt = halt_kind ∷ 0 ∷ 0 ∷ 0 ∷ 0 ∷ 0 ∷ []

-- the count, eight instructions, the ending and one zero
unfoldable pub block_words_of : Block → List ℕ
unfolding concat_map
block_words_of b = b.count ∷ (concat_map instruction_words_of b.instructions ++ (ending_words_of b.ending ++ (0 ∷ [])))

unfoldable pub graph_table_of : CFG → List ℕ
unfolding concat_map block_words_of
graph_table_of g = length g.blocks ∷ g.registers ∷ padded all_block_words 0 (concat_map block_words_of g.blocks)

-- ---- the graph of a table; what a word that no graph has stands for is of no matter

-- B and R
abbrev pub block_count : List ℕ → ℕ
block_count t = get_or t block_count_offset 0

abbrev pub graph_register_count : List ℕ → ℕ
graph_register_count t = get_or t register_count_offset 0

-- instruction i of the block whose words begin at o
unfoldable pub instruction_at : List ℕ → ℕ → ℕ → Instruction
instruction_at t o i =
    let p = o + code_offset + instruction_words * i in
    record { code = get_or t p 0; d = get_or t (p + d_offset) 0; a = get_or t (p + a_offset) 0; b = get_or t (p + b_offset) 0 }

-- the ending whose words begin at o; goto's target stands in t
unfoldable pub ending_at : List ℕ → ℕ → Ending
ending_at t o =
    choose (eqb (get_or t o 0) goto_kind) (Goto (get_or t (o + true_offset) 0))
    (choose (eqb (get_or t o 0) ite_kind)
    (Ite
    (record { comparison = comparison_at (get_or t (o + comparison_offset) 0); a = get_or t (o + ending_a_offset) 0; b = get_or t (o + ending_b_offset) 0 })
    (get_or t (o + true_offset) 0)
    (get_or t (o + false_offset) 0))
    Halt)

unfoldable pub block_at : List ℕ → ℕ → Block
unfolding instruction_at ending_at
block_at t n =
    let o = block_offset n in
    record {
      count = get_or t o 0;
      instructions = map (instruction_at t o) (up_from 0 max_instructions);
      ending = ending_at t (o + ending_offset);
    }

unfoldable pub graph_of : List ℕ → CFG
unfolding block_at
graph_of t = record { registers = graph_register_count t; blocks = map (block_at t) (up_from 0 (block_count t)) }

-- ---- admitted tables: the first words are those of a valid graph
-- (that these are the tables that reading makes is proved beside reading)
unfoldable pub admitted_graph : List ℕ → Bool
unfolding graph_of graph_table_of valid_graph
admitted_graph t = valid_graph (graph_of t) && same (graph_table_of (graph_of t)) (take graph_words t)
