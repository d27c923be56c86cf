-- R-7 of paper 02: the arrivals that synthesis writes, the blocks that runs count, and which words of blocks are refused, a row a case. Assumes nothing.
use Rattle.std.specs.Prelude.{ℕ, ◌+◌, Bool, ◌&&◌, List, [], ◌∷◌, ◌++◌, length, get_or, take, drop, replicate, set, eqb}
use Rattle.word.specs.Word.{eval_of}
use Rattle.runs.specs.Lists.{same, every}
use Rattle.runs.specs.Operations.{answered, total_of}
use Rattle.cfg.specs.Graph.{CFG, run_block}
use Rattle.cfg.specs.Run.{graph_refusal, graph_answer}
use Rattle.cfg.specs.Table.{graph_table_of, graph_of, admitted_graph}
use Rattle.fsmd.specs.Layout.{block_states_offset, arrivals_offset}
use Rattle.fsmd.specs.Machine.{clock, blocks_run}
use Rattle.fsmd.specs.Table.{machine_table_of, machine_of, admitted_machine}
use Rattle.fsmd.specs.Run.{machine_refusal, machine_answer, machine_blocks, machine_words_refusal, machine_words_answer, machine_words_blocks}
use Rattle.bounds.specs.Operation.{bounds_answer, bounds_number}
use Rattle.grouping.specs.Grouping.{groups}
use Rattle.runs.specs.Runs.{run_count}
use Rattle.synthesis.specs.Synthesis.{machine}
use Rattle.touching.specs.Touching.{touches_answer, first_touching_answer, touches_number, first_number}
use Rattle.worked_examples.specs.Graphs.{P7, P9, P11, P12, Rates, Meet, Once}
use Rattle.worked_examples.specs.Rows.{Row, row, refused_with, regs}
use Rattle.worked_examples.specs.Admission.{by_hand, state}

abbrev made : CFG → List ℕ
made g = machine_table_of (machine g)

-- the words of the arrivals
abbrev arrival_words : CFG → List ℕ
arrival_words g = drop arrivals_offset (made g)

-- the blocks of so many cycles from a state
abbrev counted : List ℕ → ℕ → ℕ → ℕ → ℕ → ℕ
counted t a b start k = machine_blocks t (regs a b) start k

-- so many cycles from state 0 count what a run of the graph counts that has budget enough
abbrev alike : CFG → ℕ → ℕ → ℕ → Bool
alike g a b k = eqb (counted (made g) a b 0 k) (run_count (graph_answer (graph_table_of g) (regs a b) 0 99))

-- ---- two states by hand, with R = 1: a set of 5 and one of 0, and a set of 7. Both lead to state 0, and have no blocks

abbrev bare : List ℕ
bare = by_hand 2 1 (state 0 2 0 [] ++ state 2 1 0 []) (1 ∷ 5 ∷ 0 ∷ 0 ∷ 1 ∷ 0 ∷ 0 ∷ 0 ∷ 1 ∷ 7 ∷ [])

-- block b in state k, with the reference x
abbrev with : ℕ → ℕ → ℕ → List ℕ → List ℕ
with b k x t = set (set t (block_states_offset + b) k) (arrivals_offset + b) x

-- the cycles 1, 2 and 3 from a state
abbrev counts : List ℕ → ℕ → List ℕ → Bool
counts t start ns = same (counted t 0 0 start 1 ∷ counted t 0 0 start 2 ∷ counted t 0 0 start 3 ∷ []) ns

-- a table is refused with 10 by both runs, which count nothing, by both questions and by bounds
abbrev ten : List ℕ → Bool
ten t =
    refused_with 10 (machine_answer t (regs 0 7) 0 1) && refused_with 10 (machine_words_answer t (regs 0 7) 0 1 (5 ∷ []))
    && eqb (counted t 0 7 0 1) 0 && eqb (machine_words_blocks t (regs 0 7) 0 1 (5 ∷ [])) 0
    && eqb (touches_number (touches_answer t 0 0)) 10 && eqb (first_number (first_touching_answer t 0)) 10
    && eqb (bounds_number (bounds_answer t (regs 0 7) (regs 0 7) 0)) 10

unfoldable pub block_rows : List Row
unfolding eval_of groups machine graph_refusal graph_of run_block graph_table_of admitted_graph answered total_of machine_refusal machine_words_refusal machine_of machine_table_of admitted_machine clock blocks_run touches_answer first_touching_answer bounds_answer P7 P9 P11 P12 Rates Meet Once
block_rows =
    -- what synthesis writes
    row "13,762 words" (eqb (length (made P7)) 13762)
    ∷ row "P7 arrivals: the starters' sets, the ways of both tests" (same (take 6 (arrival_words P7)) (16 ∷ 16 ∷ 18 ∷ 21 ∷ 22 ∷ 19 ∷ []))
    ∷ row "P7 where they stand: 13,698 to 13,703" (eqb (get_or (made P7) 13698 0) 16 && eqb (get_or (made P7) 13703 0) 19)
    ∷ row "P7 none of the other blocks has one" (same (drop 6 (arrival_words P7)) (replicate 58 0))
    ∷ row "a chain of gotos shares one, and an unreachable block has none" (same (take 4 (arrival_words P12)) (16 ∷ 16 ∷ 0 ∷ 0 ∷ []))
    ∷ row "where two ways meet: their or" (same (take 4 (arrival_words Meet)) (16 ∷ 18 ∷ 19 ∷ 20 ∷ []))
    -- what runs count
    ∷ row "P7 by cycles: 1, 4, 7, 9" (same (counted (made P7) 12 18 0 1 ∷ counted (made P7) 12 18 0 2 ∷ counted (made P7) 12 18 0 3 ∷ counted (made P7) 12 18 0 4 ∷ []) (1 ∷ 4 ∷ 7 ∷ 9 ∷ []))
    ∷ row "P7 the halting cycle counts, and none after it" (eqb (counted (made P7) 12 18 0 1000) 9 && eqb (counted (made P7) 7 7 1 1000) 2)
    ∷ row "P7 from state 1: 3, 6, 8" (same (counted (made P7) 12 18 1 1 ∷ counted (made P7) 12 18 1 2 ∷ counted (made P7) 12 18 1 3 ∷ []) (3 ∷ 6 ∷ 8 ∷ []))
    ∷ row "no cycle, no block" (eqb (counted (made P7) 12 18 0 0) 0)
    ∷ row "as many as the graph runs" (alike P7 12 18 4 && alike P7 7 7 2 && alike P9 1 2 9 && alike Meet 1 2 1 && alike Meet 2 1 1 && alike Once 9 2 9)
    ∷ row "either way of two, one block" (eqb (counted (made Meet) 1 2 0 1) 3 && eqb (counted (made Meet) 2 1 0 1) 3)
    ∷ row "a chain counts each of its blocks" (eqb (counted (made P12) 0 0 0 1) 2)
    ∷ row "one block for ever" (eqb (counted (made P11) 0 0 0 1) 1 && eqb (counted (made P11) 0 0 0 20) 20)
    ∷ row "with words: two a cycle, spent and dry" (eqb (machine_words_blocks (made Rates) (regs 0 0) 0 2 (5 ∷ 6 ∷ 7 ∷ [])) 4 && eqb (machine_words_blocks (made Rates) (regs 0 0) 0 9 (5 ∷ 6 ∷ 7 ∷ [])) 6)
    ∷ row "dry at once" (eqb (machine_words_blocks (made Rates) (regs 0 0) 0 9 []) 0)
    ∷ row "refused: 9, 12" (eqb (counted (made P7) 12 18 2 9) 0 && eqb (machine_words_blocks (made P7) (regs 12 18) 2 9 (5 ∷ [])) 0 && eqb (counted (made Rates) 0 0 0 9) 0)
    -- tables by hand
    ∷ row "no blocks" (counts bare 0 (0 ∷ 0 ∷ 0 ∷ []))
    ∷ row "an arrival of 5 counts once" (counts (with 0 0 16 bare) 0 (1 ∷ 2 ∷ 3 ∷ []))
    ∷ row "an arrival of 0 does not" (counts (with 0 0 17 bare) 0 (0 ∷ 0 ∷ 0 ∷ []))
    ∷ row "two blocks that share one" (counts (with 63 0 16 (with 0 0 16 bare)) 0 (2 ∷ 4 ∷ 6 ∷ []))
    ∷ row "one that is arrived at and one that is not" (counts (with 1 0 17 (with 0 0 16 bare)) 0 (1 ∷ 2 ∷ 3 ∷ []))
    ∷ row "a block of another state" (counts (with 0 1 16 bare) 0 (0 ∷ 0 ∷ 0 ∷ []) && counts (with 0 1 16 bare) 1 (1 ∷ 1 ∷ 1 ∷ []))
    ∷ row "one of each" (counts (with 5 1 16 (with 2 0 16 bare)) 1 (1 ∷ 2 ∷ 3 ∷ []))
    -- block states: below N, or 255
    ∷ row "N - 1" (refused_with 9 (machine_answer (with 0 1 16 bare) (regs 0 7) 2 1))
    ∷ row "N: 10" (ten (with 0 2 16 bare))
    ∷ row "64, 254, 256 and 4294967295: 10" (every (λ k. ten (with 0 k 16 bare)) (64 ∷ 254 ∷ 256 ∷ 4294967295 ∷ []))
    ∷ row "with no reference either: 10" (every (λ k. ten (with 0 k 0 bare)) (2 ∷ 254 ∷ 256 ∷ []))
    ∷ row "the last block's state is read: 10" (ten (with 63 2 16 bare))
    -- an absent block's reference: 0
    ∷ row "absent, with a reference: 10" (every (λ x. ten (with 0 255 x bare)) (1 ∷ 15 ∷ 16 ∷ 4294967295 ∷ []))
    ∷ row "the last block's reference is read: 10" (ten (with 63 255 16 bare))
    -- a present block's: a wire of its state
    ∷ row "a register: 10" (every (λ x. ten (with 0 0 x bare)) (0 ∷ 1 ∷ 15 ∷ []))
    ∷ row "the last wire" (counts (with 0 0 17 bare) 1 (0 ∷ 0 ∷ 0 ∷ []))
    ∷ row "one past it: 10" (ten (with 0 0 18 bare))
    ∷ row "one that another state has: 10" (ten (with 0 1 17 bare))
    ∷ row "4294967295: 10" (ten (with 0 0 4294967295 bare))
    ∷ row "in a state without wires: 10" (ten (with 0 0 16 (by_hand 1 1 (state 0 0 0 []) [])))
    -- short tables
    ∷ row "7: 13,761 words, and the 13,698 of tables before" (every (λ n. refused_with 7 (machine_answer (take n (made P7)) (regs 12 18) 0 9) && eqb (counted (take n (made P7)) 12 18 0 9) 0) (13761 ∷ 13698 ∷ []))
    ∷ []
