-- The worked examples P1 to P13, answers of R-1, placements of R-3 and captures of R-12 as computed tests; with those of the other files one table, and one statement of all. Assumes nothing.
use Rattle.std.specs.Prelude.{ℕ, ◌≤◌, Bool, true, false, ◌&&◌, List, [], ◌∷◌, ◌++◌, map, ◌≡◌, length, replicate, T, eqb, Ok}
use Rattle.word.specs.Word.{eval_of}
use Rattle.runs.specs.Lists.{same, every, concat_map}
use Rattle.runs.specs.Runs.{start_at, unread, answer}
use Rattle.runs.specs.Operations.{answered, registers_left}
use Rattle.runs.specs.declared.RunEnd.TheVariants.{Spent}
use Rattle.cfg.specs.Layout.{graph_words}
use Rattle.cfg.specs.Graph.{CFG, run_block, graph_runner}
use Rattle.cfg.specs.Table.{graph_table_of, graph_of, admitted_graph}
use Rattle.cfg.specs.Run.{graph_refusal, graph_answer, graph_registers, graph_words_refusal, graph_words_answer, graph_words_registers}
use Rattle.capture.specs.Capture.{compare_captures}
use Rattle.cfg_text.specs.Read.{read_answer, read_words}
use Rattle.fsmd.specs.Layout.{max_registers, machine_words}
use Rattle.fsmd.specs.Machine.{State, clock, machine_runner}
use Rattle.fsmd.specs.Table.{machine_table_of, machine_of, admitted_machine}
use Rattle.fsmd.specs.Run.{machine_refusal, machine_answer, machine_registers, machine_words_refusal, machine_words_answer, machine_words_registers}
use Rattle.grouping.specs.Grouping.{groups}
use Rattle.placement.specs.Counts.{lowered, Choice, BlockEdge, blocks_of, choices_of, lowerings}
use Rattle.synthesis.specs.Synthesis.{machine, synthesis_words}
use Rattle.worked_examples.specs.Graphs.{P7, P9, P10, P11, P12, Figure5, Rates, Twins}
use Rattle.worked_examples.specs.Rows.{Row, row, read_result, fields, regs, agree, differ, refused}
use Rattle.worked_examples.specs.Texts.{lines, goto_two, goto_one, eight, nine, p7_text, p11_text, recorded, sixteen}
use Rattle.worked_examples.specs.ThroughTables.{through_tables}
use Rattle.worked_examples.specs.Orders.{orders}
use Rattle.worked_examples.specs.Admission.{admission}
use Rattle.worked_examples.specs.Kept.{kept}
use Rattle.worked_examples.specs.RunsAhead.{ahead}
use Rattle.worked_examples.specs.Flags.{flags}
use Rattle.worked_examples.specs.Touches.{touch_rows}
use Rattle.worked_examples.specs.Ranges.{range_rows}
use Rattle.worked_examples.specs.Shifts.{shift_rows}
use Rattle.worked_examples.specs.Blocks.{block_rows}

-- wires of each state
abbrev wire_counts : CFG → List ℕ
wire_counts g = map (λ (q : State). length q.wires) (machine g).states

-- equal lists of lists
abbrev alike : List (List ℕ) → List (List ℕ) → Bool
alike [] [] = true
alike (x ∷ xs) (y ∷ ys) = same x y && alike xs ys
alike [] (y ∷ ys) = false
alike (x ∷ xs) [] = false

-- placing state k by counts: the order, the unplaced blocks' counts before each choice, and each lowering's source, edge and target
abbrev placed : CFG → ℕ → List ℕ
placed g k = blocks_of (choices_of g (groups g) k)

abbrev counts_before : CFG → ℕ → List (List ℕ)
counts_before g k = map (λ (c : Choice). map c.counts c.unplaced) (choices_of g (groups g) k)

abbrev lowered_by : CFG → ℕ → List ℕ
lowered_by g k = concat_map (λ (e : BlockEdge). e.source ∷ e.way ∷ e.target ∷ []) (lowerings g (groups g) k)

unfoldable pub rows : List Row
unfolding compare_captures recorded sixteen choices_of lowered lowerings concat_map Twins eval_of groups machine answered registers_left graph_refusal graph_words_refusal graph_of run_block machine_refusal machine_words_refusal machine_of clock graph_table_of machine_table_of admitted_graph admitted_machine read_answer read_words P7 P9 P10 P11 P12 Figure5 Rates goto_two goto_one eight nine p7_text
rows =
    row "P1 the empty text: 3, line 1" (same (read_result []) (3 ∷ 1 ∷ []))
    ∷ row "P2 graph,65,1: 2, line 1" (same (read_result (lines ("graph,65,1" ∷ []))) (2 ∷ 1 ∷ []))
    ∷ row "P2 graph,64,1: 3, line 2" (same (read_result (lines ("graph,64,1" ∷ []))) (3 ∷ 2 ∷ []))
    ∷ row "P3 goto,2 with B = 2: 5" (same (read_result goto_two) (5 ∷ 3 ∷ []))
    ∷ row "P3 goto,1 passes" (same (read_result goto_one) (0 ∷ 0 ∷ []))
    ∷ row "P4 sx of 32767" (eqb (eval_of 0 11 32767 0 0) 32767)
    ∷ row "P4 sx of 32768" (eqb (eval_of 0 11 32768 0 0) 4294934528)
    ∷ row "P5 -200 lt 0" (eqb (eval_of 0 14 4294967096 0 0) 1)
    ∷ row "P5 4294967096 ltu 0" (eqb (eval_of 0 16 4294967096 0 0) 0)
    ∷ row "P6 0 sub 1" (eqb (eval_of 0 4 0 1 0) 4294967295)
    ∷ row "P7 its text is read" (same (read_words p7_text (replicate graph_words 0)) (graph_table_of P7))
    ∷ row "P7 starters" (same (groups P7).starters (0 ∷ 1 ∷ []))
    ∷ row "P7 blocks by state" (same (groups P7).states (0 ∷ 1 ∷ 1 ∷ 1 ∷ 1 ∷ 1 ∷ []))
    ∷ row "P7 wires by state" (same (wire_counts P7) (2 ∷ 18 ∷ []))
    ∷ row "P7 words of the graph" (eqb (length (graph_table_of P7)) 2562)
    ∷ row "P7 words of the machine" (eqb (length (machine_table_of (machine P7))) 13762)
    ∷ row "P7 its tables are admitted" (admitted_graph (graph_table_of P7) && admitted_machine (machine_table_of (machine P7)))
    ∷ row "P8 blocks" (same (fields (graph_answer (graph_table_of P7) (regs 12 18) 0 1000)) (0 ∷ 1 ∷ 9 ∷ 255 ∷ 0 ∷ []))
    ∷ row "P8 registers of the graph" (same (graph_registers (graph_table_of P7) (regs 12 18) 0 1000) (regs 6 6))
    ∷ row "P8 cycles" (same (fields (machine_answer (machine_table_of (machine P7)) (regs 12 18) 0 1000)) (0 ∷ 1 ∷ 4 ∷ 255 ∷ 0 ∷ []))
    ∷ row "P8 registers of the machine" (same (machine_registers (machine_table_of (machine P7)) (regs 12 18) 0 1000) (regs 6 6))
    ∷ row "P9 starters" (same (groups P9).starters (0 ∷ 1 ∷ 3 ∷ 4 ∷ []))
    ∷ row "P10 starters" (same (groups P10).starters (0 ∷ 1 ∷ 2 ∷ []))
    ∷ row "P11 one state" (same (groups P11).starters (0 ∷ []))
    ∷ row "P12 one state" (same (groups P12).starters (0 ∷ []))
    ∷ row "P12 block 2 has none" (same (groups P12).states (0 ∷ 0 ∷ 255 ∷ []))
    ∷ row "P13 budget 0, the graph" (same (fields (graph_answer (graph_table_of P7) (regs 12 18) 3 0)) (0 ∷ 0 ∷ 0 ∷ 3 ∷ 0 ∷ []))
    ∷ row "P13 budget 0, the machine" (same (fields (machine_answer (machine_table_of (machine P7)) (regs 12 18) 1 0)) (0 ∷ 0 ∷ 0 ∷ 1 ∷ 0 ∷ []))
    -- run only
    ∷ row "eight instructions" (same (read_result eight) (0 ∷ 0 ∷ []))
    ∷ row "a ninth instruction: 3" (same (read_result nine) (3 ∷ 11 ∷ []))
    ∷ row "P7 on 0, 5 is spent" (same (fields (graph_answer (graph_table_of P7) (regs 0 5) 0 300)) (0 ∷ 0 ∷ 300 ∷ 3 ∷ 0 ∷ []))
    -- known mistakes: P9 does not enter block 4 mid-state; an unreachable predecessor is no join; a wire reads the start of the cycle;
    -- an edge back to the own starter leaves the cycle
    ∷ row "P9 block 4 starts a state" (same (groups P9).states (0 ∷ 1 ∷ 0 ∷ 2 ∷ 3 ∷ []))
    ∷ row "P12 no join" (same (wire_counts P12) (2 ∷ []))
    ∷ row "P11 its edge is an exit" (same (wire_counts P11) (2 ∷ []))
    -- figure 5 of the published procedure
    ∷ row "figure 5 starters" (same (groups Figure5).starters (0 ∷ 3 ∷ 1 ∷ 5 ∷ []))
    ∷ row "figure 5 states" (same (groups Figure5).states (0 ∷ 2 ∷ 2 ∷ 1 ∷ 1 ∷ 3 ∷ 3 ∷ []))
    -- R-1: the text
    ∷ row "in,0 is read" (same (read_result (lines ("graph,1,1" ∷ "block,0" ∷ "in,0" ∷ "halt" ∷ []))) (0 ∷ 0 ∷ []))
    ∷ row "in,1 with R = 1: 4" (same (read_result (lines ("graph,1,1" ∷ "block,0" ∷ "in,1" ∷ "halt" ∷ []))) (4 ∷ 3 ∷ []))
    ∷ row "in,0,0: 2" (same (read_result (lines ("graph,1,1" ∷ "block,0" ∷ "in,0,0" ∷ "halt" ∷ []))) (2 ∷ 3 ∷ []))
    -- R-1: runs with words
    ∷ row "in: the graph is spent before it is dry" (same (fields (graph_words_answer (graph_table_of Rates) (regs 0 0) 0 4 (5 ∷ 7 ∷ []) (0 ∷ []))) (0 ∷ 0 ∷ 4 ∷ 0 ∷ 0 ∷ []))
    ∷ row "in: the graph is dry" (same (fields (graph_words_answer (graph_table_of Rates) (regs 0 0) 0 9 (5 ∷ 7 ∷ []) (0 ∷ []))) (0 ∷ 2 ∷ 4 ∷ 0 ∷ 0 ∷ []))
    ∷ row "in: registers of the graph" (same (graph_words_registers (graph_table_of Rates) (regs 0 0) 0 9 (5 ∷ 7 ∷ []) (0 ∷ [])) (regs 7 14))
    ∷ row "in: every block an arrival" (same (graph_words_registers (graph_table_of Rates) (regs 0 0) 0 2 (5 ∷ 7 ∷ []) (1 ∷ 0 ∷ [])) (regs 5 12))
    ∷ row "in: the machine is spent before it is dry" (same (fields (machine_words_answer (machine_table_of (machine Rates)) (regs 0 0) 0 2 (5 ∷ 7 ∷ []))) (0 ∷ 0 ∷ 2 ∷ 0 ∷ 0 ∷ []))
    ∷ row "in: the machine is dry" (same (fields (machine_words_answer (machine_table_of (machine Rates)) (regs 0 0) 0 3 (5 ∷ 7 ∷ []))) (0 ∷ 2 ∷ 2 ∷ 0 ∷ 0 ∷ []))
    ∷ row "in: registers of the machine" (same (machine_words_registers (machine_table_of (machine Rates)) (regs 0 0) 0 3 (5 ∷ 7 ∷ [])) (regs 7 14))
    ∷ row "no words: dry at once" (same (fields (graph_words_answer (graph_table_of Rates) (regs 0 0) 0 1 [] (0 ∷ []))) (0 ∷ 2 ∷ 0 ∷ 0 ∷ 0 ∷ []))
    ∷ row "no words, no budget: spent" (same (fields (graph_words_answer (graph_table_of Rates) (regs 0 0) 0 0 [] (0 ∷ []))) (0 ∷ 0 ∷ 0 ∷ 0 ∷ 0 ∷ []))
    ∷ row "dry at a word that nothing reads" (same (fields (machine_words_answer (machine_table_of (machine P7)) (regs 12 18) 0 9 (1 ∷ 1 ∷ []))) (0 ∷ 2 ∷ 2 ∷ 1 ∷ 0 ∷ []))
    ∷ row "halted on the last unit" (same (fields (machine_words_answer (machine_table_of (machine P7)) (regs 12 18) 0 4 (1 ∷ 1 ∷ 1 ∷ 1 ∷ []))) (0 ∷ 1 ∷ 4 ∷ 255 ∷ 0 ∷ []))
    ∷ row "a starter that leads to itself is an arrival each time" (same (fields (graph_words_answer (graph_table_of P11) (regs 0 0) 0 9 (1 ∷ 1 ∷ 1 ∷ []) (0 ∷ []))) (0 ∷ 2 ∷ 3 ∷ 0 ∷ 0 ∷ []))
    -- R-1: refusals
    ∷ row "a list without the start: 11" (same (fields (graph_words_answer (graph_table_of Rates) (regs 0 0) 1 1 [] (0 ∷ []))) (11 ∷ 0 ∷ 0 ∷ 0 ∷ 0 ∷ []))
    ∷ row "a list without block 0: 11" (same (fields (graph_words_answer (graph_table_of Rates) (regs 0 0) 1 1 [] (1 ∷ []))) (11 ∷ 0 ∷ 0 ∷ 0 ∷ 0 ∷ []))
    ∷ row "a list with a block that is none: 11" (same (fields (graph_words_answer (graph_table_of Rates) (regs 0 0) 0 1 [] (0 ∷ 2 ∷ []))) (11 ∷ 0 ∷ 0 ∷ 0 ∷ 0 ∷ []))
    ∷ row "the empty list: 11" (same (fields (graph_words_answer (graph_table_of Rates) (regs 0 0) 0 1 [] [])) (11 ∷ 0 ∷ 0 ∷ 0 ∷ 0 ∷ []))
    ∷ row "9 before 11" (same (fields (graph_words_answer (graph_table_of Rates) (regs 0 0) 2 1 [] [])) (9 ∷ 0 ∷ 0 ∷ 0 ∷ 0 ∷ []))
    ∷ row "a graph that reads words, run without: 12" (same (fields (graph_answer (graph_table_of Rates) (regs 0 0) 2 1)) (12 ∷ 0 ∷ 0 ∷ 0 ∷ 0 ∷ []))
    ∷ row "a machine that reads words, run without: 12" (same (fields (machine_answer (machine_table_of (machine Rates)) (regs 0 0) 1 1)) (12 ∷ 0 ∷ 0 ∷ 0 ∷ 0 ∷ []))
    -- R-3: placing by counts
    ∷ row "an ite with two edges to one block: the order" (same (placed Twins 0) (0 ∷ 3 ∷ 2 ∷ 1 ∷ []))
    ∷ row "it has two edges waiting" (alike (counts_before Twins 0) ((0 ∷ 2 ∷ 1 ∷ 2 ∷ []) ∷ (2 ∷ 1 ∷ 0 ∷ []) ∷ (1 ∷ 0 ∷ []) ∷ (0 ∷ []) ∷ []))
    ∷ row "and lowers the count twice" (same (lowered_by Twins 0) (0 ∷ 0 ∷ 3 ∷ 0 ∷ 1 ∷ 3 ∷ 3 ∷ 0 ∷ 2 ∷ 3 ∷ 1 ∷ 1 ∷ 2 ∷ 0 ∷ 1 ∷ []))
    ∷ row "P7 by counts" (same (placed P7 1) (1 ∷ 2 ∷ 3 ∷ 4 ∷ 5 ∷ []))
    ∷ row "P7 edges back to the starter lower nothing" (same (lowered_by P7 1) (1 ∷ 0 ∷ 2 ∷ 1 ∷ 1 ∷ 5 ∷ 2 ∷ 0 ∷ 3 ∷ 2 ∷ 1 ∷ 4 ∷ []))
    ∷ row "P11 waits for no edge" (alike (counts_before P11 0) ((0 ∷ []) ∷ []))
    ∷ row "P12 an unreachable predecessor is not waited for" (alike (counts_before P12 0) ((0 ∷ 1 ∷ []) ∷ (0 ∷ []) ∷ []))
    -- R-12: captures compared
    ∷ row "both empty" (agree 1 [] [] 0)
    ∷ row "the second empty" (agree 1 recorded [] 0)
    ∷ row "the first empty" (agree 1 [] recorded 0)
    ∷ row "no cycle that both hold" (agree 1 recorded (lines ("1,0,7" ∷ "3,1,8" ∷ "4,0,9" ∷ "6,0,0" ∷ [])) 0)
    ∷ row "equal recordings" (agree 1 recorded recorded 3)
    ∷ row "either lacks cycles" (agree 1 recorded (lines ("2,1,8" ∷ "3,3,3" ∷ "5,0,9" ∷ "9,9,9" ∷ [])) 2)
    ∷ row "a cycle that one holds differs from nothing" (agree 1 recorded (lines ("1,9,9" ∷ "5,0,9" ∷ [])) 1)
    ∷ row "the state differs" (differ 1 recorded (lines ("0,0,7" ∷ "2,2,8" ∷ "5,0,9" ∷ [])) 3 2)
    ∷ row "the first register differs" (differ 2 (lines ("4,1,2,3" ∷ [])) (lines ("4,1,20,3" ∷ [])) 1 4)
    ∷ row "the last register differs" (differ 2 (lines ("4,1,2,3" ∷ [])) (lines ("4,1,2,30" ∷ [])) 1 4)
    ∷ row "the first of two differences" (differ 1 recorded (lines ("2,1,9" ∷ "5,1,9" ∷ [])) 2 2)
    ∷ row "16 registers" (agree 16 sixteen sixteen 1)
    ∷ row "4294967295 is a cycle, a state and a word" (differ 1 (lines ("4294967295,4294967295,0" ∷ [])) (lines ("4294967295,4294967295,4294967295" ∷ [])) 1 4294967295)
    -- R-12: refusals
    ∷ row "R = 0: 17" (refused 0 (lines ("0,0" ∷ [])) [] 17 0 0)
    ∷ row "R = 17: 17, before a faulty line" (refused 17 (lines ("x" ∷ [])) [] 17 0 0)
    ∷ row "4294967296 as a word: 17" (refused 1 (lines ("0,0,4294967296" ∷ [])) [] 17 1 1)
    ∷ row "4294967296 as a cycle: 17" (refused 1 (lines ("4294967296,0,0" ∷ [])) [] 17 1 1)
    ∷ row "a leading zero of a cycle: 17" (refused 1 (lines ("0,0,0" ∷ "01,0,0" ∷ [])) [] 17 1 2)
    ∷ row "a state of two zeros: 17" (refused 1 (lines ("0,00,0" ∷ [])) [] 17 1 1)
    ∷ row "no line feed at the end: 17" (refused 1 recorded (lines ("0,0,7" ∷ []) ++ (50 ∷ 44 ∷ 49 ∷ 44 ∷ 56 ∷ [])) 17 2 2)
    ∷ row "an empty line: 17" (refused 1 (lines ("" ∷ [])) [] 17 1 1)
    ∷ row "a register too few: 17" (refused 2 recorded recorded 17 1 1)
    ∷ row "a register too many: 17" (refused 1 [] (lines ("0,0,7,7" ∷ [])) 17 2 1)
    ∷ row "an empty field: 17" (refused 1 [] (lines ("0,,7" ∷ [])) 17 2 1)
    ∷ row "a minus: 17" (refused 1 [] (lines ("0,-1,7" ∷ [])) 17 2 1)
    ∷ row "an equal cycle: 18" (refused 1 (lines ("0,0,7" ∷ "0,0,7" ∷ [])) recorded 18 1 2)
    ∷ row "a falling cycle: 18" (refused 1 recorded (lines ("3,0,7" ∷ "4,0,7" ∷ "3,0,7" ∷ [])) 18 2 3)
    ∷ row "17 before 18 in a line" (refused 1 (lines ("5,0,7" ∷ "1,0,x" ∷ [])) [] 17 1 2)
    ∷ row "18 at line 2 before 17 at line 3" (refused 1 (lines ("5,0,7" ∷ "1,0,7" ∷ "x" ∷ [])) [] 18 1 2)
    ∷ row "17 at line 2 before 18 at line 3" (refused 1 (lines ("5,0,7" ∷ "x" ∷ "1,0,7" ∷ [])) [] 17 1 2)
    ∷ row "the first recording's fault before the second's earlier one" (refused 1 (lines ("0,0,7" ∷ "1,0,7" ∷ "1,0,7" ∷ [])) (lines ("x" ∷ [])) 18 1 3)
    ∷ row "a fault behind the last shared cycle" (refused 1 recorded (lines ("0,0,7" ∷ "7,0,0" ∷ "7,0,0" ∷ [])) 18 2 3)
    ∷ []

-- every row of the table
abbrev pub table : List Row
table = rows ++ (through_tables ++ (orders ++ (admission ++ (kept ++ (ahead ++ (flags ++ (touch_rows ++ (range_rows ++ (shift_rows ++ block_rows)))))))))

-- The worked examples, as one statement: proofs/WorkedExamples proves it.
pub record WorkedExamples : Type 0 where
  -- each row holds
  pub rows_hold : T (every (λ (r : Row). r.holds) table)
  -- P11 never halts: graph and machine are spent at every budget, on all registers, with a clear flag
  pub graph_endless : (rs : List ℕ) (k : ℕ) → answer (graph_runner P11 []) unread k (start_at 0 rs) ≡ Spent k 0 false
  pub machine_endless : (rs : List ℕ) → length rs ≡ max_registers → (k : ℕ) → answer (machine_runner (machine P11)) unread k (start_at 0 rs) ≡ Spent k 0 false
  -- and so the operations answer, from its text on, whatever the tables and the register buffer held
  pub run_graph_endless : (graph : List ℕ) → graph_words ≤ length graph
      → (buffer : List ℕ) → max_registers ≤ length buffer → (k : ℕ) → graph_answer (read_words p11_text graph) buffer 0 k ≡ Ok (Spent k 0 false)
  pub run_machine_endless : (graph : List ℕ) → graph_words ≤ length graph → (made : List ℕ) → machine_words ≤ length made
      → (buffer : List ℕ) → max_registers ≤ length buffer → (k : ℕ) → machine_answer (synthesis_words (read_words p11_text graph) made) buffer 0 k ≡ Ok (Spent k 0 false)
