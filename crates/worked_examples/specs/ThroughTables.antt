-- P9 to P12 through the operations: their texts are read, synthesised and run, from table to table. Assumes nothing.
use Rattle.std.specs.Prelude.{ℕ, zero, suc, List, [], ◌∷◌, ◌++◌, take, drop, eqb}
use Rattle.word.specs.Word.{eval_of}
use Rattle.runs.specs.Lists.{same, padded, concat_map}
use Rattle.runs.specs.Operations.{answered}
use Rattle.cfg.specs.Graph.{run_block}
use Rattle.cfg.specs.Table.{graph_table_of, graph_of, admitted_graph}
use Rattle.cfg.specs.Run.{graph_refusal, graph_answer}
use Rattle.cfg_text.specs.Read.{read_answer, read_words}
use Rattle.fsmd.specs.Layout.{max_states, max_blocks, record_words, all_record_words, all_wire_words, records_offset, absent}
use Rattle.fsmd.specs.Machine.{clock}
use Rattle.fsmd.specs.Table.{machine_table_of, machine_of, admitted_machine}
use Rattle.fsmd.specs.Run.{machine_refusal, machine_answer}
use Rattle.grouping.specs.Grouping.{groups}
use Rattle.synthesis.specs.Synthesis.{machine, synthesis_answer, synthesis_words, synthesis_number}
use Rattle.worked_examples.specs.Graphs.{P9, P10, P11, P12}
use Rattle.worked_examples.specs.Rows.{Row, row, no_graph, no_machine, read_result, fields, regs}
use Rattle.worked_examples.specs.Texts.{p9_text, p10_text, p11_text, p12_text}

-- the graph table that reading a text leaves, and the machine table that Synthesise leaves of it
abbrev read_from : List ℕ → List ℕ
read_from text = read_words text no_graph

abbrev made_from : List ℕ → List ℕ
made_from text = synthesis_words (read_from text) no_machine

-- N, R, starters and block states of a machine table, and as they are to be
abbrev head_of : List ℕ → List ℕ
head_of m = take records_offset m

abbrev head : ℕ → ℕ → List ℕ → List ℕ → List ℕ
head n r starters states = n ∷ r ∷ (padded max_states 0 starters ++ padded max_blocks absent states)

-- first wire and wire count of the first n records
abbrev first_and_count : ℕ → List ℕ → List ℕ
first_and_count zero records = []
first_and_count (suc n) records = take 2 records ++ first_and_count n (drop record_words records)

abbrev wires_of : ℕ → List ℕ → List ℕ
wires_of n m = first_and_count n (drop records_offset m)

-- number, outcome, count, next and flag of Run graph and of Run machine, from block 0 and state 0
abbrev graph_run : List ℕ → List ℕ → ℕ → List ℕ
graph_run text registers budget = fields (graph_answer (read_from text) registers 0 budget)

abbrev machine_run : List ℕ → List ℕ → ℕ → List ℕ
machine_run text registers budget = fields (machine_answer (made_from text) registers 0 budget)

unfoldable pub through_tables : List Row
unfolding concat_map eval_of groups machine answered graph_refusal graph_of run_block machine_refusal machine_of clock graph_table_of machine_table_of admitted_graph admitted_machine read_answer read_words synthesis_answer synthesis_words P9 P10 P11 P12 p9_text p10_text p11_text p12_text
through_tables =
    row "P9 its text is read" (same (read_result p9_text) (0 ∷ 0 ∷ []))
    ∷ row "P9 the table it leaves" (same (read_from p9_text) (graph_table_of P9))
    ∷ row "P9 is synthesised" (eqb (synthesis_number (synthesis_answer (read_from p9_text) no_machine)) 0)
    ∷ row "P9 states, starters, block states" (same (head_of (made_from p9_text)) (head 4 2 (0 ∷ 1 ∷ 3 ∷ 4 ∷ []) (0 ∷ 1 ∷ 0 ∷ 2 ∷ 3 ∷ [])))
    ∷ row "P9 wires" (same (wires_of 5 (made_from p9_text)) (0 ∷ 16 ∷ 16 ∷ 9 ∷ 25 ∷ 2 ∷ 27 ∷ 2 ∷ 0 ∷ 0 ∷ []))
    ∷ row "P9 on 1, 2: blocks 0, 2, 4" (same (graph_run p9_text (regs 1 2) 9) (0 ∷ 1 ∷ 3 ∷ 255 ∷ 0 ∷ []))
    ∷ row "P9 on 1, 2: two cycles" (same (machine_run p9_text (regs 1 2) 9) (0 ∷ 1 ∷ 2 ∷ 255 ∷ 0 ∷ []))
    ∷ row "P9 on 1, 2: the state of block 4 after one" (same (machine_run p9_text (regs 1 2) 1) (0 ∷ 0 ∷ 1 ∷ 3 ∷ 0 ∷ []))
    ∷ row "P9 on 1, 1: block 1 for ever" (same (graph_run p9_text (regs 1 1) 9) (0 ∷ 0 ∷ 9 ∷ 1 ∷ 0 ∷ []))
    ∷ row "P9 on 1, 1: its state for ever" (same (machine_run p9_text (regs 1 1) 9) (0 ∷ 0 ∷ 9 ∷ 1 ∷ 0 ∷ []))
    ∷ row "P10 its text is read" (same (read_result p10_text) (0 ∷ 0 ∷ []))
    ∷ row "P10 the table it leaves" (same (read_from p10_text) (graph_table_of P10))
    ∷ row "P10 is synthesised" (eqb (synthesis_number (synthesis_answer (read_from p10_text) no_machine)) 0)
    ∷ row "P10 states, starters, block states" (same (head_of (made_from p10_text)) (head 3 2 (0 ∷ 1 ∷ 2 ∷ []) (0 ∷ 1 ∷ 2 ∷ 1 ∷ [])))
    ∷ row "P10 wires" (same (wires_of 4 (made_from p10_text)) (0 ∷ 9 ∷ 9 ∷ 9 ∷ 18 ∷ 2 ∷ 0 ∷ 0 ∷ []))
    ∷ row "P10 on 1, 2: blocks 0, 2, 1, 3" (same (graph_run p10_text (regs 1 2) 9) (0 ∷ 1 ∷ 4 ∷ 255 ∷ 0 ∷ []))
    ∷ row "P10 on 1, 2: three cycles" (same (machine_run p10_text (regs 1 2) 9) (0 ∷ 1 ∷ 3 ∷ 255 ∷ 0 ∷ []))
    ∷ row "P10 on 1, 1: blocks 1 and 2 for ever" (same (graph_run p10_text (regs 1 1) 9) (0 ∷ 0 ∷ 9 ∷ 1 ∷ 0 ∷ []))
    ∷ row "P10 on 1, 1: their states for ever" (same (machine_run p10_text (regs 1 1) 8) (0 ∷ 0 ∷ 8 ∷ 2 ∷ 0 ∷ []))
    ∷ row "P11 its text is read" (same (read_result p11_text) (0 ∷ 0 ∷ []))
    ∷ row "P11 the table it leaves" (same (read_from p11_text) (graph_table_of P11))
    ∷ row "P11 is synthesised" (eqb (synthesis_number (synthesis_answer (read_from p11_text) no_machine)) 0)
    ∷ row "P11 states, starters, block states" (same (head_of (made_from p11_text)) (head 1 1 (0 ∷ []) (0 ∷ [])))
    ∷ row "P11 wires" (same (wires_of 2 (made_from p11_text)) (0 ∷ 2 ∷ 0 ∷ 0 ∷ []))
    ∷ row "P11 its words behind the block states" (same (drop records_offset (made_from p11_text)) (padded all_record_words 0 (0 ∷ 2 ∷ 17 ∷ []) ++ (padded all_wire_words 0 (1 ∷ 1 ∷ 0 ∷ 0 ∷ 1 ∷ []) ++ padded max_blocks 0 (16 ∷ []))))
    ∷ row "P12 its text is read" (same (read_result p12_text) (0 ∷ 0 ∷ []))
    ∷ row "P12 the table it leaves" (same (read_from p12_text) (graph_table_of P12))
    ∷ row "P12 is synthesised" (eqb (synthesis_number (synthesis_answer (read_from p12_text) no_machine)) 0)
    ∷ row "P12 states, starters, block states" (same (head_of (made_from p12_text)) (head 1 1 (0 ∷ []) (0 ∷ 0 ∷ 255 ∷ [])))
    ∷ row "P12 wires" (same (wires_of 2 (made_from p12_text)) (0 ∷ 2 ∷ 0 ∷ 0 ∷ []))
    ∷ row "P12 its words behind the block states" (same (drop records_offset (made_from p12_text)) (padded all_record_words 0 (0 ∷ 2 ∷ 17 ∷ []) ++ (padded all_wire_words 0 (1 ∷ 1 ∷ 0 ∷ 0 ∷ 1 ∷ 255 ∷ []) ++ padded max_blocks 0 (16 ∷ 16 ∷ []))))
    ∷ row "P12 from block 0: two blocks" (same (graph_run p12_text (regs 1 2) 9) (0 ∷ 1 ∷ 2 ∷ 255 ∷ 0 ∷ []))
    ∷ row "P12 one cycle" (same (machine_run p12_text (regs 1 2) 9) (0 ∷ 1 ∷ 1 ∷ 255 ∷ 0 ∷ []))
    ∷ row "P12 from block 2: two blocks" (same (fields (graph_answer (read_from p12_text) (regs 1 2) 2 9)) (0 ∷ 1 ∷ 2 ∷ 255 ∷ 0 ∷ []))
    ∷ []
