-- What an operation leaves as it was: registers from R up, words past a buffer's length, and every buffer of a refused one (paper 01). Assumes nothing.
use Rattle.std.specs.Prelude.{ℕ, List, [], ◌∷◌, ◌++◌, replicate}
use Rattle.word.specs.Word.{eval_of}
use Rattle.runs.specs.Lists.{up_from, same, concat_map}
use Rattle.runs.specs.Operations.{answered, registers_left}
use Rattle.cfg.specs.Graph.{run_block}
use Rattle.cfg.specs.Table.{graph_table_of, graph_of, admitted_graph}
use Rattle.cfg.specs.Run.{graph_refusal, graph_answer, graph_registers, graph_words_refusal, graph_words_registers}
use Rattle.cfg_text.specs.Read.{read_answer, read_words}
use Rattle.cfg_write.specs.Write.{write_bytes}
use Rattle.fsmd.specs.Machine.{clock}
use Rattle.fsmd.specs.Table.{machine_table_of, machine_of, admitted_machine}
use Rattle.fsmd.specs.Run.{machine_refusal, machine_answer, machine_registers, machine_words_refusal, machine_words_registers}
use Rattle.grouping.specs.Grouping.{groups}
use Rattle.synthesis.specs.Synthesis.{machine, synthesis_words}
use Rattle.worked_examples.specs.Graphs.{P7, P11}
use Rattle.worked_examples.specs.Rows.{Row, row, no_graph, no_machine, fields, regs}
use Rattle.worked_examples.specs.Texts.{lines, p11_text}

-- P7's tables, and the same with two words more
abbrev graph : List ℕ
graph = graph_table_of P7

abbrev made : List ℕ
made = machine_table_of (machine P7)

abbrev long_graph : List ℕ
long_graph = graph ++ (9 ∷ 9 ∷ [])

abbrev long_machine : List ℕ
long_machine = made ++ (9 ∷ 9 ∷ [])

-- eighteen words: the registers of a run of P7, fourteen that it does not have, and two past the sixteen
abbrev buffer : ℕ → ℕ → List ℕ
buffer a b = a ∷ b ∷ up_from 102 16

unfoldable pub kept : List Row
unfolding eval_of concat_map groups machine answered registers_left graph_refusal graph_words_refusal graph_of run_block machine_refusal machine_words_refusal machine_of clock graph_table_of machine_table_of admitted_graph admitted_machine read_answer read_words write_bytes synthesis_words P7 P11 p11_text
kept =
    -- registers from R up, and words past 16
    row "graph: registers from R up" (same (graph_registers graph (buffer 12 18) 0 99) (buffer 6 6))
    ∷ row "machine: registers from R up" (same (machine_registers made (buffer 12 18) 0 99) (buffer 6 6))
    ∷ row "graph with words: registers from R up" (same (graph_words_registers graph (buffer 12 18) 0 99 (replicate 9 5) (0 ∷ 1 ∷ [])) (buffer 6 6))
    ∷ row "machine with words: registers from R up" (same (machine_words_registers made (buffer 12 18) 0 99 (replicate 9 5)) (buffer 6 6))
    -- words past a table's length
    ∷ row "read: words past the table" (same (read_words p11_text (replicate 2564 9)) (graph_table_of P11 ++ (9 ∷ 9 ∷ [])))
    ∷ row "write: words past the table" (same (write_bytes (graph_table_of P11 ++ (9 ∷ 9 ∷ [])) (replicate 25 7)) p11_text)
    ∷ row "write: bytes past the text" (same (write_bytes (graph_table_of P11) (replicate 27 7)) (p11_text ++ (7 ∷ 7 ∷ [])))
    ∷ row "synthesise: words past the tables" (same (synthesis_words long_graph (replicate 13764 9)) long_machine)
    ∷ row "graph: words past the table" (same (fields (graph_answer long_graph (regs 12 18) 0 99)) (0 ∷ 1 ∷ 9 ∷ 255 ∷ 0 ∷ []))
    ∷ row "machine: words past the table" (same (fields (machine_answer long_machine (regs 12 18) 0 99)) (0 ∷ 1 ∷ 4 ∷ 255 ∷ 0 ∷ []))
    -- a refused operation changes nothing
    ∷ row "read, refused" (same (read_words (lines ("graph,1,1" ∷ "block,0" ∷ "goto,1" ∷ [])) (replicate 2562 9)) (replicate 2562 9))
    ∷ row "write, refused" (same (write_bytes (graph_table_of P11) (replicate 24 7)) (replicate 24 7))
    ∷ row "synthesise, refused" (same (synthesis_words no_graph (replicate 13762 9)) (replicate 13762 9))
    ∷ row "graph, refused" (same (graph_registers graph (buffer 12 18) 6 99) (buffer 12 18))
    ∷ row "machine, refused" (same (machine_registers made (buffer 12 18) 2 99) (buffer 12 18))
    ∷ row "graph with words, refused" (same (graph_words_registers graph (buffer 12 18) 0 99 [] (1 ∷ [])) (buffer 12 18))
    ∷ row "machine with words, refused" (same (machine_words_registers no_machine (buffer 12 18) 0 99 []) (buffer 12 18))
    ∷ []
