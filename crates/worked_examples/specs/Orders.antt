-- Which refusal goes first where two meet ("Operations and their refusals" of paper 01, R-1 and R-12 of paper 02), a row a pair. Assumes nothing.
-- The numbers are the papers', taken from their orders.
use Rattle.std.specs.Prelude.{ℕ, Bool, ◌&&◌, List, [], ◌∷◌, ◌++◌, replicate, set, take, eqb}
use Prim.Native.String.{String}
use Rattle.runs.specs.Lists.{same, concat_map}
use Rattle.runs.specs.Operations.{answered}
use Rattle.cfg.specs.Table.{graph_table_of, graph_of, admitted_graph}
use Rattle.cfg.specs.Run.{graph_refusal, graph_answer, graph_words_refusal, graph_words_answer}
use Rattle.capture.specs.Capture.{compare_captures}
use Rattle.delimited.specs.Parts.{bytes}
use Rattle.cfg_text.specs.Read.{read_answer}
use Rattle.cfg_write.specs.Write.{write_answer, write_number, write_length}
use Rattle.fsmd.specs.Table.{machine_table_of, machine_of, admitted_machine}
use Rattle.fsmd.specs.Run.{machine_refusal, machine_answer, machine_words_refusal, machine_words_answer}
use Rattle.grouping.specs.Grouping.{groups}
use Rattle.synthesis.specs.Synthesis.{machine, synthesis_answer, synthesis_number}
use Rattle.worked_examples.specs.Graphs.{P11, Rates}
use Rattle.worked_examples.specs.Rows.{Row, row, no_machine, reading_into, read_result, refused_with, regs, refused}
use Rattle.worked_examples.specs.Texts.{lines, goto_two}

-- ---- buffers that are a word short

abbrev short_graph : List ℕ
short_graph = replicate 2561 0

abbrev short_machine : List ℕ
short_machine = replicate 13761 0

abbrev short_registers : List ℕ
short_registers = replicate 15 0

abbrev registers : List ℕ
registers = regs 0 0

-- ---- tables

-- P11's, whose blocks and states are 0 alone; and the same with no register, which is not admitted
abbrev loop : List ℕ
loop = graph_table_of P11

abbrev bad_loop : List ℕ
bad_loop = set loop 1 0

abbrev loop_machine : List ℕ
loop_machine = machine_table_of (machine P11)

abbrev bad_machine : List ℕ
bad_machine = set loop_machine 1 0

-- with code 20, admitted and not; their blocks are 0 and 1, their state is 0
abbrev sampling : List ℕ
sampling = graph_table_of Rates

abbrev bad_sampling : List ℕ
bad_sampling = set sampling 1 0

abbrev sampling_machine : List ℕ
sampling_machine = machine_table_of (machine Rates)

abbrev bad_sampling_machine : List ℕ
bad_sampling_machine = set sampling_machine 1 0

-- ---- reading

-- a text of one byte too many, whose first line is none
abbrev long : List ℕ
long = replicate 16385 10

-- lines inside the block of a graph of one block and one register: the first is line 3
abbrev inside : List String → List ℕ
inside ls = lines ("graph,1,1" ∷ "block,0" ∷ ls)

-- a line faulty with k there, and then one with another number: the first decides
abbrev decides : ℕ → String → String → Bool
decides k one two = same (read_result (inside (one ∷ two ∷ []))) (k ∷ 3 ∷ [])

-- a text is refused with k at line n, and into a short table with 7
abbrev below7 : ℕ → ℕ → List ℕ → Bool
below7 k n text = same (read_result text) (k ∷ n ∷ []) && same (reading_into short_graph text) (7 ∷ 0 ∷ [])

-- ---- the other operations; each refused with a number

abbrev writing : ℕ → ℕ → List ℕ → List ℕ → Bool
writing k n table out = let a = write_answer table out in eqb (write_number a) k && eqb (write_length a) n

abbrev synthesising : ℕ → List ℕ → List ℕ → Bool
synthesising k graph made = eqb (synthesis_number (synthesis_answer graph made)) k

-- from a start, with a budget of 5
abbrev graph_run : ℕ → List ℕ → List ℕ → ℕ → Bool
graph_run k t rs start = refused_with k (graph_answer t rs start 5)

abbrev machine_run : ℕ → List ℕ → List ℕ → ℕ → Bool
machine_run k t rs start = refused_with k (machine_answer t rs start 5)

-- with words, and for a graph a list of starters
abbrev graph_on_words : ℕ → List ℕ → List ℕ → ℕ → List ℕ → Bool
graph_on_words k t rs start starters = refused_with k (graph_words_answer t rs start 5 (1 ∷ 1 ∷ []) starters)

abbrev machine_on_words : ℕ → List ℕ → List ℕ → ℕ → Bool
machine_on_words k t rs start = refused_with k (machine_words_answer t rs start 5 (1 ∷ 1 ∷ []))

unfoldable pub orders : List Row
unfolding compare_captures concat_map groups machine answered graph_refusal graph_words_refusal graph_of machine_refusal machine_words_refusal machine_of graph_table_of machine_table_of admitted_graph admitted_machine read_answer write_answer synthesis_answer P11 Rates goto_two
orders =
    -- reading: 1; 7; the first faulty line with 2, 3, 4 or 5
    row "read: 1 before 7" (same (reading_into short_graph long) (1 ∷ 0 ∷ []))
    ∷ row "read: 1 before a faulty line" (same (read_result long) (1 ∷ 0 ∷ []))
    ∷ row "read: 16,384 bytes are not too long" (same (read_result (replicate 16384 10)) (2 ∷ 1 ∷ []))
    ∷ row "read: 7 before 2" (below7 2 1 (lines ("x" ∷ [])))
    ∷ row "read: 7 before 3" (below7 3 1 (lines ("halt" ∷ [])))
    ∷ row "read: 7 before 3, of a text that stops early" (below7 3 1 [])
    ∷ row "read: 7 before 4" (below7 4 3 (inside ("set,1,0" ∷ [])))
    ∷ row "read: 7 before 5" (below7 5 3 goto_two)
    ∷ row "read: 2 before a line with 3" (decides 2 "x" "block,1")
    ∷ row "read: 2 before a line with 4" (decides 2 "x" "set,1,0")
    ∷ row "read: 2 before a line with 5" (decides 2 "x" "goto,1")
    ∷ row "read: 3 before a line with 2" (decides 3 "block,1" "x")
    ∷ row "read: 3 before a line with 4" (decides 3 "block,1" "set,1,0")
    ∷ row "read: 3 before a line with 5" (decides 3 "block,1" "goto,1")
    ∷ row "read: 4 before a line with 2" (decides 4 "set,1,0" "x")
    ∷ row "read: 4 before a line with 3" (decides 4 "set,1,0" "block,1")
    ∷ row "read: 4 before a line with 5" (decides 4 "set,1,0" "goto,1")
    ∷ row "read: 5 before a line with 2" (decides 5 "goto,1" "x")
    ∷ row "read: 5 before a line with 3" (decides 5 "goto,1" "block,1")
    ∷ row "read: 5 before a line with 4" (decides 5 "goto,1" "set,1,0")
    -- in one line, and without a line feed
    ∷ row "read: 2 before 3 in a line" (same (read_result (inside [] ++ bytes "block,1")) (2 ∷ 3 ∷ []))
    ∷ row "read: 2 before 4 in a line" (same (read_result (inside [] ++ bytes "set,1,0")) (2 ∷ 3 ∷ []))
    ∷ row "read: 2 before 5 in a line" (same (read_result (inside [] ++ bytes "goto,1")) (2 ∷ 3 ∷ []))
    ∷ row "read: 3 before 4 in a line" (same (read_result (lines ("graph,1,1" ∷ "set,1,0" ∷ []))) (3 ∷ 2 ∷ []))
    ∷ row "read: 3 before 5 in a line" (same (read_result (lines ("graph,1,1" ∷ "goto,1" ∷ []))) (3 ∷ 2 ∷ []))
    ∷ row "read: 4 before 5 in a line" (same (read_result (inside ("ite,eq,0,1,1,0" ∷ []))) (4 ∷ 3 ∷ []))
    -- writing: 7; 6; 8 with the length needed
    ∷ row "write: 7 before 6" (writing 7 0 short_graph (replicate 25 0))
    ∷ row "write: 7 before 8" (writing 7 0 (take 2561 loop) [])
    ∷ row "write: 6 before 8" (writing 6 0 bad_loop [])
    ∷ row "write: 6" (writing 6 0 bad_loop (replicate 25 0))
    ∷ row "write: 8, a byte short" (writing 8 25 loop (replicate 24 0))
    ∷ row "write: the length needed suffices" (writing 0 25 loop (replicate 25 0))
    -- synthesising: 7 of the graph table, 7 of the machine table, 6
    ∷ row "synthesise: 7 and 7" (synthesising 7 (take 2561 loop) short_machine)
    ∷ row "synthesise: 7 of the graph table" (synthesising 7 (take 2561 loop) no_machine)
    ∷ row "synthesise: 7 of the machine table" (synthesising 7 loop short_machine)
    ∷ row "synthesise: 7 of the graph table before 6" (synthesising 7 short_graph no_machine)
    ∷ row "synthesise: 7 of the machine table before 6" (synthesising 7 bad_loop short_machine)
    ∷ row "synthesise: 6" (synthesising 6 bad_loop no_machine)
    ∷ row "synthesise: neither" (synthesising 0 loop no_machine)
    -- run graph: 7 of the table, 7 of the registers, 6, 12, 9
    ∷ row "graph: 7 and 7" (graph_run 7 (take 2561 loop) short_registers 0)
    ∷ row "graph: 7 of the table" (graph_run 7 (take 2561 loop) registers 0)
    ∷ row "graph: 7 of the table before 6" (graph_run 7 short_graph registers 0)
    ∷ row "graph: 7 of the table before 12" (graph_run 7 (take 2561 sampling) registers 0)
    ∷ row "graph: 7 of the table before 9" (graph_run 7 (take 2561 loop) registers 1)
    ∷ row "graph: 7 of the registers" (graph_run 7 loop short_registers 0)
    ∷ row "graph: 7 of the registers before 6" (graph_run 7 bad_loop short_registers 0)
    ∷ row "graph: 7 of the registers before 12" (graph_run 7 sampling short_registers 0)
    ∷ row "graph: 7 of the registers before 9" (graph_run 7 loop short_registers 1)
    ∷ row "graph: 6" (graph_run 6 bad_loop registers 0)
    ∷ row "graph: 6 before 12" (graph_run 6 bad_sampling registers 0)
    ∷ row "graph: 6 before 9" (graph_run 6 bad_loop registers 1)
    ∷ row "graph: 12" (graph_run 12 sampling registers 1)
    ∷ row "graph: 12 before 9" (graph_run 12 sampling registers 2)
    ∷ row "graph: 9" (graph_run 9 loop registers 1)
    ∷ row "graph: 9 also with budget 0" (refused_with 9 (graph_answer loop registers 1 0))
    -- run machine: 7 of the table, 7 of the registers, 10, 12, 9
    ∷ row "machine: 7 and 7" (machine_run 7 (take 13761 loop_machine) short_registers 0)
    ∷ row "machine: 7 of the table" (machine_run 7 (take 13761 loop_machine) registers 0)
    ∷ row "machine: 7 of the table before 10" (machine_run 7 short_machine registers 0)
    ∷ row "machine: 7 of the table before 12" (machine_run 7 (take 13761 sampling_machine) registers 0)
    ∷ row "machine: 7 of the table before 9" (machine_run 7 (take 13761 loop_machine) registers 1)
    ∷ row "machine: 7 of the registers" (machine_run 7 loop_machine short_registers 0)
    ∷ row "machine: 7 of the registers before 10" (machine_run 7 bad_machine short_registers 0)
    ∷ row "machine: 7 of the registers before 12" (machine_run 7 sampling_machine short_registers 0)
    ∷ row "machine: 7 of the registers before 9" (machine_run 7 loop_machine short_registers 1)
    ∷ row "machine: 10" (machine_run 10 bad_machine registers 0)
    ∷ row "machine: 10 before 12" (machine_run 10 bad_sampling_machine registers 0)
    ∷ row "machine: 10 before 9" (machine_run 10 bad_machine registers 1)
    ∷ row "machine: 12" (machine_run 12 sampling_machine registers 0)
    ∷ row "machine: 12 before 9" (machine_run 12 sampling_machine registers 1)
    ∷ row "machine: 9" (machine_run 9 loop_machine registers 1)
    ∷ row "machine: 9 also with budget 0" (refused_with 9 (machine_answer loop_machine registers 1 0))
    -- run graph with words: 7 of the table, 7 of the registers, 6, 9, 11
    ∷ row "graph with words: 7 and 7" (graph_on_words 7 (take 2561 loop) short_registers 0 (0 ∷ []))
    ∷ row "graph with words: 7 of the table before 6" (graph_on_words 7 short_graph registers 0 (0 ∷ []))
    ∷ row "graph with words: 7 of the table before 9" (graph_on_words 7 (take 2561 loop) registers 1 (0 ∷ []))
    ∷ row "graph with words: 7 of the table before 11" (graph_on_words 7 (take 2561 loop) registers 0 [])
    ∷ row "graph with words: 7 of the registers before 6" (graph_on_words 7 bad_loop short_registers 0 (0 ∷ []))
    ∷ row "graph with words: 7 of the registers before 9" (graph_on_words 7 loop short_registers 1 (0 ∷ []))
    ∷ row "graph with words: 7 of the registers before 11" (graph_on_words 7 loop short_registers 0 [])
    ∷ row "graph with words: 6 before 9" (graph_on_words 6 bad_loop registers 1 (0 ∷ []))
    ∷ row "graph with words: 6 before 11" (graph_on_words 6 bad_loop registers 0 [])
    ∷ row "graph with words: 9 before 11" (graph_on_words 9 loop registers 1 [])
    ∷ row "graph with words: 11" (graph_on_words 11 loop registers 0 [])
    ∷ row "graph with words: 6 with code 20" (graph_on_words 6 bad_sampling registers 0 (0 ∷ []))
    -- run machine with words: 7 of the table, 7 of the registers, 10, 9
    ∷ row "machine with words: 7 and 7" (machine_on_words 7 (take 13761 loop_machine) short_registers 0)
    ∷ row "machine with words: 7 of the table before 10" (machine_on_words 7 short_machine registers 0)
    ∷ row "machine with words: 7 of the table before 9" (machine_on_words 7 (take 13761 loop_machine) registers 1)
    ∷ row "machine with words: 7 of the registers before 10" (machine_on_words 7 bad_machine short_registers 0)
    ∷ row "machine with words: 7 of the registers before 9" (machine_on_words 7 loop_machine short_registers 1)
    ∷ row "machine with words: 10 before 9" (machine_on_words 10 bad_machine registers 1)
    ∷ row "machine with words: 10 with code 20" (machine_on_words 10 bad_sampling_machine registers 0)
    ∷ row "machine with words: 9" (machine_on_words 9 sampling_machine registers 1)
    -- captures: R; the first recording; the second; in each the first faulty line, and 17 before 18 in it
    ∷ row "captures: R before 17 in the first" (refused 17 (lines ("x" ∷ [])) [] 17 0 0)
    ∷ row "captures: R before 18 in the first" (refused 0 (lines ("0,0" ∷ "0,0" ∷ [])) [] 17 0 0)
    ∷ row "captures: R before 17 in the second" (refused 17 [] (lines ("x" ∷ [])) 17 0 0)
    ∷ row "captures: 17 in the first before 17 in the second" (refused 1 (lines ("0,0,0" ∷ "x" ∷ [])) (lines ("x" ∷ [])) 17 1 2)
    ∷ row "captures: 17 in the first before 18 in the second" (refused 1 (lines ("0,0,0" ∷ "1,0,0" ∷ "x" ∷ [])) (lines ("0,0,0" ∷ "0,0,0" ∷ [])) 17 1 3)
    ∷ row "captures: 18 in the first before 17 in the second" (refused 1 (lines ("0,0,0" ∷ "0,0,0" ∷ [])) (lines ("x" ∷ [])) 18 1 2)
    ∷ row "captures: 18 in the first before 18 in the second" (refused 1 (lines ("0,0,0" ∷ "1,0,0" ∷ "1,0,0" ∷ [])) (lines ("0,0,0" ∷ "0,0,0" ∷ [])) 18 1 3)
    ∷ []
