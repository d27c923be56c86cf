-- The flag of a run, which tells that a sum went over (R-2 of paper 02): runs of graphs and of their machines, word c, and refusal 10. Assumes nothing.
use Rattle.std.specs.Prelude.{ℕ, zero, suc, ◌+◌, ◌-◌, ◌^◌, Bool, ◌&&◌, List, [], ◌∷◌, set, get_or, take, drop}
use Rattle.word.specs.Word.{eval_of}
use Rattle.runs.specs.Lists.{same, every, concat_map}
use Rattle.runs.specs.Operations.{answered, registers_left}
use Rattle.cfg.specs.Graph.{CFG, run_block}
use Rattle.cfg.specs.Table.{graph_table_of, graph_of, admitted_graph}
use Rattle.cfg.specs.Run.{graph_refusal, graph_answer, graph_registers, graph_words_refusal, graph_words_answer}
use Rattle.cfg_text.specs.Read.{read_words}
use Rattle.fsmd.specs.Layout.{wire_words, wire_c_offset, wires_offset, wire_offset}
use Rattle.fsmd.specs.Machine.{clock}
use Rattle.fsmd.specs.Table.{machine_table_of, machine_of, admitted_machine}
use Rattle.fsmd.specs.Run.{machine_refusal, machine_answer, machine_registers, machine_words_refusal, machine_words_answer}
use Rattle.grouping.specs.Grouping.{groups}
use Rattle.synthesis.specs.Synthesis.{machine, synthesis_words}
use Rattle.worked_examples.specs.Graphs.{P7, Sum, Difference, Between, Fork, Meet, Once, Counting, Codes}
use Rattle.worked_examples.specs.Rows.{Row, row, no_graph, no_machine, fields, refused_with, regs}
use Rattle.worked_examples.specs.Texts.{p7_text}
use Rattle.worked_examples.specs.Admission.{by_hand, state}

abbrev clear : ℕ
clear = 0

abbrev raised : ℕ
raised = 1

-- the word of -n
abbrev minus : ℕ → ℕ
minus n = 2 ^ 32 - n

-- ---- runs

-- a graph from a block, and its machine from a state, with a budget: the fields of the answer
abbrev by_graph : CFG → ℕ → ℕ → List ℕ → List ℕ
by_graph g start n rs = fields (graph_answer (graph_table_of g) rs start n)

abbrev by_machine : CFG → ℕ → ℕ → List ℕ → List ℕ
by_machine g start n rs = fields (machine_answer (machine_table_of (machine g)) rs start n)

-- graph and machine halt, after n blocks and after k cycles, with flag f
abbrev halts_from : ℕ → CFG → ℕ → ℕ → List ℕ → ℕ → Bool
halts_from start g n k rs f = same (by_graph g start 9 rs) (0 ∷ 1 ∷ n ∷ 255 ∷ f ∷ []) && same (by_machine g start 9 rs) (0 ∷ 1 ∷ k ∷ 255 ∷ f ∷ [])

abbrev halts : CFG → ℕ → ℕ → List ℕ → ℕ → Bool
halts = halts_from 0

-- the one sum, and the one difference
abbrev sum : ℕ → ℕ → ℕ → Bool
sum a b f = halts Sum 1 1 (regs a b) f

abbrev difference : ℕ → ℕ → ℕ → Bool
difference a b f = halts Difference 1 1 (regs a b) f

-- graph and machine are spent, at block n and in state n, after k blocks and k cycles, with flag f
abbrev spent : CFG → List ℕ → ℕ → ℕ → ℕ → Bool
spent g rs k n f = same (by_graph g 0 k rs) (0 ∷ 0 ∷ k ∷ n ∷ f ∷ []) && same (by_machine g 0 k rs) (0 ∷ 0 ∷ k ∷ n ∷ f ∷ [])

-- Once where its sum goes over, and where it does not
abbrev over : List ℕ
over = regs 2147483647 16

abbrev under : List ℕ
under = regs 5 16

-- Once with words: graph and machine
abbrev once_graph : List ℕ → List ℕ
once_graph words = fields (graph_words_answer (graph_table_of Once) over 0 9 words (0 ∷ 1 ∷ []))

abbrev once_machine : List ℕ → List ℕ
once_machine words = fields (machine_words_answer (machine_table_of (machine Once)) over 0 9 words)

-- Codes with one word
abbrev codes : ℕ → ℕ → Bool
codes w f =
    same (fields (graph_words_answer (graph_table_of Codes) (regs 2147483647 1) 0 9 (w ∷ []) (0 ∷ []))) (0 ∷ 1 ∷ 2 ∷ 255 ∷ f ∷ [])
    && same (fields (machine_words_answer (machine_table_of (machine Codes)) (regs 2147483647 1) 0 9 (w ∷ []))) (0 ∷ 1 ∷ 1 ∷ 255 ∷ f ∷ [])

-- ---- word c

-- code and c of the first n wires of some
abbrev code_and_c : ℕ → List ℕ → List ℕ
code_and_c zero ws = []
code_and_c (suc n) ws = get_or ws 0 0 ∷ get_or ws wire_c_offset 0 ∷ code_and_c n (drop wire_words ws)

-- of a machine's first n
abbrev c_of : ℕ → CFG → List ℕ
c_of n g = code_and_c n (drop wires_offset (machine_table_of (machine g)))

-- P7's machine table, from its text on
abbrev p7_made : List ℕ
p7_made = synthesis_words (read_words p7_text no_graph) no_machine

-- its wires, those of state 0 and those of state 1
abbrev p7_wires : List ℕ
p7_wires =
    1 ∷ 1 ∷ 0 ∷ 0
    ∷ 1 ∷ 1 ∷ 0 ∷ 0
    -- 16 to 19: block 1 arrives by 16, and leaves by 18 to block 2, by 19 to block 5
    ∷ 1 ∷ 1 ∷ 0 ∷ 0
    ∷ 13 ∷ 0 ∷ 1 ∷ 0
    ∷ 5 ∷ 16 ∷ 17 ∷ 0
    ∷ 18 ∷ 16 ∷ 17 ∷ 0
    -- 20 to 22: block 2 leaves by 21 to block 3, by 22 to block 4
    ∷ 16 ∷ 0 ∷ 1 ∷ 0
    ∷ 5 ∷ 18 ∷ 20 ∷ 0
    ∷ 18 ∷ 18 ∷ 20 ∷ 0
    -- 23 and 24: the differences of block 3, which arrives by 21, and of block 4, by 22
    ∷ 4 ∷ 1 ∷ 0 ∷ 21
    ∷ 4 ∷ 0 ∷ 1 ∷ 22
    -- the exits of blocks 3, 4 and 5
    ∷ 1 ∷ 1 ∷ 0 ∷ 0
    ∷ 1 ∷ 1 ∷ 0 ∷ 0
    ∷ 19 ∷ 22 ∷ 26 ∷ 25
    ∷ 19 ∷ 22 ∷ 24 ∷ 0
    ∷ 19 ∷ 22 ∷ 1 ∷ 23
    ∷ 1 ∷ 255 ∷ 0 ∷ 0
    ∷ 19 ∷ 19 ∷ 30 ∷ 27
    ∷ 19 ∷ 19 ∷ 0 ∷ 28
    ∷ 19 ∷ 19 ∷ 1 ∷ 29
    ∷ []

-- a table where c of wire i of the whole machine is x
abbrev with_c : ℕ → ℕ → List ℕ → List ℕ
with_c i x t = set t (wire_offset i + wire_c_offset) x

-- P7's as it was made before R-2
abbrev p7_before : List ℕ
p7_before = with_c 9 0 (with_c 10 0 (machine_table_of (machine P7)))

-- two cycles of P7 from state 0, in a table: spent in state 1, with flag f
abbrev p7_runs : List ℕ → ℕ → ℕ → ℕ → Bool
p7_runs t a b f = same (fields (machine_answer t (regs a b) 0 2)) (0 ∷ 0 ∷ 2 ∷ 1 ∷ f ∷ [])

-- one state with R = 2: reference 16 is a set of 7, 17 one of 0, the next state, 18 this code with a = 0, b = 1 and this c, and 19 a set of 1
abbrev reading : ℕ → ℕ → List ℕ
reading code c =
    by_hand 1 2 (state 0 4 17 (0 ∷ 1 ∷ []))
    (1 ∷ 7 ∷ 0 ∷ 0 ∷ 1 ∷ 0 ∷ 0 ∷ 0 ∷ code ∷ 0 ∷ 1 ∷ c ∷ 1 ∷ 1 ∷ 0 ∷ 0 ∷ [])

-- it is refused, with a clear flag; an add would go over
abbrev ten : ℕ → ℕ → Bool
ten code c = refused_with 10 (machine_answer (reading code c) (regs 2147483647 1) 0 1)

-- or one cycle of it is run, with flag f
abbrev runs : ℕ → ℕ → ℕ → ℕ → ℕ → Bool
runs code c a b f = same (fields (machine_answer (reading code c) (regs a b) 0 1)) (0 ∷ 0 ∷ 1 ∷ 0 ∷ f ∷ [])

unfoldable pub flags : List Row
unfolding concat_map eval_of groups machine answered registers_left graph_refusal graph_words_refusal graph_of run_block machine_refusal machine_words_refusal machine_of clock graph_table_of machine_table_of admitted_graph admitted_machine read_words synthesis_words P7 Sum Difference Between Fork Meet Once Counting Codes p7_text
flags =
    -- both ends of the range, in graph and machine
    row "2147483647 + 1: raised" (sum 2147483647 1 raised)
    ∷ row "2147483646 + 1: clear" (sum 2147483646 1 clear)
    ∷ row "-2147483648 + -1: raised" (sum (minus 2147483648) (minus 1) raised)
    ∷ row "-2147483647 + -1: clear" (sum (minus 2147483647) (minus 1) clear)
    ∷ row "-2147483648 + -2147483648, of word 0: raised" (sum (minus 2147483648) (minus 2147483648) raised)
    ∷ row "2147483647 + -2147483648: clear" (sum 2147483647 (minus 2147483648) clear)
    ∷ row "-1 + 1, a carry: clear" (sum (minus 1) 1 clear)
    ∷ row "-2147483648 - 1: raised" (difference (minus 2147483648) 1 raised)
    ∷ row "-2147483647 - 1: clear" (difference (minus 2147483647) 1 clear)
    ∷ row "2147483647 - -1: raised" (difference 2147483647 (minus 1) raised)
    ∷ row "0 - -2147483648: raised" (difference 0 (minus 2147483648) raised)
    ∷ row "-1 - -2147483648: clear" (difference (minus 1) (minus 2147483648) clear)
    ∷ row "-2147483648 - -2147483648: clear" (difference (minus 2147483648) (minus 2147483648) clear)
    ∷ row "0 - 1, a borrow: clear" (difference 0 1 clear)
    ∷ row "a sum that goes over still wraps" (same (graph_registers (graph_table_of Sum) (regs 2147483647 1) 0 9) (regs 2147483648 1)
    && same (machine_registers (machine_table_of (machine Sum)) (regs 2147483647 1) 0 9) (regs 2147483648 1))
    -- within a block: a sum sees what was set before it, and counts though it is written over
    ∷ row "2147483646 + 1 of a set, on 2147483647: clear" (halts Between 1 1 (regs 2147483647 1) clear)
    ∷ row "2147483646 + 2 of a set, on 0: raised" (halts Between 1 1 (regs 0 2) raised)
    -- no other code goes over, not shl of 2147483647 by 1 either
    ∷ row "every code: clear" (codes 3 clear)
    ∷ row "every code, 5 + 2147483647: raised" (codes 2147483647 raised)
    -- one state with two branches: the block that is not arrived at does not count
    ∷ row "the sum goes over, the difference is passed: clear" (halts Fork 2 1 (regs 2147483647 1) clear)
    ∷ row "the difference goes over, the sum is passed: clear" (halts Fork 2 1 (regs (minus 2147483648) 1) clear)
    ∷ row "the sum goes over and is passed: raised" (halts Fork 2 1 (regs 1 2147483647) raised)
    ∷ row "the difference goes over and is passed: raised" (halts Fork 2 1 (regs 2147483647 (minus 1)) raised)
    ∷ row "a budget that ends before the block: clear" (same (by_graph Fork 0 1 (regs 1 2147483647)) (0 ∷ 0 ∷ 1 ∷ 1 ∷ clear ∷ []))
    ∷ row "were c of the sum the state's arrival: raised" (same (fields (machine_answer (with_c 4 16 (machine_table_of (machine Fork))) (regs 2147483647 1) 0 9)) (0 ∷ 1 ∷ 1 ∷ 255 ∷ raised ∷ []))
    ∷ row "a block with two edges in, by the first: raised" (halts Meet 3 1 (regs 1 2147483647) raised)
    ∷ row "a block with two edges in, by the second: raised" (halts Meet 3 1 (regs 2147483647 1) raised)
    -- clear at first, and kept once it is raised
    ∷ row "budget 0: clear" (spent Once over 0 0 clear)
    ∷ row "the first cycle: raised" (spent Once over 1 1 raised)
    ∷ row "spent in the loop: raised" (spent Once over 2 1 raised)
    ∷ row "halted: raised" (halts Once 4 3 over raised)
    ∷ row "halted, and the sum did not go over: clear" (halts Once 3 2 under clear)
    ∷ row "with words, dry at once: clear" (same (once_graph []) (0 ∷ 2 ∷ 0 ∷ 0 ∷ clear ∷ []) && same (once_machine []) (0 ∷ 2 ∷ 0 ∷ 0 ∷ clear ∷ []))
    ∷ row "with words, dry in the loop: raised" (same (once_graph (1 ∷ 1 ∷ [])) (0 ∷ 2 ∷ 2 ∷ 1 ∷ raised ∷ []) && same (once_machine (1 ∷ 1 ∷ [])) (0 ∷ 2 ∷ 2 ∷ 1 ∷ raised ∷ []))
    ∷ row "with words, halted: raised" (same (once_graph (1 ∷ 1 ∷ 1 ∷ [])) (0 ∷ 1 ∷ 4 ∷ 255 ∷ raised ∷ []) && same (once_machine (1 ∷ 1 ∷ 1 ∷ [])) (0 ∷ 1 ∷ 3 ∷ 255 ∷ raised ∷ []))
    ∷ row "two sums up to 2147483647: clear" (spent Counting (regs 2147483645 1) 2 0 clear)
    ∷ row "the third: raised" (spent Counting (regs 2147483645 1) 3 0 raised)
    ∷ row "a fourth that does not go over: raised" (spent Counting (regs 2147483645 1) 4 0 raised)
    -- from another start the sum is not passed
    ∷ row "from block 1 and from its state, 1: clear" (halts_from 1 Once 3 2 over clear)
    -- word c of a synthesised machine: the reference of the block's arrival
    ∷ row "P7 its wires" (same (take 80 (drop wires_offset p7_made)) p7_wires)
    ∷ row "two branches, by the wires that lead to them" (same (c_of 11 Fork) (1 ∷ 0 ∷ 14 ∷ 0 ∷ 5 ∷ 0 ∷ 18 ∷ 0 ∷ 3 ∷ 18 ∷ 4 ∷ 19 ∷ 1 ∷ 0 ∷ 1 ∷ 0 ∷ 19 ∷ 22 ∷ 19 ∷ 20 ∷ 19 ∷ 1 ∷ []))
    ∷ row "a block with two edges in, by their or" (same (c_of 9 Meet) (1 ∷ 0 ∷ 14 ∷ 0 ∷ 5 ∷ 0 ∷ 18 ∷ 0 ∷ 6 ∷ 0 ∷ 19 ∷ 0 ∷ 19 ∷ 1 ∷ 3 ∷ 20 ∷ 1 ∷ 0 ∷ []))
    ∷ row "every code: 0 but for the sums" (same (c_of 14 Codes) (1 ∷ 0 ∷ 2 ∷ 0 ∷ 5 ∷ 0 ∷ 6 ∷ 0 ∷ 7 ∷ 0 ∷ 8 ∷ 0 ∷ 9 ∷ 0 ∷ 10 ∷ 0 ∷ 11 ∷ 0 ∷ 1 ∷ 0 ∷ 20 ∷ 0 ∷ 3 ∷ 16 ∷ 4 ∷ 16 ∷ 1 ∷ 0 ∷ []))
    -- refusal 10: c of an add or sub is a register below R or an earlier wire
    ∷ row "c a register at R: 10" (ten 3 2 && ten 4 2)
    ∷ row "c the wire itself: 10" (ten 3 18 && ten 4 18)
    ∷ row "c a later wire: 10" (ten 3 19 && ten 4 19)
    ∷ row "c no wire of the state: 10" (ten 3 20 && ten 4 20)
    -- it counts where what c reads is nonzero
    ∷ row "add: c register 1, nonzero: raised" (runs 3 1 2147483647 1 raised)
    ∷ row "sub: c register 1, nonzero: raised" (runs 4 1 0 (minus 2147483648) raised)
    ∷ row "add: c an earlier wire, 7: raised" (runs 3 16 2147483647 1 raised)
    ∷ row "sub: c an earlier wire, 7: raised" (runs 4 16 (minus 2147483648) 1 raised)
    ∷ row "add: c an earlier wire, 0: clear" (runs 3 17 2147483647 1 clear)
    ∷ row "sub: c an earlier wire, 0: clear" (runs 4 17 (minus 2147483648) 1 clear)
    ∷ row "add: nothing goes over, c nonzero: clear" (runs 3 16 2147483646 1 clear)
    ∷ row "c of any other code but 19 is not read" (every (λ k. runs k 99 2147483647 1 clear) (1 ∷ 2 ∷ 5 ∷ 6 ∷ 7 ∷ 8 ∷ 9 ∷ 10 ∷ 11 ∷ 12 ∷ 13 ∷ 14 ∷ 15 ∷ 16 ∷ 17 ∷ 18 ∷ []))
    -- c = 0, as in every table made before R-2, is register 0
    ∷ row "c = 0, register 0 nonzero: raised" (runs 4 0 1 (minus 2147483648) raised)
    ∷ row "c = 0, register 0 zero: clear" (runs 4 0 0 (minus 2147483648) clear)
    ∷ row "P7 on 2147483647, -1: block 4 would go over: clear" (p7_runs (machine_table_of (machine P7)) 2147483647 (minus 1) clear && same (by_graph P7 0 4 (regs 2147483647 (minus 1))) (0 ∷ 0 ∷ 4 ∷ 1 ∷ clear ∷ []))
    ∷ row "P7 before R-2: raised" (p7_runs p7_before 2147483647 (minus 1) raised)
    ∷ row "P7 before R-2 on 0, -2147483648: clear" (p7_runs p7_before 0 (minus 2147483648) clear)
    -- a refused run has a clear flag
    ∷ row "graph: 9" (refused_with 9 (graph_answer (graph_table_of Sum) (regs 2147483647 1) 1 9))
    ∷ row "machine: 9" (refused_with 9 (machine_answer (machine_table_of (machine Sum)) (regs 2147483647 1) 1 9))
    ∷ row "graph: 12" (refused_with 12 (graph_answer (graph_table_of Codes) (regs 2147483647 1) 0 9))
    ∷ row "graph with words: 11" (refused_with 11 (graph_words_answer (graph_table_of Sum) (regs 2147483647 1) 0 9 (1 ∷ []) []))
    ∷ row "machine with words: 10" (refused_with 10 (machine_words_answer (reading 3 18) (regs 2147483647 1) 0 9 (1 ∷ [])))
    ∷ []
