-- R-6 of paper 02: shifts by the whole amount, in graph, machine and bounds, a row an amount. Assumes nothing.
use Rattle.std.specs.Prelude.{ℕ, Bool, ◌&&◌, List, [], ◌∷◌, ◌++◌, replicate}
use Rattle.word.specs.Word.{eval_of, over_of, arity}
use Rattle.runs.specs.Lists.{same, concat_map}
use Rattle.runs.specs.Operations.{answered, registers_left}
use Rattle.cfg.specs.Graph.{CFG, run_block}
use Rattle.cfg.specs.Table.{graph_table_of, graph_of, admitted_graph}
use Rattle.cfg.specs.Run.{graph_refusal, graph_registers, graph_words_refusal, graph_words_registers}
use Rattle.fsmd.specs.Machine.{clock}
use Rattle.fsmd.specs.Table.{machine_table_of, machine_of, admitted_machine}
use Rattle.fsmd.specs.Run.{machine_refusal, machine_registers, machine_words_refusal, machine_words_registers}
use Rattle.grouping.specs.Grouping.{groups}
use Rattle.synthesis.specs.Synthesis.{machine}
use Rattle.bounds.specs.Range.{rule_of, range_of}
use Rattle.bounds.specs.Operation.{bounds_answer, bounds_after, lowest_left, highest_left}
use Rattle.worked_examples.specs.Graphs.{Shifts, SampledShifts, LiteralShifts}
use Rattle.worked_examples.specs.Rows.{Row, row, regs}

-- r0, r1, and what shl, shr and sar made of them
abbrev shifted : ℕ → ℕ → ℕ → ℕ → ℕ → List ℕ
shifted a b l r s = (a ∷ b ∷ l ∷ r ∷ s ∷ []) ++ replicate 11 0

-- from registers rs a graph, its machine, and the bounds of its one cycle end in these
abbrev all_end : CFG → List ℕ → List ℕ → Bool
all_end g rs end =
    let made = machine_table_of (machine g) in
    same (graph_registers (graph_table_of g) rs 0 2) end
    && same (machine_registers made rs 0 1) end
    && same (lowest_left made rs rs 0) end
    && same (highest_left made rs rs 0) end

-- a by b, where b is in a register
abbrev shifts : ℕ → ℕ → ℕ → ℕ → ℕ → Bool
shifts a b l r s = all_end Shifts (regs a b) (shifted a b l r s)

-- where it is a literal
abbrev by_literal : ℕ → ℕ → ℕ → ℕ → ℕ → Bool
by_literal a b l r s = all_end (LiteralShifts b) (regs a 7) (shifted a b l r s)

-- where it is sampled, and bounds do not know it
abbrev by_sample : ℕ → ℕ → ℕ → ℕ → ℕ → Bool
by_sample a b l r s =
    same (graph_words_registers (graph_table_of SampledShifts) (regs a 7) 0 1 (b ∷ []) (0 ∷ [])) (shifted a b l r s)
    && same (machine_words_registers (machine_table_of (machine SampledShifts)) (regs a 7) 0 1 (b ∷ [])) (shifted a b l r s)

unfoldable pub shift_rows : List Row
unfolding concat_map eval_of over_of arity rule_of range_of groups machine answered registers_left graph_refusal graph_words_refusal graph_of run_block machine_refusal machine_words_refusal machine_of clock graph_table_of machine_table_of admitted_graph admitted_machine bounds_answer bounds_after lowest_left highest_left Shifts SampledShifts LiteralShifts
shift_rows =
    -- of a word whose sign bit is set
    row "2684354561 by 0" (shifts 2684354561 0 2684354561 2684354561 2684354561)
    ∷ row "2684354561 by 1" (shifts 2684354561 1 1073741826 1342177280 3489660928)
    ∷ row "2684354561 by 31" (shifts 2684354561 31 2147483648 1 4294967295)
    ∷ row "2684354561 by 32" (shifts 2684354561 32 0 0 4294967295)
    ∷ row "2684354561 by 33" (shifts 2684354561 33 0 0 4294967295)
    ∷ row "2684354561 by 63" (shifts 2684354561 63 0 0 4294967295)
    ∷ row "2684354561 by 64" (shifts 2684354561 64 0 0 4294967295)
    ∷ row "2684354561 by 2 ^ 31" (shifts 2684354561 2147483648 0 0 4294967295)
    ∷ row "2684354561 by 4294967295" (shifts 2684354561 4294967295 0 0 4294967295)
    -- and of one whose sign bit is not
    ∷ row "1610612737 by 0" (shifts 1610612737 0 1610612737 1610612737 1610612737)
    ∷ row "1610612737 by 1" (shifts 1610612737 1 3221225474 805306368 805306368)
    ∷ row "1610612737 by 31" (shifts 1610612737 31 2147483648 0 0)
    ∷ row "1610612737 by 32" (shifts 1610612737 32 0 0 0)
    ∷ row "1610612737 by 33" (shifts 1610612737 33 0 0 0)
    ∷ row "1610612737 by 63" (shifts 1610612737 63 0 0 0)
    ∷ row "1610612737 by 64" (shifts 1610612737 64 0 0 0)
    ∷ row "1610612737 by 2 ^ 31" (shifts 1610612737 2147483648 0 0 0)
    ∷ row "1610612737 by 4294967295" (shifts 1610612737 4294967295 0 0 0)
    -- by a sampled word, and by a literal
    ∷ row "2684354561 by 31, sampled" (by_sample 2684354561 31 2147483648 1 4294967295)
    ∷ row "2684354561 by 32, sampled" (by_sample 2684354561 32 0 0 4294967295)
    ∷ row "2684354561 by 2 ^ 31, sampled" (by_sample 2684354561 2147483648 0 0 4294967295)
    ∷ row "2684354561 by 4294967295, sampled" (by_sample 2684354561 4294967295 0 0 4294967295)
    ∷ row "2684354561 by 31, a literal" (by_literal 2684354561 31 2147483648 1 4294967295)
    ∷ row "2684354561 by 32, a literal" (by_literal 2684354561 32 0 0 4294967295)
    ∷ row "2684354561 by 2 ^ 31, a literal" (by_literal 2684354561 2147483648 0 0 4294967295)
    ∷ row "2684354561 by 4294967295, a literal" (by_literal 2684354561 4294967295 0 0 4294967295)
    ∷ []
