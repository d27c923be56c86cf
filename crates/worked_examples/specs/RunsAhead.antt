-- "A machine doing the whole run in its first cycle and idling after" (the reviewer's checklist of paper 01): what it is, and two tables of it. Assumes nothing.
-- proofs/RunsAhead shows that demand 3 refutes every such table.
use Rattle.std.specs.Prelude.{ℕ, ◌≤◌, true, List, [], ◌∷◌, ◌≡◌, length, drop}
use Rattle.word.specs.Word.{eval_of}
use Rattle.runs.specs.Lists.{up_from, same, every, concat_map}
use Rattle.runs.specs.Runs.{halted, Configuration, unread}
use Rattle.runs.specs.Operations.{answered, registers_left}
use Rattle.cfg.specs.Graph.{run_block}
use Rattle.cfg.specs.Table.{graph_table_of, graph_of, admitted_graph}
use Rattle.cfg.specs.Run.{graph_refusal, graph_answer}
use Rattle.fsmd.specs.Layout.{max_registers}
use Rattle.fsmd.specs.Machine.{State, FSMD, machine_runner, clock}
use Rattle.fsmd.specs.Table.{machine_table_of, machine_of, admitted_machine}
use Rattle.fsmd.specs.Run.{machine_refusal, machine_answer, machine_registers}
use Rattle.grouping.specs.Grouping.{groups}
use Rattle.state.specs.Wires.{set_wire}
use Rattle.synthesis.specs.Synthesis.{machine, synthesis_words}
use Rattle.agreement.specs.Agreement.{graph_after, machine_after}
use Rattle.worked_examples.specs.Graphs.{Twice}
use Rattle.worked_examples.specs.Rows.{Row, row, no_machine, fields, regs}

-- Twice after n blocks, and a table's machine after k cycles, both from the start
abbrev pub blocks_on : List ℕ → ℕ → Configuration
blocks_on rs n = graph_after Twice (groups Twice).starters unread 0 rs n

abbrev pub cycles_on : List ℕ → List ℕ → ℕ → Configuration
cycles_on m rs k = machine_after (machine_runner (machine_of m)) unread 0 rs k

-- both have halted, with equal registers and flags
pub record SameHalt (c d : Configuration) : Type 0 where
  pub first : c.place ≡ halted
  pub second : d.place ≡ halted
  pub contents : c.contents ≡ d.contents

-- A machine table that runs ahead of Twice, on all registers.
pub record RunsAhead (m : List ℕ) : Type 0 where
  pub accepted : admitted_machine m ≡ true
  -- its first cycle leaves the registers and the flag of the whole run, which takes three blocks
  pub early : (rs : List ℕ) → length rs ≡ max_registers → (cycles_on m rs 1).contents ≡ (blocks_on rs 3).contents
  -- where the run has ended, with cycle 2 and block 3, nothing tells it from a right one
  pub ends : (rs : List ℕ) → length rs ≡ max_registers → (k n : ℕ) → 2 ≤ k → 3 ≤ n → SameHalt (cycles_on m rs k) (blocks_on rs n)

-- ---- two of them: the machine of Twice, but for state 0

-- both cycles' work at once, and then state n
abbrev at_once : ℕ → State
at_once n = record { wires = set_wire 1 ∷ set_wire 2 ∷ set_wire n ∷ []; next = 18; next_registers = 16 ∷ 17 ∷ [] }

abbrev with : State → FSMD
with q =
    let m = machine Twice in
    record { registers = m.registers; starters = m.starters; block_states = m.block_states; arrivals = m.arrivals; states = q ∷ drop 1 m.states }

-- this one goes on to state 1, where its second cycle finds all done, and halts when the graph does
unfoldable pub idling : List ℕ
unfolding machine_table_of machine Twice
idling = machine_table_of (with (at_once 1))

-- this one halts at once
unfoldable pub halting : List ℕ
unfolding machine_table_of machine Twice
halting = machine_table_of (with (at_once 255))

-- ---- the three machines through the operations, from registers 0 and 0

abbrev right : List ℕ
right = synthesis_words (graph_table_of Twice) no_machine

abbrev answers_at : List ℕ → ℕ → List ℕ
answers_at m k = fields (machine_answer m (regs 0 0) 0 k)

abbrev left_at : List ℕ → ℕ → List ℕ
left_at m k = machine_registers m (regs 0 0) 0 k

unfoldable pub ahead : List Row
unfolding idling halting concat_map eval_of groups machine answered registers_left graph_refusal graph_of admitted_graph run_block machine_refusal machine_of admitted_machine clock graph_table_of machine_table_of synthesis_words Twice
ahead =
    row "Twice: starters" (same (groups Twice).starters (0 ∷ 1 ∷ []))
    ∷ row "Twice: blocks by state" (same (groups Twice).states (0 ∷ 1 ∷ 1 ∷ []))
    ∷ row "Twice: three blocks" (same (fields (graph_answer (graph_table_of Twice) (regs 0 0) 0 9)) (0 ∷ 1 ∷ 3 ∷ 255 ∷ 0 ∷ []))
    ∷ row "its machine: two cycles" (same (answers_at right 9) (0 ∷ 1 ∷ 2 ∷ 255 ∷ 0 ∷ []))
    ∷ row "its machine: registers after cycle 1" (same (left_at right 1) (regs 1 0))
    ∷ row "its machine: registers after cycle 2" (same (left_at right 2) (regs 1 2))
    ∷ row "idling: the answers of its machine at budgets 0 to 4" (every (λ k. same (answers_at idling k) (answers_at right k)) (up_from 0 5))
    ∷ row "idling: registers after cycle 1" (same (left_at idling 1) (regs 1 2))
    ∷ row "idling: registers after cycle 2" (same (left_at idling 2) (regs 1 2))
    ∷ row "halting: one cycle" (same (answers_at halting 9) (0 ∷ 1 ∷ 1 ∷ 255 ∷ 0 ∷ []))
    ∷ row "halting: registers after cycle 1" (same (left_at halting 1) (regs 1 2))
    ∷ []
