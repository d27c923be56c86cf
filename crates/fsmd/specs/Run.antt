-- "Run machine" of paper 01, and with words as R-1 of paper 02 adds it: answers, registers left and blocks counted (R-7), on all inputs. Assumes nothing.
use Rattle.std.specs.Prelude.{ℕ, Bool, not, ◌||◌, List, length, ltb, Option, Some, None, Result, Ok, Err}
use Rattle.word.specs.Word.{choose}
use Rattle.refusal.specs.declared.Refusal.{Refusal}
use Rattle.refusal.specs.declared.Refusal.TheVariants.{ShortBuffer, NoStart, BadMachine, NoWords}
use Rattle.runs.specs.Runs.{listed, unread}
use Rattle.runs.specs.Operations.{answered, registers_left, total_of}
use Rattle.runs.specs.declared.RunEnd.{RunEnd}
use Rattle.fsmd.specs.declared.run.MachineRun.{MachineRun}
use Rattle.fsmd.specs.Layout.{max_registers, machine_words}
use Rattle.fsmd.specs.Machine.{machine_runner, blocks_run, wordless_machine}
use Rattle.fsmd.specs.Table.{state_count, machine_of, admitted_machine}

abbrev pub machine_short : List ℕ → List ℕ → Bool
machine_short t rs = ltb (length t) machine_words || ltb (length rs) max_registers

-- the answer of a run that counts so many blocks; a refusal comes without them
abbrev pub with_blocks : Result RunEnd Refusal → ℕ → Result MachineRun Refusal
with_blocks (Ok end) blocks = Ok (record { end = end; blocks = blocks })
with_blocks (Err refusal) blocks = Err refusal

-- ---- without words

-- the refusal, in this order: a short table or register buffer, a table that is not admitted, one with code 20, a start that is no state
unfoldable pub machine_refusal : List ℕ → List ℕ → ℕ → Option Refusal
unfolding admitted_machine wordless_machine machine_of
machine_refusal t rs start =
    choose (machine_short t rs) (Some ShortBuffer)
    (choose (not (admitted_machine t)) (Some BadMachine)
    (choose (not (wordless_machine (machine_of t))) (Some NoWords)
    (choose (not (ltb start (state_count t))) (Some NoStart) None)))

abbrev pub machine_answer : List ℕ → List ℕ → ℕ → ℕ → Result RunEnd Refusal
machine_answer t rs start budget = answered (machine_refusal t rs start) (machine_runner (machine_of t)) unread rs start budget

abbrev pub machine_registers : List ℕ → List ℕ → ℕ → ℕ → List ℕ
machine_registers t rs start budget = registers_left (machine_refusal t rs start) (machine_runner (machine_of t)) unread rs start budget

abbrev pub machine_blocks : List ℕ → List ℕ → ℕ → ℕ → ℕ
machine_blocks t rs start budget =
    total_of (blocks_run (machine_of t)) (machine_refusal t rs start) (machine_runner (machine_of t)) unread rs start budget

abbrev pub machine_run : List ℕ → List ℕ → ℕ → ℕ → Result MachineRun Refusal
machine_run t rs start budget = with_blocks (machine_answer t rs start budget) (machine_blocks t rs start budget)

-- ---- with words

-- the same, but that code 20 is no reason
unfoldable pub machine_words_refusal : List ℕ → List ℕ → ℕ → Option Refusal
unfolding admitted_machine
machine_words_refusal t rs start =
    choose (machine_short t rs) (Some ShortBuffer)
    (choose (not (admitted_machine t)) (Some BadMachine)
    (choose (not (ltb start (state_count t))) (Some NoStart) None))

abbrev pub machine_words_answer : List ℕ → List ℕ → ℕ → ℕ → List ℕ → Result RunEnd Refusal
machine_words_answer t rs start budget words =
    answered (machine_words_refusal t rs start) (machine_runner (machine_of t)) (listed words) rs start budget

abbrev pub machine_words_registers : List ℕ → List ℕ → ℕ → ℕ → List ℕ → List ℕ
machine_words_registers t rs start budget words =
    registers_left (machine_words_refusal t rs start) (machine_runner (machine_of t)) (listed words) rs start budget

abbrev pub machine_words_blocks : List ℕ → List ℕ → ℕ → ℕ → List ℕ → ℕ
machine_words_blocks t rs start budget words =
    total_of (blocks_run (machine_of t)) (machine_words_refusal t rs start) (machine_runner (machine_of t)) (listed words) rs start budget

abbrev pub machine_words_run : List ℕ → List ℕ → ℕ → ℕ → List ℕ → Result MachineRun Refusal
machine_words_run t rs start budget words = with_blocks (machine_words_answer t rs start budget words) (machine_words_blocks t rs start budget words)
