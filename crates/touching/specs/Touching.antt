-- "Which states touch this register?" (R-4 of paper 02): the answers of both questions, on all inputs, by a look at the references. Assumes nothing.
use Rattle.std.specs.Prelude.{ℕ, Bool, not, List, length, ltb, Option, None, Some, Result, Ok, Err}
use Rattle.refusal.specs.declared.Refusal.{Refusal}
use Rattle.refusal.specs.declared.Refusal.TheVariants.{ShortBuffer, NoStart, BadMachine}
use Rattle.refusal.specs.Refusal.{number}
use Rattle.word.specs.Word.{choose, truth}
use Rattle.runs.specs.Lists.{up_from, first}
use Rattle.fsmd.specs.Layout.{machine_words, absent}
use Rattle.fsmd.specs.Touch.{touches}
use Rattle.fsmd.specs.Table.{state_count, state_at, admitted_machine}

-- whether state k touches register i
unfoldable pub touches_at : List ℕ → ℕ → ℕ → Bool
unfolding state_at
touches_at t i k = touches (state_at t k).next_registers i

-- 7 a short table, 10 a table that is not admitted, 9 no such state
unfoldable pub touches_answer : List ℕ → ℕ → ℕ → Result Bool Refusal
unfolding admitted_machine touches_at
touches_answer t k i =
    choose (ltb (length t) machine_words) (Err ShortBuffer)
    (choose (not (admitted_machine t)) (Err BadMachine)
    (choose (not (ltb k (state_count t))) (Err NoStart) (Ok (touches_at t i k))))

-- 7 and 10 as above; "the lowest-numbered such state ... or none"
unfoldable pub first_touching_answer : List ℕ → ℕ → Result (Option ℕ) Refusal
unfolding admitted_machine touches_at
first_touching_answer t i =
    choose (ltb (length t) machine_words) (Err ShortBuffer)
    (choose (not (admitted_machine t)) (Err BadMachine) (Ok (first (touches_at t i) (up_from 0 (state_count t)))))

-- ---- the fields of an answer: its number, and 1 or 0, or the state, 255 for none

abbrev pub touches_number : Result Bool Refusal → ℕ
touches_number (Err refusal) = number refusal
touches_number (Ok b) = 0

abbrev pub touched_field : Result Bool Refusal → ℕ
touched_field (Err refusal) = 0
touched_field (Ok b) = truth b

abbrev pub first_number : Result (Option ℕ) Refusal → ℕ
first_number (Err refusal) = number refusal
first_number (Ok state) = 0

abbrev pub first_state : Result (Option ℕ) Refusal → ℕ
first_state (Err refusal) = 0
first_state (Ok None) = absent
first_state (Ok (Some k)) = k
