-- "Registers known within bounds" (R-5 of paper 02) as an operation: its answer, and what both buffers hold at the end, on all inputs. Assumes nothing.
use Rattle.std.specs.Prelude.{ℕ, Bool, not, ◌||◌, List, ◌++◌, length, drop, nat_lt, slice_index, Result, Ok, Err}
use Rattle.refusal.specs.declared.Refusal.{Refusal}
use Rattle.refusal.specs.declared.Refusal.TheVariants.{ShortBuffer, NoStart, BadMachine, CrossedBounds}
use Rattle.refusal.specs.Refusal.{number}
use Rattle.word.specs.Word.{choose, compare_of}
use Rattle.word.specs.declared.Comparison.TheVariants.{Ge}
use Rattle.runs.specs.Lists.{up_from, every}
use Rattle.fsmd.specs.Layout.{max_registers, machine_words}
use Rattle.fsmd.specs.Table.{state_count, machine_register_count, state_at, admitted_machine}
use Rattle.bounds.specs.Bounds.{Bounds, first_bounds, next_bounds}

-- of the first n registers, each has a lowest that is not above the highest
abbrev pub ordered : ℕ → List ℕ → List ℕ → Bool
ordered n ls hs = every (λ i. compare_of Ge (slice_index hs i) (slice_index ls i)) (up_from 0 n)

-- 7 a short table or buffer, 10 a table that is not admitted, 9 no such state, 13 a lowest above its highest
unfoldable pub bounds_answer : List ℕ → List ℕ → List ℕ → ℕ → Result (Unit {0}) Refusal
unfolding admitted_machine
bounds_answer t ls hs k =
    choose (nat_lt (length t) machine_words || nat_lt (length ls) max_registers || nat_lt (length hs) max_registers) (Err ShortBuffer)
    (choose (not (admitted_machine t)) (Err BadMachine)
    (choose (not (nat_lt k (state_count t))) (Err NoStart)
    (choose (not (ordered (machine_register_count t) ls hs)) (Err CrossedBounds) (Ok tt))))

-- the bounds after a cycle of state k
unfoldable pub bounds_after : List ℕ → List ℕ → List ℕ → ℕ → Bounds
unfolding state_at next_bounds
bounds_after t ls hs k = next_bounds (state_at t k) (first_bounds max_registers ls hs)

-- a refusal leaves a buffer; else its first r words are new, and those from r up stay
abbrev pub left : Result (Unit {0}) Refusal → ℕ → List ℕ → List ℕ → List ℕ
left (Err refusal) r new old = old
left (Ok done) r new old = new ++ drop r old

unfoldable pub lowest_left : List ℕ → List ℕ → List ℕ → ℕ → List ℕ
unfolding bounds_answer bounds_after
lowest_left t ls hs k = left (bounds_answer t ls hs k) (machine_register_count t) (bounds_after t ls hs k).lowest ls

unfoldable pub highest_left : List ℕ → List ℕ → List ℕ → ℕ → List ℕ
unfolding bounds_answer bounds_after
highest_left t ls hs k = left (bounds_answer t ls hs k) (machine_register_count t) (bounds_after t ls hs k).highest hs

-- the number of an answer: that of the refusal, or 0
abbrev pub bounds_number : Result (Unit {0}) Refusal → ℕ
bounds_number (Err refusal) = number refusal
bounds_number (Ok done) = 0
