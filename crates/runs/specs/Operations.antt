-- An operation that runs a graph or a machine on a register buffer: its answer, and the words that it leaves there. Assumes nothing.
use Rattle.std.specs.Prelude.{ℕ, Bool, true, false, ◌≢◌, ◌↔◌, ◌≡◌, List, ◌++◌, take, drop, ltb, Option, Some, None, Result, Ok, Err}
use Rattle.word.specs.Word.{truth}
use Rattle.word.specs.RegisterFile.{file_words}
use Rattle.runs.specs.Runs.{Place, standing, halted, no_place, Configuration, start_at, Supply, Runner, times, steps_run, total, SomeOver, answer, registers_after, refusal_number, run_number, run_outcome, run_count, run_next, run_flag}
use Rattle.refusal.specs.declared.Refusal.{Refusal}
use Rattle.runs.specs.declared.RunEnd.{RunEnd}

-- the answer of an operation that gives x, or is refused
abbrev pub unless_refused : {A : Type 0} → Option Refusal → A → Result A Refusal
unless_refused None x = Ok x
unless_refused (Some e) x = Err e

-- the buffer's first 16 words are the registers
unfoldable pub answered : Option Refusal → Runner → Supply → List ℕ → ℕ → ℕ → Result RunEnd Refusal
unfolding answer
answered n r ws buffer start budget = unless_refused n (answer r ws budget (start_at start (take file_words buffer)))

-- a refused operation leaves the buffer; else the words from 16 up stay
unfoldable pub registers_left : Option Refusal → Runner → Supply → List ℕ → ℕ → ℕ → List ℕ
unfolding registers_after
registers_left None r ws buffer start budget = registers_after r ws budget (start_at start (take file_words buffer)) ++ drop file_words buffer
registers_left (Some e) r ws buffer start budget = buffer

-- what f counts in the run, added up; 0 of a refused operation
unfoldable pub total_of : (ℕ → ℕ → List ℕ → ℕ) → Option Refusal → Runner → Supply → List ℕ → ℕ → ℕ → ℕ
unfolding total
total_of f None r ws buffer start budget = total r ws f budget (start_at start (take file_words buffer))
total_of f (Some e) r ws buffer start budget = 0

-- ---- the papers' fields of the answer, from the run itself

-- the block or state stood at, 255 where the run has halted
abbrev pub next_at : Place → ℕ
next_at (standing n) = n
next_at halted = no_place

-- 1 halted; where it stands, 2 dry with budget left, else 0 spent
abbrev pub outcome_at : Place → Bool → ℕ
outcome_at halted left = 1
outcome_at (standing n) true = 2
outcome_at (standing n) false = 0

-- of an operation that is refused with n, or runs from c where n is none
pub record RunValues (n : Option Refusal) (r : Runner) (ws : Supply) (budget : ℕ) (c : Configuration) (a : Result RunEnd Refusal) : Type 0 where
  pub number : run_number a ≡ refusal_number n
  pub refused : n ≢ None → (run_outcome a ≡ 0) × (run_count a ≡ 0) × (run_next a ≡ 0) × (run_flag a ≡ 0)
  pub outcome : n ≡ None → run_outcome a ≡ outcome_at (times r ws budget c).place (ltb (steps_run r ws budget c) budget)
  pub count : n ≡ None → run_count a ≡ steps_run r ws budget c
  pub next : n ≡ None → run_next a ≡ next_at (times r ws budget c).place
  pub flag : n ≡ None → run_flag a ≡ truth (times r ws budget c).contents.flag
  -- from a clear flag, it is raised exactly when a block or cycle that the run passes goes over
  pub raised : n ≡ None → c.contents.flag ≡ false → (run_flag a ≡ 1) ↔ SomeOver r ws budget c
