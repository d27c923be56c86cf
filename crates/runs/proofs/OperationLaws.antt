-- Laws of operations that run: what is refused and what is not. Assumes nothing.
use Prim.Native.Nat.{ℕ}
use mathlib.Core.Bool.{Bool, true, false}
use mathlib.Core.List.{List, ◌++◌}
use mathlib.Core.Path.{◌≡◌, refl, sym, ap, ◌∙◌}
use lib.ListN.{take, drop}
use lib.Dec.{ltb}
use Rattle.std.specs.Prelude.{Option, Some, None, Result, Ok, Err}
use Rattle.std.proofs.Common.{rules}
use Rattle.refusal.specs.declared.Refusal.{Refusal}
use Rattle.word.specs.Word.{truth}
use Rattle.word.specs.RegisterFile.{file_words}
use Rattle.runs.specs.Runs.{Place, standing, halted, Configuration, start_at, Supply, Runner, times, steps_run, total, outcome, answer, registers_after, run_number, run_outcome, run_count, run_next, run_flag}
use Rattle.runs.specs.Operations.{answered, registers_left, total_of, next_at, outcome_at, RunValues}
use Rattle.runs.specs.declared.RunEnd.{RunEnd}
use Rattle.runs.proofs.FlagLaws.{flag_exactly, truth_one}
use Rattle.runs.proofs.SupplyLaws.{Alike, answer_alike, registers_alike}
use Rattle.runs.proofs.TotalLaws.{total_alike}

module _ (r : Runner) (ws : Supply) (buffer : List ℕ) (start budget : ℕ) (n : Option Refusal) where
  module _ (m : Refusal) (e : n ≡ Some m) where
    pub refused : answered n r ws buffer start budget ≡ Err m
    unfolding answered
    refused = rw e

    pub refused_left : registers_left n r ws buffer start budget ≡ buffer
    unfolding registers_left
    refused_left = rw e

  module _ (e : n ≡ None) where
    pub accepted : answered n r ws buffer start budget ≡ Ok (answer r ws budget (start_at start (take file_words buffer)))
    unfolding answered
    accepted = rw e

    pub accepted_left : registers_left n r ws buffer start budget ≡ registers_after r ws budget (start_at start (take file_words buffer)) ++ drop file_words buffer
    unfolding registers_left
    accepted_left = rw e

  -- ---- what an operation gives: its answer, and the buffer left

  pub refuses : (m : Refusal) → n ≡ Some m → (Err m ≡ answered n r ws buffer start budget) × (buffer ≡ registers_left n r ws buffer start budget)
  refuses m e = (sym (refused m e), sym (refused_left m e))

  -- from a run on other words that are alike as far as the budget goes
  pub accepts : (a : Supply) → Alike budget a ws → n ≡ None → (x : RunEnd) (left : List ℕ)
      → x ≡ answer r a budget (start_at start (take file_words buffer))
      → left ≡ registers_after r a budget (start_at start (take file_words buffer)) ++ drop file_words buffer
      → (Ok x ≡ answered n r ws buffer start budget) × (left ≡ registers_left n r ws buffer start budget)
  accepts a h e x left p q = (
    ap (λ (y : RunEnd). Ok y) (p ∙ answer_alike r a ws budget h start (take file_words buffer)) ∙ sym (accepted e),
    q
        ∙ ap (λ (l : List ℕ). l ++ drop file_words buffer) (registers_alike r a ws budget h start (take file_words buffer))
        ∙ sym (accepted_left e),
  )

-- ---- what is counted

module _ (f : ℕ → ℕ → List ℕ → ℕ) (r : Runner) (ws : Supply) (buffer : List ℕ) (start budget : ℕ) (n : Option Refusal) where
  pub refused_total : (m : Refusal) → n ≡ Some m → total_of f n r ws buffer start budget ≡ 0
  unfolding total_of
  refused_total m e = rw e

  pub accepted_total : n ≡ None → total_of f n r ws buffer start budget ≡ total r ws f budget (start_at start (take file_words buffer))
  unfolding total_of
  accepted_total e = rw e

  -- from a run on other words that are alike as far as the budget goes
  pub accepts_total : (a : Supply) → Alike budget a ws → n ≡ None
      → total r a f budget (start_at start (take file_words buffer)) ≡ total_of f n r ws buffer start budget
  accepts_total a h e = total_alike r a ws f budget h start (take file_words buffer) ∙ sym (accepted_total e)

-- ---- the fields of an answer

pub record OutcomeValues (p : Place) (left : Bool) (count : ℕ) (flag : Bool) (a : Result RunEnd Refusal) : Type 0 where
  pub number : run_number a ≡ 0
  pub ended : run_outcome a ≡ outcome_at p left
  pub counted : run_count a ≡ count
  pub following : run_next a ≡ next_at p
  pub raised : run_flag a ≡ truth flag

outcome_values : (p : Place) (left : Bool) (count : ℕ) (flag : Bool) → OutcomeValues p left count flag (Ok (outcome p left count flag))
outcome_values halted left count flag = record { number = refl; ended = refl; counted = refl; following = refl; raised = refl }
outcome_values (standing n) true count flag = record { number = refl; ended = refl; counted = refl; following = refl; raised = refl }
outcome_values (standing n) false count flag = record { number = refl; ended = refl; counted = refl; following = refl; raised = refl }

module _ (r : Runner) (ws : Supply) (budget : ℕ) (c : Configuration) where
  pub answer_values : RunValues None r ws budget c (Ok (answer r ws budget c))
  unfolding answer
  answer_values =
      let end = times r ws budget c in
      let v = outcome_values end.place (ltb (steps_run r ws budget c) budget) (steps_run r ws budget c) end.contents.flag in
      record {
        number = v.number;
        refused = λ f. absurd (f refl);
        outcome = λ e. v.ended;
        count = λ e. v.counted;
        next = λ e. v.following;
        flag = λ e. v.raised;
        raised = λ e h.
            let x = flag_exactly r ws budget c h in
            (λ f. x.0 (truth_one end.contents.flag (sym v.raised ∙ f)), λ s. v.raised ∙ ap truth (x.1 s));
      }

  refused_values : (m : Refusal) → RunValues (Some m) r ws budget c (Err m)
  refused_values m =
      record {
        number = refl;
        refused = λ f. (refl, refl, refl, refl);
        outcome = λ e. absurd (search (e, rules));
        count = λ e. absurd (search (e, rules));
        next = λ e. absurd (search (e, rules));
        flag = λ e. absurd (search (e, rules));
        raised = λ e h. absurd (search (e, rules));
      }

pub operation_values : (r : Runner) (ws : Supply) (buffer : List ℕ) (start budget : ℕ) (n : Option Refusal)
    → RunValues n r ws budget (start_at start (take file_words buffer)) (answered n r ws buffer start budget)
operation_values r ws buffer start budget None =
    rw (accepted r ws buffer start budget None refl) (answer_values r ws budget (start_at start (take file_words buffer)))
operation_values r ws buffer start budget (Some m) =
    rw (refused r ws buffer start budget (Some m) m refl) (refused_values r ws budget (start_at start (take file_words buffer)) m)
