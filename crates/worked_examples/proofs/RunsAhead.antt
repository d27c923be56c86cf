-- Demand 3 refutes every machine that runs ahead, and there are such machines. Assumes nothing.
use Prim.Native.Nat.{ℕ, zero, suc, ◌≤◌}
use native.Mathlib.Omega.{arith}
use mathlib.Core.Bool.{true, false}
use mathlib.Core.List.{List, ◌∷◌}
use mathlib.Core.Path.{◌≡◌, refl, sym, ap, ◌∙◌}
use lib.ListN.{get_or, replicate}
use Rattle.std.specs.Prelude.{Ok}
use Rattle.word.specs.Word.{eval_of}
use Rattle.runs.specs.Lists.{concat_map}
use Rattle.runs.specs.Runs.{halted, Contents, Configuration, stands_at, start_at, unread, Runner, step, times, steps_run}
use Rattle.runs.proofs.RunLaws.{halted_ends, times_ended, place_of, contents_of}
use Rattle.cfg.specs.Graph.{run_block, graph_runner}
use Rattle.cfg.specs.Table.{graph_table_of, graph_of}
use Rattle.fsmd.specs.Layout.{max_registers}
use Rattle.fsmd.specs.Machine.{clock, machine_runner}
use Rattle.fsmd.specs.Table.{machine_table_of, machine_of, admitted_machine}
use Rattle.grouping.specs.Grouping.{groups}
use Rattle.synthesis.specs.Synthesis.{machine, synthesis_answer, synthesis_words}
use Rattle.agreement.specs.Agreement.{Agreement, AgreementWithoutWords}
use Rattle.agreement.proofs.TableAgreement.{without_words, synthesised_agrees}
use Rattle.worked_examples.specs.Graphs.{Twice}
use Rattle.worked_examples.specs.Rows.{no_machine}
use Rattle.worked_examples.specs.RunsAhead.{blocks_on, cycles_on, SameHalt, RunsAhead, idling, halting}
use Rattle.worked_examples.proofs.ByWord.{ByWord, by_word}

-- ---- the refutation

-- 1 in r0 and still 0 in r1, with a clear flag
abbrev one_done : Contents
one_done = record { registers = 1 ∷ replicate 15 0; flag = false }

-- sixteen zeros to begin with: that is where a right machine, then in state 1, stands after cycle 1
after_one : (m : List ℕ) → AgreementWithoutWords (graph_table_of Twice) m → cycles_on m (replicate 16 0) 1 ≡ stands_at 1 1 one_done
unfolding graph_table_of graph_of concat_map groups step times steps_run run_block eval_of Twice
after_one m a =
    ((a.agree (replicate 16 0) refl 1).stands 1 one_done refl).1
    (1, record { run = refl; stands = refl; starter = refl })

-- demand 3 as paper 01 has it, and so demand 3 on equal words
pub runs_ahead_refuted_without_words : (m : List ℕ) → RunsAhead m → AgreementWithoutWords (graph_table_of Twice) m → ⊥
unfolding groups times step run_block eval_of Twice
runs_ahead_refuted_without_words m h a =
    let e : ◌≡◌ {A = ℕ} 0 2 = ap (λ (x : Contents). get_or x.registers 1 0) (sym (contents_of (after_one m a)) ∙ h.early (replicate 16 0) refl) in
    omega arith

pub runs_ahead_refuted : (m : List ℕ) → RunsAhead m → Agreement (graph_table_of Twice) m → ⊥
runs_ahead_refuted m h a = runs_ahead_refuted_without_words m h (without_words (graph_table_of Twice) m a)

-- ---- the two tables run ahead

-- a run that has halted after i steps stays
after_halt : (r : Runner) (i k : ℕ) (c : Configuration) → i ≤ k → (times r unread i c).place ≡ halted → times r unread k c ≡ times r unread i c
unfolding times
after_halt r zero k c l h = times_ended r unread k c (halted_ends unread c h)
after_halt r (suc i) zero c l h = absurd (omega arith)
after_halt r (suc i) (suc k) c l h = after_halt r i k (step r unread c) (omega arith) h

-- on sixteen words, named
module _ (m : List ℕ) where
  abbrev Early : List ℕ → Type 0
  Early rs = (cycles_on m rs 1).contents ≡ (blocks_on rs 3).contents

  abbrev Ends : List ℕ → Type 0
  Ends rs = SameHalt (cycles_on m rs 2) (blocks_on rs 3)

  -- an end is one for good
  ends_for_good : (rs : List ℕ) → Ends rs → (k n : ℕ) → 2 ≤ k → 3 ≤ n → SameHalt (cycles_on m rs k) (blocks_on rs n)
  ends_for_good rs e k n l h =
      let p = after_halt (machine_runner (machine_of m)) 2 k (start_at 0 rs) l e.first in
      let q = after_halt (graph_runner Twice (groups Twice).starters) 3 n (start_at 0 rs) h e.second in
      record {
        first = place_of p ∙ e.first;
        second = place_of q ∙ e.second;
        contents = contents_of p ∙ e.contents ∙ sym (contents_of q);
      }

  runs_ahead : admitted_machine m ≡ true → ByWord max_registers Early → ByWord max_registers Ends → RunsAhead m
  runs_ahead ok a e =
      record {
        accepted = ok;
        early = by_word max_registers Early a;
        ends = λ rs size. ends_for_good rs (by_word max_registers Ends e rs size);
      }

pub idling_runs_ahead : RunsAhead idling
unfolding idling admitted_machine machine_of machine_table_of machine groups concat_map clock times step run_block eval_of Twice
idling_runs_ahead =
    runs_ahead idling refl
    (λ a b c d e f g h i j k l m n o p. refl)
    (λ a b c d e f g h i j k l m n o p. record { first = refl; second = refl; contents = refl })

pub halting_runs_ahead : RunsAhead halting
unfolding halting admitted_machine machine_of machine_table_of machine groups concat_map clock times step run_block eval_of Twice
halting_runs_ahead =
    runs_ahead halting refl
    (λ a b c d e f g h i j k l m n o p. refl)
    (λ a b c d e f g h i j k l m n o p. record { first = refl; second = refl; contents = refl })

-- so both are refuted
pub idling_refuted : Agreement (graph_table_of Twice) idling → ⊥
idling_refuted = runs_ahead_refuted idling idling_runs_ahead

pub halting_refuted : Agreement (graph_table_of Twice) halting → ⊥
halting_refuted = runs_ahead_refuted halting halting_runs_ahead

-- ---- and the machine that Synthesise makes is not refuted

twice_made : synthesis_answer (graph_table_of Twice) no_machine ≡ Ok tt
unfolding synthesis_answer graph_table_of concat_map Twice
twice_made = refl

pub twice_agrees : Agreement (graph_table_of Twice) (synthesis_words (graph_table_of Twice) no_machine)
twice_agrees = synthesised_agrees (graph_table_of Twice) no_machine twice_made
