-- Words past a machine table's length do not matter to either question. Assumes nothing.
use Prim.Native.Nat.{ℕ, ◌<◌, ◌≤◌}
use native.Mathlib.Omega.{arith}
use mathlib.Core.Bool.{Bool, true, false}
use mathlib.Core.List.{List, ◌++◌}
use mathlib.Core.Path.{◌≡◌, refl, sym, ap, ◌∙◌}
use lib.Dec.{ltb}
use lib.ListN.{length}
use borrow.Author.Tests.{ltb-true, ltb-false}
use Rattle.std.specs.Prelude.{Ok}
use Rattle.runs.specs.Lists.{up_from, first}
use Rattle.fsmd.specs.Layout.{machine_words}
use Rattle.fsmd.specs.Touch.{touches}
use Rattle.fsmd.specs.Machine.{State}
use Rattle.fsmd.specs.Table.{state_count, admitted_machine}
use Rattle.fsmd.proofs.PastTable.{past_whole, past_admitted, past_count, past_state}
use Rattle.touching.specs.Touching.{touches_at, touches_answer, first_touching_answer}
use Rattle.touching.proofs.Searches.{first_same}
use Rattle.touching.proofs.Answers.{touches_other, touches_no_state, touches_answered, first_other, first_answered}

module _ (t u : List ℕ) (whole : machine_words ≤ length t) (i : ℕ) where
  past_touches_at : admitted_machine t ≡ true → (k : ℕ) → k < state_count t → touches_at (t ++ u) i k ≡ touches_at t i k
  unfolding touches_at
  past_touches_at good k h = ap (λ (q : State). touches q.next_registers i) (past_state t u whole good k h)

  pub past_touches : (k : ℕ) → touches_answer (t ++ u) k i ≡ touches_answer t k i
  past_touches k = go (admitted_machine t) (ltb k (state_count t)) refl refl
    where
      go : (b c : Bool) → admitted_machine t ≡ b → ltb k (state_count t) ≡ c → touches_answer (t ++ u) k i ≡ touches_answer t k i
      go false c e d = touches_other (t ++ u) k i (past_whole t u whole) (past_admitted t u whole ∙ e) ∙ sym (touches_other t k i whole e)
      go true false e d =
          let h = ltb-false k (state_count t) d in
          touches_no_state (t ++ u) k i (past_whole t u whole) (past_admitted t u whole ∙ e) (omega (arith, h, past_count t u whole)) ∙ sym (touches_no_state t k i whole e h)
      go true true e d =
          let h = ltb-true k (state_count t) d in
          touches_answered (t ++ u) k i (past_whole t u whole) (past_admitted t u whole ∙ e) (omega (arith, h, past_count t u whole))
          ∙ ap Ok (past_touches_at e k h) ∙ sym (touches_answered t k i whole e h)

  pub past_first : first_touching_answer (t ++ u) i ≡ first_touching_answer t i
  past_first = go (admitted_machine t) refl
    where
      go : (b : Bool) → admitted_machine t ≡ b → first_touching_answer (t ++ u) i ≡ first_touching_answer t i
      go false e = first_other (t ++ u) i (past_whole t u whole) (past_admitted t u whole ∙ e) ∙ sym (first_other t i whole e)
      go true e =
          first_answered (t ++ u) i (past_whole t u whole) (past_admitted t u whole ∙ e)
          ∙ ap (λ (n : ℕ). Ok (first (touches_at (t ++ u) i) (up_from 0 n))) (past_count t u whole)
          ∙ ap Ok (first_same (touches_at (t ++ u) i) (touches_at t i) 0 (state_count t) (λ k lo h. past_touches_at e k (omega arith)))
          ∙ sym (first_answered t i whole e)
