-- The answers of both questions, case by case, and what the touch word of an admitted table says. Assumes nothing.
use Prim.Native.Nat.{ℕ, ◌+◌, ◌<◌, ◌≤◌}
use native.Mathlib.Omega.{arith}
use mathlib.Core.Bool.{Bool, true, false, not, ◌&&◌}
use mathlib.Core.List.{List}
use mathlib.Core.Path.{◌≡◌, refl, ap, ◌∙◌}
use lib.Dec.{eqb, ltb}
use lib.ListN.{length, get_or}
use borrow.Author.Tests.{lt-ltb, le-ltb, ltb-true}
use Rattle.std.specs.Prelude.{None, Some, Result, Ok, Err}
use Rattle.std.proofs.lemmas.Option.{none-some, same_Some}
use Rattle.refusal.specs.declared.Refusal.{Refusal}
use Rattle.refusal.specs.declared.Refusal.TheVariants.{ShortBuffer, NoStart, BadMachine}
use Rattle.word.specs.Word.{choose}
use Rattle.runs.specs.Lists.{up_from, first}
use Rattle.fsmd.specs.Layout.{machine_words, record_offset, next_registers_offset}
use Rattle.fsmd.specs.Touch.{bit}
use Rattle.fsmd.specs.Table.{state_count, machine_register_count, state_at, touch_at, admitted_machine, table_refusal}
use Rattle.fsmd.proofs.Machines.{Admitted, admitted_facts}
use Rattle.fsmd.proofs.TouchLaws.{touch_bit}
use Rattle.fsmd.proofs.Windows.{window_length, window_at}
use Rattle.touching.specs.Touching.{touches_at, touches_answer, first_touching_answer}

-- a table that is refused alone, whatever else is asked
module _ {A : Type 0} (t : List ℕ) (x : Result A Refusal) where
  refused : (r : Refusal) → table_refusal t ≡ Some r → choose (ltb (length t) machine_words) (Err ShortBuffer) (choose (not (admitted_machine t)) (Err BadMachine) x) ≡ Err r
  refused r = go (ltb (length t) machine_words) (admitted_machine t)
    where
      go : (b c : Bool) → choose b (Some ShortBuffer) (choose c None (Some BadMachine)) ≡ Some r → choose b (Err ShortBuffer) (choose (not c) (Err BadMachine) x) ≡ Err r
      go true c e = ap Err (same_Some _ _ e)
      go false true e = absurd (none-some r e)
      go false false e = ap Err (same_Some _ _ e)

-- ---- one state

module _ (t : List ℕ) (k i : ℕ) where
  pub touches_refused : (r : Refusal) → table_refusal t ≡ Some r → touches_answer t k i ≡ Err r
  unfolding touches_answer
  touches_refused = refused t _

  pub touches_short : length t < machine_words → touches_answer t k i ≡ Err ShortBuffer
  unfolding touches_answer
  touches_short h = rw (lt-ltb (length t) machine_words h)

  module _ (whole : machine_words ≤ length t) where
    pub touches_other : admitted_machine t ≡ false → touches_answer t k i ≡ Err BadMachine
    unfolding touches_answer
    touches_other f = rw (le-ltb (length t) machine_words whole, f)

    module _ (good : admitted_machine t ≡ true) where
      pub touches_no_state : state_count t ≤ k → touches_answer t k i ≡ Err NoStart
      unfolding touches_answer
      touches_no_state h = rw (le-ltb (length t) machine_words whole, good, le-ltb k (state_count t) h)

      pub touches_answered : k < state_count t → touches_answer t k i ≡ Ok (touches_at t i k)
      unfolding touches_answer
      touches_answered h = rw (le-ltb (length t) machine_words whole, good, lt-ltb k (state_count t) h)

-- ---- the first state

module _ (t : List ℕ) (i : ℕ) where
  pub first_refused : (r : Refusal) → table_refusal t ≡ Some r → first_touching_answer t i ≡ Err r
  unfolding first_touching_answer
  first_refused = refused t _

  pub first_short : length t < machine_words → first_touching_answer t i ≡ Err ShortBuffer
  unfolding first_touching_answer
  first_short h = rw (lt-ltb (length t) machine_words h)

  module _ (whole : machine_words ≤ length t) where
    pub first_other : admitted_machine t ≡ false → first_touching_answer t i ≡ Err BadMachine
    unfolding first_touching_answer
    first_other f = rw (le-ltb (length t) machine_words whole, f)

    pub first_answered : admitted_machine t ≡ true → first_touching_answer t i ≡ Ok (first (touches_at t i) (up_from 0 (state_count t)))
    unfolding first_touching_answer
    first_answered good = rw (le-ltb (length t) machine_words whole, good)

-- ---- states of an admitted table

module _ (t : List ℕ) (k i : ℕ) (good : admitted_machine t ≡ true) (h : k < state_count t) where
  a : Admitted t
  a = admitted_facts t good

  -- the touch word alone tells
  pub touch_tells : bit (touch_at t k) i ≡ touches_at t i k
  unfolding touches_at
  touch_tells = ap (λ (w : ℕ). bit w i) (a.touch k h) ∙ touch_bit (state_at t k).next_registers i

  -- by the words of the table
  pub touches_words : machine_words ≤ length t → touches_at t i k ≡ (ltb i (machine_register_count t) && not (eqb (get_or t (record_offset k + next_registers_offset + i) 0) i))
  unfolding touches_at state_at
  touches_words whole =
      let r = machine_register_count t in
      let p = record_offset k + next_registers_offset in
      let n = window_length t p r (omega (arith, whole, h, a.few_states_lem, a.few_registers_lem)) in
      ap (λ (m : ℕ). ltb i m && not (eqb (get_or (state_at t k).next_registers i 0) i)) n ∙ go (ltb i r) refl
    where
      go : (b : Bool) → ltb i (machine_register_count t) ≡ b
          → (ltb i (machine_register_count t) && not (eqb (get_or (state_at t k).next_registers i 0) i))
          ≡ (ltb i (machine_register_count t) && not (eqb (get_or t (record_offset k + next_registers_offset + i) 0) i))
      go true e = ap (λ (x : ℕ). ltb i (machine_register_count t) && not (eqb x i)) (window_at t (record_offset k + next_registers_offset) (machine_register_count t) i (ltb-true i (machine_register_count t) e))
      go false e = rw e
