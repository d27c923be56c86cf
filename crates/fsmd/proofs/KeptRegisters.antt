-- Running a machine keeps the words of the registers from R up, whatever the table, the buffer, the start and the budget. Assumes nothing.
use Prim.Native.Nat.{ℕ, ◌+◌, ◌<◌, ◌≤◌}
use native.Mathlib.Omega.{arith}
use mathlib.Core.Bool.{Bool, true, false}
use mathlib.Core.List.{List, map}
use mathlib.Core.Path.{◌≡◌, refl, ◌∙◌}
use lib.Dec.{ltb}
use lib.ListN.{length, get_or, drop, length-append, length-drop, length-map}
use lib.Seq.{drop_at}
use borrow.Author.Tests.{ltb-true}
use Rattle.runs.specs.Runs.{Place, standing, halted, listed, unread}
use Rattle.runs.proofs.KeptRegisters.{Keeps, Ready, operation_keeps}
use Rattle.fsmd.specs.Layout.{record_offset, next_registers_offset}
use Rattle.fsmd.specs.Machine.{State, FSMD, worked, to_state, clock, machine_runner}
use Rattle.fsmd.specs.Table.{state_at, machine_of}
use Rattle.fsmd.specs.Run.{machine_refusal, machine_registers, machine_words_refusal, machine_words_registers}
use Rattle.fsmd.proofs.Machines.{states_length, registers_is, state_is, admitted_facts}
use Rattle.fsmd.proofs.Windows.{window_length}
use Rattle.fsmd.proofs.Unrefused.{Unrefused, unrefused, words_unrefused}

-- one of n states, where it has not halted
abbrev Below : ℕ → Place → Type 0
Below n (standing k) = k < n
Below n halted = Unit {0}

next_below : (n k : ℕ) → Below n (to_state n k)
next_below n k = go (ltb k n) refl
  where
    go : (b : Bool) → ltb k n ≡ b → Below n (to_state n k)
    go true e = rw e (ltb-true k n e)
    go false e = rw e tt

-- a cycle of a state that has R next registers
clock_keeps : (m : FSMD) (w : ℕ) (q : State) (rs : List ℕ) (n r : ℕ) → length m.states ≡ n → m.registers ≡ r → length q.next_registers ≡ r → r ≤ length rs
    → Keeps r (Below n) rs (clock m w q rs)
unfolding clock
clock_keeps m w q rs n r states registers next l =
    let new = map (λ (x : ℕ). get_or (worked w rs q.wires) x 0) q.next_registers in
    let size : length new ≡ r = length-map q.next_registers (λ (x : ℕ). get_or (worked w rs q.wires) x 0) ∙ next in
    let place = next_below n (get_or (worked w rs q.wires) q.next 0) in
    record {
      fits = rw states place;
      kept = record {
        long = rw registers (length-append new (drop r rs) ∙ (let d = length-drop r rs in omega arith));
        above = rw registers (drop_at new (drop r rs) r size);
      };
    }

-- a state whose record lies in the table has them
pub next_length : (t : List ℕ) (k : ℕ) → record_offset k + next_registers_offset + get_or t 1 0 ≤ length t → length (state_at t k).next_registers ≡ get_or t 1 0
unfolding state_at
next_length t k h = window_length t (record_offset k + next_registers_offset) (get_or t 1 0) h

module _ (t rs : List ℕ) (start budget : ℕ) where
  ready : Unrefused t rs start → Ready (get_or t 1 0) (machine_runner (machine_of t)) (Below (get_or t 0 0)) rs start
  ready u =
      let a = admitted_facts t u.good in
      let whole = u.whole in
      let few = a.few_registers_lem in
      let states = a.few_states_lem in
      record {
        few = few;
        long = u.long;
        starts = u.below;
        unit = λ w x l h k.
            rw (state_is t x h)
            (clock_keeps (machine_of t) w (state_at t x) l (get_or t 0 0) (get_or t 1 0) (states_length t) (registers_is t) (next_length t x (omega arith)) k);
      }

  pub machine_keeps : drop (get_or t 1 0) (machine_registers t rs start budget) ≡ drop (get_or t 1 0) rs
  machine_keeps =
      operation_keeps (get_or t 1 0) (machine_runner (machine_of t)) unread (Below (get_or t 0 0)) (machine_refusal t rs start) rs start budget
      (λ h. ready (unrefused t rs start h))

  pub machine_words_keep : (words : List ℕ) → drop (get_or t 1 0) (machine_words_registers t rs start budget words) ≡ drop (get_or t 1 0) rs
  machine_words_keep words =
      operation_keeps (get_or t 1 0) (machine_runner (machine_of t)) (listed words) (Below (get_or t 0 0)) (machine_words_refusal t rs start) rs start budget
      (λ h. ready (words_unrefused t rs start h))
