-- What both questions answer, from the words of the table: "Both equal a full look at the references". Assumes nothing.
use Rattle.std.specs.Prelude.{ℕ, ◌+◌, ◌<◌, ◌≤◌, true, false, List, ◌≡◌, length, get_or, Bool, Option, Result}
use Rattle.refusal.specs.declared.Refusal.{Refusal}
use Rattle.fsmd.specs.Layout.{machine_words, record_offset, next_registers_offset, absent}
use Rattle.fsmd.specs.Table.{state_count, machine_register_count, admitted_machine}
use Rattle.touching.specs.Touching.{touches_number, touched_field, first_number, first_state}

-- register i is below R, and its next reference in the record of state k is another
pub record Touched (t : List ℕ) (k i : ℕ) : Type 0 where
  pub below : i < machine_register_count t
  pub another : get_or t (record_offset k + next_registers_offset + i) 0 ≡ i → ⊥

-- neither question is refused 7 or 10
pub record Admits (t : List ℕ) : Type 0 where
  pub whole : machine_words ≤ length t
  pub good : admitted_machine t ≡ true

pub record TouchesValues (t : List ℕ) (k i : ℕ) (a : Result Bool Refusal) : Type 0 where
  pub short : length t < machine_words → (touches_number a ≡ 7) × (touched_field a ≡ 0)
  pub other : machine_words ≤ length t → admitted_machine t ≡ false → (touches_number a ≡ 10) × (touched_field a ≡ 0)
  pub no_state : Admits t → state_count t ≤ k → (touches_number a ≡ 9) × (touched_field a ≡ 0)
  pub touched : Admits t → k < state_count t → Touched t k i → (touches_number a ≡ 0) × (touched_field a ≡ 1)
  pub untouched : Admits t → k < state_count t → (Touched t k i → ⊥) → (touches_number a ≡ 0) × (touched_field a ≡ 0)

pub record FirstTouchingValues (t : List ℕ) (i : ℕ) (a : Result (Option ℕ) Refusal) : Type 0 where
  pub short : length t < machine_words → (first_number a ≡ 7) × (first_state a ≡ 0)
  pub other : machine_words ≤ length t → admitted_machine t ≡ false → (first_number a ≡ 10) × (first_state a ≡ 0)
  -- the lowest state that touches it, or none
  pub lowest : Admits t → (k : ℕ) → k < state_count t → Touched t k i → ((j : ℕ) → j < k → Touched t j i → ⊥) → (first_number a ≡ 0) × (first_state a ≡ k)
  pub nowhere : Admits t → ((k : ℕ) → k < state_count t → Touched t k i → ⊥) → (first_number a ≡ 0) × (first_state a ≡ absent)
