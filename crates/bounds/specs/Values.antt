-- The number that "Registers known within bounds" answers, case by case. Assumes nothing.
use Rattle.std.specs.Prelude.{◌≡◌, ℕ, ◌<◌, ◌≤◌, true, false, List, length, int_lt, slice_index, Result}
use Rattle.word.specs.Word.{signed_of}
use Rattle.fsmd.specs.Layout.{machine_words, max_registers}
use Rattle.fsmd.specs.Table.{state_count, machine_register_count, admitted_machine}
use Rattle.refusal.specs.declared.Refusal.{Refusal}
use Rattle.bounds.specs.Operation.{bounds_number}
use Rattle.bounds.specs.Sound.{NotCrossed}

-- a table and two buffers that are long enough
pub record Long (t ls hs : List ℕ) : Type 0 where
  pub table : machine_words ≤ length t
  pub lowest : max_registers ≤ length ls
  pub highest : max_registers ≤ length hs

pub record BoundsValues (t ls hs : List ℕ) (k : ℕ) (a : Result (Unit {0}) Refusal) : Type 0 where
  pub short_table : length t < machine_words → bounds_number a ≡ 7
  pub short_lowest : length ls < max_registers → bounds_number a ≡ 7
  pub short_highest : length hs < max_registers → bounds_number a ≡ 7
  pub other : Long t ls hs → admitted_machine t ≡ false → bounds_number a ≡ 10
  pub no_state : Long t ls hs → admitted_machine t ≡ true → state_count t ≤ k → bounds_number a ≡ 9
  -- "13 when for a register below R the lowest is above the highest, after 9"
  pub crossed : Long t ls hs → admitted_machine t ≡ true → k < state_count t
      → (i : ℕ) → i < machine_register_count t → int_lt (signed_of (slice_index hs i)) (signed_of (slice_index ls i)) ≡ true → bounds_number a ≡ 13
  pub bounded : Long t ls hs → admitted_machine t ≡ true → k < state_count t → NotCrossed t ls hs → bounds_number a ≡ 0
