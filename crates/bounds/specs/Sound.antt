-- "Every cycle from values inside must end inside" (R-5 of paper 02), and what is answered may be asked about again. Assumes nothing.
use Rattle.std.specs.Prelude.{◌≡◌, ℕ, ◌^◌, ◌<◌, true, List, length, int_le, slice_index}
use Rattle.word.specs.Word.{signed_of}
use Rattle.fsmd.specs.Layout.{max_registers}
use Rattle.fsmd.specs.Machine.{machine_runner}
use Rattle.fsmd.specs.Table.{machine_register_count, machine_of}

-- x lies from l to h, as signed
pub record Between (l h x : ℕ) : Type 0 where
  pub above : int_le (signed_of l) (signed_of x) ≡ true
  pub under : int_le (signed_of x) (signed_of h) ≡ true

-- each of the first n registers lies from its lowest to its highest value
abbrev pub Inside : ℕ → List ℕ → List ℕ → List ℕ → Type 0
Inside n ls hs rs = (i : ℕ) → i < n → Between (slice_index ls i) (slice_index hs i) (slice_index rs i)

-- sixteen words
pub record RegisterWords (rs : List ℕ) : Type 0 where
  pub count : length rs ≡ max_registers
  pub words : (i : ℕ) → slice_index rs i < 2 ^ 32

-- of a cycle of state k, whatever the sampled word: registers that start from ls to hs end from ls' to hs'
abbrev pub CyclesStayInside : List ℕ → ℕ → List ℕ → List ℕ → List ℕ → List ℕ → Type 0
CyclesStayInside t k ls hs ls' hs' =
    (sampled : ℕ) → sampled < 2 ^ 32 → (rs : List ℕ) → RegisterWords rs
    → Inside (machine_register_count t) ls hs rs
    → Inside (machine_register_count t) ls' hs' ((machine_runner (machine_of t)).unit sampled k rs).registers

-- no register below R has its lowest above its highest: so it is of what is answered, which is then no reason for 13
abbrev pub NotCrossed : List ℕ → List ℕ → List ℕ → Type 0
NotCrossed t ls hs = (i : ℕ) → i < machine_register_count t → int_le (signed_of (slice_index ls i)) (signed_of (slice_index hs i)) ≡ true
