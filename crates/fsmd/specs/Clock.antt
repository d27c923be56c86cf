-- What the code's cycle asks of a table and of its room, and what it hands back. Assumes nothing.
use Rattle.std.specs.Prelude.{ℕ, ◌+◌, ◌%◌, ◌≤◌, ◌<◌, Bool, true, List, ◌≡◌, leb, length, get_or}
use Rattle.runs.specs.Lists.{up_from, every}
use Rattle.runs.specs.Runs.{Moved}
use Rattle.fsmd.specs.declared.clock.Next.{Next}
use Rattle.fsmd.specs.Layout.{max_states, max_blocks, max_registers, max_wires, machine_words, small_room_words}
use Rattle.fsmd.specs.Machine.{to_state}
use Rattle.fsmd.specs.Table.{state_count, machine_register_count, first_wire_at, wire_count_at, state_at, block_state_at, arrival_at, valid_state}

-- what reference x reads in a room
abbrev pub read_in : List ℕ → ℕ → ℕ
read_in words x = get_or words (x % length words) 0

-- a room of n words has space for the registers and the wires of each state
abbrev pub Roomy : List ℕ → ℕ → Type 0
Roomy t n = (k : ℕ) → k < state_count t → max_registers + wire_count_at t k ≤ n

-- whether the small room has
abbrev pub fits_small : List ℕ → Bool
fits_small t = every (λ k. leb (max_registers + wire_count_at t k) small_room_words) (up_from 0 (state_count t))

-- the table is whole, state k's record and wires lie in it, and its references are valid
pub record Ready (t : List ℕ) (k : ℕ) : Type 0 where
  pub whole : machine_words ≤ length t
  pub state : k < max_states
  pub wires : first_wire_at t k + wire_count_at t k ≤ max_wires
  pub registers : machine_register_count t ≤ max_registers
  pub valid : valid_state (machine_register_count t) (state_at t k) ≡ true

-- the arrivals of state k's blocks are among its wires
abbrev pub Arriving : List ℕ → ℕ → Type 0
Arriving t k = (b : ℕ) → b < max_blocks → block_state_at t b ≡ k → arrival_at t b < max_registers + wire_count_at t k

-- what a cycle hands back
abbrev pub after_cycle : List ℕ → Next → Moved
after_cycle t r = record { place = to_state (state_count t) r.state; registers = r.registers.words; over = r.over }
