-- The listing that a machine table's words give. Assumes nothing.
use Rattle.std.specs.Prelude.{ℕ, ◌+◌, ◌-◌, ◌≤◌, List, [], ◌∷◌, ◌++◌, length, get_or, take, drop}
use Rattle.runs.specs.Lists.{up_from, concat_map, occurrences}
use Rattle.decimal.specs.Decimal.{decimal_of}
use Rattle.delimited.specs.Parts.{bytes}
use Rattle.fsmd.specs.Layout.{max_states, max_blocks, max_wires, starters_offset, block_states_offset, machine_words}
use Rattle.fsmd.specs.Table.{state_count, first_wire_at, wire_count_at}
use Rattle.listing.specs.Listing.{listing_line}

abbrev pub starter_at : List ℕ → ℕ → ℕ
starter_at t k = get_or t (starters_offset + k) 0

abbrev pub blocks_at : List ℕ → ℕ → ℕ
blocks_at t k = occurrences k (take max_blocks (drop block_states_offset t))

-- the states' wires follow one another: the last state's end where all do
abbrev pub wires_at : List ℕ → ℕ
wires_at t = let last = state_count t - 1 in first_wire_at t last + wire_count_at t last

unfoldable pub state_line_at : List ℕ → ℕ → List ℕ
state_line_at t k = listing_line (decimal_of k ∷ decimal_of (starter_at t k) ∷ decimal_of (blocks_at t k) ∷ decimal_of (wire_count_at t k) ∷ [])

unfoldable pub head_line_at : List ℕ → List ℕ
head_line_at t = listing_line (bytes "states" ∷ decimal_of (state_count t) ∷ decimal_of (wires_at t) ∷ [])

unfoldable pub state_lines_at : List ℕ → List ℕ
unfolding state_line_at concat_map
state_lines_at t = concat_map (state_line_at t) (up_from 0 (state_count t))

unfoldable pub table_listing : List ℕ → List ℕ
unfolding head_line_at state_lines_at
table_listing t = head_line_at t ++ state_lines_at t

-- a table with a state or more, and no more states and wires than a machine has
pub record Listable (t : List ℕ) : Type 0 where
  pub long : machine_words ≤ length t
  pub some_state : 1 ≤ state_count t
  pub few_states : state_count t ≤ max_states
  pub few_wires : wires_at t ≤ max_wires
