-- A machine table before its arrivals, of which some states are written, which the contracts of the table code cite. Assumes nothing.
use Rattle.std.specs.Prelude.{ℕ, ◌≡◌, List, ◌++◌, map, length, get_or, take, ltb}
use Rattle.word.specs.Word.{choose}
use Rattle.runs.specs.Lists.{up_from, padded}
use Rattle.cfg.specs.Table.{graph_of}
use Rattle.fsmd.specs.Layout.{max_blocks, absent, all_record_words, all_wire_words, records_offset, arrivals_offset}
use Rattle.fsmd.specs.Machine.{State, wire_count}
use Rattle.fsmd.specs.Table.{records_of, wires_of}
use Rattle.grouping.specs.Grouping.{Groups}
use Rattle.state.specs.Wires.{state_made, arrival_made}

-- the words of a table before its arrivals: `head` before the records, then the records and wires of the states qs and no others
unfoldable pub with_states : List ℕ → List State → List ℕ
unfolding records_of wires_of
with_states head qs = head ++ (padded all_record_words 0 (records_of 0 qs) ++ padded all_wire_words 0 (wires_of qs))

-- the first k states of the machine of a graph table whose grouping is s
unfoldable pub first_states : List ℕ → Groups → ℕ → List State
unfolding graph_of state_made
first_states t s k = map (state_made (graph_of t) s) (up_from 0 k)

-- for each block number the reference of the block's arrival where its state is one of the first k, else 0
unfoldable pub first_arrivals : List ℕ → Groups → ℕ → List ℕ
unfolding graph_of arrival_made
first_arrivals t s k = map (λ x. choose (ltb (get_or s.states x absent) k) (arrival_made (graph_of t) s x) 0) (up_from 0 max_blocks)

-- such words with the first k states, and the number of the next wire
pub record Filled (t : List ℕ) (s : Groups) (table : List ℕ) (k first : ℕ) : Type 0 where
  pub all : length table ≡ arrivals_offset
  pub words : table ≡ with_states (take records_offset table) (first_states t s k)
  pub passed : first ≡ wire_count (first_states t s k)
