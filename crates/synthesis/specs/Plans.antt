-- What the table code has in hand of an admitted graph, which its contracts cite. Assumes nothing.
use Rattle.std.specs.Prelude.{ℕ, ◌≡◌, List}
use Rattle.cfg.specs.Graph.{successors}
use Rattle.cfg.specs.Table.{graph_of}
use Rattle.fsmd.specs.Machine.{State}
use Rattle.grouping.specs.Grouping.{Groups, groups}
use Rattle.grouping.specs.Answer.{grouping_of}
use Rattle.grouping.specs.Bytes.{edges_in}
use Rattle.synthesis.specs.declared.table.Plan.{Plan}
use Rattle.synthesis.specs.StateWords.{first_states, first_arrivals, Filled}

-- the words of its graph, and their groups
abbrev pub words_in : Plan → List ℕ
words_in p = p.graph.words.now

abbrev pub groups_of : Plan → Groups
groups_of p = groups (graph_of (words_in p))

-- its successors and its grouping are the graph's
pub record Prepared (p : Plan) : Type 0 where
  pub leading : (n : ℕ) → edges_in p.successors n ≡ successors (graph_of (words_in p)) n
  pub grouped : p.grouping ≡ grouping_of (words_in p)

-- the first k states, and the arrivals of their blocks
abbrev pub states_until : Plan → ℕ → List State
states_until p k = first_states (words_in p) (groups_of p) k

abbrev pub arrivals_until : Plan → ℕ → List ℕ
arrivals_until p k = first_arrivals (words_in p) (groups_of p) k

-- the first k states are written, the next wire is number `first`, and the arrivals of their blocks are listed
abbrev pub Written : Plan → ℕ → ℕ → List ℕ → List ℕ → Type 0
Written p k first table arrivals = Filled (words_in p) (groups_of p) table k first × (arrivals ≡ arrivals_until p k)
