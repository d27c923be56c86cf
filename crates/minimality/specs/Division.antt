-- Divisions of a graph's blocks into states on its loop starters, and that the synthesised machine has the fewest states. Assumes nothing.
use Rattle.std.specs.Prelude.{ℕ, ◌≤◌, ◌<◌, ◌⊎◌, ◌≡◌, true, List, length, get_or}
use Rattle.runs.specs.Lists.{mem}
use Rattle.cfg.specs.Graph.{CFG, successors}
use Rattle.cfg.specs.Table.{graph_of}
use Rattle.fsmd.specs.Layout.{absent}
use Rattle.fsmd.specs.Table.{machine_of}
use Rattle.grouping.specs.Grouping.{loops}
use Rattle.minimality.specs.Fit.{Reachable, LeastFit}

-- A division: the starter of each state, and the one state of each block. A machine that has copies of a block in several states is none.
pub record Division (g : CFG) (starters : List ℕ) (state : ℕ → ℕ) : Type 0 where
  -- the starters of loop detection are starters, so that no cycle of the graph stays in a clock cycle
  pub holds : (x : ℕ) → mem x (loops g).starters ≡ true → mem x starters ≡ true
  -- the starter of state k is in state k
  pub own : (k d : ℕ) → k < length starters → state (get_or starters k d) ≡ k
  -- no edge is illegal: it leads to a starter or stays in its state
  pub legal : (u v : ℕ) → Reachable g u → mem v (successors g u) ≡ true → (mem v starters ≡ true) ⊎ (state v ≡ state u)

-- A machine table beside its graph table.
pub record FewestStates (graph_table machine_table : List ℕ) : Type 0 where
  -- its starters, one for each state, are the least fit set
  pub each : length (machine_of machine_table).starters ≡ length (machine_of machine_table).states
  pub least : LeastFit (graph_of graph_table) (machine_of machine_table).starters
  -- its starters and block states are a division of the graph, and no division has fewer states
  pub divided : Division (graph_of graph_table) (machine_of machine_table).starters (λ b. get_or (machine_of machine_table).block_states b absent)
  pub fewest : (starters : List ℕ) (state : ℕ → ℕ) → Division (graph_of graph_table) starters state → length (machine_of machine_table).states ≤ length starters
