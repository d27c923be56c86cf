-- How the code keeps the edges out of the placed blocks of a state: entries of a list, of which those used up no longer count. Assumes nothing.
use Rattle.std.specs.Prelude.{ℕ, Bool, true, false, ◌&&◌, List, map, take}
use Rattle.runs.specs.Lists.{only}
use Rattle.runs.specs.Runs.{Place, standing, halted}
use Rattle.state.specs.declared.edges.Target.{Target}
use Rattle.state.specs.declared.edges.Target.TheVariants.{Block, Halt, Used}
use Rattle.state.specs.declared.edges.EdgeEntry.{EdgeEntry}
use Rattle.state.specs.declared.edges.Edges.{Edges}
use Rattle.state.specs.Wires.{Edge, StateBuild}
use Rattle.state.specs.Making.{wires_in}

-- where an edge leads; of one that is used up it is of no matter
abbrev pub place_of : Target → Place
place_of (Block t) = standing t
place_of Halt = halted
place_of Used = halted

abbrev pub is_live : Target → Bool
is_live (Block t) = true
is_live Halt = true
is_live Used = false

-- the edge that an entry is, where a state has r registers
abbrev pub edge_of : ℕ → EdgeEntry → Edge
edge_of r e = record { target = place_of e.target; taken = e.taken; values = take r e.values }

abbrev pub entries : Edges → List EdgeEntry
entries es = take es.count es.list

-- the entry is not used up, and its target passes a test
abbrev pub passes : (Place → Bool) → EdgeEntry → Bool
passes p e = is_live e.target && p (place_of e.target)

-- the edges of those entries
unfoldable pub leading : ℕ → (Place → Bool) → List EdgeEntry → List Edge
leading r p es = map (edge_of r) (only (passes p) es)

-- the edges without those used up
unfoldable pub pending : ℕ → Edges → List Edge
pending r es = map (edge_of r) (only (λ e. is_live e.target) (entries es))

-- the state in the making of which k wires stand in words t
abbrev pub state_build_in : ℕ → Edges → ℕ → List ℕ → StateBuild
state_build_in r es k t = record { wires = wires_in k t; edges = pending r es }
