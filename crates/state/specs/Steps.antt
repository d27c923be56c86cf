-- What the code's steps do to a state in the making, which their contracts cite: to its wires, to a block, to its edges. Assumes nothing.
use Rattle.std.specs.Prelude.{ℕ, ◌+◌, ◌≡◌, List, length, take}
use Rattle.fsmd.specs.declared.Wire.{Wire}
use Rattle.state.specs.declared.wires.WireList.{WireList}
use Rattle.state.specs.declared.joins.BlockProgress.{BlockProgress}
use Rattle.state.specs.declared.edges.Edges.{Edges}
use Rattle.state.specs.Wires.{BlockBuild, StateBuild}
use Rattle.state.specs.Making.{appended, stored, wires_in, block_build_in, Held}
use Rattle.state.specs.EdgeList.{state_build_in}

-- the same words as before, and as many, for as many registers
pub record SameWords (old new : WireList) : Type 0 where
  pub lent : new.words.ghost_name ≡ old.words.ghost_name
  pub registers : new.registers ≡ old.registers
  pub long : length new.words.now ≡ length old.words.now

-- these wires come behind those before
pub record Adds (ws : List Wire) (old new : WireList) : Type 0 where
  pub same : SameWords old new
  pub count : new.count ≡ old.count + length ws
  pub words : new.words.now ≡ appended old.count ws old.words.now

-- the references of a block's registers
abbrev pub values_of : BlockProgress → List ℕ
values_of b = take b.registers b.values

-- the block in the making, of whose state these are the wires
abbrev pub block_in : BlockProgress → WireList → BlockBuild
block_in b w = block_build_in b.arrival (values_of b) w.count w.words.now

-- the block in the making is p, of r registers
pub record Becomes (p : BlockBuild) (r : ℕ) (b : BlockProgress) (old new : WireList) : Type 0 where
  pub same : SameWords old new
  pub registers : b.registers ≡ r
  pub held : Held p old.words.now b.arrival (values_of b) new.count new.words.now

-- the state in the making
abbrev pub state_in : Edges → WireList → StateBuild
state_in es w = state_build_in w.registers es w.count w.words.now

-- the state in the making is b, and past its wires the words are as before
pub record Grown (b : StateBuild) (es : Edges) (old new : WireList) : Type 0 where
  pub same : SameWords old new
  pub build : state_build_in old.registers es new.count new.words.now ≡ b
  pub rest : new.words.now ≡ stored (wires_in new.count new.words.now) old.words.now
