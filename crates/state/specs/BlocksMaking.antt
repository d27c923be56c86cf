-- A state's blocks placed one after another, as the code does it: by a graph table and lists. Assumes nothing.
use Rattle.std.specs.Prelude.{ℕ, List, [], ◌∷◌, length, get_or, set, ◌≤◌, ◌<◌}
use Rattle.runs.specs.Lists.{mem}
use Rattle.cfg.specs.Table.{block_count, block_at}
use Rattle.fsmd.specs.Layout.{max_blocks}
use Rattle.state.specs.Wires.{StateBuild, BlockBuild, nothing, enter, leaves, towards, close_state}
use Rattle.state.specs.Making.{put_block, Placeable, groups_in}

-- of a graph table t, where a state has r registers: as `build` of a graph and its groups
unfoldable pub build_blocks : ℕ → List ℕ → List ℕ → List ℕ → StateBuild → StateBuild
unfolding put_block
build_blocks r t starters [] b = b
build_blocks r t starters (x ∷ xs) b = build_blocks r t starters xs (put_block r (mem x starters) (block_at t x) x b)

-- the words of a list, with each block's arrival at its number
unfoldable pub with_arrivals : ℕ → List ℕ → List ℕ → List ℕ → StateBuild → List ℕ → List ℕ
unfolding enter put_block
with_arrivals r t starters [] b l = l
with_arrivals r t starters (x ∷ xs) b l =
    let starter = mem x starters in
    with_arrivals r t starters xs (put_block r starter (block_at t x) x b) (set l x (enter r starter x b).arrival)

-- the list's numbers are blocks of the graph, and no more than a graph has
pub record AllBelow (t xs : List ℕ) : Type 0 where
  pub few : length xs ≤ max_blocks
  pub each : (i : ℕ) → i < length xs → get_or xs i 0 < block_count t

-- the blocks of the list can be placed; in an admitted graph those below its count are (proved)
pub record AllPlaceable (t xs : List ℕ) : Type 0 where
  pub few : length xs ≤ max_blocks
  pub each : (i : ℕ) → i < length xs → Placeable t (get_or xs i 0)

-- the finished state
unfoldable pub state_blocks : ℕ → List ℕ → List ℕ → List ℕ → List ℕ → BlockBuild
unfolding build_blocks close_state
state_blocks r t starters states xs =
    let b = build_blocks r t starters xs nothing in
    let s = groups_in starters states in
    close_state s (towards (leaves s) b.edges) b.wires
