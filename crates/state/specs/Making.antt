-- How a state in the making lies in words, which the contracts of the code that makes it cite: its wires from the front of some
-- words, and the blocks that can be placed. Assumes nothing.
use Rattle.std.specs.Prelude.{ℕ, zero, suc, ◌*◌, ◌≤◌, ◌<◌, ◌≡◌, Bool, not, List, [], ◌∷◌, ◌++◌, length, get_or, drop}
use Rattle.runs.specs.Lists.{concat_map}
use Rattle.cfg.specs.declared.Ending.{Ending}
use Rattle.cfg.specs.declared.Ending.TheVariants.{Goto, Ite, Halt}
use Rattle.cfg.specs.declared.Block.{Block}
use Rattle.cfg.specs.Layout.{max_instructions, block_offset, graph_words}
use Rattle.cfg.specs.Graph.{instructions_of}
use Rattle.cfg.specs.Table.{block_at}
use Rattle.fsmd.specs.declared.Wire.{Wire}
use Rattle.fsmd.specs.Layout.{max_states, max_blocks, max_wires, wire_words, absent, wire_a_offset, wire_b_offset, wire_c_offset}
use Rattle.fsmd.specs.Table.{wire_words_of}
use Rattle.grouping.specs.Grouping.{Groups}
use Rattle.state.specs.Wires.{wire, BlockBuild, StateBuild, leads_to, towards, enter, assigns, close, after}

-- ---- wires

-- the first n wires of some words
unfoldable pub wires_in : ℕ → List ℕ → List Wire
wires_in zero t = []
wires_in (suc n) t = wire (get_or t 0 0) (get_or t wire_a_offset 0) (get_or t wire_b_offset 0) (get_or t wire_c_offset 0) ∷ wires_in n (drop wire_words t)

-- the words with these wires at their front
unfoldable pub stored : List Wire → List ℕ → List ℕ
unfolding concat_map
stored ws t = concat_map wire_words_of ws ++ drop (wire_words * length ws) t

-- the words with these wires after the first n
abbrev pub appended : ℕ → List Wire → List ℕ → List ℕ
appended n ws t = stored (wires_in n t ++ ws) t

-- n wires have room in some words, and are not more than a machine has
pub record Room (n : ℕ) (t : List ℕ) : Type 0 where
  pub fits : wire_words * n ≤ length t
  pub few : n ≤ max_wires

-- the block in the making of whose state n wires stand in words t
abbrev pub block_build_in : ℕ → List ℕ → ℕ → List ℕ → BlockBuild
block_build_in arrival values n t = record { arrival = arrival; values = values; wires = wires_in n t }

-- it is p, and past its wires the words are those of t₀
pub record Held (p : BlockBuild) (t₀ : List ℕ) (arrival : ℕ) (values : List ℕ) (n : ℕ) (t : List ℕ) : Type 0 where
  pub point : block_build_in arrival values n t ≡ p
  pub rest : t ≡ stored (wires_in n t) t₀

-- ---- blocks

-- two edges of each block
abbrev pub max_edges : ℕ
max_edges = 2 * max_blocks

-- the targets of an ending are blocks
abbrev pub Aims : Ending → Type 0
Aims (Goto t) = t < max_blocks
Aims (Ite c t f) = (t < max_blocks) × (f < max_blocks)
Aims Halt = Unit {0}

-- block x of a graph table can be placed
pub record Placeable (t : List ℕ) (x : ℕ) : Type 0 where
  pub known : x < max_blocks
  pub whole : graph_words ≤ length t
  pub short : get_or t (block_offset x) 0 ≤ max_instructions
  pub aims : Aims (block_at t x).ending

-- block x, which is `block`, placed, a starter or not: as `put` of a graph and its groups
unfoldable pub put_block : ℕ → Bool → Block → ℕ → StateBuild → StateBuild
unfolding enter assigns close after
put_block r starter block x b = after (towards (λ p. not (leads_to x p)) b.edges) (close block.ending (assigns (instructions_of block) (enter r starter x b)))

-- ---- groups in two lists

abbrev pub groups_in : List ℕ → List ℕ → Groups
groups_in starters states = record { starters = starters; states = states }

-- each starter is in its own state, and there are not too many
pub record GroupedBytes (starters states : List ℕ) : Type 0 where
  pub owned : (k : ℕ) → k < length starters → get_or states (get_or starters k absent) absent ≡ k
  pub few : length starters ≤ max_states
  pub known : length states ≤ max_blocks
