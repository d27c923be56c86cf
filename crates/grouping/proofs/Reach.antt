-- Graphs whose edges lead to blocks, and the blocks that are reached. Assumes nothing.
use Prim.Native.Nat.{ℕ, ◌≤◌, ◌<◌}
use mathlib.Core.Bool.{true}
use mathlib.Core.Logic.{inl, inr}
use mathlib.Core.Path.{◌≡◌}
use mathlib.Core.List.{List}
use native.Mathlib.Omega.{arith}
use native.Mathlib.Decide.{dec_lt}
use lib.ListN.{length, get_or-eq_default}
use Rattle.runs.proofs.Sets.{In}
use Rattle.cfg.specs.Layout.{max_blocks}
use Rattle.cfg.specs.declared.Ending.{Ending}
use Rattle.cfg.specs.declared.Ending.TheVariants.{Goto, Ite, Halt}
use Rattle.cfg.specs.Graph.{CFG, empty_block, block_of, targets, successors}
use Rattle.cfg.specs.Table.{graph_of, admitted_graph}
use Rattle.cfg.proofs.Admitted.{ValidEnding, ValidGraph, valid_graph_lem, admitted_halves}

-- what the grouping asks of a graph
pub record Closed (g : CFG) : Type 0 where
  pub some_block : 0 < length g.blocks
  pub few_blocks_lem : length g.blocks ≤ max_blocks
  pub inside : (u v : ℕ) → In v (successors g u) → v < length g.blocks

-- a block reached from block 0
pub data Reached (g : CFG) : ℕ → Type 0 where
  entry : Reached g 0
  along : {u v : ℕ} → Reached g u → In v (successors g u) → Reached g v

pub reached_below : {g : CFG} {x : ℕ} → Closed g → Reached g x → x < length g.blocks
reached_below c entry = c.some_block
reached_below c (along {u = u} {v = v} r i) = c.inside u v i

-- ---- every valid graph is such a one

target_below : (b r : ℕ) (e : Ending) → ValidEnding b r e → (v : ℕ) → In v (targets e) → v < b
target_below b r (Goto t) h v (inl p) = omega arith
target_below b r (Goto t) h v (inr z) = absurd z
target_below b r (Ite c t f) h v (inl p) = let k = h.holds in omega arith
target_below b r (Ite c t f) h v (inr (inl p)) = let k = h.fails in omega arith
target_below b r (Ite c t f) h v (inr (inr z)) = absurd z
target_below b r Halt h v z = absurd z

no_target : (v : ℕ) → In v (targets empty_block.ending) → ⊥
unfolding empty_block
no_target v z = z

pub valid_closed : (g : CFG) → ValidGraph g → Closed g
valid_closed g h = record { some_block = h.some_block; few_blocks_lem = h.few_blocks; inside = λ u v i. go u v i (dec_lt u (length g.blocks)) }
  where
    go : (u v : ℕ) → In v (successors g u) → Dec (u < length g.blocks) → v < length g.blocks
    go u v i (yes l) = target_below (length g.blocks) g.registers (block_of g u).ending (h.block u l).ended v i
    go u v i (no n) = absurd (no_target v (rw (get_or-eq_default g.blocks empty_block {n = u} (omega arith)) at i))

-- and so the graph of every admitted table
pub admitted_closed : (t : List ℕ) → admitted_graph t ≡ true → Closed (graph_of t)
admitted_closed t h = valid_closed (graph_of t) (valid_graph_lem (graph_of t) (admitted_halves t h).0)
