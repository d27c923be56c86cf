-- A depth-first visit of a graph's blocks, for every procedure that goes down a graph block by block. Assumes nothing.
use Rattle.std.specs.Prelude.{ℕ, zero, suc, Bool, true, false, List, [], ◌∷◌, length}
use Rattle.cfg.specs.Graph.{CFG, successors}

-- f at each of a list, in order, on a state
abbrev pub each : {S : Type 0} → (ℕ → S → S) → List ℕ → S → S
each f [] s = s
each f (x ∷ xs) s = each f xs (f x s)

-- Where `stop` says so, block x is not gone into and `skip` is all that happens; else `enter`, the successors in order with x on
-- the path (whose head is the block that an edge comes from), and `finish`.
pub record Visitor (S : Type 0) : Type 0 where
  pub stop : List ℕ → ℕ → S → Bool
  pub skip : List ℕ → ℕ → S → S
  pub enter : ℕ → S → S
  pub finish : ℕ → S → S

-- the fuel bounds the depth of the path alone; that it never runs out is proved
unfoldable pub visit : {S : Type 0} → Visitor S → (ℕ → List ℕ) → ℕ → List ℕ → ℕ → S → S
visit v next zero path x s = s
visit v next (suc fuel) path x s =
    elim (v.stop path x s) [
      | true ↦ v.skip path x s
      | false ↦ v.finish x (each (visit v next fuel (x ∷ path)) (next x) (v.enter x s))
    ]

-- the whole visit from a root: no path is longer than the blocks are many
unfoldable pub visit_from : {S : Type 0} → Visitor S → CFG → ℕ → S → S
unfolding visit
visit_from v g root s = visit v (successors g) (suc (length g.blocks)) [] root s
