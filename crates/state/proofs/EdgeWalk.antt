-- A block that takes one step for each edge of a list that passes a test: a join, an exit. Assumes nothing.
use Prim.Native.Nat.{ℕ, suc, ◌+◌, ◌≤◌, ◌<◌}
use native.Mathlib.Numerals.{add-one}
use mathlib.Core.Path.{◌≡◌, sym, subst}
use mathlib.Core.Bool.{Bool, true, false}
use mathlib.Core.List.{List, [], ◌∷◌}
use lib.ListN.{length, get_or, drop, drop_of_length-le}
use lib.Seq.{drop-cons}
use Rattle.runs.specs.Runs.{Place}
use Rattle.state.specs.declared.edges.EdgeEntry.{EdgeEntry}
use Rattle.state.specs.declared.joins.BlockProgress.{BlockProgress}
use Rattle.state.specs.declared.wires.WireList.{WireList}
use Rattle.state.specs.Wires.{Edge, BlockBuild}
use Rattle.state.specs.Making.{Room}
use Rattle.state.specs.EdgeList.{edge_of, passes, leading}
use Rattle.state.specs.Steps.{Becomes, block_in}
use Rattle.state.proofs.EdgeLaws.{leading_next, leading_passed, leading_none}
use Rattle.state.proofs.StepLaws.{Grows, Walking, walk_room, walk_next, walk_done}

module _ (step : Edge → BlockBuild → BlockBuild) (grow : Grows step) (p : Place → Bool) (es : List EdgeEntry) (d : EdgeEntry)
    {final : BlockBuild} {r : ℕ} {old : WireList} {b : BlockProgress} {w : WireList} (i : ℕ) (h : Walking step (leading r p (drop i es)) final r old b w) where
  next : i < length es → passes p (get_or es i d) ≡ true → Walking step (edge_of b.registers (get_or es i d) ∷ leading r p (drop (suc i) es)) final r old b w
  next lt e =
      let k : Walking step (edge_of r (get_or es i d) ∷ leading r p (drop (suc i) es)) final r old b w =
      rw (drop-cons es i d lt, leading_next r p (get_or es i d) (drop (suc i) es) e) at h in
      subst (λ (n : ℕ). Walking step (edge_of n (get_or es i d) ∷ leading r p (drop (suc i) es)) final r old b w) (sym h.registers) k

  pub edge_room : i < length es → passes p (get_or es i d) ≡ true → Room (length final.wires) old.words.now
      → Room (length (step (edge_of b.registers (get_or es i d)) (block_in b w)).wires) w.words.now
  edge_room lt e = walk_room step grow (edge_of b.registers (get_or es i d)) (leading r p (drop (suc i) es)) final r old b w (next lt e)

  pub edge_next : i < length es → passes p (get_or es i d) ≡ true → (b' : BlockProgress) (w' : WireList)
      → Becomes (step (edge_of b.registers (get_or es i d)) (block_in b w)) b.registers b' w w' → Walking step (leading r p (drop (i + 1) es)) final r old b' w'
  edge_next lt e b' w' k =
      rw (add-one i) (walk_next step grow (edge_of b.registers (get_or es i d)) (leading r p (drop (suc i) es)) final r old b w (next lt e) b' w' k)

  pub edge_passed : i < length es → passes p (get_or es i d) ≡ false → Walking step (leading r p (drop (i + 1) es)) final r old b w
  edge_passed lt e = rw (add-one i) (rw (drop-cons es i d lt, leading_passed r p (get_or es i d) (drop (suc i) es) e) at h)

pub edges_done : (step : Edge → BlockBuild → BlockBuild) (grow : Grows step) (p : Place → Bool) (es : List EdgeEntry)
    {final : BlockBuild} {r : ℕ} {old : WireList} {b : BlockProgress} {w : WireList} (i : ℕ) → Walking step (leading r p (drop i es)) final r old b w
    → length es ≤ i → Becomes final r b old w
edges_done step grow p es {final} {r} {old} {b} {w} i h le =
    let k : Walking step [] final r old b w = rw (drop_of_length-le es {i = i} le, leading_none r p) at h in
    walk_done step grow final r old b w k
