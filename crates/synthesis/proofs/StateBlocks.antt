-- A state made from a graph table and lists is the state of the table's graph; its blocks are the graph's. Assumes nothing.
use Prim.Native.Nat.{ℕ, ◌<◌}
use native.Mathlib.Omega.{arith}
use native.Mathlib.Decide.{dec_lt}
use mathlib.Core.Bool.{true}
use mathlib.Core.Logic.{inl, inr}
use mathlib.Core.Path.{◌≡◌, refl, sym, ◌∙◌, ap}
use mathlib.Core.List.{List, [], ◌∷◌}
use lib.ListN.{length, get_or, get_or-eq_default}
use Rattle.runs.specs.Lists.{mem}
use Rattle.runs.proofs.Sets.{In, get_or-in}
use Rattle.cfg.specs.declared.Block.{Block}
use Rattle.cfg.specs.Table.{block_at, graph_of, admitted_graph}
use Rattle.cfg.proofs.Admitted.{block_below, registers_are, blocks_length}
use Rattle.fsmd.specs.Layout.{absent}
use Rattle.fsmd.specs.Machine.{State}
use Rattle.grouping.specs.Grouping.{Groups}
use Rattle.grouping.proofs.Reach.{Closed, admitted_closed}
use Rattle.grouping.proofs.GroupingLaws.{Grouped}
use Rattle.placement.specs.Placement.{order}
use Rattle.state.specs.Wires.{StateBuild, BlockBuild, nothing, put, build, state_made}
use Rattle.state.specs.Making.{put_block}
use Rattle.state.specs.BlocksMaking.{build_blocks, AllBelow, state_blocks}
use Rattle.placement.proofs.PlacementLaws.{order_length, placed}
use Rattle.placement.proofs.PlacedOrder.{members_few}

-- a state's end: its wires, its next state and its next registers
abbrev pub point_of : State → BlockBuild
point_of q = record { arrival = q.next; values = q.next_registers; wires = q.wires }

module _ (t : List ℕ) (s : Groups) where
  pub put_alike : (x : ℕ) → x < get_or t 0 0 → (b : StateBuild) → put_block (get_or t 1 0) (mem x s.starters) (block_at t x) x b ≡ put (graph_of t) s x b
  unfolding put_block put
  put_alike x h b =
      ap (λ (r : ℕ). put_block r (mem x s.starters) (block_at t x) x b) (sym (registers_are t))
      ∙ ap (λ (k : Block). put_block (graph_of t).registers (mem x s.starters) k x b) (sym (block_below t x h))

  build_alike : (xs : List ℕ) → ((x : ℕ) → In x xs → x < get_or t 0 0) → (b : StateBuild) → build_blocks (get_or t 1 0) t s.starters xs b ≡ build (graph_of t) s xs b
  unfolding build_blocks build
  build_alike [] f b = refl
  build_alike (x ∷ xs) f b =
      ap (build_blocks (get_or t 1 0) t s.starters xs) (put_alike x (f x (inl refl)) b) ∙ build_alike xs (λ y i. f y (inr i)) (put (graph_of t) s x b)

  state_alike : (k : ℕ) → ((x : ℕ) → In x (order (graph_of t) s k) → x < get_or t 0 0)
      → state_blocks (get_or t 1 0) t s.starters s.states (order (graph_of t) s k) ≡ point_of (state_made (graph_of t) s k)
  unfolding state_blocks state_made
  state_alike k f = rw (build_alike (order (graph_of t) s k) f nothing) refl

module _ (t : List ℕ) (a : admitted_graph t ≡ true) (s : Groups) (G : Grouped (graph_of t) s) (k : ℕ) (below : k < length s.starters) where
  closed : Closed (graph_of t)
  closed = admitted_closed t a

  -- a block of the state is a block of the graph
  pub block_low : (x : ℕ) → In x (order (graph_of t) s k) → x < get_or t 0 0
  block_low x i = go (dec_lt x (get_or t 0 0))
    where
      go : Dec (x < get_or t 0 0) → x < get_or t 0 0
      go (yes h) = h
      go (no h) =
          let e = G.all_blocks in
          let b = blocks_length t in
          let f = closed.few_blocks_lem in
          let n = G.few_states_lem in
          let m = (placed (graph_of t) closed s G k below).mine x i in
          let d : get_or s.states x absent ≡ absent = get_or-eq_default s.states absent {n = x} (omega arith) in
          absurd (omega arith)

  pub all_below : (xs : List ℕ) → xs ≡ order (graph_of t) s k → AllBelow t xs
  all_below xs e =
      rw e
      (record {
        few = let l = order_length (graph_of t) s k in let m = members_few (graph_of t) closed s G k below in omega arith;
        each = λ i h. block_low (get_or (order (graph_of t) s k) i 0) (get_or-in (order (graph_of t) s k) i 0 h);
      })

  pub state_is : (r : ℕ) (starters states xs : List ℕ) → r ≡ get_or t 1 0 → starters ≡ s.starters → states ≡ s.states → xs ≡ order (graph_of t) s k
      → state_blocks r t starters states xs ≡ point_of (state_made (graph_of t) s k)
  state_is r starters states xs e f g h = rw (e, f, g, h) (state_alike t s k block_low)
