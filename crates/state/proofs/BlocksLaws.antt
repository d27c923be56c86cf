-- A state's blocks placed one after another: wires are only added, and one step of it. Assumes nothing.
use Prim.Native.Nat.{ℕ, ◌+◌, ◌*◌, ◌≤◌, ◌<◌}
use mathlib.Core.Path.{◌≡◌, refl, sym, ap, subst, ◌∙◌}
use mathlib.Core.Bool.{Bool, true, false}
use mathlib.Core.List.{List, [], ◌∷◌}
use native.Mathlib.Omega.{arith}
use native.Mathlib.Numerals.{add-one}
use lib.ListN.{length, get_or, set, drop, length-append, drop_of_length-le}
use lib.Seq.{drop-cons}
use Rattle.runs.specs.Lists.{mem}
use Rattle.cfg.specs.declared.Block.{Block}
use Rattle.cfg.specs.Graph.{instructions_of}
use Rattle.cfg.specs.Table.{block_at}
use Rattle.fsmd.specs.declared.Wire.{Wire}
use Rattle.grouping.specs.Grouping.{Groups}
use Rattle.state.specs.declared.edges.Edges.{Edges}
use Rattle.state.specs.declared.wires.WireList.{WireList}
use Rattle.state.specs.Wires.{Edge, StateBuild, BlockBuild, nothing, leaves, close_state, set_wire, join, joins, arrive, start_block, enter, assigns, after, leads_to, towards}
use Rattle.state.specs.Making.{wires_in, stored, Room, Held, put_block}
use Rattle.state.specs.EdgeList.{pending, state_build_in}
use Rattle.state.specs.Steps.{SameWords, Grown, state_in}
use Rattle.state.specs.BlocksMaking.{build_blocks, with_arrivals, state_blocks}
use Rattle.state.proofs.StoredWires.{length-wires_in, stored_again, stored_none}
use Rattle.state.proofs.StepLaws.{same_self, same_on, room_le}
use Rattle.state.proofs.JoinLaws.{grow_join}
use Rattle.state.proofs.AssignLaws.{grow_assigns}
use Rattle.state.proofs.CloseLaws.{grow_close}
use Rattle.state.proofs.ExitLaws.{grow_close_state}
use Rattle.state.proofs.PutLaws.{grown_count}

pub grow_joins : (es : List Edge) (p : BlockBuild) → length p.wires ≤ length (joins es p).wires
unfolding joins
grow_joins [] p = omega arith
grow_joins (e ∷ es) p = omega (arith, grow_join e p, grow_joins es (join e p))

pub grow_arrive : (r : ℕ) (es : List Edge) (ws : List Wire) → length ws ≤ length (arrive r es ws).wires
unfolding arrive
grow_arrive r [] ws = omega (arith, length-append ws (set_wire 0 ∷ []))
grow_arrive r (e ∷ es) ws = grow_joins es (record { arrival = e.taken; values = e.values; wires = ws })

pub grow_enter : (r : ℕ) (c : Bool) (x : ℕ) (b : StateBuild) → length b.wires ≤ length (enter r c x b).wires
unfolding enter start_block
grow_enter r true x b = omega (arith, length-append b.wires (set_wire 1 ∷ []))
grow_enter r false x b = grow_arrive r (towards (leads_to x) b.edges) b.wires

pub grow_put : (r : ℕ) (c : Bool) (block : Block) (x : ℕ) (b : StateBuild) → length b.wires ≤ length (put_block r c block x b).wires
unfolding put_block after
grow_put r c block x b =
    let e = enter r c x b in
    let a = assigns (instructions_of block) e in
    omega (arith, grow_enter r c x b, grow_assigns (instructions_of block) e, grow_close block.ending a)

module _ (r : ℕ) (t starters : List ℕ) where
  pub grow_blocks : (ys : List ℕ) (b : StateBuild) → length b.wires ≤ length (build_blocks r t starters ys b).wires
  unfolding build_blocks
  grow_blocks [] b = omega arith
  grow_blocks (x ∷ ys) b =
      omega (arith, grow_put r (mem x starters) (block_at t x) x b, grow_blocks ys (put_block r (mem x starters) (block_at t x) x b))

-- the state in the making where a block has r registers
abbrev pub state_of : ℕ → Edges → WireList → StateBuild
state_of r es w = state_build_in r es w.count w.words.now

-- nothing is placed yet
none_built : (r : ℕ) (es : Edges) (w : WireList) → es.count ≡ 0 → w.count ≡ 0 → state_of r es w ≡ nothing
unfolding wires_in pending
none_built r es w ee ew = rw (ee, ew) refl

module _ (old : WireList) (t starters xs : List ℕ) where
  abbrev r : ℕ
  r = old.registers

  abbrev pub All : StateBuild
  All = build_blocks r t starters xs nothing

  -- the blocks before number i are placed: the rest comes to the whole, in wires and in arrivals
  pub record Placing (arrivals₀ : List ℕ) (i : ℕ) (es : Edges) (w : WireList) (arrivals : List ℕ) : Type 0 where
    pub same : SameWords old w
    pub whole : build_blocks r t starters (drop i xs) (state_of r es w) ≡ All
    pub rest : w.words.now ≡ stored (wires_in w.count w.words.now) old.words.now
    pub listed : with_arrivals r t starters (drop i xs) (state_of r es w) arrivals ≡ with_arrivals r t starters xs nothing arrivals₀
    pub edges : es.count ≤ 2 * i

  pub placing_first : (es : Edges) (arrivals : List ℕ) → es.count ≡ 0 → old.count ≡ 0 → Placing arrivals 0 es old arrivals
  placing_first es arrivals ee ew =
      let e = none_built r es old ee ew in
      record {
        same = same_self old;
        whole = ap (build_blocks r t starters xs) e;
        rest = sym (stored_none old.count old.words.now (omega arith));
        listed = ap (λ (b : StateBuild). with_arrivals r t starters xs b arrivals) e;
        edges = omega arith;
      }

  module _ {arrivals₀ : List ℕ} {i : ℕ} {es : Edges} {w : WireList} {arrivals : List ℕ} (h : Placing arrivals₀ i es w arrivals) where
    pub placing_done : length xs ≤ i → Grown All es old w
    unfolding build_blocks
    placing_done le =
        record {
          same = h.same;
          build = ap (λ (l : List ℕ). build_blocks r t starters l (state_of r es w)) (sym (drop_of_length-le xs le)) ∙ h.whole;
          rest = h.rest;
        }

    pub placing_listed : length xs ≤ i → arrivals ≡ with_arrivals r t starters xs nothing arrivals₀
    unfolding with_arrivals
    placing_listed le = ap (λ (l : List ℕ). with_arrivals r t starters l (state_of r es w) arrivals) (sym (drop_of_length-le xs le)) ∙ h.listed

    -- the block at i is x, a starter or not
    module _ (lt : i < length xs) (x : ℕ) (c : Bool) (ex : x ≡ get_or xs i 0) (ec : c ≡ mem x starters) where
      abbrev Next : ℕ → StateBuild
      Next n = put_block n c (block_at t x) x (state_of n es w)

      next_whole : build_blocks r t starters (drop (i + 1) xs) (Next r) ≡ All
      unfolding build_blocks
      next_whole = rw (ec, ex, add-one i) (rw (drop-cons xs i 0 lt) at h.whole)

      pub placing_room : Room (length All.wires) old.words.now → Room (length (Next w.registers).wires) w.words.now
      placing_room room =
          subst (λ (n : ℕ). Room (length (Next n).wires) w.words.now) (sym h.same.registers)
          (room_le (length (Next r).wires) (length All.wires)
          (omega (arith, grow_blocks r t starters (drop (i + 1) xs) (Next r), ap (λ (b : StateBuild). length b.wires) next_whole))
          h.same.long room)

      next_listed : with_arrivals r t starters (drop (i + 1) xs) (Next r) (set arrivals x (enter r c x (state_of r es w)).arrival) ≡ with_arrivals r t starters xs nothing arrivals₀
      unfolding with_arrivals
      next_listed = rw (ec, ex, add-one i) (rw (drop-cons xs i 0 lt) at h.listed)

      pub placing_next : (es' : Edges) (w' : WireList) (arrival : ℕ) → Grown (Next w.registers) es' w w' → arrival ≡ (enter w.registers c x (state_in es w)).arrival → es'.count ≤ es.count + 2
          → Placing arrivals₀ (i + 1) es' w' (set arrivals x arrival)
      placing_next es' w' arrival g ea few =
          let build : state_of r es' w' ≡ Next r = subst (λ (n : ℕ). state_of n es' w' ≡ Next n) h.same.registers g.build in
          let its : arrival ≡ (enter r c x (state_of r es w)).arrival = subst (λ (n : ℕ). arrival ≡ (enter n c x (state_of n es w)).arrival) h.same.registers ea in
          let more : w.count ≤ w'.count = omega (arith, length-wires_in w.count w.words.now, grown_count g, grow_put w.registers c (block_at t x) x (state_in es w)) in
          record {
            same = same_on h.same g.same;
            whole = ap (build_blocks r t starters (drop (i + 1) xs)) build ∙ next_whole;
            rest = g.rest ∙ ap (stored (wires_in w'.count w'.words.now)) h.rest
                ∙ stored_again (wires_in w.count w.words.now) (wires_in w'.count w'.words.now) old.words.now (omega (arith, length-wires_in w.count w.words.now, length-wires_in w'.count w'.words.now));
            listed = ap (λ (b : StateBuild). with_arrivals r t starters (drop (i + 1) xs) b (set arrivals x arrival)) build
                ∙ ap (λ (a : ℕ). with_arrivals r t starters (drop (i + 1) xs) (Next r) (set arrivals x a)) its
                ∙ next_listed;
            edges = omega (arith, h.edges);
          }

-- ---- the exits behind the blocks

module _ (old : WireList) (t : List ℕ) (s : Groups) (xs : List ℕ) where
  abbrev Blocks : StateBuild
  Blocks = build_blocks old.registers t s.starters xs nothing

  abbrev State : BlockBuild
  State = state_blocks old.registers t s.starters s.states xs

  abbrev pub Closed : StateBuild → BlockBuild
  Closed b = close_state s (towards (leaves s) b.edges) b.wires

  state_is : State ≡ Closed Blocks
  unfolding state_blocks
  state_is = refl

  pub blocks_room : Room (length State.wires) old.words.now → Room (length Blocks.wires) old.words.now
  blocks_room =
      room_le (length Blocks.wires) (length State.wires)
      (omega (arith, grow_close_state s (towards (leaves s) Blocks.edges) Blocks.wires, ap (λ (p : BlockBuild). length p.wires) state_is))
      refl

  module _ (es : Edges) (w : WireList) (g : Grown Blocks es old w) where
    leaving_is : Closed (state_in es w) ≡ State
    leaving_is = ap (λ (n : ℕ). Closed (state_of n es w)) g.same.registers ∙ ap Closed g.build ∙ sym state_is

    pub leave_room : Room (length State.wires) old.words.now → Room (length (Closed (state_in es w)).wires) w.words.now
    leave_room =
        room_le (length (Closed (state_in es w)).wires) (length State.wires)
        (omega (arith, ap (λ (p : BlockBuild). length p.wires) leaving_is))
        g.same.long

    pub left_all : (a : ℕ) (vs : List ℕ) (k : ℕ) (t' : List ℕ) → Held (Closed (state_in es w)) w.words.now a vs k t' → Held State old.words.now a vs k t'
    left_all a vs k t' h =
        let more : w.count ≤ k =
        omega (arith, length-wires_in w.count w.words.now, length-wires_in k t', ap (λ (p : BlockBuild). length p.wires) h.point, grow_close_state s (towards (leaves s) (pending w.registers es)) (wires_in w.count w.words.now)) in
        record {
          point = h.point ∙ leaving_is;
          rest = h.rest ∙ ap (stored (wires_in k t')) g.rest
              ∙ stored_again (wires_in w.count w.words.now) (wires_in k t') old.words.now (omega (arith, length-wires_in w.count w.words.now, length-wires_in k t'));
        }
