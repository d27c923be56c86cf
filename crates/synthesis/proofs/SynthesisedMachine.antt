-- The machine of a valid graph: its limits, its states valid, room for its wires, and each arrival a wire. Assumes nothing.
use Prim.Native.Nat.{ℕ, ◌+◌, ◌≤◌, ◌<◌}
use native.Mathlib.Omega.{arith}
use native.Mathlib.Decide.{dec_lt}
use mathlib.Core.Path.{◌≡◌, refl, sym, ap, ◌∙◌}
use mathlib.Core.Bool.{true, ◌&&◌}
use mathlib.Core.List.{map}
use lib.ListN.{length, get_or, length-map, get_or-eq_default}
use lib.Dec.{eqb, leb, ltb}
use borrow.Author.Tests.{lt-ltb, le-leb}
use Rattle.word.specs.Word.{choose}
use Rattle.runs.specs.Lists.{up_from}
use Rattle.runs.proofs.ListLaws.{length-up_from, get_or-map-up_from}
use Rattle.runs.proofs.Tests.{Compared, same, other, compared}
use Rattle.runs.proofs.Sets.{In→mem, get_or-in}
use Rattle.cfg.specs.Graph.{CFG}
use Rattle.cfg.proofs.Admitted.{ValidGraph}
use Rattle.fsmd.specs.Layout.{max_states, max_blocks, max_registers, max_wires, absent}
use Rattle.fsmd.specs.Machine.{FSMD, empty_state, state_of as state_at, wire_count}
use Rattle.fsmd.specs.Table.{valid_state}
use Rattle.fsmd.proofs.ReadBack.{right_block_of}
use Rattle.grouping.specs.Grouping.{Groups, groups}
use Rattle.grouping.proofs.Reach.{valid_closed}
use Rattle.grouping.proofs.GroupingLaws.{Grouped, grouped}
use Rattle.state.specs.Wires.{state_made, arrival_made}
use Rattle.synthesis.specs.Synthesis.{machine_for, machine}
use Rattle.synthesis.proofs.GraphFacts.{graph_fits}
use Rattle.placement.proofs.PlacementLaws.{placed}
use Rattle.placement.proofs.StateOrder.{StateOrder, arranged}
use Rattle.synthesis.proofs.Arrivals.{made_none, made_wired}
use Rattle.synthesis.proofs.StateValidity.{StateValid, state_valid}
use Rattle.synthesis.proofs.WireCount.{machine_count}

-- ---- the states of a machine that is made for a grouping

module _ (g : CFG) (s : Groups) where
  pub states_count : length (machine_for g s).states ≡ length s.starters
  unfolding machine_for
  states_count = length-map (up_from 0 (length s.starters)) (state_made g s) ∙ length-up_from 0 (length s.starters)

  pub state_at_lem : (k : ℕ) → k < length s.starters → state_at (machine_for g s) k ≡ state_made g s k
  unfolding machine_for
  state_at_lem k h = get_or-map-up_from (state_made g s) (length s.starters) k empty_state h

  pub registers_are : (machine_for g s).registers ≡ g.registers
  unfolding machine_for
  registers_are = refl

  pub starters_are : (machine_for g s).starters ≡ s.starters
  unfolding machine_for
  starters_are = refl

  pub block_states_are : (machine_for g s).block_states ≡ s.states
  unfolding machine_for
  block_states_are = refl

  pub arrival_at_lem : (b : ℕ) → get_or (machine_for g s).arrivals b 0 ≡ arrival_made g s b
  unfolding machine_for
  arrival_at_lem b = go (dec_lt b (length s.states))
    where
      go : Dec (b < length s.states) → get_or (map (arrival_made g s) (up_from 0 (length s.states))) b 0 ≡ arrival_made g s b
      go (yes h) = get_or-map-up_from (arrival_made g s) (length s.states) b 0 h
      go (no h) =
          get_or-eq_default (map (arrival_made g s) (up_from 0 (length s.states))) 0 (simp (length-map, length-up_from) (omega arith))
          ∙ sym (made_none g s b (get_or-eq_default s.states absent (omega arith)))

-- ---- the machine of a graph

pub record MachineFits (m : FSMD) : Type 0 where
  pub some_state : 1 ≤ length m.states
  pub few_states : length m.states ≤ max_states
  pub some_register : 1 ≤ m.registers
  pub few_registers : m.registers ≤ max_registers
  pub starters_count : length m.starters ≡ length m.states
  pub few_blocks : length m.block_states ≤ max_blocks
  pub valid : (k : ℕ) → k < length m.states → valid_state m.registers (state_at m k) ≡ true
  pub next_registers : (k : ℕ) → k < length m.states → length (state_at m k).next_registers ≡ m.registers
  pub room : wire_count m.states ≤ max_wires
  pub blocks : (b : ℕ) → right_block_of m b ≡ true

pub machine_is : (g : CFG) → machine g ≡ machine_for g (groups g)
unfolding machine
machine_is g = refl

-- of any finished grouping
module _ (g : CFG) (v : ValidGraph g) (s : Groups) (G : Grouped g s) where
  -- the blocks of each state, in order
  state_order : (k : ℕ) → k < length s.starters → StateOrder g s k (get_or s.starters k absent)
  state_order k h =
      let b = get_or s.starters k absent in
      rw (G.starter_home k absent h) at ((arranged g (valid_closed g v) s G).placed b (In→mem b s.starters (get_or-in s.starters k absent h)))

  pub made_valid : (k : ℕ) → k < length s.starters → StateValid g s k
  made_valid k h = state_valid g s k (get_or s.starters k absent) (graph_fits g v) (state_order k h)

  made_right : (b : ℕ) → right_block_of (machine_for g s) b ≡ true
  made_right b = rw (block_states_are g s, arrival_at_lem g s b) (go (compared (get_or s.states b absent) absent))
    where
      go : let k = get_or s.states b absent in
          let x = arrival_made g s b in
          Compared k absent
          → choose (eqb k absent) (eqb x 0)
          (ltb k (length (machine_for g s).states) && leb max_registers x && ltb x (max_registers + length (state_at (machine_for g s) k).wires))
          ≡ true
      go (same h e) = rw (h, made_none g s b e)
      go (other h d) =
          let k = get_or s.states b absent in
          let x = arrival_made g s b in
          let home : k < length s.starters = G.reached_state b (G.state_reached b d) in
          let w = made_wired g s (graph_fits g v) k b refl d ((placed g (valid_closed g v) s G k home).all b refl) in
          rw (
            h,
            states_count g s,
            lt-ltb k (length s.starters) home,
            le-leb max_registers x w.0,
            state_at_lem g s k home,
            lt-ltb x (max_registers + length (state_made g s k).wires) w.1,
          )

  pub made_fits : MachineFits (machine_for g s)
  made_fits =
      let f = graph_fits g v in
      let n = states_count g s in
      let some = G.some_state_lem in
      let few = G.few_states_lem in
      let all = G.all_blocks in
      let blocks = f.few_blocks in
      record {
        some_state = omega arith;
        few_states = omega arith;
        some_register = rw (registers_are g s) f.some_register;
        few_registers = rw (registers_are g s) f.few_registers;
        starters_count = ap length (starters_are g s) ∙ sym n;
        few_blocks = rw (block_states_are g s) (omega arith);
        valid = λ k h. rw (registers_are g s, state_at_lem g s k (omega arith)) (made_valid k (omega arith)).valid;
        next_registers = λ k h. rw (registers_are g s, state_at_lem g s k (omega arith)) (made_valid k (omega arith)).registers;
        room = machine_count g s f;
        blocks = made_right;
      }

pub machine_fits : (g : CFG) → ValidGraph g → MachineFits (machine g)
machine_fits g v = rw (machine_is g) (made_fits g v (groups g) (grouped g (valid_closed g v)))
