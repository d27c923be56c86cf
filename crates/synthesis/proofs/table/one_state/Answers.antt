-- `synthesis::table::one_state` meets its contract. Assumes nothing.
use mathlib.Core.Path.{◌≡◌, refl, sym, ap, ap₂, subst, ◌∙◌}
use mathlib.Core.Bool.{Bool, true}
use mathlib.Core.List.{List, [], ◌∷◌, ◌++◌}
use Prim.Native.Nat.{ℕ, ◌+◌, ◌-◌, ◌≤◌, ◌<◌}
use native.Mathlib.Omega.{arith}
use lib.ListN.{length, get_or, take, drop, replicate, take-append-drop}
use lib.Seq.{length-take-le, take-take, sets}
use borrow.Rule.Slice.PartMut.{same_len_mid, put_mid}
use Rattle.cfg.specs.Table.{graph_of, admitted_graph}
use Rattle.cfg.proofs.Admitted.{admitted_facts}
use Rattle.fsmd.specs.Layout.{max_states, max_blocks, max_registers, max_wires, records_offset, arrivals_offset, wire_offset, record_offset}
use Rattle.fsmd.specs.Machine.{wire_count}
use Rattle.fsmd.specs.Touch.{touch_word}
use Rattle.runs.specs.Lists.{mem}
use Rattle.grouping.specs.Grouping.{Groups}
use Rattle.grouping.proofs.Reach.{admitted_closed}
use Rattle.grouping.proofs.GroupingLaws.{Grouped}
use Rattle.placement.specs.Placement.{order}
use Rattle.placement.specs.PlacementBytes.{marked, members_in, placed_in}
use Rattle.placement.proofs.PlacedOrder.{placed_order}
use Rattle.state.specs.Wires.{BlockBuild, nothing}
use Rattle.state.specs.Making.{Held, Room, GroupedBytes, groups_in}
use Rattle.state.specs.BlocksMaking.{state_blocks, AllPlaceable, with_arrivals}
use Rattle.state.proofs.PlaceableLaws.{all_placeable}
use Rattle.synthesis.specs.declared.table.Plan.{Plan}
use Rattle.synthesis.specs.Plans.{Prepared, words_in}
use Rattle.synthesis.specs.StateWords.{with_states, first_states, first_arrivals, Filled}
use Rattle.synthesis.proofs.MachineTable.{its, finished, grouping_is, nth}
use Rattle.synthesis.proofs.StateBlocks.{point_of, all_below, state_is}
use Rattle.synthesis.proofs.ArrivalWords.{arrivals_more}
use Rattle.synthesis.proofs.StatePut.{Known, groups_held, below, few_states_lem, first_low, registers_low, room_for, made_low, made_count, made_table, made_words, zeros_behind}
use Rattle.synthesis.proofs.TableFilled.{groups_listed}
use Rattle.synthesis.proofs.table.one_state.Goals as goal

-- small numbers at entry
record Small (t table : List ℕ) (k first : ℕ) : Type 0 where
  state : k < max_states
  wire : first ≤ max_wires
  registers : get_or t 1 0 ≤ max_registers
  all : length table ≡ arrivals_offset

abbrev starters_in : Plan → List ℕ
starters_in p = p.grouping.starters

abbrev states_in : Plan → List ℕ
states_in p = take (get_or (words_in p) 0 0) p.grouping.states

-- the blocks of state k in order, by a mark at each starter
record Placed (p : Plan) (k : ℕ) (xs : List ℕ) : Type 0 where
  marks : List Bool
  starts : (x : ℕ) → marked marks x ≡ mem x (starters_in p)
  blocks : xs ≡ placed_in p.successors marks (members_in (states_in p) k) max_blocks []

module _ (p : Plan) (prepared : Prepared p) {table : List ℕ} {k first : ℕ} (f : Filled (words_in p) (its (words_in p)) table k first) (low : k < length p.grouping.starters) where
  abbrev t : List ℕ
  t = words_in p

  admits : admitted_graph t ≡ true
  admits = p.graph.admitted

  abbrev starters : List ℕ
  starters = starters_in p

  abbrev states : List ℕ
  states = states_in p

  done : Grouped (graph_of t) (its t)
  done = finished t admits

  known : Known t (its t) starters states
  known =
      let g = groups_listed t admits (its t) done p.grouping (prepared.grouped ∙ grouping_is t) in
      record { admits = admits; its_starters = g.starters; its_states = g.states }

  one_below : k < length (its t).starters
  one_below = below t (its t) done starters states known table k first f low

  small : Small t table k first
  small =
      record {
        state = few_states_lem t (its t) done starters states known table k first f low;
        wire = first_low t (its t) done starters states known table k first f low;
        registers = registers_low t (its t) done starters states known table k first f low;
        all = f.all;
      }

  grouped_bytes : GroupedBytes starters states
  grouped_bytes = groups_held t (its t) done starters states known

  -- the blocks in order
  ordered : (xs : List ℕ) → Placed p k xs → xs ≡ order (graph_of t) (its t) k
  ordered xs e =
      e.blocks
      ∙ ap (λ (x : List ℕ). placed_in p.successors e.marks (members_in x k) max_blocks []) known.its_states
      ∙ placed_order (graph_of t) (admitted_closed t admits) (its t) done k one_below p.successors e.marks prepared.leading (λ x. e.starts x ∙ ap (mem x) known.its_starters)

  module _ (xs : List ℕ) (placed_by : Placed p k xs) where
    abbrev end : BlockBuild
    end = state_blocks (get_or t 1 0) t starters states xs

    end_is : end ≡ point_of (nth t (its t) k)
    end_is = state_is t admits (its t) done k one_below (get_or t 1 0) starters states xs refl known.its_starters known.its_states (ordered xs placed_by)

    can_place : AllPlaceable t xs
    can_place = all_placeable p.graph xs (all_below t admits (its t) done k one_below xs (ordered xs placed_by))

    abbrev behind : List ℕ
    behind = take (length table - (wire_offset first)) (drop (wire_offset first) table)

    room_left : Room (length end.wires) behind
    room_left = room_for t (its t) done starters states known table k first f low end end_is

    arrivals_after : (old : List ℕ) → old ≡ first_arrivals t (its t) k → with_arrivals (get_or t 1 0) t starters xs nothing old ≡ first_arrivals t (its t) (k + 1)
    arrivals_after old e = arrivals_more t admits (its t) done k one_below (get_or t 1 0) starters xs old refl known.its_starters (ordered xs placed_by) e

    -- what making the state gives
    module _ (wires registers : List ℕ) (m n next : ℕ) (h : Held end behind next (take m registers) n wires) (few : m ≤ get_or t 1 0)
        (zeros : registers ≡ take m registers ++ replicate (max_registers - m) 0) (long : length registers ≡ max_registers) (as_long : length wires ≡ length behind) where
      abbrev r : ℕ
      r = get_or t 1 0

      values_length : length (take r registers) ≡ r
      values_length = length-take-le r registers (omega (arith, small.registers))

      held : Held end behind next (take m (take r registers)) n wires
      held = subst (λ (l : List ℕ). Held end behind next l n wires) (sym (take-take m r registers few)) h

      few_wires : first + n ≤ max_wires
      few_wires = made_low t (its t) done starters states known table k first f low end end_is wires (take r registers) m n next held values_length few

      table_length : length (put_mid (wire_offset first) (length table - (wire_offset first)) table wires) ≡ arrivals_offset
      table_length = same_len_mid (wire_offset first) (length table - (wire_offset first)) table wires as_long ∙ f.all

      next_wire : first + n ≡ wire_count (first_states t (its t) (k + 1))
      next_wire = made_count t (its t) done starters states known table k first f low end end_is wires (take r registers) m n next held values_length few

      words_after : (last : List ℕ) → last ≡ sets (put_mid (wire_offset first) (length table - (wire_offset first)) table wires) (record_offset k) (first ∷ n ∷ next ∷ (registers ++ (touch_word (take r registers) ∷ [])))
          → last ≡ with_states (take records_offset table) (first_states t (its t) (k + 1))
      words_after last e =
          made_words t (its t) done starters states known table k first f low end end_is wires (take r registers) m n next held values_length few
          (drop r registers)
          (put_mid (wire_offset first) (length table - (wire_offset first)) table wires)
          last
          (zeros_behind r m registers few small.registers long zeros)
          (ap (λ (x : List ℕ). take (wire_offset first) table ++ x) (made_table t (its t) done starters states known table k first f low end end_is wires (take r registers) m n next held values_length few))
          (subst (λ (l : List ℕ). last ≡ sets (put_mid (wire_offset first) (length table - (wire_offset first)) table wires) (record_offset k) (first ∷ n ∷ next ∷ (l ++ (touch_word (take r l) ∷ []))))
          (sym (take-append-drop r registers)) e)

-- the blocks in order, and the groups, as the code has them
record Ready (p : Plan) (k : ℕ) (xs list : List ℕ) (marks : List Bool) (blocks : ℕ) (g : Groups) : Type 0 where
  listed : list ≡ p.grouping.starters
  starts : (x : ℕ) → marked marks x ≡ mem x p.grouping.starters
  counted : blocks ≡ get_or (words_in p) 0 0
  placed : xs ≡ placed_in p.successors marks (members_in (take blocks p.grouping.states) k) max_blocks []
  grouped : g ≡ groups_in list (take blocks p.grouping.states)

ready : (p : Plan) (k : ℕ) (xs list : List ℕ) (marks : List Bool) (blocks : ℕ) (g : Groups) → list ≡ p.grouping.starters → ((x : ℕ) → marked marks x ≡ mem x p.grouping.starters)
    → blocks ≡ get_or (words_in p) 0 0 → xs ≡ placed_in p.successors marks (members_in (take blocks p.grouping.states) k) max_blocks [] → g ≡ groups_in list (take blocks p.grouping.states)
    → Ready p k xs list marks blocks g
ready p k xs list marks blocks g el em eb ex eg = record { listed = el; starts = em; counted = eb; placed = ex; grouped = eg }

module _ {p : Plan} {k : ℕ} {xs list : List ℕ} {marks : List Bool} {blocks : ℕ} {g : Groups} (y : Ready p k xs list marks blocks g) where
  placed_by : Placed p k xs
  placed_by = record {
    marks = marks;
    starts = y.starts;
    blocks = y.placed ∙ ap (λ (n : ℕ). placed_in p.successors marks (members_in (take n p.grouping.states) k) max_blocks []) y.counted;
  }

  groups_are : g ≡ groups_in (starters_in p) (states_in p)
  groups_are = y.grouped ∙ ap₂ groups_in y.listed (ap (λ (n : ℕ). take n p.grouping.states) y.counted)

  held_by : {old wires vs : List ℕ} {next n : ℕ} → Held (state_blocks (get_or (words_in p) 1 0) (words_in p) g.starters g.states xs) old next vs n wires
      → Held (state_blocks (get_or (words_in p) 1 0) (words_in p) (starters_in p) (states_in p) xs) old next vs n wires
  held_by {old} {wires} {vs} {next} {n} h = subst (λ (s : Groups). Held (state_blocks (get_or (words_in p) 1 0) (words_in p) s.starters s.states xs) old next vs n wires) groups_are h

pub shared_ref_as_front-states : goal.shared_ref_as_front-states
shared_ref_as_front-states c = let d = admitted_facts (words_in c.args.plan.now) c.args.plan.now.graph.admitted in omega (arith, d.few_blocks, c.blocks-blocks.ensures)

pub place-order-requires : goal.place-order-requires
place-order-requires c =
    let q = c.requires in
    let s = small c.args.plan.now q.prepared q.written.0 q.below in
    let g = grouped_bytes c.args.plan.now q.prepared q.written.0 q.below in
    rw c.blocks-blocks.ensures (g.known, s.state)

pub overflow_mul-at : goal.overflow_mul-at
overflow_mul-at c = let s = small c.args.plan.now c.requires.prepared c.requires.written.0 c.requires.below in omega arith

pub overflow_add-at : goal.overflow_add-at
overflow_add-at c = let s = small c.args.plan.now c.requires.prepared c.requires.written.0 c.requires.below in omega arith

pub new-requires : goal.new-requires
new-requires c =
    let q = c.requires in
    rw (c.list-starters.ensures.list, c.blocks-blocks.ensures) (grouped_bytes c.args.plan.now q.prepared q.written.0 q.below)

pub offset_bounds-table-at : goal.offset_bounds-table-at
offset_bounds-table-at c = let s = small c.args.plan.now c.requires.prepared c.requires.written.0 c.requires.below in omega arith

pub slice_bounds-make-count : goal.slice_bounds-make-count
slice_bounds-make-count c = let s = small c.args.plan.now c.requires.prepared c.requires.written.0 c.requires.below in omega arith

pub slice_bounds-make-start : goal.slice_bounds-make-start
slice_bounds-make-start c = let s = small c.args.plan.now c.requires.prepared c.requires.written.0 c.requires.below in omega arith

pub make-made-requires-clause-all_placeable : goal.make-made-requires-clause-all_placeable
make-made-requires-clause-all_placeable c =
    let q = c.requires in
    let y = ready c.args.plan.now c.args.k c.as_slice.result.now c.list-starters.result.now c.marks.result.now c.blocks-blocks.result c.new.result
    c.list-starters.ensures.list c.marks.ensures c.blocks-blocks.ensures (c.as_slice.ensures.value ∙ c.place-order.ensures.placed) c.new.ensures in
    can_place c.args.plan.now q.prepared q.written.0 q.below c.as_slice.result.now (placed_by y)

pub make-made-requires-clause-room : goal.make-made-requires-clause-room
make-made-requires-clause-room c =
    let q = c.requires in
    let y = ready c.args.plan.now c.args.k c.as_slice.result.now c.list-starters.result.now c.marks.result.now c.blocks-blocks.result c.new.result
    c.list-starters.ensures.list c.marks.ensures c.blocks-blocks.ensures (c.as_slice.ensures.value ∙ c.place-order.ensures.placed) c.new.ensures in
    rw (groups_are y) (room_left c.args.plan.now q.prepared q.written.0 q.below c.as_slice.result.now (placed_by y))

pub write_record-requires-clause-few : goal.write_record-requires-clause-few
write_record-requires-clause-few c =
    let q = c.requires in
    let s = small c.args.plan.now q.prepared q.written.0 q.below in
    let y = ready c.args.plan.now c.args.k c.as_slice.result.now c.list-starters.result.now c.marks.result.now c.blocks-blocks.result c.new.result
    c.list-starters.ensures.list c.marks.ensures c.blocks-blocks.ensures (c.as_slice.ensures.value ∙ c.place-order.ensures.placed) c.new.ensures in
    let m = c.make-made in
    let w = few_wires c.args.plan.now q.prepared q.written.0 q.below c.as_slice.result.now (placed_by y) m.new.wires m.result.registers m.result.used m.result.wires m.result.next (held_by y m.ensures.held) m.ensures.registers.0 m.ensures.registers.1 (omega arith) m.auto.wires in
    (s.wire, omega arith, omega (arith, c.registers-registers.ensures, s.registers))

pub overflow_add-result : goal.overflow_add-result
overflow_add-result c =
    let q = c.requires in
    let y = ready c.args.plan.now c.args.k c.as_slice.result.now c.list-starters.result.now c.marks.result.now c.blocks-blocks.result c.new.result
    c.list-starters.ensures.list c.marks.ensures c.blocks-blocks.ensures (c.as_slice.ensures.value ∙ c.place-order.ensures.placed) c.new.ensures in
    let m = c.make-made in
    let w = few_wires c.args.plan.now q.prepared q.written.0 q.below c.as_slice.result.now (placed_by y) m.new.wires m.result.registers m.result.used m.result.wires m.result.next (held_by y m.ensures.held) m.ensures.registers.0 m.ensures.registers.1 (omega arith) m.auto.wires in
    omega arith

pub returns-clause-states : goal.returns-clause-states
returns-clause-states c =
    let q = c.requires in
    let y = ready c.args.plan.now c.args.k c.as_slice.result.now c.list-starters.result.now c.marks.result.now c.blocks-blocks.result c.new.result
    c.list-starters.ensures.list c.marks.ensures c.blocks-blocks.ensures (c.as_slice.ensures.value ∙ c.place-order.ensures.placed) c.new.ensures in
    let m = c.make-made in
    words_after c.args.plan.now q.prepared q.written.0 q.below c.as_slice.result.now (placed_by y) m.new.wires m.result.registers m.result.used m.result.wires m.result.next (held_by y m.ensures.held) m.ensures.registers.0 m.ensures.registers.1 (omega arith) m.auto.wires
    c.write_record.new.words (rw c.registers-registers.ensures at c.write_record.ensures)

pub returns-clause-wires : goal.returns-clause-wires
returns-clause-wires c =
    let q = c.requires in
    let y = ready c.args.plan.now c.args.k c.as_slice.result.now c.list-starters.result.now c.marks.result.now c.blocks-blocks.result c.new.result
    c.list-starters.ensures.list c.marks.ensures c.blocks-blocks.ensures (c.as_slice.ensures.value ∙ c.place-order.ensures.placed) c.new.ensures in
    let m = c.make-made in
    next_wire c.args.plan.now q.prepared q.written.0 q.below c.as_slice.result.now (placed_by y) m.new.wires m.result.registers m.result.used m.result.wires m.result.next (held_by y m.ensures.held) m.ensures.registers.0 m.ensures.registers.1 (omega arith) m.auto.wires

pub returns-clause-arrivals : goal.returns-clause-arrivals
returns-clause-arrivals c =
    let q = c.requires in
    let y = ready c.args.plan.now c.args.k c.as_slice.result.now c.list-starters.result.now c.marks.result.now c.blocks-blocks.result c.new.result
    c.list-starters.ensures.list c.marks.ensures c.blocks-blocks.ensures (c.as_slice.ensures.value ∙ c.place-order.ensures.placed) c.new.ensures in
    let p = c.args.plan.now in
    let a : c.make-made.new.arrivals ≡ with_arrivals (get_or (words_in p) 1 0) (words_in p) (starters_in p) c.as_slice.result.now nothing c.args.arrivals.now =
    c.make-made.ensures.arrivals ∙ ap (λ (g : Groups). with_arrivals (get_or (words_in p) 1 0) (words_in p) g.starters c.as_slice.result.now nothing c.args.arrivals.now) (groups_are y) in
    a ∙ arrivals_after p q.prepared q.written.0 q.below c.as_slice.result.now (placed_by y) c.args.arrivals.now q.written.1
