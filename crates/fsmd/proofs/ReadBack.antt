-- Reading back what was written: the machine of a machine's table is that machine, and the table is admitted. Assumes nothing.
use Prim.Native.Nat.{ℕ, ◌+◌, ◌<◌, ◌≤◌}
use native.Mathlib.Omega.{arith}
use mathlib.Core.Bool.{Bool, true, false, ◌&&◌}
use mathlib.Core.List.{List, [], ◌++◌, map}
use mathlib.Core.Path.{◌≡◌, refl, sym, ap, ap₂, ◌∙◌}
use lib.Dec.{eqb, leb, ltb}
use lib.ListN.{length, get_or, length-map}
use lib.Seq.{ext_get_or}
use borrow.Author.Tests.{ltb-true}
use Rattle.word.specs.Word.{choose}
use Rattle.runs.proofs.ListLaws.{length-up_from, get_or-map-up_from, length_padded, get_or-padded}
use Rattle.runs.proofs.MembershipLaws.{only_in, only_same, map_in, in_up_from}
use Rattle.runs.proofs.Sets.{In, get_or-any}
use Rattle.runs.specs.Lists.{up_from, padded}
use Rattle.runs.specs.Runs.{Runner}
use Rattle.fsmd.specs.Layout.{max_states, max_blocks, max_registers, max_wires, block_states_offset, arrivals_offset, absent}
use Rattle.fsmd.specs.Machine.{State, wire_count, FSMD, empty_state, state_of, worked, clock, machine_runner, blocks_of, nonzero, blocks_run}
use Rattle.fsmd.specs.Touch.{touch_word}
use Rattle.fsmd.specs.Table.{machine_table_of, state_count, wire_count_at, state_at, block_state_at, arrival_at, machine_of, valid_state, admitted_machine}
use Rattle.fsmd.proofs.Apart.{behind_apart}
use Rattle.fsmd.proofs.BlockLaws.{right_at}
use Rattle.fsmd.proofs.Machines.{facts_admitted}
use Rattle.fsmd.proofs.WrittenTable.{before_room, before_less, count_is, registers_are, back_first, back_count, back_state, back_touch, back_blocks, back_arrivals}
use Rattle.fsmd.proofs.Windows.{window_at}

-- a machine that its table has room for
pub record Fits (m : FSMD) : Type 0 where
  pub few_states_lem : length m.states ≤ max_states
  pub few_registers_lem : m.registers ≤ max_registers
  pub room : wire_count m.states ≤ max_wires
  pub next_registers_lem : (k : ℕ) → k < length m.states → length (state_of m k).next_registers ≡ m.registers

-- block b is absent and has no arrival, or the reference of its arrival is a wire of its state
abbrev pub right_block_of : FSMD → ℕ → Bool
right_block_of m b =
    let k = get_or m.block_states b absent in
    let x = get_or m.arrivals b 0 in
    choose (eqb k absent) (eqb x 0) (ltb k (length m.states) && leb max_registers x && ltb x (max_registers + length (state_of m k).wires))

-- a machine whose table is admitted
pub record Sound (m : FSMD) : Type 0 where
  pub fits : Fits m
  pub some_states : 1 ≤ length m.states
  pub some_registers : 1 ≤ m.registers
  pub valid : (k : ℕ) → k < length m.states → valid_state m.registers (state_of m k) ≡ true
  pub blocks : (b : ℕ) → b < max_blocks → right_block_of m b ≡ true

-- ---- the machine that a machine's table holds

-- a cycle goes by the registers and the states alone
same_runner : (m n : FSMD) → m.registers ≡ n.registers → m.states ≡ n.states → machine_runner m ≡ machine_runner n
unfolding clock
same_runner m n e s =
    ap₂ {C = Runner} (λ (r : ℕ) (qs : List State). machine_runner (record { registers = r; starters = []; block_states = []; arrivals = []; states = qs })) e s

-- the blocks that are run depend on the states and on each block's state and arrival
module _ (m n : FSMD) (states : m.states ≡ n.states) (home : (b : ℕ) → b < max_blocks → get_or m.block_states b absent ≡ get_or n.block_states b absent)
    (arrival : (b : ℕ) → b < max_blocks → get_or m.arrivals b 0 ≡ get_or n.arrivals b 0) where
  below : (b : ℕ) → In b (up_from 0 max_blocks) → b < max_blocks
  below b i = (in_up_from 0 max_blocks b i).1

  same_members : (k : ℕ) → blocks_of m k ≡ blocks_of n k
  unfolding blocks_of
  same_members k =
      only_same (λ b. eqb (get_or m.block_states b absent) k) (λ b. eqb (get_or n.block_states b absent) k) (up_from 0 max_blocks)
      (λ b i. ap (λ (j : ℕ). eqb j k) (home b (below b i)))

  member_below : (k b : ℕ) → In b (blocks_of m k) → b < max_blocks
  unfolding blocks_of
  member_below k b i = below b (only_in (λ b. eqb (get_or m.block_states b absent) k) (up_from 0 max_blocks) b i).0

  same_references : (k : ℕ) → map (λ b. get_or m.arrivals b 0) (blocks_of m k) ≡ map (λ b. get_or n.arrivals b 0) (blocks_of n k)
  same_references k =
      map_in (λ b. get_or m.arrivals b 0) (λ b. get_or n.arrivals b 0) (blocks_of m k) (λ b i. arrival b (member_below k b i))
      ∙ ap (map (λ b. get_or n.arrivals b 0)) (same_members k)

  pub same_blocks : blocks_run m ≡ blocks_run n
  unfolding blocks_run
  same_blocks = λ i w k rs. nonzero (worked w rs (get_or (states i) k empty_state).wires) (same_references k i)

module _ (m : FSMD) (rest : List ℕ) (f : Fits m) where
  pub read_state : (k : ℕ) → k < length m.states → state_at (machine_table_of m ++ rest) k ≡ state_of m k
  read_state k h = back_state m rest f.few_states_lem f.room k h f.few_registers_lem (f.next_registers_lem k h)

  pub read_registers : (machine_of (machine_table_of m ++ rest)).registers ≡ m.registers
  unfolding machine_of
  read_registers = registers_are m rest

  pub read_states : (machine_of (machine_table_of m ++ rest)).states ≡ m.states
  unfolding machine_of
  read_states =
      let t = machine_table_of m ++ rest in
      let n : length (map (state_at t) (up_from 0 (get_or t 0 0))) ≡ length m.states = length-map (up_from 0 (get_or t 0 0)) (state_at t) ∙ length-up_from 0 (get_or t 0 0) ∙ count_is m rest in
      ext_get_or empty_state (map (state_at t) (up_from 0 (get_or t 0 0))) m.states n (λ k h.
      let b : k < length m.states = omega arith in
      get_or-map-up_from (state_at t) (get_or t 0 0) k empty_state (omega (arith, count_is m rest)) ∙ read_state k b)

  -- so the two have the same cycles
  pub read_runner : machine_runner (machine_of (machine_table_of m ++ rest)) ≡ machine_runner m
  read_runner = same_runner (machine_of (machine_table_of m ++ rest)) m read_registers read_states

  -- ---- blocks

  read_block_state : (b : ℕ) → b < max_blocks → block_state_at (machine_table_of m ++ rest) b ≡ get_or m.block_states b absent
  read_block_state b h =
      let t = machine_table_of m ++ rest in
      sym (window_at t block_states_offset max_blocks b h) ∙ ap (λ (l : List ℕ). get_or l b 0) (back_blocks m rest)
      ∙ get_or-any (padded max_blocks absent m.block_states) b 0 absent (rw (length_padded max_blocks absent m.block_states) h)
      ∙ get_or-padded max_blocks absent m.block_states b h

  read_arrival : (b : ℕ) → b < max_blocks → arrival_at (machine_table_of m ++ rest) b ≡ get_or m.arrivals b 0
  read_arrival b h =
      let t = machine_table_of m ++ rest in
      sym (window_at t arrivals_offset max_blocks b h) ∙ ap (λ (l : List ℕ). get_or l b 0) (back_arrivals m rest)
      ∙ get_or-padded max_blocks 0 m.arrivals b h

  -- a block's words are right in the table where they are in the machine
  read_right : (b : ℕ) → b < max_blocks → right_at (machine_table_of m ++ rest) b ≡ right_block_of m b
  read_right b h =
      let t = machine_table_of m ++ rest in
      ap₂ (λ (k x : ℕ). choose (eqb k absent) (eqb x 0) (ltb k (state_count t) && leb max_registers x && ltb x (max_registers + wire_count_at t k))) (read_block_state b h) (read_arrival b h)
      ∙ go (ltb (get_or m.block_states b absent) (length m.states)) refl
    where
      go : (c : Bool) → ltb (get_or m.block_states b absent) (length m.states) ≡ c
          → let t = machine_table_of m ++ rest in
          let k = get_or m.block_states b absent in
          let x = get_or m.arrivals b 0 in
          choose (eqb k absent) (eqb x 0) (ltb k (state_count t) && leb max_registers x && ltb x (max_registers + wire_count_at t k)) ≡ right_block_of m b
      go true e = rw (count_is m rest, back_count m rest f.few_states_lem f.room (get_or m.block_states b absent) (ltb-true (get_or m.block_states b absent) (length m.states) e))
      go false e = rw (count_is m rest, e)

  read_block_states : (b : ℕ) → b < max_blocks → get_or (machine_of (machine_table_of m ++ rest)).block_states b absent ≡ get_or m.block_states b absent
  unfolding machine_of
  read_block_states b h = ap (λ (l : List ℕ). get_or l b absent) (back_blocks m rest) ∙ get_or-padded max_blocks absent m.block_states b h

  read_arrivals : (b : ℕ) → b < max_blocks → get_or (machine_of (machine_table_of m ++ rest)).arrivals b 0 ≡ get_or m.arrivals b 0
  unfolding machine_of
  read_arrivals b h = ap (λ (l : List ℕ). get_or l b 0) (back_arrivals m rest) ∙ get_or-padded max_blocks 0 m.arrivals b h

  -- so the two run the same blocks in a cycle
  pub read_blocks : blocks_run (machine_of (machine_table_of m ++ rest)) ≡ blocks_run m
  read_blocks = same_blocks (machine_of (machine_table_of m ++ rest)) m read_states read_block_states read_arrivals

-- ---- its table is admitted, and run

module _ (m : FSMD) (rest : List ℕ) (s : Sound m) where
  pub read_admitted : admitted_machine (machine_table_of m ++ rest) ≡ true
  read_admitted =
      let t = machine_table_of m ++ rest in
      let f = s.fits in
      let n = count_is m rest in
      let r = registers_are m rest in
      facts_admitted t (record {
        some_states = rw n s.some_states;
        few_states_lem = rw n f.few_states_lem;
        some_registers = rw r s.some_registers;
        few_registers_lem = rw r f.few_registers_lem;
        in_space = λ k h.
            let b : k < length m.states = omega arith in
            omega (arith, back_first m rest f.few_states_lem f.room k b, back_count m rest f.few_states_lem f.room k b, before_room m.states k b);
        separate = λ j k l h.
            let b : k < length m.states = omega arith in
            let a : j < length m.states = omega arith in
            behind_apart t j k
            (omega (arith, back_first m rest f.few_states_lem f.room k b, back_first m rest f.few_states_lem f.room j a, back_count m rest f.few_states_lem f.room j a, before_less m.states j k l b));
        valid = λ k h.
            let b : k < length m.states = omega arith in
            ap₂ valid_state r (read_state m rest f k b) ∙ s.valid k b;
        touch = λ k h.
            let b : k < length m.states = omega arith in
            back_touch m rest f.few_states_lem f.room k b ∙ ap (λ (q : State). touch_word q.next_registers) (sym (read_state m rest f k b));
        blocks = λ b h. read_right m rest f b h ∙ s.blocks b h;
      })
