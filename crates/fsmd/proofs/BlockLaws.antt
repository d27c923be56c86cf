-- Which words of a block are right, case by case, and what they say of the block. Assumes nothing.
use Prim.Native.Nat.{ℕ, zero, suc, ◌+◌, ◌-◌, ◌≤◌, ◌<◌}
use native.Mathlib.Omega.{arith}
use mathlib.Core.Bool.{Bool, true, false, ◌&&◌}
use mathlib.Core.List.{List}
use mathlib.Core.Logic.{◌≢◌}
use mathlib.Core.Path.{◌≡◌, refl, ap, ap₂, ◌∙◌}
use lib.Dec.{eqb, leb, ltb}
use lib.ListN.{drop}
use borrow.Author.Tests.{eq-eqb, ne_eqb, lt-ltb, le-ltb, le-leb, lt-leb, ltb-true}
use Rattle.runs.proofs.ListLaws.{same_test, and_right, padded_drop}
use Rattle.runs.specs.Lists.{up_from, every, padded}
use Rattle.fsmd.specs.Layout.{max_states, max_blocks, max_registers, block_states_offset, arrivals_offset, absent}
use Rattle.fsmd.specs.Table.{state_count, wire_count_at, block_state_at, arrival_at, right_block, right_together, right_blocks}

-- the words of block b are right
abbrev pub right_at : List ℕ → ℕ → Bool
right_at t b = right_block t (block_state_at t b) (arrival_at t b)

together : (t : List ℕ) (n b : ℕ)
    → right_together t (padded n 0 (drop (block_states_offset + b) t)) (padded n 0 (drop (arrivals_offset + b) t)) ≡ every (right_at t) (up_from b n)
together t zero b = refl
together t (suc n) b =
    let i : suc (block_states_offset + b) ≡ block_states_offset + suc b = omega arith in
    let j : suc (arrivals_offset + b) ≡ arrivals_offset + suc b = omega arith in
    ap₂ (λ (ks xs : List ℕ). right_together t ks xs) (padded_drop n 0 (block_states_offset + b) t) (padded_drop n 0 (arrivals_offset + b) t)
    ∙ ap₂ (λ (i j : ℕ). right_at t b && right_together t (padded n 0 (drop i t)) (padded n 0 (drop j t))) i j
    ∙ ap (λ (r : Bool). right_at t b && r) (together t n (suc b))

-- the 64 blocks one by one
pub right_blocks_are : (t : List ℕ) → right_blocks t ≡ every (right_at t) (up_from 0 max_blocks)
unfolding right_blocks
right_blocks_are t = together t max_blocks 0

module _ (t : List ℕ) (b : ℕ) where
  pub right_absent : block_state_at t b ≡ absent → right_at t b ≡ eqb (arrival_at t b) 0
  right_absent e = rw (eq-eqb (block_state_at t b) absent e)

  module _ (f : block_state_at t b ≢ absent) where
    pub right_beyond : state_count t ≤ block_state_at t b → right_at t b ≡ false
    right_beyond h = rw (ne_eqb (block_state_at t b) absent f, le-ltb (block_state_at t b) (state_count t) h)

    module _ (h : block_state_at t b < state_count t) where
      pub right_register : arrival_at t b < max_registers → right_at t b ≡ false
      right_register l = rw (ne_eqb (block_state_at t b) absent f, lt-ltb (block_state_at t b) (state_count t) h, lt-leb max_registers (arrival_at t b) l)

      pub right_wire : max_registers ≤ arrival_at t b → right_at t b ≡ ltb (arrival_at t b - max_registers) (wire_count_at t (block_state_at t b))
      right_wire l =
          let x = arrival_at t b in
          let n = wire_count_at t (block_state_at t b) in
          rw (ne_eqb (block_state_at t b) absent f, lt-ltb (block_state_at t b) (state_count t) h, le-leb max_registers x l)
          (same_test (ltb x (max_registers + n)) (ltb (x - max_registers) n)
          (λ e. let q = ltb-true x (max_registers + n) e in lt-ltb (x - max_registers) n (omega arith))
          (λ e. let q = ltb-true (x - max_registers) n e in lt-ltb x (max_registers + n) (omega arith)))

      -- a right block of a state: the reference of its arrival is one of the state's wires
      pub right_below : right_at t b ≡ true → arrival_at t b < max_registers + wire_count_at t (block_state_at t b)
      right_below e =
          let k = block_state_at t b in
          let x = arrival_at t b in
          let r : (ltb k (state_count t) && leb max_registers x && ltb x (max_registers + wire_count_at t k)) ≡ true = rw (ne_eqb k absent f) at e in
          ltb-true x (max_registers + wire_count_at t k) (and_right (ltb k (state_count t) && leb max_registers x) (ltb x (max_registers + wire_count_at t k)) r)

-- of a block of state k
pub wire_below : (t : List ℕ) → state_count t ≤ max_states → (b k : ℕ) → block_state_at t b ≡ k → k < state_count t → right_at t b ≡ true → arrival_at t b < max_registers + wire_count_at t k
wire_below t few b k e h r =
    rw e at (right_below t b (λ z. absurd (omega arith)) (omega arith) r)
