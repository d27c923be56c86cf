-- The machine of a table, state by state, and what it is that a table is admitted. Assumes nothing.
use Prim.Native.Nat.{ℕ, ◌+◌, ◌<◌, ◌≤◌}
use native.Mathlib.Omega.{arith}
use mathlib.Core.Bool.{Bool, true, false, not, ◌&&◌, and_assoc}
use mathlib.Core.List.{List}
use mathlib.Core.Path.{◌≡◌, refl, sym, ap, ap₂, ◌∙◌}
use lib.Dec.{eqb, leb}
use lib.ListN.{length, get_or, take, drop, length-map}
use borrow.Author.Tests.{leb-true, le-leb, eqb-true, eq-eqb}
use Rattle.runs.proofs.Every.{below_at, below_of}
use Rattle.runs.proofs.ListLaws.{and_left, and_right, and_both, every_map, length-up_from, get_or-map-up_from}
use Rattle.runs.specs.Lists.{up_from, every}
use Rattle.fsmd.specs.Clock.{Roomy, fits_small, Ready, Arriving}
use Rattle.fsmd.specs.Layout.{machine_words, max_states, max_blocks, max_registers, max_wires, record_offset, next_state_offset, next_registers_offset, room_words, small_room_words}
use Rattle.fsmd.specs.Machine.{state_of, empty_state, wordless_machine}
use Rattle.fsmd.specs.Table.{state_count, machine_register_count, first_wire_at, wire_count_at, state_at, machine_of, valid_reference, valid_wires, valid_state, within, apart, touch_at, right_touch, right_blocks, admitted_machine}
use Rattle.fsmd.specs.Touch.{touch_word}
use Rattle.fsmd.proofs.BlockLaws.{right_at, right_blocks_are, wire_below}
use Rattle.fsmd.proofs.Windows.{wires_from, wires_length}

-- ---- the machine of a table

pub states_length : (t : List ℕ) → length (machine_of t).states ≡ get_or t 0 0
unfolding machine_of
states_length t = length-map (up_from 0 (get_or t 0 0)) (state_at t) ∙ length-up_from 0 (get_or t 0 0)

pub registers_is : (t : List ℕ) → (machine_of t).registers ≡ get_or t 1 0
unfolding machine_of
registers_is t = refl

pub state_is : (t : List ℕ) (k : ℕ) → k < get_or t 0 0 → state_of (machine_of t) k ≡ state_at t k
unfolding machine_of
state_is t k h = get_or-map-up_from (state_at t) (get_or t 0 0) k empty_state h

-- ---- states that read no sampled word

abbrev pub wordless_wires : List ℕ → ℕ → ℕ → Bool
wordless_wires t first count = every (λ w. not (eqb w.code 20)) (wires_from t first count)

pub wordless_states : (t : List ℕ) → wordless_machine (machine_of t) ≡ every (λ k. every (λ w. not (eqb w.code 20)) (state_at t k).wires) (up_from 0 (state_count t))
unfolding wordless_machine machine_of
wordless_states t = every_map (state_at t) (λ q. every (λ w. not (eqb w.code 20)) q.wires) (up_from 0 (state_count t))

-- ---- the next references of a state, from the words of its record

pub next_words_lem : (t : List ℕ) (r k at : ℕ) → at ≡ record_offset k → r ≡ get_or t 1 0 → take r (drop (at + next_registers_offset) t) ≡ (state_at t k).next_registers
unfolding state_at
next_words_lem t r k at ea er = ap₂ (λ (n i : ℕ). take n (drop (i + next_registers_offset) t)) er ea

-- ---- a valid state, from the words of its record

pub valid_state_is : (t : List ℕ) (r k first count at : ℕ) → first ≡ first_wire_at t k → count ≡ wire_count_at t k → at ≡ record_offset k → r ≡ get_or t 1 0
    → valid_state r (state_at t k)
    ≡ (valid_wires r 0 (wires_from t first count) && valid_reference r count (get_or t (at + next_state_offset) 0) && every (valid_reference r count) (take r (drop (at + next_registers_offset) t)))
unfolding valid_state state_at
valid_state_is t r k first count at ef ec ea er =
    ap₂ (λ (n m : ℕ). valid_wires r 0 (wires_from t (first_wire_at t k) (wire_count_at t k)) && valid_reference r n (get_or t (record_offset k + next_state_offset) 0)
    && every (valid_reference r n) (take m (drop (record_offset k + next_registers_offset) t))) (wires_length t (first_wire_at t k) (wire_count_at t k)) (sym er)
    ∙ sym (ap (λ (i : ℕ). valid_wires r 0 (wires_from t first count) && valid_reference r count (get_or t (i + next_state_offset) 0) && every (valid_reference r count) (take r (drop (i + next_registers_offset) t))) ea
    ∙ ap₂ (λ (f n : ℕ). valid_wires r 0 (wires_from t f n) && valid_reference r n (get_or t (record_offset k + next_state_offset) 0)
    && every (valid_reference r n) (take r (drop (record_offset k + next_registers_offset) t))) ef ec)

-- a valid state's wires, next state and next registers are
pub valid_state_parts : (t : List ℕ) (r k first count at : ℕ) → first ≡ first_wire_at t k → count ≡ wire_count_at t k → at ≡ record_offset k → r ≡ get_or t 1 0 → valid_state r (state_at t k) ≡ true
    → (valid_wires r 0 (wires_from t first count) ≡ true)
    × (valid_reference r count (get_or t (at + next_state_offset) 0) ≡ true)
    × (every (valid_reference r count) (take r (drop (at + next_registers_offset) t)) ≡ true)
valid_state_parts t r k first count at ef ec ea er h =
    let v = valid_wires r 0 (wires_from t first count) in
    let q = valid_reference r count (get_or t (at + next_state_offset) 0) in
    let e = every (valid_reference r count) (take r (drop (at + next_registers_offset) t)) in
    let whole = sym (valid_state_is t r k first count at ef ec ea er) ∙ h in
    let front = and_left (v && q) e whole in
    (and_left v q front, and_right v q front, and_right (v && q) e whole)

-- ---- what it is that a table is admitted

pub admitted_is : (t : List ℕ) (n r : ℕ) → n ≡ get_or t 0 0 → r ≡ get_or t 1 0
    → admitted_machine t
    ≡ (leb 1 n && leb n max_states && leb 1 r && leb r max_registers && every (within t) (up_from 0 n)
    && every (λ k. every (λ j. apart t j k) (up_from 0 k)) (up_from 0 n)
    && every (λ k. valid_state r (state_at t k) && right_touch t k) (up_from 0 n)
    && right_blocks t)
unfolding admitted_machine
admitted_is t n r en er =
    sym (ap₂ (λ (n r : ℕ). leb 1 n && leb n max_states && leb 1 r && leb r max_registers && every (within t) (up_from 0 n)
    && every (λ k. every (λ j. apart t j k) (up_from 0 k)) (up_from 0 n)
    && every (λ k. valid_state r (state_at t k) && right_touch t k) (up_from 0 n)
    && right_blocks t) en er)

pub record Admitted (t : List ℕ) : Type 0 where
  pub some_states : 1 ≤ get_or t 0 0
  pub few_states_lem : get_or t 0 0 ≤ max_states
  pub some_registers : 1 ≤ get_or t 1 0
  pub few_registers_lem : get_or t 1 0 ≤ max_registers
  pub in_space : (k : ℕ) → k < get_or t 0 0 → first_wire_at t k + wire_count_at t k ≤ max_wires
  pub separate : (j k : ℕ) → j < k → k < get_or t 0 0 → apart t j k ≡ true
  pub valid : (k : ℕ) → k < get_or t 0 0 → valid_state (get_or t 1 0) (state_at t k) ≡ true
  pub touch : (k : ℕ) → k < get_or t 0 0 → touch_at t k ≡ touch_word (state_at t k).next_registers
  pub blocks : (b : ℕ) → b < max_blocks → right_at t b ≡ true

pub admitted_facts : (t : List ℕ) → admitted_machine t ≡ true → Admitted t
unfolding admitted_machine
admitted_facts t e =
    let n = get_or t 0 0 in
    let r = get_or t 1 0 in
    let a = leb 1 n in
    let b = leb n max_states in
    let c = leb 1 r in
    let d = leb r max_registers in
    let f = every (within t) (up_from 0 n) in
    let g = every (λ k. every (λ j. apart t j k) (up_from 0 k)) (up_from 0 n) in
    let p : ℕ → Bool = λ k. valid_state r (state_at t k) && right_touch t k in
    let h = every p (up_from 0 n) in
    let i = right_blocks t in
    let e7 = and_left (a && b && c && d && f && g && h) i e in
    let e6 = and_left (a && b && c && d && f && g) h e7 in
    let e5 = and_left (a && b && c && d && f) g e6 in
    let e4 = and_left (a && b && c && d) f e5 in
    let e3 = and_left (a && b && c) d e4 in
    let e2 = and_left (a && b) c e3 in
    record {
      some_states = leb-true 1 n (and_left a b e2);
      few_states_lem = leb-true n max_states (and_right a b e2);
      some_registers = leb-true 1 r (and_right (a && b) c e3);
      few_registers_lem = leb-true r max_registers (and_right (a && b && c) d e4);
      in_space = λ k q. leb-true (first_wire_at t k + wire_count_at t k) max_wires (below_at (within t) n k (and_right (a && b && c && d) f e5) q);
      separate = λ j k q p. below_at (λ i. apart t i k) k j (below_at (λ i. every (λ j. apart t j i) (up_from 0 i)) n k (and_right (a && b && c && d && f) g e6) p) q;
      valid = λ k q. and_left (valid_state r (state_at t k)) (right_touch t k) (below_at p n k (and_right (a && b && c && d && f && g) h e7) q);
      touch = λ k q.
          eqb-true (touch_at t k) (touch_word (state_at t k).next_registers) (and_right (valid_state r (state_at t k)) (right_touch t k) (below_at p n k (and_right (a && b && c && d && f && g) h e7) q));
      blocks = λ x q. below_at (right_at t) max_blocks x (sym (right_blocks_are t) ∙ and_right (a && b && c && d && f && g && h) i e) q;
    }

pub facts_admitted : (t : List ℕ) → Admitted t → admitted_machine t ≡ true
unfolding admitted_machine
facts_admitted t m =
    let n = get_or t 0 0 in
    let r = get_or t 1 0 in
    let f : every (within t) (up_from 0 n) ≡ true =
    below_of (within t) n (λ k q. le-leb (first_wire_at t k + wire_count_at t k) max_wires (m.in_space k q)) in
    let g : every (λ k. every (λ j. apart t j k) (up_from 0 k)) (up_from 0 n) ≡ true =
    below_of (λ k. every (λ j. apart t j k) (up_from 0 k)) n (λ k p. below_of (λ j. apart t j k) k (λ j q. m.separate j k q p)) in
    let p : ℕ → Bool = λ k. valid_state r (state_at t k) && right_touch t k in
    let h : every p (up_from 0 n) ≡ true =
    below_of p n (λ k q. and_both (valid_state r (state_at t k)) (right_touch t k) (m.valid k q) (eq-eqb (touch_at t k) (touch_word (state_at t k).next_registers) (m.touch k q))) in
    rw (le-leb 1 n m.some_states, le-leb n max_states m.few_states_lem, le-leb 1 r m.some_registers, le-leb r max_registers m.few_registers_lem, f, g, h)
    (right_blocks_are t ∙ below_of (right_at t) max_blocks m.blocks)

-- ---- rooms with space for each state

pub small_roomy : (t : List ℕ) → fits_small t ≡ true → Roomy t small_room_words
small_roomy t e k h = leb-true (max_registers + wire_count_at t k) small_room_words (below_at (λ i. leb (max_registers + wire_count_at t i) small_room_words) (get_or t 0 0) k e h)

pub admitted_roomy : (t : List ℕ) → admitted_machine t ≡ true → Roomy t room_words
admitted_roomy t e k h = let w = (admitted_facts t e).in_space k h in omega arith

-- the tests of a state, of its own words
pub valid_state_tests : (t : List ℕ) (k : ℕ) → let r = machine_register_count t in let n = wire_count_at t k in
    let next = take r (drop (record_offset k + next_registers_offset) t) in
    (valid_state r (state_at t k) && right_touch t k)
    ≡ (valid_wires r 0 (wires_from t (first_wire_at t k) n)
    && (valid_reference r n (get_or t (record_offset k + next_state_offset) 0) && every (valid_reference r n) next && eqb (touch_at t k) (touch_word next)))
unfolding state_at
valid_state_tests t k =
    let r = machine_register_count t in
    let n = wire_count_at t k in
    let next = take r (drop (record_offset k + next_registers_offset) t) in
    let a = valid_wires r 0 (wires_from t (first_wire_at t k) n) in
    let b = valid_reference r n (get_or t (record_offset k + next_state_offset) 0) in
    let c = every (valid_reference r n) next in
    let d = eqb (touch_at t k) (touch_word next) in
    ap (λ (v : Bool). v && right_touch t k) (valid_state_is t r k (first_wire_at t k) n (record_offset k) refl refl refl refl)
    ∙ and_assoc (a && b) c d ∙ and_assoc a b (c && d) ∙ ap (λ (v : Bool). a && v) (sym (and_assoc b c d))

-- the tests of a table whose counts are within their limits
pub admitted_tests : (t : List ℕ) → 1 ≤ state_count t → state_count t ≤ max_states → 1 ≤ machine_register_count t → machine_register_count t ≤ max_registers
    → admitted_machine t
    ≡ (every (within t) (up_from 0 (state_count t))
    && every (λ k. every (λ j. apart t j k) (up_from 0 k)) (up_from 0 (state_count t))
    && every (λ k. valid_state (machine_register_count t) (state_at t k) && right_touch t k) (up_from 0 (state_count t))
    && right_blocks t)
unfolding admitted_machine
admitted_tests t a b c d = rw (le-leb 1 (state_count t) a, le-leb (state_count t) max_states b, le-leb 1 (machine_register_count t) c, le-leb (machine_register_count t) max_registers d)

-- a table is not, where it cannot be
pub not_admitted : (t : List ℕ) → (Admitted t → ⊥) → admitted_machine t ≡ false
not_admitted t f = go (admitted_machine t) refl
  where
    go : (b : Bool) → admitted_machine t ≡ b → b ≡ false
    go true e = absurd (f (admitted_facts t e))
    go false e = refl

-- ---- what a cycle of an admitted machine's state may rely on

pub ready_at : (t : List ℕ) (k : ℕ) → machine_words ≤ length t → admitted_machine t ≡ true → k < state_count t → Ready t k
ready_at t k whole e h =
    let m = admitted_facts t e in
    record { whole = whole; state = omega (arith, m.few_states_lem); wires = m.in_space k h; registers = m.few_registers_lem; valid = m.valid k h }

pub arriving_at : (t : List ℕ) (k : ℕ) → admitted_machine t ≡ true → k < state_count t → Arriving t k
arriving_at t k e h = let m = admitted_facts t e in λ b l s. wire_below t m.few_states_lem b k s h (m.blocks b l)
