-- What references read in a cycle, word by word as the code works it out, and the cycle of a table's state. Assumes nothing.
use Prim.Native.Nat.{ℕ, suc, ◌+◌, ◌%◌, ◌<◌, ◌≤◌}
use native.Mathlib.Nat.{mod-eq_of_lt}
use native.Mathlib.Omega.{arith}
use mathlib.Core.List.{List, [], ◌∷◌, ◌++◌, map}
use mathlib.Core.Bool.{Bool, true, false, not, ◌&&◌, ◌||◌}
use mathlib.Core.Path.{◌≡◌, refl, sym, ap, ap₂, ◌∙◌}
use lib.Dec.{eqb, leb, ltb}
use lib.ListN.{length, get_or, take, drop, set}
use lib.Seq.{take-suc-set, get_or-take}
use borrow.Author.Tests.{eq-eqb, ne_eqb, ltb-true}
use Rattle.word.specs.Word.{choose, eval_of, over_of, set_code, add_code, sub_code}
use Rattle.word.proofs.WireLaws.{eval_uses}
use Rattle.word.proofs.OverLaws.{over_other}
use Rattle.runs.specs.Lists.{every}
use Rattle.runs.proofs.ListLaws.{and_right, map_every}
use Rattle.runs.proofs.Tests.{Compared, compared, same, other}
use Rattle.runs.specs.Runs.{Place, Moved}
use Rattle.fsmd.specs.Clock.{read_in}
use Rattle.fsmd.specs.Layout.{max_registers, record_offset, next_state_offset, next_registers_offset}
use Rattle.fsmd.specs.Machine.{wire_arity, wire_value, worked, wire_over, wires_over, to_state, clock}
use Rattle.fsmd.specs.Table.{wire_at, state_at, machine_of, first_wire_at, wire_count_at, valid_reference, valid_wire}
use Rattle.fsmd.specs.declared.Wire.{Wire}
use Rattle.fsmd.proofs.Machines.{states_length}
use Rattle.fsmd.proofs.Windows.{wires_from, wires_next, wires_end}
use Rattle.fsmd.proofs.WireReads.{Valid, valid_facts, reads_operands, add_reads, sub_reads}

-- ---- a wire

module _ (s : ℕ) (at : ℕ → ℕ) (w : Wire) where
  pub value_set : w.code ≡ set_code → w.a ≡ wire_value s at w
  unfolding wire_value eval_of
  value_set h =
      let first : choose (eqb w.code set_code) w.a (at w.a) ≡ w.a = rw (eq-eqb w.code set_code h) in
      sym (ap (λ (z : ℕ). eval_of s w.code z (at w.b) (at w.c)) first ∙ rw h)

  -- where x, y and z are what its references read
  module _ (x y z : ℕ) (ex : x ≡ at w.a) (ey : y ≡ at w.b) (ez : z ≡ at w.c) (k : ℕ) (h : w.code ≡ k) where
    pub value_other : (k ≡ set_code → ⊥) → eval_of s k x y z ≡ wire_value s at w
    unfolding wire_value
    value_other d =
        let first : choose (eqb w.code set_code) w.a (at w.a) ≡ at w.a = rw (ne_eqb w.code set_code (λ q. d (sym h ∙ q))) in
        ap₂ (λ (i u : ℕ). eval_of s i u y z) (sym h) (ex ∙ sym first) ∙ ap₂ (eval_of s w.code (choose (eqb w.code set_code) w.a (at w.a))) ey ez

    pub over_sum : (over_of k x y && not (eqb z 0)) ≡ wire_over at w
    unfolding wire_over
    over_sum =
        ap₂ (λ (i u : ℕ). over_of i u y && not (eqb z 0)) (sym h) ex ∙ ap₂ (λ (u v : ℕ). over_of w.code (at w.a) u && not (eqb v 0)) ey ez

pub over_none : (at : ℕ → ℕ) (w : Wire) → (w.code ≡ add_code → ⊥) → (w.code ≡ sub_code → ⊥) → wire_over at w ≡ false
unfolding wire_over
over_none at w p q = rw (over_other w.code (at w.a) (at w.b) p q)

-- a valid reference is one of the words so far
reference_below : (r n x : ℕ) → r ≤ max_registers → valid_reference r n x ≡ true → x < max_registers + n
reference_below r n x h e = go (ltb x r) refl e
  where
    go : (b : Bool) → ltb x r ≡ b → (b || (leb max_registers x && ltb x (max_registers + n))) ≡ true → x < max_registers + n
    go true q p = let l = ltb-true x r q in omega arith
    go false q p = ltb-true x (max_registers + n) (and_right (leb max_registers x) (ltb x (max_registers + n)) p)

-- what a valid reference reads is among the words so far, and the rest of the room does not matter
module _ (l : List ℕ) (r n : ℕ) (few : r ≤ max_registers) (fits : max_registers + n ≤ length l) where
  pub reads_same : (x : ℕ) → valid_reference r n x ≡ true → read_in l x ≡ get_or (take (max_registers + n) l) x 0
  reads_same x e =
      let h = reference_below r n x few e in
      let m : x % length l ≡ x = mod-eq_of_lt (omega arith) in
      ap (λ (i : ℕ). get_or l i 0) m ∙ sym (get_or-take (max_registers + n) l x 0 h)

  pub all_same : (xs : List ℕ) → every (valid_reference r n) xs ≡ true → map (read_in l) xs ≡ map (λ x. get_or (take (max_registers + n) l) x 0) xs
  all_same = map_every (valid_reference r n) (read_in l) (λ x. get_or (take (max_registers + n) l) x 0) reads_same

-- so a valid wire gives the same
module _ (s : ℕ) (l : List ℕ) (r n : ℕ) (w : Wire) (few : r ≤ max_registers) (fits : max_registers + n ≤ length l) (valid : valid_wire r n w ≡ true) where
  first_same : Valid r n w → 1 ≤ wire_arity w.code → choose (eqb w.code set_code) w.a (read_in l w.a) ≡ choose (eqb w.code set_code) w.a (get_or (take (max_registers + n) l) w.a 0)
  first_same v h = go (compared w.code set_code)
    where
      go : Compared w.code set_code → choose (eqb w.code set_code) w.a (read_in l w.a) ≡ choose (eqb w.code set_code) w.a (get_or (take (max_registers + n) l) w.a 0)
      go (same b e) = rw b
      go (other b e) = rw b (reads_same l r n few fits w.a (v.first e h))

  pub value_within : wire_value s (read_in l) w ≡ wire_value s (λ x. get_or (take (max_registers + n) l) x 0) w
  unfolding wire_value
  value_within =
      let k = w.code in
      let v = valid_facts r n w valid in
      let m = reads_operands k in
      let f : ℕ → ℕ = read_in l in
      let g : ℕ → ℕ = λ x. get_or (take (max_registers + n) l) x 0 in
      eval_uses s (choose (eqb k set_code) w.a (f w.a)) (f w.b) (f w.c) (choose (eqb k set_code) w.a (g w.a)) (g w.b) (g w.c) k
      (λ h. first_same v (omega arith))
      (λ h. reads_same l r n few fits w.b (v.second (omega arith)))
      (λ h. reads_same l r n few fits w.c (v.third (omega arith)))

  -- an add or sub reads all three; no other code goes over, whatever is read
  over_same : (w.code ≡ set_code → ⊥) → 3 ≤ wire_arity w.code → wire_over (read_in l) w ≡ wire_over (λ x. get_or (take (max_registers + n) l) x 0) w
  unfolding wire_over
  over_same p h =
      let v = valid_facts r n w valid in
      let g : ℕ → ℕ = λ x. get_or (take (max_registers + n) l) x 0 in
      ap₂ (λ (x y : ℕ). over_of w.code x y && not (eqb (read_in l w.c) 0)) (reads_same l r n few fits w.a (v.first p (omega arith))) (reads_same l r n few fits w.b (v.second (omega arith)))
      ∙ ap (λ (z : ℕ). over_of w.code (g w.a) (g w.b) && not (eqb z 0)) (reads_same l r n few fits w.c (v.third h))

  pub over_within : wire_over (read_in l) w ≡ wire_over (λ x. get_or (take (max_registers + n) l) x 0) w
  unfolding wire_over
  over_within = go (compared w.code add_code) (compared w.code sub_code)
    where
      go : Compared w.code add_code → Compared w.code sub_code → wire_over (read_in l) w ≡ wire_over (λ x. get_or (take (max_registers + n) l) x 0) w
      go (same b e) d = over_same (λ h. omega arith) (rw e (omega (arith, add_reads)))
      go (other b e) (same d f) = over_same (λ h. omega arith) (rw f (omega (arith, sub_reads)))
      go (other b e) (other d f) = over_none (read_in l) w e f ∙ sym (over_none (λ x. get_or (take (max_registers + n) l) x 0) w e f)

-- ---- the wires from `first` on, one after another

-- the word of wire n stands after those before it
pub grown : (l : List ℕ) (n v : ℕ) → max_registers + n < length l → take (max_registers + (n + 1)) (set l (max_registers + n) v) ≡ take (max_registers + n) l ++ (v ∷ [])
grown l n v k =
    let i : max_registers + (n + 1) ≡ suc (max_registers + n) = omega arith in
    ap (λ (j : ℕ). take j (set l (max_registers + n) v)) i ∙ take-suc-set l (max_registers + n) v k

module _ (s : ℕ) (t : List ℕ) (first count n : ℕ) (l : List ℕ) where
  module _ (v : ℕ) (h : n < count) (k : max_registers + n < length l) (e : v ≡ wire_value s (λ x. get_or (take (max_registers + n) l) x 0) (wire_at t (first + n))) where
    pub work_next : worked s (take (max_registers + n) l) (drop n (wires_from t first count)) ≡ worked s (take (max_registers + (n + 1)) (set l (max_registers + n) v)) (drop (n + 1) (wires_from t first count))
    unfolding worked
    work_next =
        ap (worked s (take (max_registers + n) l)) (wires_next t first count n h)
        ∙ ap (λ (x : ℕ). worked s (take (max_registers + n) l ++ (x ∷ [])) (drop (n + 1) (wires_from t first count))) (sym e)
        ∙ ap (λ (m : List ℕ). worked s m (drop (n + 1) (wires_from t first count))) (sym (grown l n v k))

    pub over_next : wires_over s (take (max_registers + n) l) (drop n (wires_from t first count))
        ≡ (wire_over (λ x. get_or (take (max_registers + n) l) x 0) (wire_at t (first + n)) || wires_over s (take (max_registers + (n + 1)) (set l (max_registers + n) v)) (drop (n + 1) (wires_from t first count)))
    unfolding wires_over
    over_next =
        let o = wire_over (λ x. get_or (take (max_registers + n) l) x 0) (wire_at t (first + n)) in
        ap (wires_over s (take (max_registers + n) l)) (wires_next t first count n h)
        ∙ ap (λ (x : ℕ). o || wires_over s (take (max_registers + n) l ++ (x ∷ [])) (drop (n + 1) (wires_from t first count))) (sym e)
        ∙ ap (λ (m : List ℕ). o || wires_over s m (drop (n + 1) (wires_from t first count))) (sym (grown l n v k))

  pub work_done : count ≤ n → worked s l (drop n (wires_from t first count)) ≡ l
  unfolding worked
  work_done h = rw (wires_end t first count n h)

  pub over_done : count ≤ n → wires_over s l (drop n (wires_from t first count)) ≡ false
  unfolding wires_over
  over_done h = rw (wires_end t first count n h)

-- ---- the cycle of state k, from what its references read

pub clocked : (s : ℕ) (t : List ℕ) (k first count at r : ℕ) → first ≡ first_wire_at t k → count ≡ wire_count_at t k → at ≡ record_offset k → r ≡ get_or t 1 0
    → (rs env next : List ℕ) (state : ℕ) (over : Bool)
    → env ≡ worked s rs (wires_from t first count)
    → over ≡ wires_over s rs (wires_from t first count)
    → state ≡ get_or env (get_or t (at + next_state_offset) 0) 0
    → next ≡ map (λ x. get_or env x 0) (take r (drop (at + next_registers_offset) t)) ++ drop r rs
    → ◌≡◌ {A = Moved} (record { place = to_state (get_or t 0 0) state; registers = next; over = over }) (clock (machine_of t) s (state_at t k) rs)
unfolding clock state_at machine_of
clocked s t k first count at r ef ec ea em rs env next state over e eo es er =
    let w = e ∙ ap₂ (λ (f n : ℕ). worked s rs (wires_from t f n)) ef ec in
    let o = eo ∙ ap₂ (λ (f n : ℕ). wires_over s rs (wires_from t f n)) ef ec in
    ap₂ {C = Moved} (λ (p : Place) (x : List ℕ × Bool). record { place = p; registers = x.0; over = x.1 })
    (ap₂ to_state (sym (states_length t)) (es ∙ ap₂ (λ (i : ℕ) (v : List ℕ). get_or v (get_or t (i + next_state_offset) 0) 0) ea w))
    (ap₂ {C = List ℕ × Bool} (λ (l : List ℕ) (b : Bool). (l, b))
    (er ∙ ap₂ (λ (i m : ℕ). map (λ x. get_or env x 0) (take m (drop (i + next_registers_offset) t)) ++ drop m rs) ea em
    ∙ ap (λ (v : List ℕ). map (λ x. get_or v x 0) (take (get_or t 1 0) (drop (record_offset k + next_registers_offset) t)) ++ drop (get_or t 1 0) rs) w)
    o)

-- what the state's wires have in a cycle, by its first wire and their number
pub environment : (sampled : ℕ) (t : List ℕ) (k first count : ℕ) → first ≡ first_wire_at t k → count ≡ wire_count_at t k → (rs : List ℕ)
    → worked sampled rs (wires_from t first count) ≡ worked sampled rs (state_at t k).wires
unfolding state_at
environment sampled t k first count ef ec rs = ap₂ (λ (f n : ℕ). worked sampled rs (wires_from t f n)) ef ec
