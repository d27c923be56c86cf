-- A register that a state does not touch has its word after every cycle of that state. Assumes nothing.
use Prim.Native.Nat.{ℕ, ◌+◌, ◌-◌, ◌<◌, ◌≤◌}
use native.Mathlib.Omega.{arith}
use mathlib.Core.Bool.{Bool, true, false, not, ◌&&◌}
use mathlib.Core.List.{List, ◌++◌, map}
use mathlib.Core.Path.{◌≡◌, refl, sym, ap, ◌∙◌}
use lib.Dec.{eqb, ltb}
use lib.ListN.{length, get_or, drop, length-map, get_or-append}
use lib.Seq.{get_or-drop, get_or-append-add}
use borrow.Author.Tests.{ltb-true, ltb-false, eqb-true, not-false}
use Rattle.std.specs.Prelude.{Ok, Err}
use Rattle.std.proofs.Common.{rules}
use Rattle.refusal.specs.declared.Refusal.{Refusal}
use Rattle.runs.proofs.ListLaws.{get_or-map}
use Rattle.fsmd.specs.Layout.{machine_words, record_offset, next_registers_offset}
use Rattle.fsmd.specs.Machine.{State, FSMD, worked, clock}
use Rattle.fsmd.specs.Touch.{touches}
use Rattle.fsmd.specs.Table.{state_count, machine_register_count, state_at, machine_of, admitted_machine}
use Rattle.fsmd.proofs.Machines.{registers_is, state_is, admitted_facts}
use Rattle.fsmd.proofs.Windows.{window_length}
use Rattle.synthesis.proofs.Environments.{worked_grows}
use Rattle.touching.specs.Touching.{touches_at, touches_answer, touched_field}
use Rattle.touching.specs.Values.{Admits}
use Rattle.touching.proofs.Answers.{touches_short, touches_other, touches_no_state, touches_answered}
use Rattle.compiler.specs.Unchanged.{UntouchedKept}

-- ---- a cycle of a state, register by register

-- its wires come behind the registers
registers_first : (sampled : ℕ) (q : State) (rs : List ℕ) (i : ℕ) → i < length rs → get_or (worked sampled rs q.wires) i 0 ≡ get_or rs i 0
registers_first sampled q rs i h =
    let g = worked_grows sampled rs q.wires in
    ap (λ (l : List ℕ). get_or l i 0) g.1 ∙ get_or-append rs g.0 0 i h

module _ (m : FSMD) (sampled : ℕ) (q : State) (rs : List ℕ) (i : ℕ) (l : length q.next_registers ≡ m.registers) (few : m.registers ≤ length rs) where
  abbrev next : List ℕ
  next = q.next_registers

  abbrev read : ℕ → ℕ
  read x = get_or (worked sampled rs q.wires) x 0

  by_reference : i < length next → get_or next i 0 ≡ i → get_or (map read next ++ drop m.registers rs) i 0 ≡ get_or rs i 0
  by_reference h e =
      let n : length (map read next) ≡ length next = length-map next read in
      get_or-append (map read next) (drop m.registers rs) 0 i (omega arith)
      ∙ get_or-map read next i 0 0 h ∙ ap read e ∙ registers_first sampled q rs i (omega arith)

  from_r_up : length next ≤ i → get_or (map read next ++ drop m.registers rs) i 0 ≡ get_or rs i 0
  from_r_up h =
      let n : length (map read next) ≡ length next = length-map next read in
      let at : i ≡ length (map read next) + (i - length next) = omega arith in
      let back : m.registers + (i - length next) ≡ i = omega arith in
      ap (λ (j : ℕ). get_or (map read next ++ drop m.registers rs) j 0) at ∙ get_or-append-add (map read next) (drop m.registers rs) (i - length next) 0
      ∙ get_or-drop m.registers rs (i - length next) 0 ∙ ap (λ (j : ℕ). get_or rs j 0) back

  clock_untouched : touches q.next_registers i ≡ false → get_or (clock m sampled q rs).registers i 0 ≡ get_or rs i 0
  unfolding clock
  clock_untouched e = go (ltb i (length next)) refl e
    where
      go : (b : Bool) → ltb i (length next) ≡ b → (b && not (eqb (get_or next i 0) i)) ≡ false → get_or (map read next ++ drop m.registers rs) i 0 ≡ get_or rs i 0
      go true d e = by_reference (ltb-true i (length next) d) (eqb-true (get_or next i 0) i (not-false _ e))
      go false d e = from_r_up (ltb-false i (length next) d)

-- ---- where the answer is that it does not touch

record Answers (t : List ℕ) (k i : ℕ) : Type 0 where
  admits : Admits t
  below : k < state_count t
  untouched : touches_at t i k ≡ false

field_zero : (b : Bool) → touched_field (Ok b) ≡ 0 → b ≡ false
field_zero true e = absurd (omega (arith, e))
field_zero false e = refl

answers : (t : List ℕ) (k i : ℕ) → touches_answer t k i ≡ Ok false → Answers t k i
answers t k i e = go (ltb (length t) machine_words) (admitted_machine t) (ltb k (state_count t)) refl refl refl
  where
    -- it is no refusal
    no : (r : Refusal) → touches_answer t k i ≡ Err r → ⊥
    no r h = let z : Ok false ≡ Err r = sym e ∙ h in search (z, rules)

    go : (short good low : Bool) → ltb (length t) machine_words ≡ short → admitted_machine t ≡ good → ltb k (state_count t) ≡ low → Answers t k i
    go true good low s g b = absurd (no _ (touches_short t k i (ltb-true (length t) machine_words s)))
    go false false low s g b = absurd (no _ (touches_other t k i (ltb-false (length t) machine_words s) g))
    go false true false s g b = absurd (no _ (touches_no_state t k i (ltb-false (length t) machine_words s) g (ltb-false k (state_count t) b)))
    go false true true s g b =
        let whole = ltb-false (length t) machine_words s in
        let h = ltb-true k (state_count t) b in
        record {
          admits = record { whole = whole; good = g };
          below = h;
          untouched = field_zero (touches_at t i k) (ap touched_field (sym (touches_answered t k i whole g h) ∙ e));
        }

pub untouched_kept : UntouchedKept
unfolding touches_at state_at
untouched_kept t k i e sampled rs l =
    let n = answers t k i e in
    let a = admitted_facts t n.admits.good in
    let r = machine_register_count t in
    let many = window_length t (record_offset k + next_registers_offset) r (omega (arith, n.admits.whole, n.below, a.few_states_lem, a.few_registers_lem)) in
    ap (λ (q : State). get_or (clock (machine_of t) sampled q rs).registers i 0) (state_is t k n.below)
    ∙ clock_untouched (machine_of t) sampled (state_at t k) rs i (many ∙ sym (registers_is t)) (omega (arith, registers_is t, a.few_registers_lem)) n.untouched
