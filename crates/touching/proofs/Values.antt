-- Both questions equal a full look at the references. Assumes nothing.
use Prim.Native.Nat.{ℕ, ◌+◌, ◌<◌, ◌≤◌}
use native.Mathlib.Omega.{arith}
use mathlib.Core.Bool.{Bool, true, false, not, ◌&&◌}
use mathlib.Core.List.{List}
use mathlib.Core.Path.{◌≡◌, refl, ap, ◌∙◌}
use lib.Dec.{eqb, ltb}
use lib.ListN.{get_or}
use borrow.Author.Tests.{ltb-true, eqb-false, lt-ltb, ne_eqb}
use Rattle.std.specs.Prelude.{Option, None, Some, Result, Ok, Err}
use Rattle.refusal.specs.declared.Refusal.{Refusal}
use Rattle.refusal.specs.declared.Refusal.TheVariants.{ShortBuffer, NoStart, BadMachine}
use Rattle.fsmd.specs.Layout.{record_offset, next_registers_offset}
use Rattle.fsmd.specs.Table.{state_count, machine_register_count}
use Rattle.touching.specs.Touching.{touches_at, touches_answer, first_touching_answer, touches_number, touched_field, first_number, first_state}
use Rattle.touching.specs.Values.{Touched, Admits, TouchesValues, FirstTouchingValues}
use Rattle.touching.proofs.Searches.{first_lowest, first_nowhere}
use Rattle.touching.proofs.Answers.{touches_short, touches_other, touches_no_state, touches_answered, first_short, first_other, first_answered, touches_words}

-- ---- a state touches a register exactly where the definition says so

module _ (t : List ℕ) (i : ℕ) (a : Admits t) (k : ℕ) (h : k < state_count t) where
  abbrev word : ℕ
  word = get_or t (record_offset k + next_registers_offset + i) 0

  looked : touches_at t i k ≡ (ltb i (machine_register_count t) && not (eqb word i))
  looked = touches_words t k i a.good h a.whole

  touched_true : Touched t k i → touches_at t i k ≡ true
  touched_true p = looked ∙ rw (lt-ltb i (machine_register_count t) p.below, ne_eqb word i p.another)

  touched_false : (Touched t k i → ⊥) → touches_at t i k ≡ false
  touched_false f = looked ∙ go (ltb i (machine_register_count t)) (eqb word i) refl refl
    where
      go : (b c : Bool) → ltb i (machine_register_count t) ≡ b → eqb word i ≡ c → (b && not c) ≡ false
      go false c d e = refl
      go true true d e = refl
      go true false d e = absurd (f (record { below = ltb-true i (machine_register_count t) d; another = eqb-false word i e }))

-- ---- the values of an answer

touches_fields : (x y : Result Bool Refusal) → x ≡ y → (touches_number x ≡ touches_number y) × (touched_field x ≡ touched_field y)
touches_fields x y e = (ap touches_number e, ap touched_field e)

first_fields : (x y : Result (Option ℕ) Refusal) → x ≡ y → (first_number x ≡ first_number y) × (first_state x ≡ first_state y)
first_fields x y e = (ap first_number e, ap first_state e)

module _ (t : List ℕ) (k i : ℕ) where
  answers : (b : Bool) → Admits t → k < state_count t → touches_at t i k ≡ b → touches_answer t k i ≡ Ok b
  answers b a h e = touches_answered t k i a.whole a.good h ∙ ap Ok e

  pub touches_values : TouchesValues t k i (touches_answer t k i)
  touches_values =
      record {
        short = λ h. touches_fields (touches_answer t k i) (Err ShortBuffer) (touches_short t k i h);
        other = λ whole f. touches_fields (touches_answer t k i) (Err BadMachine) (touches_other t k i whole f);
        no_state = λ a h. touches_fields (touches_answer t k i) (Err NoStart) (touches_no_state t k i a.whole a.good h);
        touched = λ a h p. touches_fields (touches_answer t k i) (Ok true) (answers true a h (touched_true t i a k h p));
        untouched = λ a h f. touches_fields (touches_answer t k i) (Ok false) (answers false a h (touched_false t i a k h f));
      }

module _ (t : List ℕ) (i : ℕ) where
  pub first_touching_values : FirstTouchingValues t i (first_touching_answer t i)
  first_touching_values =
      record {
        short = λ h. first_fields (first_touching_answer t i) (Err ShortBuffer) (first_short t i h);
        other = λ whole f. first_fields (first_touching_answer t i) (Err BadMachine) (first_other t i whole f);
        lowest = λ a k h p below.
            let none_below_lem : (j : ℕ) → 0 ≤ j → j < k → touches_at t i j ≡ false = λ j z l. touched_false t i a j (omega arith) (below j l) in
            first_fields (first_touching_answer t i) (Ok (Some k))
            (first_answered t i a.whole a.good ∙ ap Ok (first_lowest (touches_at t i) 0 (state_count t) k (omega arith) (omega arith) (touched_true t i a k h p) none_below_lem));
        nowhere = λ a f.
            first_fields (first_touching_answer t i) (Ok None)
            (first_answered t i a.whole a.good ∙ ap Ok (first_nowhere (touches_at t i) 0 (state_count t) (λ k z h. touched_false t i a k (omega arith) (f k (omega arith)))));
      }
