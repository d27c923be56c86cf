-- What is known where running a machine is not refused, with words or without. Assumes nothing.
use Prim.Native.Nat.{ℕ, ◌≤◌, ◌<◌}
use mathlib.Core.Bool.{true, not}
use mathlib.Core.List.{List}
use mathlib.Core.Path.{◌≡◌}
use lib.Dec.{ltb}
use lib.ListN.{length, get_or}
use borrow.Author.Tests.{ltb-true, ltb-false, not-false}
use Rattle.word.specs.Word.{choose}
use Rattle.refusal.specs.declared.Refusal.TheVariants.{ShortBuffer, NoStart, BadMachine, NoWords}
use Rattle.runs.proofs.KeptRegisters.{tests_passed}
use Rattle.std.specs.Prelude.{Some, None}
use Rattle.runs.proofs.Tests.{or_false}
use Rattle.fsmd.specs.Layout.{max_registers, machine_words}
use Rattle.fsmd.specs.Machine.{wordless_machine}
use Rattle.fsmd.specs.Table.{machine_of, admitted_machine}
use Rattle.fsmd.specs.Run.{machine_short, machine_refusal, machine_words_refusal}

-- table and buffer are whole, the table is admitted, and the start is a state
pub record Unrefused (t rs : List ℕ) (start : ℕ) : Type 0 where
  pub whole : machine_words ≤ length t
  pub long : max_registers ≤ length rs
  pub good : admitted_machine t ≡ true
  pub below : start < get_or t 0 0

-- all tests of the refusal with words
pub words_unrefused : (t rs : List ℕ) (start : ℕ) → machine_words_refusal t rs start ≡ None → Unrefused t rs start
unfolding machine_words_refusal
words_unrefused t rs start h =
    let starts = choose (not (ltb start (get_or t 0 0))) (Some NoStart) None in
    let p = tests_passed (machine_short t rs) ShortBuffer (choose (not (admitted_machine t)) (Some BadMachine) starts) h in
    let q = tests_passed (not (admitted_machine t)) BadMachine starts p.1 in
    let s = tests_passed (not (ltb start (get_or t 0 0))) NoStart None q.1 in
    let e = or_false (ltb (length t) machine_words) (ltb (length rs) max_registers) p.0 in
    record {
      whole = ltb-false (length t) machine_words e.0;
      long = ltb-false (length rs) max_registers e.1;
      good = not-false (admitted_machine t) q.0;
      below = ltb-true start (get_or t 0 0) (not-false (ltb start (get_or t 0 0)) s.0);
    }

-- without words there is one test more
pub unrefused : (t rs : List ℕ) (start : ℕ) → machine_refusal t rs start ≡ None → Unrefused t rs start
unfolding machine_refusal machine_words_refusal
unrefused t rs start h =
    let starts = choose (not (ltb start (get_or t 0 0))) (Some NoStart) None in
    let silent = choose (not (wordless_machine (machine_of t))) (Some NoWords) starts in
    let p = tests_passed (machine_short t rs) ShortBuffer (choose (not (admitted_machine t)) (Some BadMachine) silent) h in
    let q = tests_passed (not (admitted_machine t)) BadMachine silent p.1 in
    let s = tests_passed (not (wordless_machine (machine_of t))) NoWords starts q.1 in
    words_unrefused t rs start (rw (p.0, q.0, s.1))
