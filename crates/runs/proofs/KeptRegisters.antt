-- Registers from some number up that a run keeps, whatever runs and whatever words it has. Assumes nothing.
use Prim.Native.Nat.{ℕ, zero, suc, ◌≤◌}
use native.Mathlib.Omega.{arith}
use mathlib.Core.Bool.{Bool, true, false}
use mathlib.Core.List.{List, ◌++◌}
use mathlib.Core.Path.{◌≡◌, refl, sym, ap, ◌∙◌}
use lib.ListN.{length, take, drop, take-append-drop}
use lib.Seq.{drop-append-le, length-take-le}
use Rattle.std.specs.Prelude.{Option, Some, None}
use Rattle.std.proofs.Common.{rules}
use Rattle.refusal.specs.declared.Refusal.{Refusal}
use Rattle.word.specs.Word.{choose}
use Rattle.word.specs.RegisterFile.{file_words}
use Rattle.runs.specs.Runs.{Place, standing, Configuration, start_at, Supply, Moved, Runner, goes, step, times, registers_after}
use Rattle.runs.specs.Operations.{registers_left}
use Rattle.runs.proofs.RunLaws.{going_stands, going_lasts, step_going, step_ended, times_zero, times_suc}
use Rattle.runs.proofs.OperationLaws.{refused_left, accepted_left}

-- ---- an operation that is not refused passed every test

pub tests_passed : (b : Bool) (e : Refusal) (n : Option Refusal) → choose b (Some e) n ≡ None → (b ≡ false) × (n ≡ None)
tests_passed true e n h = absurd (search (h, rules))
tests_passed false e n h = (refl, h)

-- ---- what a run keeps

-- as many registers, and the same ones from n up
pub record Kept (n : ℕ) (old new : List ℕ) : Type 0 where
  pub long : length new ≡ length old
  pub above : drop n new ≡ drop n old

-- one block or cycle keeps them, where it stands at a place that fits, and leads to one that fits
pub record Keeps (n : ℕ) (Fits : Place → Type 0) (rs : List ℕ) (m : Moved) : Type 0 where
  pub fits : Fits m.place
  pub kept : Kept n rs m.registers

module _ (n : ℕ) (r : Runner) (ws : Supply) (Fits : Place → Type 0)
    (unit : (w x : ℕ) (rs : List ℕ) → Fits (standing x) → n ≤ length rs → Keeps n Fits rs (r.unit w x rs)) where
  record Reaches (c d : Configuration) : Type 0 where
    fits : Fits d.place
    kept : Kept n c.contents.registers d.contents.registers

  step_keeps : (c : Configuration) → Fits c.place → n ≤ length c.contents.registers → Reaches c (step r ws c)
  step_keeps c f l = go (goes ws c) refl
    where
      go : (b : Bool) → goes ws c ≡ b → Reaches c (step r ws c)
      go true e =
          let x = going_stands ws c e in
          let k = unit (ws.word c.arrivals) x.0 c.contents.registers (rw x.1 at f) l in
          rw (step_going r ws c x.0 x.1 (going_lasts ws c e)) (record { fits = k.fits; kept = k.kept })
      go false e = rw (step_ended r ws c e) (record { fits = f; kept = record { long = refl; above = refl } })

  times_keep : (k : ℕ) (c : Configuration) → Fits c.place → n ≤ length c.contents.registers → Kept n c.contents.registers (times r ws k c).contents.registers
  times_keep zero c f l = rw (times_zero r ws c) (record { long = refl; above = refl })
  times_keep (suc k) c f l =
      let s = step_keeps c f l in
      let a = s.kept.long in
      let i = times_keep k (step r ws c) s.fits (omega arith) in
      rw (times_suc r ws k c) (record { long = i.long ∙ a; above = i.above ∙ s.kept.above })

  pub run_keeps : (k x : ℕ) (rs : List ℕ) → Fits (standing x) → n ≤ length rs → Kept n rs (registers_after r ws k (start_at x rs))
  unfolding registers_after
  run_keeps k x rs f l = times_keep k (start_at x rs) f l

-- ---- what an operation keeps

-- what one that is not refused has: all registers in the buffer, a start that fits, and blocks or cycles that keep
pub record Ready (n : ℕ) (r : Runner) (Fits : Place → Type 0) (buffer : List ℕ) (start : ℕ) : Type 0 where
  pub few : n ≤ file_words
  pub long : file_words ≤ length buffer
  pub starts : Fits (standing start)
  pub unit : (w x : ℕ) (rs : List ℕ) → Fits (standing x) → n ≤ length rs → Keeps n Fits rs (r.unit w x rs)

pub operation_keeps : (n : ℕ) (r : Runner) (ws : Supply) (Fits : Place → Type 0) (refusal : Option Refusal) (buffer : List ℕ) (start budget : ℕ)
    → (refusal ≡ None → Ready n r Fits buffer start) → drop n (registers_left refusal r ws buffer start budget) ≡ drop n buffer
operation_keeps n r ws Fits refusal buffer start budget ready = go refusal refl
  where
    go : (k : Option Refusal) → refusal ≡ k → drop n (registers_left refusal r ws buffer start budget) ≡ drop n buffer
    go (Some k) e = ap (drop n) (refused_left r ws buffer start budget refusal k e)
    go None e =
        let h = ready e in
        let rs = take file_words buffer in
        let new = registers_after r ws budget (start_at start rs) in
        let size = length-take-le file_words buffer h.long in
        let l = h.few in
        let k = run_keeps n r ws Fits h.unit budget start rs h.starts (omega arith) in
        let m = k.long in
        ap (drop n) (accepted_left r ws buffer start budget refusal e)
        ∙ drop-append-le n new (drop file_words buffer) (omega arith)
        ∙ ap (λ (x : List ℕ). x ++ drop file_words buffer) k.above
        ∙ sym (drop-append-le n rs (drop file_words buffer) (omega arith))
        ∙ ap (drop n) (take-append-drop file_words buffer)
