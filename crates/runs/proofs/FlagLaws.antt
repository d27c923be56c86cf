-- The flag of a run: raised exactly when a block or cycle that the run passes goes over, and kept. Assumes nothing.
use Prim.Native.Nat.{ℕ, zero, suc, ◌<◌}
use native.Mathlib.Omega.{arith}
use mathlib.Core.Bool.{Bool, true, false, ◌||◌, or-false}
use mathlib.Core.Logic.{◌⊎◌, inl, inr, ◌↔◌}
use mathlib.Core.Path.{◌≡◌, refl, sym, ap, ◌∙◌}
use lib.Arith.{lt_of_le-ne}
use Rattle.word.specs.Word.{truth}
use Rattle.runs.specs.Runs.{standing, Configuration, Supply, Runner, goes, step, times, step_over, SomeOver}
use Rattle.runs.proofs.RunLaws.{false_true, ended_is, flag_of, times_zero, times_last, step_ended, step_going, going_stands, going_lasts}
use Rattle.runs.proofs.Tests.{or_true, or_left, or_right, Compared, compared, same, other}

module _ (r : Runner) (ws : Supply) where
  over_going : (c : Configuration) (n : ℕ) → c.place ≡ standing n → ws.lasts c.arrivals ≡ true
      → (r.unit (ws.word c.arrivals) n c.contents.registers).over ≡ step_over r ws c
  over_going c n h k = rw (h, k)

  over_ended : (c : Configuration) → goes ws c ≡ false → step_over r ws c ≡ false
  over_ended c h =
      ended_is c.place (ws.lasts c.arrivals) false (λ n. (r.unit (ws.word c.arrivals) n c.contents.registers).over) h

  -- a step adds to the flag, and takes nothing from it
  pub flag_step : (c : Configuration) → (step r ws c).contents.flag ≡ (c.contents.flag || step_over r ws c)
  flag_step c = go (goes ws c) refl
    where
      go : (b : Bool) → goes ws c ≡ b → (step r ws c).contents.flag ≡ (c.contents.flag || step_over r ws c)
      go true e =
          let n = going_stands ws c e in
          let l = going_lasts ws c e in
          flag_of (step_going r ws c n.0 n.1 l) ∙ ap (λ (b : Bool). c.contents.flag || b) (over_going c n.0 n.1 l)
      go false e = flag_of (step_ended r ws c e) ∙ sym (ap (λ (b : Bool). c.contents.flag || b) (over_ended c e) ∙ or-false c.contents.flag)

  flag_last : (k : ℕ) (c : Configuration) → (times r ws (suc k) c).contents.flag ≡ ((times r ws k c).contents.flag || step_over r ws (times r ws k c))
  flag_last k c = flag_of (times_last r ws k c) ∙ flag_step (times r ws k c)

  -- once raised it stays
  pub flag_kept : (k : ℕ) (c : Configuration) → c.contents.flag ≡ true → (times r ws k c).contents.flag ≡ true
  flag_kept zero c h = flag_of (times_zero r ws c) ∙ h
  flag_kept (suc k) c h = flag_last k c ∙ or_left (times r ws k c).contents.flag (step_over r ws (times r ws k c)) (flag_kept k c h)

  raised_by : (k : ℕ) (c : Configuration) → c.contents.flag ≡ false → (times r ws k c).contents.flag ≡ true → SomeOver r ws k c
  raised_by zero c h e = absurd (false_true (flag_of (times_zero r ws c) ∙ h) e)
  raised_by (suc k) c h e = go (raised_by k c h) (or_true (times r ws k c).contents.flag (step_over r ws (times r ws k c)) (sym (flag_last k c) ∙ e))
    where
      go : ((times r ws k c).contents.flag ≡ true → SomeOver r ws k c) → ((times r ws k c).contents.flag ≡ true) ⊎ (step_over r ws (times r ws k c) ≡ true) → SomeOver r ws (suc k) c
      go i (inl f) = let s = i f in (s.0, omega (arith, s.1), s.2)
      go i (inr f) = (k, omega arith, f)

  over_raises : (k : ℕ) (c : Configuration) → SomeOver r ws k c → (times r ws k c).contents.flag ≡ true
  over_raises zero c s = absurd (omega (arith, s.1))
  over_raises (suc k) c s = go (over_raises k c) (compared s.0 k)
    where
      go : (SomeOver r ws k c → (times r ws k c).contents.flag ≡ true) → Compared s.0 k → (times r ws (suc k) c).contents.flag ≡ true
      go i (same b e) = flag_last k c ∙ or_right (times r ws k c).contents.flag (step_over r ws (times r ws k c)) (ap (λ (i : ℕ). step_over r ws (times r ws i c)) (sym e) ∙ s.2)
      go i (other b e) =
          let l : s.0 < k = let q = s.1 in lt_of_le-ne (omega arith) e in
          flag_last k c ∙ or_left (times r ws k c).contents.flag (step_over r ws (times r ws k c)) (i (s.0, l, s.2))

  -- from a clear flag
  pub flag_exactly : (k : ℕ) (c : Configuration) → c.contents.flag ≡ false → ((times r ws k c).contents.flag ≡ true) ↔ SomeOver r ws k c
  flag_exactly k c h = (raised_by k c h, over_raises k c)

-- as a number
pub truth_one : (b : Bool) → truth b ≡ 1 → b ≡ true
truth_one true e = refl
truth_one false e = absurd (omega arith)
