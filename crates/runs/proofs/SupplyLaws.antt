-- Runs on supplies that agree as far as a budget goes, and runs without words. Assumes nothing.
use Prim.Native.Nat.{ℕ, zero, suc, ◌+◌, ◌≤◌, ◌<◌}
use native.Mathlib.Omega.{arith}
use mathlib.Core.Bool.{Bool, true, false}
use mathlib.Core.List.{List, []}
use mathlib.Core.Path.{◌≡◌, refl, sym, ap, ◌∙◌}
use lib.Dec.{ltb}
use lib.ListN.{length}
use borrow.Author.Tests.{lt-ltb, ltb-true, ltb-false}
use Rattle.std.specs.Prelude.{Ok}
use Rattle.word.specs.Word.{choose}
use Rattle.runs.specs.Runs.{Place, standing, halted, Configuration, start_at, Supply, up_to, listed, unread, Runner, onward, arrivals_at, run_outcome, goes, step, times, steps_run, answer, registers_after}
use Rattle.runs.proofs.RunLaws.{false_true, going_stands, going_lasts, goes_standing, step_going, step_ended, times_zero, times_suc, steps_run_zero, steps_run_going, steps_run_ended, left_ended, answer_is, registers_of}

-- a move makes one arrival at most
arrivals_next : (arrives : ℕ → Bool) (p : Place) (k : ℕ) → arrivals_at arrives p k ≤ suc k
arrivals_next arrives (standing n) k = go (arrives n) refl
  where
    go : (b : Bool) → arrives n ≡ b → arrivals_at arrives (standing n) k ≤ suc k
    go true e = rw e (omega arith)
    go false e = rw e (omega arith)
arrivals_next arrives halted k = omega arith

-- they have the same word for every arrival below n
pub record Alike (n : ℕ) (a b : Supply) : Type 0 where
  pub word : (j : ℕ) → j < n → a.word j ≡ b.word j
  pub lasts : (j : ℕ) → j < n → a.lasts j ≡ b.lasts j

module _ (r : Runner) (a b : Supply) where
  pub step_next : (c : Configuration) → (step r a c).arrivals ≤ suc c.arrivals
  step_next c = go (goes a c) refl
    where
      go : (t : Bool) → goes a c ≡ t → (step r a c).arrivals ≤ suc c.arrivals
      go true e =
          let n = going_stands a c e in
          rw (step_going r a c n.0 n.1 (going_lasts a c e))
          (arrivals_next r.arrives (r.unit (a.word c.arrivals) n.0 c.contents.registers).place c.arrivals)
      go false e = rw (step_ended r a c e) (omega arith)

  module _ (n : ℕ) (alike : Alike n a b) where
    pub goes_alike : (c : Configuration) → c.arrivals < n → goes a c ≡ goes b c
    goes_alike c l = ap (λ (w : Bool). onward c.place w false (λ n. true)) (alike.lasts c.arrivals l)

    pub step_alike : (c : Configuration) → c.arrivals < n → step r a c ≡ step r b c
    unfolding step
    step_alike c l = rw (alike.lasts c.arrivals l, alike.word c.arrivals l)

    times_alike : (k : ℕ) (c : Configuration) → c.arrivals + k ≤ n → times r a k c ≡ times r b k c
    times_alike zero c l = times_zero r a c ∙ sym (times_zero r b c)
    times_alike (suc k) c l =
        let s = step_alike c (omega arith) in
        times_suc r a k c
        ∙ times_alike k (step r a c) (omega (arith, step_next c))
        ∙ ap (times r b k) s
        ∙ sym (times_suc r b k c)

    steps_run_alike : (k : ℕ) (c : Configuration) → c.arrivals + k ≤ n → steps_run r a k c ≡ steps_run r b k c
    steps_run_alike zero c l = steps_run_zero r a c ∙ sym (steps_run_zero r b c)
    steps_run_alike (suc k) c l = go (goes a c) refl (steps_run_alike k (step r a c) (omega (arith, step_next c)))
      where
        go : (t : Bool) → goes a c ≡ t → steps_run r a k (step r a c) ≡ steps_run r b k (step r a c) → steps_run r a (suc k) c ≡ steps_run r b (suc k) c
        go true e i =
            steps_run_going r a k c e
            ∙ ap suc (i ∙ ap (steps_run r b k) (step_alike c (omega arith)))
            ∙ sym (steps_run_going r b k c (sym (goes_alike c (omega arith)) ∙ e))
        go false e i = steps_run_ended r a (suc k) c e ∙ sym (steps_run_ended r b (suc k) c (sym (goes_alike c (omega arith)) ∙ e))

    -- a run with budget n, from its start
    pub answer_alike : (x : ℕ) (rs : List ℕ) → answer r a n (start_at x rs) ≡ answer r b n (start_at x rs)
    answer_alike x rs =
        let c = start_at x rs in
        answer_is r a n c
        ∙ rw (times_alike n c (omega arith), steps_run_alike n c (omega arith)) (sym (answer_is r b n c))

    pub registers_alike : (x : ℕ) (rs : List ℕ) → registers_after r a n (start_at x rs) ≡ registers_after r b n (start_at x rs)
    unfolding registers_after
    registers_alike x rs = registers_of (times_alike n (start_at x rs) (omega arith))

-- ---- the supplies that the loops run on

-- a list cut off where the budget ends
pub cut_alike : (ws : List ℕ) (budget : ℕ) → Alike budget (up_to (choose (ltb (length ws) budget) (length ws) budget) ws) (listed ws)
cut_alike ws budget = record { word = λ j l. refl; lasts = λ j l. go (ltb (length ws) budget) refl j l }
  where
    go : (t : Bool) → ltb (length ws) budget ≡ t → (j : ℕ) → j < budget → ltb j (choose (ltb (length ws) budget) (length ws) budget) ≡ ltb j (length ws)
    go true e j l = rw e
    go false e j l = rw (e, lt-ltb j budget l) (sym (lt-ltb j (length ws) (omega (arith, ltb-false (length ws) budget e))))

pub unread_alike : (budget : ℕ) → Alike budget (up_to budget []) unread
unread_alike budget = record { word = λ j l. refl; lasts = λ j l. lt-ltb j budget l }

-- a run without words is never dry
pub unread_outcome : (r : Runner) (k : ℕ) (c : Configuration) → run_outcome (Ok (answer r unread k c)) ≤ 1
unread_outcome r k c = go (times r unread k c).place (ltb (steps_run r unread k c) k) refl refl
  where
    go : (p : Place) (t : Bool) → (times r unread k c).place ≡ p → ltb (steps_run r unread k c) k ≡ t → run_outcome (Ok (answer r unread k c)) ≤ 1
    go halted t h e = rw (answer_is r unread k c, h) (omega arith)
    go (standing n) false h e = rw (answer_is r unread k c, h, e) (omega arith)
    go (standing n) true h e = absurd (false_true (left_ended r unread k c (ltb-true (steps_run r unread k c) k e)) (goes_standing unread (times r unread k c) n h refl))
