-- Laws of runs, over any runner and any words: ending, adding up, and the frame of a loop that runs a budget. Assumes nothing.
use Prim.Native.Nat.{ℕ, zero, suc, ◌+◌, ◌-◌, ◌≤◌, ◌<◌}
use native.Mathlib.Nat.{zero-add, suc-add}
use native.Mathlib.Omega.{arith}
use mathlib.Core.Bool.{Bool, true, false}
use mathlib.Core.Path.{◌≡◌, refl, sym, ap, ◌∙◌}
use lib.Dec.{ltb}
use borrow.Author.Tests.{lt-ltb, le-ltb}
use Rattle.word.specs.Word.{choose}
use Rattle.runs.specs.declared.RunEnd.TheVariants.{Halted, Spent, Dry}
use Rattle.runs.specs.Runs.{Place, standing, halted, Configuration, stands_at, Supply, Moved, Runner, onward, arrivals_at, contents_after, moved, outcome, goes, step, times, steps_run, answer, registers_after}

pub never_both : (p : Place) (n : ℕ) → p ≡ standing n → p ≡ halted → ⊥
never_both p n h k =
    let z : ◌≡◌ {A = ℕ} 0 1 = cc in
    omega arith

pub false_true : {b : Bool} → b ≡ false → b ≡ true → ⊥
false_true h k =
    let z : ◌≡◌ {A = ℕ} 0 1 = cc in
    omega arith

-- ---- where a run goes on, and where not

pub ended_is : {X : Type 0} (p : Place) (w : Bool) (x : X) (f : ℕ → X) → onward p w false (λ n. true) ≡ false → onward p w x f ≡ x
ended_is (standing n) true x f h = absurd (false_true h refl)
ended_is (standing n) false x f h = refl
ended_is halted w x f h = refl

going_is : (p : Place) (w : Bool) → onward p w false (λ n. true) ≡ true → ((n : ℕ) × (p ≡ standing n)) × (w ≡ true)
going_is (standing n) true h = ((n, refl), refl)
going_is (standing n) false h = absurd (false_true refl h)
going_is halted w h = absurd (false_true refl h)

pub place_of : {c d : Configuration} → c ≡ d → c.place ≡ d.place
place_of e = ap (λ (c : Configuration). c.place) e

pub contents_of : {c d : Configuration} → c ≡ d → c.contents ≡ d.contents
contents_of e = ap (λ (c : Configuration). c.contents) e

pub flag_of : {c d : Configuration} → c ≡ d → c.contents.flag ≡ d.contents.flag
flag_of e = ap (λ (c : Configuration). c.contents.flag) e

pub registers_of : {c d : Configuration} → c ≡ d → c.contents.registers ≡ d.contents.registers
registers_of e = ap (λ (c : Configuration). c.contents.registers) e

pub arrivals_of : {c d : Configuration} → c ≡ d → c.arrivals ≡ d.arrivals
arrivals_of e = ap (λ (c : Configuration). c.arrivals) e

module _ (ws : Supply) (c : Configuration) where
  -- what goes on stands, and there is a word
  pub going_stands : goes ws c ≡ true → (n : ℕ) × (c.place ≡ standing n)
  going_stands h = (going_is c.place (ws.lasts c.arrivals) h).0

  pub going_lasts : goes ws c ≡ true → ws.lasts c.arrivals ≡ true
  going_lasts h = (going_is c.place (ws.lasts c.arrivals) h).1

  pub goes_standing : (n : ℕ) → c.place ≡ standing n → ws.lasts c.arrivals ≡ true → goes ws c ≡ true
  goes_standing n h k = rw (h, k)

  pub halted_ends : c.place ≡ halted → goes ws c ≡ false
  halted_ends h = rw h

  pub dry_ends : (n : ℕ) → c.place ≡ standing n → ws.lasts c.arrivals ≡ false → goes ws c ≡ false
  dry_ends n h k = rw (h, k)

  -- standing where it has ended, it has no word
  pub dry_lasts : (n : ℕ) → c.place ≡ standing n → goes ws c ≡ false → ws.lasts c.arrivals ≡ false
  dry_lasts n h e = go (ws.lasts c.arrivals) refl
    where
      go : (b : Bool) → ws.lasts c.arrivals ≡ b → ws.lasts c.arrivals ≡ false
      go true l = absurd (false_true e (goes_standing n h l))
      go false l = l

-- ---- moves

pub moved_to : (arrives : ℕ → Bool) (c : Configuration) (m : Moved) (x : ℕ) (b : Bool) → m.place ≡ standing x → arrives x ≡ b
    → moved arrives c m ≡ stands_at (choose b (suc c.arrivals) c.arrivals) x (contents_after c.contents.flag m)
moved_to arrives c m x b h e =
    let k = c.arrivals in
    let y = contents_after c.contents.flag m in
    ap (λ (p : Place). record { place = p; contents = y; arrivals = arrivals_at arrives p k }) h
    ∙ ap (λ (b : Bool). stands_at (choose b (suc k) k) x y) e

-- a move loses no arrival
arrivals_kept : (arrives : ℕ → Bool) (p : Place) (k : ℕ) → k ≤ arrivals_at arrives p k
arrivals_kept arrives (standing n) k = go (arrives n) refl
  where
    go : (b : Bool) → arrives n ≡ b → k ≤ arrivals_at arrives (standing n) k
    go true e = rw e (omega arith)
    go false e = rw e (omega arith)
arrivals_kept arrives halted k = omega arith

module _ (r : Runner) (ws : Supply) where
  -- ---- one step unrolled

  pub step_going : (c : Configuration) (n : ℕ) → c.place ≡ standing n → ws.lasts c.arrivals ≡ true
      → step r ws c ≡ moved r.arrives c (r.unit (ws.word c.arrivals) n c.contents.registers)
  unfolding step
  step_going c n h k = rw (h, k)

  pub step_ended : (c : Configuration) → goes ws c ≡ false → step r ws c ≡ c
  unfolding step
  step_ended c h =
      ended_is c.place (ws.lasts c.arrivals) c (λ n. moved r.arrives c (r.unit (ws.word c.arrivals) n c.contents.registers)) h

  pub times_zero : (c : Configuration) → times r ws 0 c ≡ c
  unfolding times
  times_zero c = refl

  pub times_suc : (k : ℕ) (c : Configuration) → times r ws (suc k) c ≡ times r ws k (step r ws c)
  unfolding times
  times_suc k c = refl

  pub times_add : (j k : ℕ) (c : Configuration) → times r ws (j + k) c ≡ times r ws k (times r ws j c)
  unfolding times
  times_add zero k c = rw zero-add
  times_add (suc j) k c = rw suc-add (times_add j k (step r ws c))

  -- the last step of several
  pub times_last : (k : ℕ) (c : Configuration) → times r ws (suc k) c ≡ step r ws (times r ws k c)
  unfolding times
  times_last zero c = refl
  times_last (suc k) c = times_last k (step r ws c)

  pub times_ended : (k : ℕ) (c : Configuration) → goes ws c ≡ false → times r ws k c ≡ c
  times_ended zero c h = times_zero c
  times_ended (suc k) c h = times_suc k c ∙ rw (step_ended c h) (times_ended k c h)

  -- a run that has ended stays
  pub times_stay : (n m : ℕ) (c : Configuration) → n ≤ m → goes ws (times r ws n c) ≡ false → times r ws m c ≡ times r ws n c
  times_stay n m c l h =
      let e : m ≡ n + (m - n) = omega arith in
      rw e (times_add n (m - n) c ∙ times_ended (m - n) (times r ws n c) h)

  -- ---- the steps that are run

  pub steps_run_zero : (c : Configuration) → steps_run r ws 0 c ≡ 0
  unfolding steps_run
  steps_run_zero c = refl

  pub steps_run_going : (k : ℕ) (c : Configuration) → goes ws c ≡ true → steps_run r ws (suc k) c ≡ suc (steps_run r ws k (step r ws c))
  unfolding steps_run
  steps_run_going k c h = rw ((going_stands ws c h).1, going_lasts ws c h)

  pub steps_run_ended : (k : ℕ) (c : Configuration) → goes ws c ≡ false → steps_run r ws k c ≡ 0
  unfolding steps_run
  steps_run_ended zero c h = refl
  steps_run_ended (suc k) c h = ended_is c.place (ws.lasts c.arrivals) zero (λ n. suc (steps_run r ws k (step r ws c))) h

  pub steps_run_le : (k : ℕ) (c : Configuration) → steps_run r ws k c ≤ k
  steps_run_le zero c = rw (steps_run_zero c) (omega arith)
  steps_run_le (suc k) c = go (goes ws c) refl (steps_run_le k (step r ws c))
    where
      go : (b : Bool) → goes ws c ≡ b → steps_run r ws k (step r ws c) ≤ k → steps_run r ws (suc k) c ≤ suc k
      go true e i = rw (steps_run_going k c e) (omega arith)
      go false e i = rw (steps_run_ended (suc k) c e) (omega arith)

  pub steps_run_add : (j k : ℕ) (c : Configuration) → steps_run r ws (j + k) c ≡ steps_run r ws j c + steps_run r ws k (times r ws j c)
  steps_run_add zero k c = rw (zero-add k, steps_run_zero c, times_zero c, zero-add (steps_run r ws k c))
  steps_run_add (suc j) k c = rw suc-add (go (goes ws c) refl (steps_run_add j k (step r ws c)))
    where
      go : (b : Bool) → goes ws c ≡ b → steps_run r ws (j + k) (step r ws c) ≡ steps_run r ws j (step r ws c) + steps_run r ws k (times r ws j (step r ws c))
          → steps_run r ws (suc (j + k)) c ≡ steps_run r ws (suc j) c + steps_run r ws k (times r ws (suc j) c)
      go true e i = rw (steps_run_going (j + k) c e, steps_run_going j c e, times_suc j c, i) (omega arith)
      go false e i = rw (steps_run_ended (suc (j + k)) c e, steps_run_ended (suc j) c e, times_ended (suc j) c e, steps_run_ended k c e)

  -- the run goes on before each step that is run
  pub going_before : (k : ℕ) (c : Configuration) (i : ℕ) → i < steps_run r ws k c → goes ws (times r ws i c) ≡ true
  going_before zero c i h = absurd (omega (arith, steps_run_zero c))
  going_before (suc k) c i h = go (goes ws c) refl (going_before k (step r ws c)) i h
    where
      go : (b : Bool) → goes ws c ≡ b → ((i : ℕ) → i < steps_run r ws k (step r ws c) → goes ws (times r ws i (step r ws c)) ≡ true)
          → (i : ℕ) → i < steps_run r ws (suc k) c → goes ws (times r ws i c) ≡ true
      go true e ih zero h = rw (times_zero c) e
      go true e ih (suc i) h = rw (times_suc i c) (ih i (omega (arith, steps_run_going k c e)))
      go false e ih i h = absurd (omega (arith, steps_run_ended (suc k) c e))

  -- where it goes on still, all steps were run
  pub steps_run_all : (k : ℕ) (c : Configuration) → goes ws (times r ws k c) ≡ true → steps_run r ws k c ≡ k
  steps_run_all zero c h = steps_run_zero c
  steps_run_all (suc k) c h = go (goes ws c) refl (steps_run_all k (step r ws c))
    where
      go : (b : Bool) → goes ws c ≡ b → (goes ws (times r ws k (step r ws c)) ≡ true → steps_run r ws k (step r ws c) ≡ k) → steps_run r ws (suc k) c ≡ suc k
      go true e i = steps_run_going k c e ∙ ap suc (i (rw (times_suc k c) at h))
      go false e i = absurd (false_true (ap (goes ws) (times_ended (suc k) c e) ∙ e) h)

  -- and a further one is run
  pub steps_run_last : (k : ℕ) (c : Configuration) → goes ws (times r ws k c) ≡ true → steps_run r ws (suc k) c ≡ suc k
  steps_run_last k c h =
      let e : suc k ≡ k + 1 = omega arith in
      ap (λ (i : ℕ). steps_run r ws i c) e
      ∙ steps_run_add k 1 c
      ∙ rw (steps_run_all k c h, steps_run_going 0 (times r ws k c) h, steps_run_zero (step r ws (times r ws k c))) (omega arith)

  -- where it has ended, it has after the steps that were run
  ended_with : (k : ℕ) (c : Configuration) → goes ws (times r ws k c) ≡ false → goes ws (times r ws (steps_run r ws k c) c) ≡ false
  ended_with zero c h = rw (steps_run_zero c) h
  ended_with (suc k) c h = go (goes ws c) refl (ended_with k (step r ws c) (rw (times_suc k c) at h))
    where
      go : (b : Bool) → goes ws c ≡ b → goes ws (times r ws (steps_run r ws k (step r ws c)) (step r ws c)) ≡ false → goes ws (times r ws (steps_run r ws (suc k) c) c) ≡ false
      go true e i = rw (steps_run_going k c e, times_suc (steps_run r ws k (step r ws c)) c) i
      go false e i = rw (steps_run_ended (suc k) c e, times_zero c) e

  pub at_count : (k : ℕ) (c : Configuration) → goes ws (times r ws k c) ≡ false → times r ws k c ≡ times r ws (steps_run r ws k c) c
  at_count k c h = times_stay (steps_run r ws k c) k c (steps_run_le k c) (ended_with k c h)

  -- where not all steps were run, it has ended
  pub left_ended : (k : ℕ) (c : Configuration) → steps_run r ws k c < k → goes ws (times r ws k c) ≡ false
  left_ended k c l = go (goes ws (times r ws k c)) refl
    where
      go : (b : Bool) → goes ws (times r ws k c) ≡ b → goes ws (times r ws k c) ≡ false
      go true e = absurd (omega (arith, steps_run_all k c e))
      go false e = e

  pub answer_is : (k : ℕ) (c : Configuration) → answer r ws k c ≡ outcome (times r ws k c).place (ltb (steps_run r ws k c) k) (steps_run r ws k c) (times r ws k c).contents.flag
  unfolding answer
  answer_is k c = refl

  -- ---- arrivals only grow

  step_arrivals : (c : Configuration) → c.arrivals ≤ (step r ws c).arrivals
  step_arrivals c = go (goes ws c) refl
    where
      go : (b : Bool) → goes ws c ≡ b → c.arrivals ≤ (step r ws c).arrivals
      go true e =
          let n = going_stands ws c e in
          rw (step_going c n.0 n.1 (going_lasts ws c e))
          (arrivals_kept r.arrives (r.unit (ws.word c.arrivals) n.0 c.contents.registers).place c.arrivals)
      go false e = rw (step_ended c e) (omega arith)

  pub times_arrivals : (k : ℕ) (c : Configuration) → c.arrivals ≤ (times r ws k c).arrivals
  times_arrivals zero c = rw (times_zero c) (omega arith)
  times_arrivals (suc k) c = rw (times_suc k c) (omega (arith, times_arrivals k (step r ws c), step_arrivals c))

-- where every step is an arrival, a standing run has made as many as it ran steps
module _ (r : Runner) (ws : Supply) (each : (n : ℕ) → r.arrives n ≡ true) where
  step_arrives : (c : Configuration) (b : ℕ) → goes ws c ≡ true → (step r ws c).place ≡ standing b → (step r ws c).arrivals ≡ suc c.arrivals
  step_arrives c b e d =
      let x = going_stands ws c e in
      let u = r.unit (ws.word c.arrivals) x.0 c.contents.registers in
      let s = step_going r ws c x.0 x.1 (going_lasts ws c e) in
      arrivals_of (s ∙ moved_to r.arrives c u b true (sym (place_of s) ∙ d) (each b))

  pub arrivals_run : (k : ℕ) (c : Configuration) (n : ℕ) → (times r ws k c).place ≡ standing n → (times r ws k c).arrivals ≡ c.arrivals + steps_run r ws k c
  arrivals_run zero c n h = rw (times_zero r ws c, steps_run_zero r ws c) (omega arith)
  arrivals_run (suc k) c n h = go (goes ws c) (step r ws c).place refl refl (arrivals_run k (step r ws c) n (rw (times_suc r ws k c) at h))
    where
      go : (b : Bool) (p : Place) → goes ws c ≡ b → (step r ws c).place ≡ p → (times r ws k (step r ws c)).arrivals ≡ (step r ws c).arrivals + steps_run r ws k (step r ws c)
          → (times r ws (suc k) c).arrivals ≡ c.arrivals + steps_run r ws (suc k) c
      go false p e d i = rw (times_ended r ws (suc k) c e, steps_run_ended r ws (suc k) c e) (omega arith)
      go true halted e d i =
          absurd (never_both (times r ws (suc k) c).place n h
          (place_of (times_suc r ws k c ∙ times_ended r ws k (step r ws c) (halted_ends ws (step r ws c) d)) ∙ d))
      go true (standing b) e d i = rw (times_suc r ws k c, steps_run_going r ws k c e) (i ∙ rw (step_arrives c b e d) (omega arith))

-- ---- the frame of a loop: after `count` of `budget` steps from c₀ the configuration is c

pub record Reached (r : Runner) (ws : Supply) (budget : ℕ) (c₀ : Configuration) (count : ℕ) (c : Configuration) : Type 0 where
  pub within : count ≤ budget
  pub rest : times r ws budget c₀ ≡ times r ws (budget - count) c
  pub counted : steps_run r ws budget c₀ ≡ count + steps_run r ws (budget - count) c

module _ (r : Runner) (ws : Supply) (budget : ℕ) (c₀ : Configuration) where
  pub reached_start : Reached r ws budget c₀ 0 c₀
  reached_start =
      let e : budget - 0 ≡ budget = omega arith in
      record { within = omega arith; rest = rw e; counted = rw (e, zero-add) }

  -- after steps that are all run
  pub reached_after : (n : ℕ) → steps_run r ws n c₀ ≡ n → n ≤ budget → Reached r ws budget c₀ n (times r ws n c₀)
  reached_after n h l =
      let e : budget ≡ n + (budget - n) = omega arith in
      record {
        within = l;
        rest = ap (λ (b : ℕ). times r ws b c₀) e ∙ times_add r ws n (budget - n) c₀;
        counted = ap (λ (b : ℕ). steps_run r ws b c₀) e ∙ steps_run_add r ws n (budget - n) c₀ ∙ rw h;
      }

  module _ (count : ℕ) (c : Configuration) (reached : Reached r ws budget c₀ count c) where
    pub reached_step : goes ws c ≡ true → count < budget → Reached r ws budget c₀ (count + 1) (step r ws c)
    reached_step h k =
        let e : budget - count ≡ suc (budget - (count + 1)) = omega arith in
        record {
          within = omega arith;
          rest = reached.rest ∙ rw e (times_suc r ws (budget - (count + 1)) c);
          counted =
              reached.counted
              ∙ rw e (ap (λ (x : ℕ). count + x) (steps_run_going r ws (budget - (count + 1)) c h) ∙ omega arith);
        }

    -- the whole budget is run
    pub at_end : budget ≤ count → times r ws budget c₀ ≡ c
    at_end k = let e : budget - count ≡ 0 = omega arith in reached.rest ∙ rw e (times_zero r ws c)

    pub reached_spent : (n : ℕ) → c.place ≡ standing n → budget ≤ count → answer r ws budget c₀ ≡ Spent count n c.contents.flag
    unfolding answer
    reached_spent n h k =
        let e : budget - count ≡ 0 = omega arith in
        let m : steps_run r ws budget c₀ ≡ count = reached.counted ∙ rw (e, steps_run_zero) (omega arith) in
        rw (at_end k, m, h, le-ltb count budget k)

    pub registers_spent : budget ≤ count → registers_after r ws budget c₀ ≡ c.contents.registers
    unfolding registers_after
    registers_spent k = registers_of (at_end k)

    -- it has halted, or is dry
    module _ (ended : goes ws c ≡ false) where
      pub at_ended : times r ws budget c₀ ≡ c
      at_ended = reached.rest ∙ times_ended r ws (budget - count) c ended

      pub counted_ended : steps_run r ws budget c₀ ≡ count
      counted_ended = reached.counted ∙ rw (steps_run_ended r ws (budget - count) c ended) (omega arith)

      pub reached_halted : c.place ≡ halted → answer r ws budget c₀ ≡ Halted count c.contents.flag
      unfolding answer
      reached_halted h = rw (at_ended, counted_ended, h)

      pub reached_dry : (n : ℕ) → c.place ≡ standing n → count < budget → answer r ws budget c₀ ≡ Dry count n c.contents.flag
      unfolding answer
      reached_dry n h k = rw (at_ended, counted_ended, h, lt-ltb count budget k)

      pub registers_ended : registers_after r ws budget c₀ ≡ c.contents.registers
      unfolding registers_after
      registers_ended = registers_of at_ended
