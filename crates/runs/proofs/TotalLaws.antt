-- What is counted at the steps of a run, added up: step by step, to its end, and on other words that agree. Assumes nothing.
use Prim.Native.Nat.{ℕ, zero, suc, ◌+◌, ◌-◌, ◌*◌, ◌≤◌, ◌<◌}
use native.Mathlib.Nat.{zero-add, suc-add}
use native.Mathlib.Omega.{arith}
use mathlib.Core.Bool.{Bool, true, false}
use mathlib.Core.List.{List}
use mathlib.Core.Path.{◌≡◌, refl, sym, ap, ◌∙◌}
use Rattle.runs.specs.Runs.{standing, Configuration, start_at, Supply, Runner, goes, step, times, steps_run, total}
use Rattle.runs.proofs.RunLaws.{ended_is, going_stands, going_lasts, times_zero, times_suc, times_ended, steps_run_going, steps_run_ended, steps_run_zero}
use Rattle.runs.proofs.SupplyLaws.{Alike, goes_alike, step_alike, step_next}

module _ (r : Runner) (ws : Supply) (f : ℕ → ℕ → List ℕ → ℕ) where
  -- what is counted at a step
  abbrev pub counts : Configuration → ℕ → ℕ
  counts c n = f (ws.word c.arrivals) n c.contents.registers

  pub total_zero : (c : Configuration) → total r ws f 0 c ≡ 0
  unfolding total
  total_zero c = refl

  pub total_going : (k : ℕ) (c : Configuration) (n : ℕ) → c.place ≡ standing n → ws.lasts c.arrivals ≡ true
      → total r ws f (suc k) c ≡ counts c n + total r ws f k (step r ws c)
  unfolding total
  total_going k c n h l = rw (h, l)

  pub total_ended : (k : ℕ) (c : Configuration) → goes ws c ≡ false → total r ws f k c ≡ 0
  unfolding total
  total_ended zero c h = refl
  total_ended (suc k) c h = ended_is c.place (ws.lasts c.arrivals) 0 (λ n. counts c n + total r ws f k (step r ws c)) h

  pub total_add : (j k : ℕ) (c : Configuration) → total r ws f (j + k) c ≡ total r ws f j c + total r ws f k (times r ws j c)
  total_add zero k c = rw (zero-add k, total_zero c, times_zero r ws c, zero-add (total r ws f k c))
  total_add (suc j) k c = rw suc-add (go (goes ws c) refl (total_add j k (step r ws c)))
    where
      go : (b : Bool) → goes ws c ≡ b → total r ws f (j + k) (step r ws c) ≡ total r ws f j (step r ws c) + total r ws f k (times r ws j (step r ws c))
          → total r ws f (suc (j + k)) c ≡ total r ws f (suc j) c + total r ws f k (times r ws (suc j) c)
      go true e i =
          let n = going_stands ws c e in
          let l = going_lasts ws c e in
          rw (total_going (j + k) c n.0 n.1 l, total_going j c n.0 n.1 l, times_suc r ws j c, i) (omega arith)
      go false e i = rw (total_ended (suc (j + k)) c e, total_ended (suc j) c e, times_ended r ws (suc j) c e, total_ended k c e)

  -- the last of several steps, which goes on from a block or state n
  pub total_last : (k : ℕ) (c : Configuration) (n : ℕ) → (times r ws k c).place ≡ standing n → ws.lasts (times r ws k c).arrivals ≡ true
      → total r ws f (suc k) c ≡ total r ws f k c + counts (times r ws k c) n
  total_last k c n h l =
      let d = times r ws k c in
      let e : suc k ≡ k + 1 = omega arith in
      ap (λ (i : ℕ). total r ws f i c) e
      ∙ total_add k 1 c
      ∙ rw (total_going 0 d n h l, total_zero (step r ws d)) (omega arith)

  -- a step more of a run that has ended
  pub total_stays : (k : ℕ) (c : Configuration) → goes ws (times r ws k c) ≡ false → total r ws f (suc k) c ≡ total r ws f k c
  total_stays k c h =
      let e : suc k ≡ k + 1 = omega arith in
      ap (λ (i : ℕ). total r ws f i c) e
      ∙ total_add k 1 c
      ∙ rw (total_ended 1 (times r ws k c) h) (omega arith)

  -- where no step counts more than m
  pub total_le : (m : ℕ) → ((w n : ℕ) (rs : List ℕ) → f w n rs ≤ m) → (k : ℕ) (c : Configuration) → total r ws f k c ≤ m * steps_run r ws k c
  total_le m h zero c = rw (total_zero c, steps_run_zero r ws c) (omega arith)
  total_le m h (suc k) c = go (goes ws c) refl (total_le m h k (step r ws c))
    where
      go : (b : Bool) → goes ws c ≡ b → total r ws f k (step r ws c) ≤ m * steps_run r ws k (step r ws c) → total r ws f (suc k) c ≤ m * steps_run r ws (suc k) c
      go true e i =
          let n = going_stands ws c e in
          let b = h (ws.word c.arrivals) n.0 c.contents.registers in
          rw (total_going k c n.0 n.1 (going_lasts ws c e), steps_run_going r ws k c e) (omega arith)
      go false e i = rw (total_ended (suc k) c e, steps_run_ended r ws (suc k) c e) (omega arith)

-- ---- the frame of a loop: n is counted so far, in `count` of `budget` steps from c₀, after which the configuration is c

abbrev pub Totalled : Runner → Supply → (ℕ → ℕ → List ℕ → ℕ) → ℕ → Configuration → ℕ → Configuration → ℕ → Type 0
Totalled r ws f budget c₀ count c n = total r ws f budget c₀ ≡ n + total r ws f (budget - count) c

module _ (r : Runner) (ws : Supply) (f : ℕ → ℕ → List ℕ → ℕ) (budget : ℕ) (c₀ : Configuration) where
  pub totalled_start : Totalled r ws f budget c₀ 0 c₀ 0
  totalled_start = let e : budget - 0 ≡ budget = omega arith in rw (e, zero-add)

  module _ (count : ℕ) (c : Configuration) (n : ℕ) (reached : Totalled r ws f budget c₀ count c n) where
    pub totalled_step : (x : ℕ) → c.place ≡ standing x → ws.lasts c.arrivals ≡ true → count < budget
        → Totalled r ws f budget c₀ (count + 1) (step r ws c) (n + counts r ws f c x)
    totalled_step x h l k =
        let e : budget - count ≡ suc (budget - (count + 1)) = omega arith in
        reached ∙ rw e (ap (λ (y : ℕ). n + y) (total_going r ws f (budget - (count + 1)) c x h l) ∙ omega arith)

    pub totalled_spent : budget ≤ count → total r ws f budget c₀ ≡ n
    totalled_spent k = let e : budget - count ≡ 0 = omega arith in reached ∙ rw (e, total_zero r ws f c) (omega arith)

    pub totalled_ended : goes ws c ≡ false → total r ws f budget c₀ ≡ n
    totalled_ended h = reached ∙ rw (total_ended r ws f (budget - count) c h) (omega arith)

-- ---- on supplies that agree as far as a budget goes

module _ (r : Runner) (a b : Supply) (f : ℕ → ℕ → List ℕ → ℕ) (n : ℕ) (alike : Alike n a b) where
  from_alike : (k : ℕ) (c : Configuration) → c.arrivals + k ≤ n → total r a f k c ≡ total r b f k c
  from_alike zero c l = total_zero r a f c ∙ sym (total_zero r b f c)
  from_alike (suc k) c l = go (goes a c) refl (from_alike k (step r a c) (omega (arith, step_next r a b c)))
    where
      go : (t : Bool) → goes a c ≡ t → total r a f k (step r a c) ≡ total r b f k (step r a c) → total r a f (suc k) c ≡ total r b f (suc k) c
      go true e i =
          let x = going_stands a c e in
          let w = alike.word c.arrivals (omega arith) in
          let s = step_alike r a b n alike c (omega arith) in
          total_going r a f k c x.0 x.1 (going_lasts a c e)
          ∙ rw (i, s, w) (sym (total_going r b f k c x.0 x.1 (sym (alike.lasts c.arrivals (omega arith)) ∙ going_lasts a c e)))
      go false e i = total_ended r a f (suc k) c e ∙ sym (total_ended r b f (suc k) c (sym (goes_alike r a b n alike c (omega arith)) ∙ e))

  -- a run with budget n, from its start
  pub total_alike : (x : ℕ) (rs : List ℕ) → total r a f n (start_at x rs) ≡ total r b f n (start_at x rs)
  total_alike x rs = from_alike n (start_at x rs) (omega arith)
