-- Arrivals and halts of a graph's run: a cycle ends once, and a trace is a part of the run. Assumes nothing.
use Prim.Native.Nat.{ℕ, zero, suc, ◌+◌, ◌-◌, ◌≤◌, ◌<◌}
use native.Mathlib.Omega.{arith}
use native.Mathlib.Decide.{dec_lt}
use mathlib.Core.Path.{◌≡◌, refl, sym, ap, ◌∙◌}
use mathlib.Core.Logic.{inl, inr}
use mathlib.Core.Bool.{Bool, true, false, or_assoc}
use mathlib.Core.List.{List}
use Rattle.runs.specs.Lists.{mem}
use Rattle.runs.specs.Runs.{Place, standing, halted, Contents, Configuration, stands_at, start_at, Supply, unread, Moved, Runner, arrivals_at, contents_after, moved, goes, step, times, steps_run}
use Rattle.runs.proofs.RunLaws.{never_both, false_true, place_of, arrivals_of, going_stands, going_lasts, goes_standing, halted_ends}
use Rattle.runs.proofs.RunLaws.{moved_to, step_going, step_ended, times_zero, times_suc, times_add, times_last, steps_run_zero, steps_run_going, steps_run_ended, steps_run_last, going_before, times_arrivals}
use Rattle.cfg.specs.Graph.{CFG, graph_runner}
use Rattle.agreement.specs.Agreement.{graph_after, Arrival, HaltBefore, AfterCycles}
use Rattle.synthesis.proofs.TakenEdges.{followed}
use Rattle.synthesis.proofs.OneCycle.{Trace, first, next}

-- ---- a cycle ends once

module _ (g : CFG) (st : List ℕ) (ws : Supply) (b₀ : ℕ) (rs : List ℕ) where
  abbrev run : ℕ → Configuration
  run n = graph_after g st ws b₀ rs n

  arrivals_mono : (n m : ℕ) → n ≤ m → (run n).arrivals ≤ (run m).arrivals
  arrivals_mono n m h =
      let e : m ≡ n + (m - n) = omega arith in
      rw (e, times_add (graph_runner g st) ws n (m - n) (start_at b₀ rs)) (times_arrivals (graph_runner g st) ws (m - n) (run n))

  -- a step that is run and comes to a starter makes an arrival
  arrival_rises : (n b : ℕ) → goes ws (run n) ≡ true → (run (suc n)).place ≡ standing b → mem b st ≡ true → (run (suc n)).arrivals ≡ suc (run n).arrivals
  arrival_rises n b h p m =
      let r = graph_runner g st in
      let c = run n in
      let x = going_stands ws c h in
      let u = r.unit (ws.word c.arrivals) x.0 c.contents.registers in
      let e : run (suc n) ≡ moved r.arrives c u = times_last r ws n (start_at b₀ rs) ∙ step_going r ws c x.0 x.1 (going_lasts ws c h) in
      arrivals_of (e ∙ moved_to r.arrives c u b true (sym (place_of e) ∙ p) m)

  going_at : (n i : ℕ) → steps_run (graph_runner g st) ws n (start_at b₀ rs) ≡ n → i < n → goes ws (run i) ≡ true
  going_at n i h l = going_before (graph_runner g st) ws n (start_at b₀ rs) i (omega arith)

  -- a run that goes on has not halted
  not_halted : (n i : ℕ) → steps_run (graph_runner g st) ws n (start_at b₀ rs) ≡ n → i < n → (run i).place ≡ halted → ⊥
  not_halted n i h l e = false_true (halted_ends ws (run i) e) (going_at n i h l)

  arrival_later : (k n m b : ℕ) (q : Contents) → (run n).arrivals ≡ k → Arrival g st ws b₀ rs k m b q → n < m → ⊥
  arrival_later k n zero b q e a l = omega arith
  arrival_later k n (suc m) b q e a l =
      let h = arrivals_mono n m (omega arith) in
      let f = arrival_rises m b (going_at (suc m) m a.run (omega arith)) (place_of a.stands) a.starter in
      let c = arrivals_of a.stands in
      omega arith

  -- no arrival k where the run halts without it
  pub arrival_or_halt : (k n b : ℕ) (q : Contents) → Arrival g st ws b₀ rs k n b q → (n' : ℕ) (q' : Contents) → HaltBefore g st ws b₀ rs k n' q' → ⊥
  arrival_or_halt k n b q a n' q' h = go (dec_lt n' n)
    where
      go : Dec (n' < n) → ⊥
      go (yes d) = not_halted n n' a.run d h.stopped
      go (no d) =
          let m = arrivals_mono n n' (omega arith) in
          let c = arrivals_of a.stands in
          let l = h.counted in
          omega arith

  pub end_once : (k n n' : ℕ) → AfterCycles g st ws b₀ rs k n → AfterCycles g st ws b₀ rs k n' → n ≡ n'
  end_once k n n' (inl a) (inl a') = go (dec_lt n n') (dec_lt n' n)
    where
      go : Dec (n < n') → Dec (n' < n) → n ≡ n'
      go (yes l) d = absurd (arrival_later k n n' a'.0 a'.1 (arrivals_of a.2.stands) a'.2 l)
      go (no l) (yes d) = absurd (arrival_later k n' n a.0 a.1 (arrivals_of a'.2.stands) a.2 d)
      go (no l) (no d) = omega arith
  end_once k n n' (inl a) (inr h) = absurd (arrival_or_halt k n a.0 a.1 a.2 n' h.0 h.1)
  end_once k n n' (inr h) (inl a) = absurd (arrival_or_halt k n' a.0 a.1 a.2 n h.0 h.1)
  end_once k n n' (inr h) (inr h') = go (dec_lt n n') (dec_lt n' n)
    where
      go : Dec (n < n') → Dec (n' < n) → n ≡ n'
      go (yes l) d = absurd (not_halted n' n h'.1.run l h.1.stopped)
      go (no l) (yes d) = absurd (not_halted n n' h.1.run d h'.1.stopped)
      go (no l) (no d) = omega arith

  -- the next cycle ends after its arrival, which has a word
  pub end_later : (k n b : ℕ) (q : Contents) → Arrival g st ws b₀ rs k n b q → (n' : ℕ) → AfterCycles g st ws b₀ rs (suc k) n' → goes ws (run n) ≡ true
  end_later k n b q a n' (inl a') = go (dec_lt n n')
    where
      go : Dec (n < n') → goes ws (run n) ≡ true
      go (yes l) = going_at n' n a'.2.run l
      go (no l) =
          let m = arrivals_mono n' n (omega arith) in
          let c = arrivals_of a.stands in
          let c' = arrivals_of a'.2.stands in
          absurd (omega arith)
  end_later k n b q a n' (inr h) = go (dec_lt n n') (dec_lt n' n)
    where
      go : Dec (n < n') → Dec (n' < n) → goes ws (run n) ≡ true
      go (yes l) d = going_at n' n h.1.run l
      go (no l) (yes d) = absurd (not_halted n n' a.run d h.1.stopped)
      go (no l) (no d) =
          let e : n ≡ n' = omega arith in
          absurd (never_both (run n).place b (place_of a.stands) (ap (λ (i : ℕ). (run i).place) e ∙ h.1.stopped))

-- ---- a trace from block b with contents q, as a part of a run from arrival k, for which there is a word

-- a move after another is one move of both
moved_on : (arrives : ℕ → Bool) (k b x : ℕ) (q : Contents) (m u : Moved)
    → moved arrives (stands_at k x (contents_after q.flag m)) u ≡ moved arrives (stands_at k b q) (followed m.over u)
moved_on arrives k b x q m u =
    ap (λ (f : Bool). record { place = u.place; contents = record { registers = u.registers; flag = f }; arrivals = arrivals_at arrives u.place k })
    (or_assoc q.flag m.over u.over)

module _ (g : CFG) (st : List ℕ) (ws : Supply) (k b : ℕ) (q : Contents) (lasts : ws.lasts k ≡ true) where
  pub trace_comes : {j : ℕ} {m : Moved} → Trace g st (ws.word k) b q.registers j m
      → times (graph_runner g st) ws j (stands_at k b q) ≡ moved (λ n. mem n st) (stands_at k b q) m
  trace_comes (first e) =
      let r = graph_runner g st in
      let c = stands_at k b q in
      times_last r ws 0 c ∙ ap (step r ws) (times_zero r ws c) ∙ step_going r ws c b refl lasts ∙ ap (moved r.arrives c) (sym e)
  trace_comes (next {j = j} {c = m} t x h f e) =
      let r = graph_runner g st in
      let c = stands_at k b q in
      let y = contents_after q.flag m in
      times_last r ws j c
      ∙ ap (step r ws) (trace_comes t ∙ moved_to r.arrives c m x false h f)
      ∙ step_going r ws (stands_at k x y) x refl lasts
      ∙ moved_on r.arrives k b x q m (r.unit (ws.word k) x m.registers)
      ∙ ap (moved r.arrives c) (sym e)

  -- and all its steps are run
  pub trace_run : {j : ℕ} {m : Moved} → Trace g st (ws.word k) b q.registers j m → steps_run (graph_runner g st) ws j (stands_at k b q) ≡ j
  trace_run (first e) =
      let r = graph_runner g st in
      let c = stands_at k b q in
      steps_run_last r ws 0 c (ap (goes ws) (times_zero r ws c) ∙ goes_standing ws c b refl lasts)
  trace_run (next {j = j} {c = m} t x h f e) =
      let r = graph_runner g st in
      steps_run_last r ws j (stands_at k b q)
      (ap (goes ws) (trace_comes t ∙ moved_to r.arrives (stands_at k b q) m x false h f) ∙ goes_standing ws (stands_at k x (contents_after q.flag m)) x refl lasts)

-- ---- without words it does not matter which blocks are arrived at

-- two configurations at the same place with equal registers and flags
pub record Level (c d : Configuration) : Type 0 where
  pub place : c.place ≡ d.place
  pub contents : c.contents ≡ d.contents

module _ (u : ℕ → ℕ → List ℕ → Moved) (a b : ℕ → Bool) where
  abbrev left : Runner
  left = record { unit = u; arrives = a }

  abbrev right : Runner
  right = record { unit = u; arrives = b }

  step_level : (c d : Configuration) → Level c d → Level (step left unread c) (step right unread d)
  step_level c d l = go c.place refl
    where
      go : (p : Place) → c.place ≡ p → Level (step left unread c) (step right unread d)
      go halted e = rw (step_ended left unread c (halted_ends unread c e), step_ended right unread d (halted_ends unread d (sym l.place ∙ e))) l
      go (standing n) e =
          rw (step_going left unread c n e refl, step_going right unread d n (sym l.place ∙ e) refl, l.contents)
          (record { place = refl; contents = refl })

  pub times_level : (k : ℕ) (c d : Configuration) → Level c d → Level (times left unread k c) (times right unread k d)
  times_level zero c d l = rw (times_zero left unread c, times_zero right unread d) l
  times_level (suc k) c d l =
      rw (times_suc left unread k c, times_suc right unread k d) (times_level k (step left unread c) (step right unread d) (step_level c d l))

  pub steps_level : (k : ℕ) (c d : Configuration) → Level c d → steps_run left unread k c ≡ steps_run right unread k d
  steps_level zero c d l = steps_run_zero left unread c ∙ sym (steps_run_zero right unread d)
  steps_level (suc k) c d l = go c.place refl (steps_level k (step left unread c) (step right unread d) (step_level c d l))
    where
      go : (p : Place) → c.place ≡ p → steps_run left unread k (step left unread c) ≡ steps_run right unread k (step right unread d)
          → steps_run left unread (suc k) c ≡ steps_run right unread (suc k) d
      go halted e i =
          steps_run_ended left unread (suc k) c (halted_ends unread c e) ∙ sym (steps_run_ended right unread (suc k) d (halted_ends unread d (sym l.place ∙ e)))
      go (standing n) e i =
          steps_run_going left unread k c (goes_standing unread c n e refl)
          ∙ ap suc i
          ∙ sym (steps_run_going right unread k d (goes_standing unread d n (sym l.place ∙ e) refl))
