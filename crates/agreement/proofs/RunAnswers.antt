-- What runs answer: Run machine on an admitted table, and the graph's run beside the machine's. Assumes nothing.
use Prim.Native.Nat.{ℕ, suc, ◌≤◌, ◌<◌}
use native.Mathlib.Omega.{arith}
use native.Mathlib.Decide.{dec_lt}
use mathlib.Core.Path.{◌≡◌, refl, sym, ap, ◌∙◌}
use mathlib.Core.Logic.{◌⊎◌, inl, inr}
use mathlib.Core.Bool.{Bool, true, false}
use mathlib.Core.List.{List, ◌++◌}
use lib.Dec.{ltb}
use lib.ListN.{length, take, drop}
use borrow.Author.Tests.{lt-ltb, le-ltb, ltb-true, ltb-false}
use Rattle.std.specs.Prelude.{Option, Some, None, Result, Ok}
use Rattle.refusal.specs.declared.Refusal.{Refusal}
use Rattle.refusal.specs.declared.Refusal.TheVariants.{ShortBuffer}
use Rattle.word.specs.Word.{truth}
use Rattle.runs.specs.Lists.{mem}
use Rattle.runs.specs.Runs.{Place, standing, halted, Configuration, start_at, Supply, Runner, goes, times, steps_run, outcome, answer, registers_after, refusal_number, run_number, run_outcome, run_next}
use Rattle.runs.specs.declared.RunEnd.{RunEnd}
use Rattle.runs.proofs.RunLaws.{never_both, place_of, registers_of, flag_of, arrivals_of, halted_ends, dry_lasts}
use Rattle.runs.proofs.RunLaws.{steps_run_le, going_before, at_count, left_ended, arrivals_run}
use Rattle.runs.proofs.RunLaws.{Reached, reached_after, answer_is, reached_spent, reached_halted, reached_dry, at_ended, counted_ended}
use Rattle.cfg.specs.Graph.{CFG, graph_runner}
use Rattle.fsmd.specs.Layout.{max_registers}
use Rattle.fsmd.specs.Machine.{machine_runner, blocks_run}
use Rattle.runs.specs.Operations.{answered, registers_left, total_of, outcome_at, next_at, RunValues}
use Rattle.runs.proofs.OperationLaws.{accepted_left, accepted_total, answer_values, operation_values}
use Rattle.grouping.specs.Grouping.{Groups}
use Rattle.synthesis.specs.Synthesis.{machine_for}
use Rattle.agreement.specs.Agreement.{graph_after, machine_after, machine_counts, state_in, place_in, in_machine, HaltingCycle, DryCycle, RunAgrees, SameEnd, RunsAlike, SameAnswer}
use Rattle.agreement.proofs.WholeRun.{standing_of, Here, Over, Both}

-- ---- what an outcome tells of the place, and of whether budget is left

at_halted : (p : Place) (left : Bool) → outcome_at p left ≡ 1 → p ≡ halted
at_halted (standing n) true h = absurd (omega arith)
at_halted (standing n) false h = absurd (omega arith)
at_halted halted left h = refl

halted_at : (p : Place) (left : Bool) → p ≡ halted → outcome_at p left ≡ 1
halted_at p left h = rw h

at_spent : (p : Place) (left : Bool) → outcome_at p left ≡ 0 → left ≡ false
at_spent (standing n) true h = absurd (omega arith)
at_spent (standing n) false h = refl
at_spent halted left h = absurd (omega arith)

at_dry : (p : Place) (left : Bool) → outcome_at p left ≡ 2 → ((n : ℕ) × (p ≡ standing n)) × (left ≡ true)
at_dry (standing n) true h = ((n, refl), refl)
at_dry (standing n) false h = absurd (omega arith)
at_dry halted left h = absurd (omega arith)

-- ---- an operation that is refused for a short buffer alone, of a machine: n is its refusal

module _ (m : Runner) (f : ℕ → ℕ → List ℕ → ℕ) (each : (q : ℕ) → m.arrives q ≡ true) (ws : Supply) (q₀ : ℕ) (buffer : List ℕ) (k : ℕ) (n : Option Refusal)
    (short : length buffer < max_registers → n ≡ Some ShortBuffer) (full : max_registers ≤ length buffer → n ≡ None) where
  abbrev rs : List ℕ
  rs = take max_registers buffer

  abbrev c₀ : Configuration
  c₀ = start_at q₀ rs

  abbrev place : Place
  place = (machine_after m ws q₀ rs k).place

  abbrev count : ℕ
  count = steps_run m ws k c₀

  abbrev flag : Bool
  flag = (machine_after m ws q₀ rs k).contents.flag

  abbrev result : Result RunEnd Refusal
  result = answered n m ws buffer q₀ k

  abbrev Agrees : Type 0
  Agrees = RunAgrees m f ws q₀ k buffer (registers_left n m ws buffer q₀ k) result (total_of f n m ws buffer q₀ k)

  values : RunValues n m ws k c₀ result
  values = operation_values m ws buffer q₀ k n

  run_registers : max_registers ≤ length buffer → registers_left n m ws buffer q₀ k ≡ (machine_after m ws q₀ rs k).contents.registers ++ drop max_registers buffer
  unfolding registers_after
  run_registers h = accepted_left m ws buffer q₀ k n (full h)

  halting : place ≡ halted → HaltingCycle m ws q₀ rs count
  halting h =
      record {
        running = going_before m ws k c₀;
        stopped = sym (place_of (at_count m ws k c₀ (halted_ends ws (times m ws k c₀) h))) ∙ h;
      }

  drying : (x : ℕ) → place ≡ standing x → count < k → DryCycle m ws q₀ rs k count
  drying x h l =
      let e = left_ended m ws k c₀ l in
      let s = at_count m ws k c₀ e in
      let p = sym (place_of s) ∙ h in
      let a : (times m ws count c₀).arrivals ≡ count = sym (arrivals_of s) ∙ arrivals_run m ws each k c₀ x h ∙ omega arith in
      record {
        running = going_before m ws k c₀;
        standing = λ d. never_both (times m ws count c₀).place x p d;
        arrival = a;
        dry = ap (λ (i : ℕ). ws.lasts i) (sym a) ∙ dry_lasts ws (times m ws count c₀) x p (ap (goes ws) (sym s) ∙ e);
        left = l;
      }

  long_enough : max_registers ≤ length buffer → Agrees
  long_enough h =
      let z = full h in
      let left = ltb count k in
      let number : run_number result ≡ 0 = values.number ∙ ap refusal_number z in
      let e = values.outcome z in
      let counted = values.count z in
      record {
        not9 = λ d. absurd (omega arith);
        not10 = λ d. absurd (omega arith);
        not12 = λ d. absurd (omega arith);
        accepted = λ d. number;
        answers = λ q. record {
          halts = (λ d. at_halted place left (sym e ∙ d), λ d. e ∙ halted_at place left d);
          registers = run_registers h;
          flag = values.flag z;
          next = values.next z;
          spent = λ d.
              let l = ltb-false count k (at_spent place left (sym e ∙ d)) in
              counted ∙ omega (arith, steps_run_le m ws k c₀);
          ended = λ d. rw counted (halting (at_halted place left (sym e ∙ d)));
          dried = λ d.
              let p = at_dry place left (sym e ∙ d) in
              rw counted (drying p.0.0 p.0.1 (ltb-true count k p.1));
          blocks = accepted_total f m ws buffer q₀ k n z;
        };
      }

  too_short : length buffer < max_registers → Agrees
  too_short h =
      let seven : run_number result ≡ 7 = values.number ∙ ap refusal_number (short h) in
      record {
        not9 = λ d. absurd (omega arith);
        not10 = λ d. absurd (omega arith);
        not12 = λ d. absurd (omega arith);
        accepted = λ d. absurd (omega arith);
        answers = λ d. absurd (omega arith);
      }

  pub run_agrees : Agrees
  run_agrees = go (dec_lt (length buffer) max_registers)
    where
      go : Dec (length buffer < max_registers) → Agrees
      go (yes h) = too_short h
      go (no h) = long_enough (omega arith)

-- ---- the graph's run beside the machine's

-- of a run that is not refused
abbrev outcome_of : RunEnd → ℕ
outcome_of end = run_outcome (Ok end)

module _ (g : CFG) (s : Groups) (ws : Supply) (b₀ : ℕ) (rs : List ℕ) (k : ℕ) (both : Both g s ws b₀ rs k) where
  abbrev graph : Runner
  graph = graph_runner g s.starters

  abbrev machine : Runner
  machine = machine_runner (machine_for g s)

  abbrev blocks : ℕ → ℕ → List ℕ → ℕ
  blocks = blocks_run (machine_for g s)

  abbrev from : Configuration
  from = start_at b₀ rs

  abbrev end : Configuration
  end = graph_after g s.starters ws b₀ rs both.steps

  abbrev cycles : ℕ
  cycles = steps_run machine ws k (start_at (state_in s b₀) rs)

  frame : (n : ℕ) → both.steps ≤ n → Reached graph ws n from both.steps end
  frame n l = reached_after graph ws n from both.steps both.run l

  -- where the machine stands, it has run as many cycles as there are arrivals
  cycles_are : (b : ℕ) → end.place ≡ standing b → end.arrivals ≡ cycles
  cycles_are b h =
      sym (arrivals_of both.machine)
      ∙ arrivals_run machine ws (λ q. refl) k (start_at (state_in s b₀) rs) (state_in s b) (place_of both.machine ∙ ap (place_in s) h)
      ∙ omega arith

  machine_outcome : outcome_of (answer machine ws k (start_at (state_in s b₀) rs)) ≡ outcome_of (outcome (place_in s end.place) (ltb cycles k) cycles end.contents.flag)
  machine_outcome = ap outcome_of (answer_is machine ws k (start_at (state_in s b₀) rs)) ∙ ap (λ (c : Configuration). outcome_of (outcome c.place (ltb cycles k) cycles c.contents.flag)) both.machine

  spent_alike : Here s k end → RunsAlike g s machine blocks ws b₀ rs k
  spent_alike h =
      let e : outcome_of (answer machine ws k (start_at (state_in s b₀) rs)) ≡ 0 =
      machine_outcome ∙ rw (h.place, le-ltb cycles k (omega (arith, cycles_are h.block h.place, h.counted))) in
      record {
        blocks = both.steps;
        at = record {
          outcome = ap outcome_of (reached_spent graph ws both.steps from both.steps end (frame both.steps (omega arith)) h.block h.place (omega arith)) ∙ sym e;
          same = both.machine;
          starter = λ b d. rw (standing_of (sym d ∙ h.place)) h.starter;
          counted = both.counted ∙ sym both.run;
        };
        beyond = λ d. absurd (d e);
      }

  -- ended with the block budget n, and so with every larger one
  ended_alike : (o : Over s ws k end) (n : ℕ) (l : both.steps ≤ n)
      → outcome_of (answer graph ws n from) ≡ outcome_of (outcome (place_in s end.place) (ltb cycles k) cycles end.contents.flag) → SameEnd g s machine blocks ws b₀ rs k n
  ended_alike o n l e =
      let z : graph_after g s.starters ws b₀ rs n ≡ end = at_ended graph ws n from both.steps end (frame n l) o.ended in
      record {
        outcome = e ∙ sym machine_outcome;
        same = both.machine ∙ ap (in_machine s) (sym z);
        starter = λ b d. rw (sym (place_of z) ∙ d) at o.place;
        counted = both.counted ∙ sym (counted_ended graph ws n from both.steps end (frame n l) o.ended);
      }

  over_alike : (p : Place) → end.place ≡ p → Over s ws k end → RunsAlike g s machine blocks ws b₀ rs k
  over_alike halted h o =
      let same : (n : ℕ) → both.steps ≤ n → SameEnd g s machine blocks ws b₀ rs k n =
      λ n l. ended_alike o n l (ap outcome_of (reached_halted graph ws n from both.steps end (frame n l) o.ended h) ∙ rw h) in
      record { blocks = both.steps; at = same both.steps (omega arith); beyond = λ d. same }
  over_alike (standing b) h o =
      let same : (n : ℕ) → suc both.steps ≤ n → SameEnd g s machine blocks ws b₀ rs k n =
      λ n l. ended_alike o n (omega arith)
      (ap outcome_of (reached_dry graph ws n from both.steps end (frame n (omega arith)) o.ended b h l)
      ∙ rw (h, lt-ltb cycles k (omega (arith, cycles_are b h, o.counted)))) in
      record { blocks = suc both.steps; at = same (suc both.steps) (omega arith); beyond = λ d. same }

  pub runs_alike : RunsAlike g s machine blocks ws b₀ rs k
  runs_alike = go both.met
    where
      go : Here s k end ⊎ Over s ws k end → RunsAlike g s machine blocks ws b₀ rs k
      go (inl h) = spent_alike h
      go (inr o) = over_alike end.place refl o

-- ---- the answers of two runs that end alike

module _ (g : CFG) (s : Groups) (m : Runner) (f : ℕ → ℕ → List ℕ → ℕ) (ws : Supply) (b₀ : ℕ) (rs : List ℕ) (k n : ℕ) (high : List ℕ)
    (e : SameEnd g s m f ws b₀ rs k n) where
  abbrev left : Result RunEnd Refusal
  left = Ok (answer (graph_runner g s.starters) ws n (start_at b₀ rs))

  abbrev right : Result RunEnd Refusal
  right = Ok (answer m ws k (start_at (state_in s b₀) rs))

  left_values : RunValues None (graph_runner g s.starters) ws n (start_at b₀ rs) left
  left_values = answer_values (graph_runner g s.starters) ws n (start_at b₀ rs)

  right_values : RunValues None m ws k (start_at (state_in s b₀) rs) right
  right_values = answer_values m ws k (start_at (state_in s b₀) rs)

  next_alike : (p : Place) → (graph_after g s.starters ws b₀ rs n).place ≡ p
      → (run_outcome right ≡ 1) ⊎ ((mem (run_next left) s.starters ≡ true) × (run_next right ≡ state_in s (run_next left)))
  next_alike halted h =
      let end = times m ws k (start_at (state_in s b₀) rs) in
      inl (right_values.outcome refl
      ∙ halted_at end.place (ltb (steps_run m ws k (start_at (state_in s b₀) rs)) k) (place_of e.same ∙ ap (place_in s) h))
  next_alike (standing b) h =
      let l : run_next left ≡ b = left_values.next refl ∙ ap next_at h in
      inr (
        rw l (e.starter b h),
        right_values.next refl ∙ ap next_at (place_of e.same ∙ ap (place_in s) h) ∙ ap (state_in s) (sym l),
      )

  pub ends_alike : SameAnswer s left right (machine_counts m f ws (state_in s b₀) rs k)
      (registers_after (graph_runner g s.starters) ws n (start_at b₀ rs) ++ high)
      (registers_after m ws k (start_at (state_in s b₀) rs) ++ high)
  unfolding registers_after
  ends_alike =
      record {
        accepted = (left_values.number, right_values.number);
        outcome = e.outcome;
        registers = ap (λ (q : List ℕ). q ++ high) (sym (registers_of e.same));
        flag = left_values.flag refl ∙ ap truth (sym (flag_of e.same)) ∙ sym (right_values.flag refl);
        next = next_alike (graph_after g s.starters ws b₀ rs n).place refl;
        blocks = e.counted ∙ sym (left_values.count refl);
      }
