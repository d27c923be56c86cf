-- Whole runs: after k cycles the machine stands where the graph stands at arrival k, or both have ended, halted or dry. Assumes nothing.
use Prim.Native.Nat.{ℕ, zero, suc, ◌+◌, ◌≤◌, ◌<◌}
use native.Mathlib.Omega.{arith}
use native.Mathlib.Decide.{dec_lt}
use mathlib.Core.Path.{◌≡◌, refl, sym, ap, ap₂, ◌∙◌}
use mathlib.Core.Logic.{◌⊎◌, inl, inr}
use mathlib.Core.Bool.{Bool, true, false}
use mathlib.Core.List.{List}
use lib.ListN.{length, get_or, drop, length-append, length-map, length-drop}
use borrow.Author.Tests.{lt-ltb, le-ltb}
use Rattle.runs.specs.Lists.{mem}
use Rattle.runs.specs.Runs.{Place, standing, halted, Contents, Configuration, stands_at, start_at, Supply, Moved, onward, arrivals_at, contents_after, moved, goes, step, times}
use Rattle.runs.proofs.RunLaws.{never_both, false_true, place_of, contents_of, registers_of, arrivals_of, going_lasts, goes_standing, halted_ends, dry_ends}
use Rattle.runs.proofs.RunLaws.{moved_to, step_going, step_ended, times_zero, times_add, times_last, steps_run_zero, steps_run_add}
use Rattle.runs.proofs.TotalLaws.{counts as counts-at, total_zero, total_last, total_stays}
use Rattle.cfg.specs.Graph.{CFG, graph_runner}
use Rattle.fsmd.specs.Layout.{max_registers, absent}
use Rattle.fsmd.specs.Machine.{State, FSMD, state_of as state_at, worked, wires_over, to_state, clock, machine_runner, blocks_run}
use Rattle.grouping.specs.Grouping.{Groups}
use Rattle.placement.specs.Placement.{order, members}
use Rattle.state.specs.Wires.{leaves, next_state_of, state_made}
use Rattle.synthesis.specs.Synthesis.{machine_for}
use Rattle.synthesis.proofs.GraphFacts.{GraphFits}
use Rattle.placement.proofs.StateOrder.{Arranged}
use Rattle.synthesis.proofs.SynthesisedMachine.{states_count, state_at_lem, registers_are}
use Rattle.synthesis.proofs.Readings.{Reads}
use Rattle.synthesis.proofs.OneCycle.{StateReads, CycleAgrees, cycle_agrees, cycle_some, cycle_few}
use Rattle.synthesis.proofs.BlocksCounted.{cycle_blocks}
use Rattle.agreement.specs.Agreement.{graph_after, AllRun, Arrival, HaltBefore, AfterCycles, machine_after, machine_counts, state_in, place_in, in_machine, AgreeAfter, LastsTo}
use Rattle.agreement.proofs.Arrivals.{arrival_or_halt, end_once, end_later, trace_comes, trace_run}

-- ---- one cycle of the machine

clock_reads : (m : FSMD) (w : ℕ) (q : State) (rs : List ℕ) (v : ℕ) (qs : List ℕ) (o : Bool)
    → Reads m.registers (drop m.registers rs) (worked w rs q.wires) q.next q.next_registers v qs
    → wires_over w rs q.wires ≡ o
    → clock m w q rs ≡ record { place = to_state (length m.states) v; registers = qs; over = o }
unfolding clock
clock_reads m w q rs v qs o l e = λ i. record { place = to_state (length m.states) (l.reads i); registers = l.words i; over = e i }

clocked : (g : CFG) (s : Groups) (w k : ℕ) (rs : List ℕ) (v : ℕ) (qs : List ℕ) (o : Bool) → k < length s.starters → StateReads g (state_made g s k) w rs v qs
    → wires_over w rs (state_made g s k).wires ≡ o
    → clock (machine_for g s) w (state_at (machine_for g s) k) rs ≡ record { place = to_state (length s.starters) v; registers = qs; over = o }
clocked g s w k rs v qs o h l e =
    ap (λ (q : State). clock (machine_for g s) w q rs) (state_at_lem g s k h)
    ∙ clock_reads (machine_for g s) w (state_made g s k) rs v qs o (rw (registers_are g s) l) e
    ∙ ap (λ (n : ℕ). record { place = to_state n v; registers = qs; over = o }) (states_count g s)

reads_length : {R : ℕ} {high E : List ℕ} {t : ℕ} {vs : List ℕ} {v : ℕ} {q : List ℕ} → Reads R high E t vs v q → length q ≡ R + length high
reads_length {R} {high} {E} {t} {vs} l = sym (ap length l.words) ∙ simp (length-append, length-map) (let c = l.count in omega arith)

-- ---- a graph's configuration in the machine

onward_in : (s : Groups) (p : Place) (w : Bool) → onward (place_in s p) w false (λ n. true) ≡ onward p w false (λ n. true)
onward_in s (standing b) true = refl
onward_in s (standing b) false = refl
onward_in s halted w = refl

goes_in : (s : Groups) (ws : Supply) (c : Configuration) → goes ws (in_machine s c) ≡ goes ws c
goes_in s ws c = onward_in s c.place (ws.lasts c.arrivals)

module _ (g : CFG) (s : Groups) (a : Arranged g s) where
  -- at a starter or halted, the next state that is worked out is the place's
  to_place : (p : Place) → leaves s p ≡ true → to_state (length s.starters) (next_state_of s p) ≡ place_in s p
  to_place (standing b) h = rw (lt-ltb (state_in s b) (length s.starters) (a.home b h))
  to_place halted h = rw (le-ltb absent (length s.starters) a.few)

  arrivals_in_lem : (p : Place) (k : ℕ) → leaves s p ≡ true → arrivals_at (λ q. true) (place_in s p) k ≡ arrivals_at (λ b. mem b s.starters) p k
  arrivals_in_lem (standing b) k h = rw h
  arrivals_in_lem halted k h = refl

  moved_in : (c : Configuration) (m : Moved) → leaves s m.place ≡ true
      → moved (λ q. true) (in_machine s c) (record { place = to_state (length s.starters) (next_state_of s m.place); registers = m.registers; over = m.over })
      ≡ in_machine s (moved (λ b. mem b s.starters) c m)
  moved_in c m h =
      ap (λ (p : Place). moved (λ q. true) (in_machine s c) (record { place = p; registers = m.registers; over = m.over })) (to_place m.place h)
      ∙ ap (λ (n : ℕ). record { place = place_in s m.place; contents = contents_after c.contents.flag m; arrivals = n }) (arrivals_in_lem m.place c.arrivals h)

-- ---- whole runs

-- after k cycles: at arrival k, or ended before it, halted or at a starter without a word
pub record Here (s : Groups) (k : ℕ) (c : Configuration) : Type 0 where
  pub block : ℕ
  pub place : c.place ≡ standing block
  pub starter : mem block s.starters ≡ true
  pub counted : c.arrivals ≡ k

pub record Over (s : Groups) (ws : Supply) (k : ℕ) (c : Configuration) : Type 0 where
  pub place : leaves s c.place ≡ true
  pub ended : goes ws c ≡ false
  pub counted : c.arrivals < k

here_is : {s : Groups} {k : ℕ} {c : Configuration} → (h : Here s k c) → c ≡ stands_at k h.block c.contents
here_is {s} {k} {c} h = λ i. record { place = h.place i; contents = c.contents; arrivals = h.counted i }

module _ (g : CFG) (s : Groups) (ws : Supply) (b₀ : ℕ) (rs : List ℕ) where
  -- the graph's run comes with `steps` steps to where the machine stands after k cycles
  pub record Both (k : ℕ) : Type 0 where
    pub steps : ℕ
    pub run : AllRun g s.starters ws b₀ rs steps
    pub size : length (graph_after g s.starters ws b₀ rs steps).contents.registers ≡ max_registers
    pub machine : machine_after (machine_runner (machine_for g s)) ws (state_in s b₀) rs k ≡ in_machine s (graph_after g s.starters ws b₀ rs steps)
    pub counted : machine_counts (machine_runner (machine_for g s)) (blocks_run (machine_for g s)) ws (state_in s b₀) rs k ≡ steps
    pub met : Here s k (graph_after g s.starters ws b₀ rs steps) ⊎ Over s ws k (graph_after g s.starters ws b₀ rs steps)

module _ (g : CFG) (s : Groups) (f : GraphFits g) (a : Arranged g s) (ws : Supply) (b₀ : ℕ) (rs : List ℕ) where
  abbrev G : ℕ → Configuration
  G n = graph_after g s.starters ws b₀ rs n

  abbrev M : ℕ → Configuration
  M k = machine_after (machine_runner (machine_for g s)) ws (state_in s b₀) rs k

  -- the next cycle, from an arrival for which there is a word
  module _ (k : ℕ) (r : Both g s ws b₀ rs k) (h : Here s k (G r.steps)) (lasts : ws.lasts k ≡ true) where
    abbrev q : Contents
    q = (G r.steps).contents

    agrees : CycleAgrees g s (ws.word k) q.registers (state_in s h.block) h.block
    agrees = cycle_agrees g s (ws.word k) q.registers r.size f (state_in s h.block) h.block (a.placed h.block h.starter)

    abbrev reached : Configuration
    reached = moved (λ b. mem b s.starters) (stands_at k h.block q) agrees.reached

    reached_at : G (r.steps + agrees.steps) ≡ reached
    reached_at =
        times_add (graph_runner g s.starters) ws r.steps agrees.steps (start_at b₀ rs)
        ∙ ap (times (graph_runner g s.starters) ws agrees.steps) (here_is h)
        ∙ trace_comes g s.starters ws k h.block q lasts agrees.trace

    all_run : AllRun g s.starters ws b₀ rs (r.steps + agrees.steps)
    all_run =
        steps_run_add (graph_runner g s.starters) ws r.steps agrees.steps (start_at b₀ rs)
        ∙ rw (r.run, here_is h, trace_run g s.starters ws k h.block q lasts agrees.trace)

    cycled : M (suc k) ≡ in_machine s reached
    cycled =
        let m = machine_runner (machine_for g s) in
        times_last m ws k (start_at (state_in s b₀) rs)
        ∙ ap (step m ws) (r.machine ∙ ap (in_machine s) (here_is h))
        ∙ step_going m ws (stands_at k (state_in s h.block) q) (state_in s h.block) refl lasts
        ∙ ap (moved (λ q. true) (stands_at k (state_in s h.block) q))
        (clocked g s (ws.word k) (state_in s h.block) q.registers (next_state_of s agrees.reached.place) agrees.reached.registers agrees.reached.over
        (a.home h.block h.starter) agrees.state agrees.raised)
        ∙ moved_in g s a (stands_at k h.block q) agrees.reached agrees.leaving

    -- it counts the blocks that the graph runs in it
    counts : machine_counts (machine_runner (machine_for g s)) (blocks_run (machine_for g s)) ws (state_in s b₀) rs (suc k) ≡ r.steps + agrees.steps
    counts =
        let m = machine_runner (machine_for g s) in
        let f = blocks_run (machine_for g s) in
        let q₁ = state_in s h.block in
        let e : M k ≡ stands_at k q₁ q = r.machine ∙ ap (in_machine s) (here_is h) in
        total_last m ws f k (start_at (state_in s b₀) rs) q₁ (place_of e) (ap (λ (i : ℕ). ws.lasts i) (arrivals_of e) ∙ lasts)
        ∙ ap₂ (λ (i j : ℕ). i + j) r.counted
        (ap (λ (c : Configuration). counts-at m ws f c q₁) e
        ∙ cycle_blocks g s a (ws.word k) q.registers h.block h.starter agrees)

    met_next : (p : Place) → agrees.reached.place ≡ p → Here s (suc k) reached ⊎ Over s ws (suc k) reached
    met_next (standing b) e =
        let m : mem b s.starters ≡ true = rw e at agrees.leaving in
        inl (record { block = b; place = e; starter = m; counted = arrivals_of (moved_to (λ b. mem b s.starters) (stands_at k h.block q) agrees.reached b true e m) })
    met_next halted e = inr (record { place = agrees.leaving; ended = halted_ends ws reached e; counted = rw e (omega arith) })

    advance : (n : Both g s ws b₀ rs (suc k)) × (r.steps + 1 ≤ n.steps) × (n.steps ≤ r.steps + length (order g s (state_in s h.block)))
    advance =
        let o = cycle_some agrees in
        let l = cycle_few agrees in (
          record {
            steps = r.steps + agrees.steps;
            run = all_run;
            size = ap length (registers_of reached_at) ∙ reads_length agrees.state ∙ (let z = r.size in let n = f.few_registers in simp length-drop (omega arith));
            machine = cycled ∙ ap (in_machine s) (sym reached_at);
            counted = counts;
            met = rw reached_at (met_next agrees.reached.place refl);
          },
          omega arith,
          omega arith,
        )

  -- what has ended stays
  stays : (k : ℕ) (r : Both g s ws b₀ rs k) → goes ws (G r.steps) ≡ false → M (suc k) ≡ in_machine s (G r.steps)
  stays k r e =
      let m = machine_runner (machine_for g s) in
      times_last m ws k (start_at (state_in s b₀) rs) ∙ ap (step m ws) r.machine ∙ step_ended m ws (in_machine s (G r.steps)) (goes_in s ws (G r.steps) ∙ e)

  stay : (k : ℕ) (r : Both g s ws b₀ rs k) → Over s ws (suc k) (G r.steps) → Both g s ws b₀ rs (suc k)
  stay k r o = record {
    steps = r.steps;
    run = r.run;
    size = r.size;
    machine = stays k r o.ended;
    counted = total_stays (machine_runner (machine_for g s)) ws (blocks_run (machine_for g s)) k (start_at (state_in s b₀) rs)
        (ap (goes ws) r.machine ∙ goes_in s ws (G r.steps) ∙ o.ended)
        ∙ r.counted;
    met = inr o;
  }

  next_cycle : (k : ℕ) → Both g s ws b₀ rs k → Both g s ws b₀ rs (suc k)
  next_cycle k r = go r.met
    where
      here : (h : Here s k (G r.steps)) (b : Bool) → ws.lasts k ≡ b → Both g s ws b₀ rs (suc k)
      here h true e = (advance k r h e).0
      here h false e =
          stay k r (record {
            place = rw h.place h.starter;
            ended = dry_ends ws (G r.steps) h.block h.place (rw h.counted e);
            counted = let c = h.counted in omega arith;
          })

      go : Here s k (G r.steps) ⊎ Over s ws k (G r.steps) → Both g s ws b₀ rs (suc k)
      go (inl h) = here h (ws.lasts k) refl
      go (inr o) = stay k r (record { place = o.place; ended = o.ended; counted = let c = o.counted in omega arith })

  pub after_cycles : mem b₀ s.starters ≡ true → length rs ≡ max_registers → (k : ℕ) → Both g s ws b₀ rs k
  after_cycles m size zero =
      let z = times_zero (graph_runner g s.starters) ws (start_at b₀ rs) in
      record {
        steps = 0;
        run = steps_run_zero (graph_runner g s.starters) ws (start_at b₀ rs);
        size = ap length (registers_of z) ∙ size;
        machine = times_zero (machine_runner (machine_for g s)) ws (start_at (state_in s b₀) rs) ∙ ap (in_machine s) (sym z);
        counted = total_zero (machine_runner (machine_for g s)) ws (blocks_run (machine_for g s)) (start_at (state_in s b₀) rs);
        met = inl (record { block = b₀; place = place_of z; starter = m; counted = arrivals_of z });
      }
  after_cycles m size (suc k) = next_cycle k (after_cycles m size k)

  -- while words last, a cycle ends by its arrival or a halt
  cycle_ends : (k : ℕ) → LastsTo ws k → (r : Both g s ws b₀ rs k) → AfterCycles g s.starters ws b₀ rs k r.steps
  cycle_ends k lasts r = go r.met
    where
      over : (p : Place) → (G r.steps).place ≡ p → Over s ws k (G r.steps) → AfterCycles g s.starters ws b₀ rs k r.steps
      over (standing b) e o = absurd (false_true o.ended (goes_standing ws (G r.steps) b e (lasts (G r.steps).arrivals o.counted)))
      over halted e o = inr ((G r.steps).contents, record { run = r.run; stopped = e; contents = refl; counted = o.counted })

      go : Here s k (G r.steps) ⊎ Over s ws k (G r.steps) → AfterCycles g s.starters ws b₀ rs k r.steps
      go (inl h) = inl (h.block, (G r.steps).contents, record { run = r.run; stands = here_is h; starter = h.starter })
      go (inr o) = over (G r.steps).place refl o

-- ---- the statement on the machine of a grouping

pub standing_of : {b c : ℕ} → standing b ≡ standing c → b ≡ c
standing_of e = cc

module _ (g : CFG) (s : Groups) (f : GraphFits g) (a : Arranged g s) (ws : Supply) (b₀ : ℕ) (start : mem b₀ s.starters ≡ true)
    (rs : List ℕ) (size : length rs ≡ max_registers) (k : ℕ) (lasts : LastsTo ws k) where
  abbrev graph : ℕ → Configuration
  graph n = graph_after g s.starters ws b₀ rs n

  abbrev machine : Configuration
  machine = machine_after (machine_runner (machine_for g s)) ws (state_in s b₀) rs k

  abbrev both : Both g s ws b₀ rs k
  both = after_cycles g s f a ws b₀ rs start size k

  end_of_cycle : AfterCycles g s.starters ws b₀ rs k both.steps
  end_of_cycle = cycle_ends g s f a ws b₀ rs k lasts both

  -- wherever the cycle ends, the machine stands alike
  machine_alike : (n : ℕ) → AfterCycles g s.starters ws b₀ rs k n → machine ≡ in_machine s (graph n)
  machine_alike n e = rw (← end_once g s.starters ws b₀ rs k both.steps n end_of_cycle e) both.machine

  halted_graph : (q : Contents) → machine.place ≡ halted → machine.contents ≡ q → (n : ℕ) × HaltBefore g s.starters ws b₀ rs k n q
  halted_graph q e d = go end_of_cycle
    where
      go : AfterCycles g s.starters ws b₀ rs k both.steps → (n : ℕ) × HaltBefore g s.starters ws b₀ rs k n q
      go (inl r) = absurd (never_both machine.place (state_in s r.0) (place_of (both.machine ∙ ap (in_machine s) r.2.stands)) e)
      go (inr h) = (both.steps, record { run = h.1.run; stopped = h.1.stopped; contents = sym (contents_of both.machine) ∙ d; counted = h.1.counted })

  halted_machine : (n : ℕ) (q : Contents) → HaltBefore g s.starters ws b₀ rs k n q → (machine.place ≡ halted) × (machine.contents ≡ q)
  halted_machine n q h =
      let e = machine_alike n (inr (q, h)) in
      (place_of e ∙ ap (place_in s) h.stopped, contents_of e ∙ h.contents)

  standing_graph : (b : ℕ) (q : Contents) → mem b s.starters ≡ true → machine ≡ stands_at k (state_in s b) q
      → (n : ℕ) × Arrival g s.starters ws b₀ rs k n b q
  standing_graph b q m e = go end_of_cycle
    where
      go : AfterCycles g s.starters ws b₀ rs k both.steps → (n : ℕ) × Arrival g s.starters ws b₀ rs k n b q
      go (inl r) =
          let z : stands_at k (state_in s r.0) r.1 ≡ stands_at k (state_in s b) q = sym (both.machine ∙ ap (in_machine s) r.2.stands) ∙ e in
          let c : r.0 ≡ b =
          sym (a.own r.0 r.2.starter) ∙ ap (λ (k : ℕ). get_or s.starters k absent) (standing_of (place_of z)) ∙ a.own b m in
          (both.steps, rw (c, contents_of z) at r.2)
      go (inr h) = absurd (never_both machine.place (state_in s b) (place_of e) (halted_machine both.steps h.0 h.1).0)

  next_blocks : (n b : ℕ) (q : Contents) → Arrival g s.starters ws b₀ rs k n b q → (n' : ℕ) → AfterCycles g s.starters ws b₀ rs (suc k) n'
      → (n + 1 ≤ n') × (n' ≤ n + length (members g s (state_in s b)))
  next_blocks n b q r n' e =
      let t : both.steps ≡ n = end_once g s.starters ws b₀ rs k both.steps n end_of_cycle (inl (b, q, r)) in
      let c : graph both.steps ≡ stands_at k b q = ap graph t ∙ r.stands in
      let h : Here s k (graph both.steps) = record { block = b; place = place_of c; starter = r.starter; counted = arrivals_of c } in
      let w : ws.lasts k ≡ true = ap (λ (i : ℕ). ws.lasts i) (sym (arrivals_of r.stands)) ∙ going_lasts ws (graph n) (end_later g s.starters ws b₀ rs k n b q r n' e) in
      let x = advance g s f a ws b₀ rs k both h w in
      let i : x.0.steps ≡ n' = end_once g s.starters ws b₀ rs (suc k) x.0.steps n' (cycle_ends g s f a ws b₀ rs (suc k) (lasts_on w) x.0) e in
      let u = x.1 in
      let v = x.2 in
      let y = a.sized (state_in s b) in
      (omega arith, omega arith)
    where
      lasts_on : ws.lasts k ≡ true → LastsTo ws (suc k)
      lasts_on w j l = go (dec_lt j k)
        where
          go : Dec (j < k) → ws.lasts j ≡ true
          go (yes d) = lasts j d
          go (no d) = let e : j ≡ k = omega arith in rw e w

  pub agree_after : AgreeAfter g s (machine_runner (machine_for g s)) (blocks_run (machine_for g s)) ws b₀ rs k
  agree_after = record {
    either = (both.steps, end_of_cycle);
    apart = arrival_or_halt g s.starters ws b₀ rs k;
    halts = λ q. (λ h. halted_graph q h.0 h.1, λ h. halted_machine h.0 q h.1);
    stands = λ b q m. (standing_graph b q m, λ h. machine_alike h.0 (inl (b, q, h.1)) ∙ ap (in_machine s) h.1.stands);
    counted = λ n e. both.counted ∙ end_once g s.starters ws b₀ rs k both.steps n end_of_cycle e;
    blocks = next_blocks;
  }
