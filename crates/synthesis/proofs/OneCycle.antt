-- One cycle of a state: its references read what the graph's run from the state's starter comes to at its first step that moves to a starter or halts,
-- and as many arrivals read nonzero as that run has steps.
-- A token walks the edges as the blocks are placed: it is on the one that is taken. Assumes nothing.
use Prim.Native.Nat.{ℕ, suc, ◌≤◌}
use native.Mathlib.Omega.{arith}
use mathlib.Core.Path.{◌≡◌, refl, ap, ◌∙◌}
use mathlib.Core.Logic.{◌⊎◌, inl, inr}
use mathlib.Core.Bool.{Bool, true, false, not, ◌||◌, or-false}
use mathlib.Core.List.{List, [], ◌∷◌, ◌++◌, append-nil}
use lib.ListN.{length, drop}
use lib.Seq.{append_snoc}
use lib.Dec.{eqb}
use borrow.Author.Tests.{eqb-true}
use Rattle.word.specs.Word.{choose}
use Rattle.runs.specs.Lists.{mem}
use Rattle.runs.specs.Runs.{Place, standing, halted, Moved}
use Rattle.runs.proofs.ListLaws.{length_only}
use Rattle.cfg.specs.declared.Ending.{Ending}
use Rattle.cfg.specs.declared.Ending.TheVariants.{Goto, Ite, Halt}
use Rattle.cfg.specs.Graph.{CFG, block_of, instructions_of, targets, successors, execute_all, instructions_over, holds, leave, run_block}
use Rattle.fsmd.specs.Layout.{max_registers}
use Rattle.fsmd.specs.Machine.{State, worked, wires_over, nonzero}
use Rattle.grouping.specs.Grouping.{Groups}
use Rattle.placement.specs.Placement.{order}
use Rattle.state.specs.Wires.{towards, leads_to, StateBuild, arrive, start_block, enter, after, put, nothing, build, leaves, next_state_of, close_state, state_made}
use Rattle.synthesis.proofs.GraphFacts.{GraphFits}
use Rattle.placement.proofs.StateOrder.{Ahead, Ordered, StateOrder}
use Rattle.synthesis.proofs.Readings.{Reads, start_reads}
use Rattle.synthesis.proofs.Environments.{at}
use Rattle.synthesis.proofs.AddedWires.{arrive_grown, close_state_grown}
use Rattle.synthesis.proofs.ArrivalsCounted.{Counted, counted_none, counted_grow}
use Rattle.synthesis.proofs.Arrivals.{arrivals_in, arrival_of, arrivals_nil, arrivals_cons, arrivals_length}
use Rattle.synthesis.proofs.FlagRaised.{grown_over, start_over, block_over}
use Rattle.synthesis.proofs.TakenEdges.{OneTaken, none_grow, one_grow, one_towards, one_away, arrive_grow, arrive_none, arrive_one}
use Rattle.synthesis.proofs.TakenEdges.{block_made, followed, made_reached, made_passed, made_counted, close_state_one, close_state_grow}

-- The graph's blocks from block b with registers r, on a sampled word: in j steps they come to c, where one has gone over or none, and no step but
-- the last moves to one of the blocks st.
pub data Trace (g : CFG) (st : List ℕ) (sampled b : ℕ) (r : List ℕ) : ℕ → Moved → Type 0 where
  first : {c : Moved} → c ≡ run_block sampled (block_of g b) r → Trace g st sampled b r 1 c
  next : {j : ℕ} {c c' : Moved} → Trace g st sampled b r j c → (x : ℕ) → c.place ≡ standing x → mem x st ≡ false
      → c' ≡ followed c.over (run_block sampled (block_of g x) c.registers) → Trace g st sampled b r (suc j) c'

trace_some : {g : CFG} {st : List ℕ} {sampled b : ℕ} {r : List ℕ} {j : ℕ} {c : Moved} → Trace g st sampled b r j c → 1 ≤ j
trace_some (first e) = omega arith
trace_some (next t x h f e) = omega arith

-- ---- where the blocks still to place are come to

-- a place that is a starter, among xs, or halted
abbrev Towards : List ℕ → List ℕ → Place → Type 0
Towards st xs (standing v) = (mem v st ≡ true) ⊎ (mem v xs ≡ true)
Towards st xs halted = Unit {0}

never : {P : Type 0} → ◌≡◌ {A = Bool} false true → P
never h = absurd (let z : ◌≡◌ {A = ℕ} 0 1 = cc in omega arith)

leads_to_lem : (x : ℕ) (p : Place) → leads_to x p ≡ true → p ≡ standing x
leads_to_lem x (standing y) h = ap standing (eqb-true y x h)
leads_to_lem x halted h = never h

towards_next : (st xs : List ℕ) (x : ℕ) (p : Place) → Towards st (x ∷ xs) p → leads_to x p ≡ false → Towards st xs p
towards_next st xs x (standing y) (inl e) h = inl e
towards_next st xs x (standing y) (inr e) h = inr (rw h at e)
towards_next st xs x halted b h = tt

towards_choice : (b : Bool) (st xs : List ℕ) (t f : ℕ) → Ahead st xs (t ∷ f ∷ []) → Towards st xs (standing (choose b t f))
towards_choice true st xs t f a = a.0
towards_choice false st xs t f a = a.1.0

towards_leave : (st xs : List ℕ) (e : Ending) (q : List ℕ) → Ahead st xs (targets e) → Towards st xs (leave e q)
unfolding leave
towards_leave st xs (Goto t) q a = a.0
towards_leave st xs (Ite c t f) q a = towards_choice (holds c q) st xs t f a
towards_leave st xs Halt q a = tt

towards_none : (s : Groups) (p : Place) → Towards s.starters [] p → leaves s p ≡ true
towards_none s (standing y) (inl e) = e
towards_none s (standing y) (inr e) = never e
towards_none s halted b = refl

-- ---- the taken edge

module _ (g : CFG) (s : Groups) (sampled : ℕ) (rs : List ℕ) (b₀ : ℕ) where
  -- the blocks xs are still to place, and refs are the arrivals of those that are placed: the taken edge leads to `reached`, where the graph's run comes
  -- in `steps` steps, one for each arrival that reads nonzero
  pub record TakenEdge (xs : List ℕ) (b : StateBuild) (refs : List ℕ) : Type 0 where
    pub reached : Moved
    pub steps : ℕ
    pub taken : OneTaken g.registers (drop g.registers rs) (worked sampled rs b.wires) reached b.edges
    pub raised : wires_over sampled rs b.wires ≡ reached.over
    pub onward : Towards s.starters xs reached.place
    pub trace : Trace g s.starters sampled b₀ rs steps reached
    pub counted : Counted (worked sampled rs b.wires) refs steps

module _ (g : CFG) (s : Groups) where
  put_inner : (x : ℕ) (b : StateBuild) → mem x s.starters ≡ false
      → put g s x b
      ≡ after (towards (λ p. not (leads_to x p)) b.edges) (block_made (block_of g x) (arrive g.registers (towards (leads_to x) b.edges) b.wires))
  unfolding put enter
  put_inner x b h = rw h

  arrival_inner : (x : ℕ) (b : StateBuild) → mem x s.starters ≡ false → arrival_of g s x b ≡ (arrive g.registers (towards (leads_to x) b.edges) b.wires).arrival
  unfolding enter
  arrival_inner x b h = ap (λ (c : Bool). (enter g.registers c x b).arrival) h

  arrival_starter : (x : ℕ) (b : StateBuild) → mem x s.starters ≡ true → arrival_of g s x b ≡ (start_block g.registers b.wires).arrival
  unfolding enter
  arrival_starter x b h = ap (λ (c : Bool). (enter g.registers c x b).arrival) h

  put_starter : (x : ℕ) (b : StateBuild) → mem x s.starters ≡ true
      → put g s x b ≡ after (towards (λ p. not (leads_to x p)) b.edges) (block_made (block_of g x) (start_block g.registers b.wires))
  unfolding put enter
  put_starter x b h = rw h

module _ (g : CFG) (s : Groups) (sampled : ℕ) (rs : List ℕ) (size : length rs ≡ max_registers) (f : GraphFits g) (b₀ : ℕ) where
  first_edge : (xs : List ℕ) → mem b₀ s.starters ≡ true → Ahead s.starters xs (successors g b₀) → TakenEdge g s sampled rs b₀ xs (put g s b₀ nothing) (arrival_of g s b₀ nothing ∷ [])
  unfolding start_block run_block
  first_edge xs h a =
      let R = g.registers in
      let one = start_reads sampled rs size R [] 1 f.few_registers in
      rw (put_starter g s b₀ nothing h, arrival_starter g s b₀ nothing h) (record {
        reached = run_block sampled (block_of g b₀) rs;
        raised = block_over sampled rs size R [] (block_of g b₀) (start_block R []) true (f.block b₀).body one
            ∙ ap (λ (o : Bool). o || instructions_over sampled (instructions_of (block_of g b₀)) rs) (start_over sampled rs R);
        steps = 1;
        taken = made_reached sampled rs size R (block_of g b₀) (f.block b₀) (start_block R []) rs false [] one tt;
        onward = towards_leave s.starters xs (block_of g b₀).ending (execute_all sampled (instructions_of (block_of g b₀)) rs) a;
        trace = first refl;
        counted = made_counted sampled rs size R (block_of g b₀) (f.block b₀) (start_block R []) true [] one (counted_none (worked sampled rs (start_block R []).wires));
      })

  -- the taken edge leads to x: x is run
  reach : (x : ℕ) (xs : List ℕ) (b : StateBuild) (refs : List ℕ) → Ordered g s.starters (x ∷ xs) → (t : TakenEdge g s sampled rs b₀ (x ∷ xs) b refs)
      → leads_to x t.reached.place ≡ true → TakenEdge g s sampled rs b₀ xs (put g s x b) (refs ++ (arrival_of g s x b ∷ []))
  unfolding run_block
  reach x xs b refs o t h =
      let R = g.registers in
      let into = towards (leads_to x) b.edges in
      let rest = towards (λ p. not (leads_to x p)) b.edges in
      let p = arrive R into b.wires in
      let c = t.reached in
      let E = worked sampled rs b.wires in
      let one = arrive_one sampled rs size R into b.wires c (one_towards R (drop R rs) E (leads_to x) c b.edges h t.taken) in
      rw (put_inner g s x b o.0, arrival_inner g s x b o.0) (record {
        reached = followed c.over (run_block sampled (block_of g x) c.registers);
        raised = block_over sampled rs size R rest (block_of g x) p true (f.block x).body one
            ∙ ap (λ (o : Bool). o || instructions_over sampled (instructions_of (block_of g x)) c.registers) (grown_over sampled rs (arrive_grown R into b.wires) ∙ t.raised);
        steps = suc t.steps;
        taken = made_reached sampled rs size R (block_of g x) (f.block x) p c.registers c.over rest one
            (none_grow R (drop R rs) E (worked sampled rs p.wires) (arrive_grow sampled rs size R into b.wires) rest
            (one_away R (drop R rs) E (λ p. not (leads_to x p)) c b.edges (ap not h) t.taken));
        onward = towards_leave s.starters xs (block_of g x).ending (execute_all sampled (instructions_of (block_of g x)) c.registers) o.1;
        trace = next t.trace x (leads_to_lem x c.place h) o.0 refl;
        counted = made_counted sampled rs size R (block_of g x) (f.block x) p true rest one (counted_grow (arrive_grow sampled rs size R into b.wires) t.counted);
      })

  -- it leads elsewhere
  pass : (x : ℕ) (xs : List ℕ) (b : StateBuild) (refs : List ℕ) → Ordered g s.starters (x ∷ xs) → (t : TakenEdge g s sampled rs b₀ (x ∷ xs) b refs)
      → leads_to x t.reached.place ≡ false → TakenEdge g s sampled rs b₀ xs (put g s x b) (refs ++ (arrival_of g s x b ∷ []))
  pass x xs b refs o t h =
      let R = g.registers in
      let into = towards (leads_to x) b.edges in
      let rest = towards (λ p. not (leads_to x p)) b.edges in
      let p = arrive R into b.wires in
      let c = t.reached in
      let E = worked sampled rs b.wires in
      let none = arrive_none sampled rs size R f.few_registers into b.wires (one_away R (drop R rs) E (leads_to x) c b.edges h t.taken) in
      rw (put_inner g s x b o.0, arrival_inner g s x b o.0) (record {
        reached = c;
        raised = block_over sampled rs size R rest (block_of g x) p false (f.block x).body none.1 ∙ or-false (wires_over sampled rs p.wires)
            ∙ grown_over sampled rs (arrive_grown R into b.wires) ∙ t.raised;
        steps = t.steps;
        taken = made_passed sampled rs size R (block_of g x) (f.block x) p c rest none.1
            (one_grow R (drop R rs) E (worked sampled rs p.wires) (arrive_grow sampled rs size R into b.wires) c rest
            (one_towards R (drop R rs) E (λ p. not (leads_to x p)) c b.edges (ap not h) t.taken));
        onward = towards_next s.starters xs x c.place t.onward h;
        trace = t.trace;
        counted = made_counted sampled rs size R (block_of g x) (f.block x) p false rest none.1 (counted_grow (arrive_grow sampled rs size R into b.wires) t.counted);
      })

  put_edge : (x : ℕ) (xs : List ℕ) (b : StateBuild) (refs : List ℕ) → Ordered g s.starters (x ∷ xs) → TakenEdge g s sampled rs b₀ (x ∷ xs) b refs
      → TakenEdge g s sampled rs b₀ xs (put g s x b) (refs ++ (arrival_of g s x b ∷ []))
  put_edge x xs b refs o t = either (leads_to x t.reached.place) refl
    where
      either : (c : Bool) → leads_to x t.reached.place ≡ c → TakenEdge g s sampled rs b₀ xs (put g s x b) (refs ++ (arrival_of g s x b ∷ []))
      either true h = reach x xs b refs o t h
      either false h = pass x xs b refs o t h

  build_edge : (xs : List ℕ) (b : StateBuild) (refs : List ℕ) → Ordered g s.starters xs → TakenEdge g s sampled rs b₀ xs b refs
      → TakenEdge g s sampled rs b₀ [] (build g s xs b) (refs ++ arrivals_in g s xs b)
  unfolding build
  build_edge [] b refs o t = rw (arrivals_nil g s b, append-nil refs) t
  build_edge (x ∷ xs) b refs o t =
      rw (arrivals_cons g s x xs b, ← append_snoc refs (arrival_of g s x b) (arrivals_in g s xs (put g s x b)))
      (build_edge xs (put g s x b) (refs ++ (arrival_of g s x b ∷ [])) o.2 (put_edge x xs b refs o t))

-- ---- one cycle

-- the next state and the registers that a state's references read, in a cycle that starts with the registers rs
abbrev pub StateReads : CFG → State → ℕ → List ℕ → ℕ → List ℕ → Type 0
StateReads g q sampled rs v qs = Reads g.registers (drop g.registers rs) (worked sampled rs q.wires) q.next q.next_registers v qs

-- the graph's run from block b with rs comes in `steps` steps to `reached`, where it arrives at a starter or has halted, and not before;
-- and the references of state k read that place's state and those registers, its wires go over where one of the blocks has,
-- and as many of its arrivals read nonzero as the run has steps
pub record CycleAgrees (g : CFG) (s : Groups) (sampled : ℕ) (rs : List ℕ) (k b : ℕ) : Type 0 where
  pub reached : Moved
  pub steps : ℕ
  pub trace : Trace g s.starters sampled b rs steps reached
  pub leaving : leaves s reached.place ≡ true
  pub counted : nonzero (worked sampled rs (state_made g s k).wires) (arrivals_in g s (order g s k) nothing) ≡ steps
  pub state : StateReads g (state_made g s k) sampled rs (next_state_of s reached.place) reached.registers
  pub raised : wires_over sampled rs (state_made g s k).wires ≡ reached.over

state_is : (g : CFG) (s : Groups) (k : ℕ) (xs : List ℕ) → order g s k ≡ xs
    → let z = build g s xs nothing in
    let p = close_state s (towards (leaves s) z.edges) z.wires in
    state_made g s k ≡ record { wires = p.wires; next = p.arrival; next_registers = p.values }
unfolding state_made
state_is g s k xs h = rw h

pub cycle_agrees : (g : CFG) (s : Groups) (sampled : ℕ) (rs : List ℕ) → length rs ≡ max_registers → GraphFits g → (k b : ℕ) → StateOrder g s k b → CycleAgrees g s sampled rs k b
unfolding build
cycle_agrees g s sampled rs size f k b h =
    let R = g.registers in
    let xs = h.others in
    let t = build_edge g s sampled rs size f b xs (put g s b nothing) (arrival_of g s b nothing ∷ []) h.ordered (first_edge g s sampled rs size f b xs h.starter h.ahead) in
    let z = build g s xs (put g s b nothing) in
    let l = towards_none s t.reached.place t.onward in
    record {
      reached = t.reached;
      steps = t.steps;
      trace = t.trace;
      leaving = l;
      counted = rw (state_is g s k (b ∷ xs) h.order_is, h.order_is, arrivals_cons g s b xs nothing)
          (counted_grow (close_state_grow sampled rs size R s (towards (leaves s) z.edges) z.wires) t.counted).count;
      raised = rw (state_is g s k (b ∷ xs) h.order_is) (grown_over sampled rs (close_state_grown s (towards (leaves s) z.edges) z.wires) ∙ t.raised);
      state = rw (state_is g s k (b ∷ xs) h.order_is) (close_state_one sampled rs size R s (towards (leaves s) z.edges) z.wires t.reached
          (one_towards R (drop R rs) (worked sampled rs z.wires) (leaves s) t.reached z.edges l t.taken));
    }

-- the run has at least one step, and at most as many as the state has blocks
pub cycle_some : {g : CFG} {s : Groups} {sampled : ℕ} {rs : List ℕ} {k b : ℕ} → (c : CycleAgrees g s sampled rs k b) → 1 ≤ c.steps
cycle_some c = trace_some c.trace

pub cycle_few : {g : CFG} {s : Groups} {sampled : ℕ} {rs : List ℕ} {k b : ℕ} → (c : CycleAgrees g s sampled rs k b) → c.steps ≤ length (order g s k)
cycle_few {g} {s} {sampled} {rs} {k} c =
    let refs = arrivals_in g s (order g s k) nothing in
    let n = c.counted in
    omega (arith, length_only (λ x. not (eqb (at (worked sampled rs (state_made g s k).wires) x) 0)) refs, arrivals_length g s (order g s k) nothing)
