-- Of the edges that lead to no placed block, one is taken and the others are not. What joins, blocks and exits do to that. Assumes nothing.
use Prim.Native.Nat.{ℕ, suc, ◌+◌, ◌≤◌, ◌<◌}
use mathlib.Core.Path.{◌≡◌, refl, ap, ◌∙◌}
use mathlib.Core.Logic.{◌⊎◌, inl, inr}
use mathlib.Core.Bool.{Bool, true, false, not, ◌&&◌, ◌||◌, or-false}
use mathlib.Core.List.{List, [], ◌∷◌, ◌++◌}
use lib.ListN.{length, drop}
use Rattle.word.specs.Word.{choose, truth}
use Rattle.runs.specs.Lists.{keep}
use Rattle.runs.specs.Runs.{Place, standing, Moved}
use Rattle.cfg.specs.declared.Instruction.{Instruction}
use Rattle.cfg.specs.declared.Condition.{Condition}
use Rattle.cfg.specs.declared.Ending.{Ending}
use Rattle.cfg.specs.declared.Ending.TheVariants.{Goto, Ite, Halt}
use Rattle.cfg.specs.declared.Block.{Block}
use Rattle.cfg.specs.Graph.{instructions_of, execute_all, instructions_over, holds, leave, run_block}
use Rattle.fsmd.specs.Layout.{max_registers}
use Rattle.fsmd.specs.declared.Wire.{Wire}
use Rattle.fsmd.specs.Machine.{worked}
use Rattle.grouping.specs.Grouping.{Groups}
use Rattle.state.specs.Wires.{set_wire, Edge, BlockBuild, StateBuild, fresh, join, joins, arrive}
use Rattle.state.specs.Wires.{assign, assigns, edge, close, towards, after, exit, exits, close_state, next_state_of}
use Rattle.synthesis.proofs.GraphFacts.{ValidCode, Compares, BlockFits}
use Rattle.synthesis.proofs.WireValues.{set_value}
use Rattle.synthesis.proofs.Environments.{at, worked_append, worked_nil, worked_cons, Grows, grows_refl, grows_trans, wires_grow}
use Rattle.synthesis.proofs.AddedWires.{close_state_grown}
use Rattle.synthesis.proofs.ArrivalsCounted.{Counted, counted_grow, counted_more}
use Rattle.synthesis.proofs.Readings.{Reads, reads_grow, reads_put, reads_ite, reads_exit, PointReads, fresh_is, assign_reads, join_reads, start_reads}

-- in the environment E, for R registers
module _ (R : ℕ) (high : List ℕ) (E : List ℕ) where
  -- an edge that is not taken, and one that is, along which the graph comes to c
  abbrev pub NotTaken : Edge → Type 0
  NotTaken e = (q : List ℕ) × Reads R high E e.taken e.values 0 q

  abbrev pub Taken : Moved → Edge → Type 0
  Taken c e = (e.target ≡ c.place) × Reads R high E e.taken e.values 1 c.registers

  abbrev pub NoneTaken : List Edge → Type 0
  NoneTaken [] = Unit {0}
  NoneTaken (e ∷ es) = NotTaken e × NoneTaken es

  abbrev pub OneTaken : Moved → List Edge → Type 0
  OneTaken c [] = ⊥
  OneTaken c (e ∷ es) = (Taken c e × NoneTaken es) ⊎ (NotTaken e × OneTaken c es)

module _ (R : ℕ) (high : List ℕ) (E : List ℕ) where
  pub none_grow : (E' : List ℕ) → Grows E E' → (es : List Edge) → NoneTaken R high E es → NoneTaken R high E' es
  none_grow E' g [] n = tt
  none_grow E' g (e ∷ es) n = ((n.0.0, reads_grow E E' g n.0.1), none_grow E' g es n.1)

  pub one_grow : (E' : List ℕ) → Grows E E' → (c : Moved) (es : List Edge) → OneTaken R high E c es → OneTaken R high E' c es
  one_grow E' g c [] o = absurd o
  one_grow E' g c (e ∷ es) (inl o) = inl ((o.0.0, reads_grow E E' g o.0.1), none_grow E' g es o.1)
  one_grow E' g c (e ∷ es) (inr o) = inr ((o.0.0, reads_grow E E' g o.0.1), one_grow E' g c es o.1)

  none_append : (xs ys : List Edge) → NoneTaken R high E xs → NoneTaken R high E ys → NoneTaken R high E (xs ++ ys)
  none_append [] ys a b = b
  none_append (e ∷ xs) ys a b = (a.0, none_append xs ys a.1 b)

  one_none : (c : Moved) (xs ys : List Edge) → OneTaken R high E c xs → NoneTaken R high E ys → OneTaken R high E c (xs ++ ys)
  one_none c [] ys a b = absurd a
  one_none c (e ∷ xs) ys (inl a) b = inl (a.0, none_append xs ys a.1 b)
  one_none c (e ∷ xs) ys (inr a) b = inr (a.0, one_none c xs ys a.1 b)

  none_one : (c : Moved) (xs ys : List Edge) → NoneTaken R high E xs → OneTaken R high E c ys → OneTaken R high E c (xs ++ ys)
  none_one c [] ys a b = b
  none_one c (e ∷ xs) ys a b = inr (a.0, none_one c xs ys a.1 b)

  none_keep : (b : Bool) (e : Edge) (es : List Edge) → NotTaken R high E e → NoneTaken R high E es → NoneTaken R high E (keep b e es)
  none_keep true e es o n = (o, n)
  none_keep false e es o n = n

  one_keep : (b : Bool) (e : Edge) (c : Moved) (es : List Edge) → NotTaken R high E e → OneTaken R high E c es → OneTaken R high E c (keep b e es)
  one_keep true e c es o n = inr (o, n)
  one_keep false e c es o n = n

  pub none_towards : (p : Place → Bool) (es : List Edge) → NoneTaken R high E es → NoneTaken R high E (towards p es)
  none_towards p [] n = tt
  none_towards p (e ∷ es) n = none_keep (p e.target) e (towards p es) n.0 (none_towards p es n.1)

  -- a test that the taken edge passes keeps it, and one that it does not pass leaves none
  pub one_towards : (p : Place → Bool) (c : Moved) (es : List Edge) → p c.place ≡ true → OneTaken R high E c es → OneTaken R high E c (towards p es)
  one_towards p c [] h o = absurd o
  one_towards p c (e ∷ es) h (inl o) = rw (ap p o.0.0 ∙ h) (inl (o.0, none_towards p es o.1))
  one_towards p c (e ∷ es) h (inr o) = one_keep (p e.target) e c (towards p es) o.0 (one_towards p c es h o.1)

  pub one_away : (p : Place → Bool) (c : Moved) (es : List Edge) → p c.place ≡ false → OneTaken R high E c es → NoneTaken R high E (towards p es)
  one_away p c [] h o = absurd o
  one_away p c (e ∷ es) h (inl o) = rw (ap p o.0.0 ∙ h) (none_towards p es o.1)
  one_away p c (e ∷ es) h (inr o) = none_keep (p e.target) e (towards p es) o.0 (one_away p c es h o.1)

-- ---- a block's arrival and body

module _ (sampled : ℕ) (rs : List ℕ) (size : length rs ≡ max_registers) (R : ℕ) where
  join_grow : (e : Edge) (p : BlockBuild) → Grows (worked sampled rs p.wires) (worked sampled rs (join e p).wires)
  unfolding join
  join_grow e p = wires_grow sampled rs p.wires _

  joins_grow : (es : List Edge) (p : BlockBuild) → Grows (worked sampled rs p.wires) (worked sampled rs (joins es p).wires)
  unfolding joins
  joins_grow [] p = grows_refl (worked sampled rs p.wires)
  joins_grow (e ∷ es) p =
      grows_trans (worked sampled rs p.wires) (worked sampled rs (join e p).wires) (worked sampled rs (joins es (join e p)).wires) (join_grow e p) (joins_grow es (join e p))

  join_none : (e : Edge) (p : BlockBuild) (s : Bool) {q : List ℕ} → NotTaken R (drop R rs) (worked sampled rs p.wires) e → PointReads sampled rs R p (truth s) q
      → PointReads sampled rs R (join e p) (truth s) q
  join_none e p s {q} o l = rw (or-false s) at (join_reads sampled rs size R e p s false l o.1)

  joins_none : (es : List Edge) (p : BlockBuild) (s : Bool) {q : List ℕ} → NoneTaken R (drop R rs) (worked sampled rs p.wires) es → PointReads sampled rs R p (truth s) q
      → PointReads sampled rs R (joins es p) (truth s) q
  unfolding joins
  joins_none [] p s n l = l
  joins_none (e ∷ es) p s n l =
      joins_none es (join e p) s (none_grow R (drop R rs) (worked sampled rs p.wires) (worked sampled rs (join e p).wires) (join_grow e p) es n.1) (join_none e p s n.0 l)

  joins_one : (es : List Edge) (p : BlockBuild) (c : Moved) {q : List ℕ} → OneTaken R (drop R rs) (worked sampled rs p.wires) c es → PointReads sampled rs R p 0 q
      → PointReads sampled rs R (joins es p) 1 c.registers
  unfolding joins
  joins_one [] p c o l = absurd o
  joins_one (e ∷ es) p c (inl o) l =
      joins_none es (join e p) true (none_grow R (drop R rs) (worked sampled rs p.wires) (worked sampled rs (join e p).wires) (join_grow e p) es o.1)
      (join_reads sampled rs size R e p false true l o.0.1)
  joins_one (e ∷ es) p c (inr o) l =
      joins_one es (join e p) c (one_grow R (drop R rs) (worked sampled rs p.wires) (worked sampled rs (join e p).wires) (join_grow e p) c es o.1) (join_none e p false o.0 l)

  pub arrive_grow : (es : List Edge) (ws : List Wire) → Grows (worked sampled rs ws) (worked sampled rs (arrive R es ws).wires)
  unfolding arrive
  arrive_grow [] ws = wires_grow sampled rs ws (set_wire 0 ∷ [])
  arrive_grow (e ∷ es) ws = joins_grow es (record { arrival = e.taken; values = e.values; wires = ws })

  pub arrive_none : R ≤ max_registers → (es : List Edge) (ws : List Wire) → NoneTaken R (drop R rs) (worked sampled rs ws) es → (q : List ℕ) × PointReads sampled rs R (arrive R es ws) 0 q
  unfolding arrive
  arrive_none r [] ws n = (rs, start_reads sampled rs size R ws 0 r)
  arrive_none r (e ∷ es) ws n = (n.0.0, joins_none es (record { arrival = e.taken; values = e.values; wires = ws }) false n.1 n.0.1)

  pub arrive_one : (es : List Edge) (ws : List Wire) (c : Moved) → OneTaken R (drop R rs) (worked sampled rs ws) c es → PointReads sampled rs R (arrive R es ws) 1 c.registers
  unfolding arrive
  arrive_one [] ws c o = absurd o
  arrive_one (e ∷ es) ws c (inl o) = joins_none es (record { arrival = e.taken; values = e.values; wires = ws }) true o.1 o.0.1
  arrive_one (e ∷ es) ws c (inr o) = joins_one es (record { arrival = e.taken; values = e.values; wires = ws }) c o.1 o.0.1

  assign_grow : (i : Instruction) (p : BlockBuild) → Grows (worked sampled rs p.wires) (worked sampled rs (assign i p).wires)
  unfolding assign
  assign_grow i p = wires_grow sampled rs p.wires _

  assigns_grow : (is : List Instruction) (p : BlockBuild) → Grows (worked sampled rs p.wires) (worked sampled rs (assigns is p).wires)
  unfolding assigns
  assigns_grow [] p = grows_refl (worked sampled rs p.wires)
  assigns_grow (i ∷ is) p =
      grows_trans (worked sampled rs p.wires) (worked sampled rs (assign i p).wires) (worked sampled rs (assigns is (assign i p)).wires) (assign_grow i p) (assigns_grow is (assign i p))

  assigns_reads : (is : List Instruction) (p : BlockBuild) {v : ℕ} {q : List ℕ} → ValidCode R is → PointReads sampled rs R p v q → PointReads sampled rs R (assigns is p) v (execute_all sampled is q)
  unfolding assigns execute_all
  assigns_reads [] p f l = l
  assigns_reads (i ∷ is) p f l = assigns_reads is (assign i p) f.1 (assign_reads sampled rs size R i p f.0 l)

  -- ---- a block's ending

  close_grow : (e : Ending) (p : BlockBuild) → Grows (worked sampled rs p.wires) (worked sampled rs (close e p).wires)
  unfolding close
  close_grow (Goto t) p = grows_refl (worked sampled rs p.wires)
  close_grow (Ite c t f) p = wires_grow sampled rs p.wires _
  close_grow Halt p = grows_refl (worked sampled rs p.wires)

  ite_reads : (c : Condition) (t f : ℕ) (p : BlockBuild) (s : Bool) {q : List ℕ} → c.a < R → c.b < R → PointReads sampled rs R p (truth s) q
      → let n = fresh p.wires in
      let E = worked sampled rs (close (Ite c t f) p).wires in
      Reads R (drop R rs) E (1 + n) p.values (truth (s && holds c q)) q × Reads R (drop R rs) E (2 + n) p.values (truth (s && not (holds c q))) q
  unfolding close
  ite_reads c t f p s ha hb l = rw (worked_append sampled rs p.wires, fresh_is sampled rs size p.wires) (reads_ite sampled (worked sampled rs p.wires) c s ha hb l)

  close_none : (e : Ending) (p : BlockBuild) {q : List ℕ} → Compares R e → PointReads sampled rs R p 0 q → NoneTaken R (drop R rs) (worked sampled rs (close e p).wires) (close e p).edges
  unfolding close
  close_none (Goto t) p {q} f l = ((q, l), tt)
  close_none (Ite c t f) p {q} h l = let m = ite_reads c t f p false h.0 h.1 l in ((q, m.0), ((q, m.1), tt))
  close_none Halt p {q} f l = ((q, l), tt)

  ite_one : (E : List ℕ) (b : Bool) (t f t₁ t₂ : ℕ) (p : BlockBuild) (q : List ℕ) (o : Bool) → Reads R (drop R rs) E t₁ p.values (truth b) q
      → Reads R (drop R rs) E t₂ p.values (truth (not b)) q
      → OneTaken R (drop R rs) E (record { place = standing (choose b t f); registers = q; over = o }) (edge (standing t) t₁ p ∷ edge (standing f) t₂ p ∷ [])
  ite_one E true t f t₁ t₂ p q o l m = inl ((refl, l), ((q, m), tt))
  ite_one E false t f t₁ t₂ p q o l m = inr ((q, l), inl ((refl, m), tt))

  close_one : (e : Ending) (p : BlockBuild) (q : List ℕ) (o : Bool) → Compares R e → PointReads sampled rs R p 1 q
      → OneTaken R (drop R rs) (worked sampled rs (close e p).wires) (record { place = leave e q; registers = q; over = o }) (close e p).edges
  unfolding close leave
  close_one (Goto t) p q o f l = inl ((refl, l), tt)
  close_one (Ite c t f) p q o h l =
      let n = fresh p.wires in
      let m = ite_reads c t f p true h.0 h.1 l in
      ite_one (worked sampled rs (close (Ite c t f) p).wires) (holds c q) t f (1 + n) (2 + n) p q o m.0 m.1
  close_one Halt p q o f l = inl ((refl, l), tt)

-- ---- a whole block, with the edges that it leaves alone

-- a block's move after others, of which one has gone over where o says so
abbrev pub followed : Bool → Moved → Moved
followed o m = record { place = m.place; registers = m.registers; over = o || m.over }

abbrev pub block_made : Block → BlockBuild → StateBuild
block_made b p = close b.ending (assigns (instructions_of b) p)

module _ (sampled : ℕ) (rs : List ℕ) (size : length rs ≡ max_registers) (R : ℕ) (b : Block) (f : BlockFits R b) where
  made_grow : (p : BlockBuild) → Grows (worked sampled rs p.wires) (worked sampled rs (block_made b p).wires)
  made_grow p =
      grows_trans (worked sampled rs p.wires) (worked sampled rs (assigns (instructions_of b) p).wires) (worked sampled rs (block_made b p).wires)
      (assigns_grow sampled rs size R (instructions_of b) p) (close_grow sampled rs size R b.ending (assigns (instructions_of b) p))

  -- the taken edge leads to the block: one of the block's own is taken after, whatever has gone over before
  pub made_reached : (p : BlockBuild) (q : List ℕ) (o : Bool) (rest : List Edge) → PointReads sampled rs R p 1 q → NoneTaken R (drop R rs) (worked sampled rs p.wires) rest
      → OneTaken R (drop R rs) (worked sampled rs (after rest (block_made b p)).wires) (followed o (run_block sampled b q)) (after rest (block_made b p)).edges
  unfolding after run_block
  made_reached p q o rest l n =
      let s = o || instructions_over sampled (instructions_of b) q in
      none_one R (drop R rs) (worked sampled rs (block_made b p).wires) (followed o (run_block sampled b q)) rest (block_made b p).edges
      (none_grow R (drop R rs) (worked sampled rs p.wires) (worked sampled rs (block_made b p).wires) (made_grow p) rest n)
      (close_one sampled rs size R b.ending (assigns (instructions_of b) p) (execute_all sampled (instructions_of b) q) s f.ends (assigns_reads sampled rs size R (instructions_of b) p f.body l))

  -- it leads elsewhere: it stays
  pub made_passed : (p : BlockBuild) {q : List ℕ} (c : Moved) (rest : List Edge) → PointReads sampled rs R p 0 q → OneTaken R (drop R rs) (worked sampled rs p.wires) c rest
      → OneTaken R (drop R rs) (worked sampled rs (after rest (block_made b p)).wires) c (after rest (block_made b p)).edges
  unfolding after
  made_passed p c rest l o =
      one_none R (drop R rs) (worked sampled rs (block_made b p).wires) c rest (block_made b p).edges
      (one_grow R (drop R rs) (worked sampled rs p.wires) (worked sampled rs (block_made b p).wires) (made_grow p) c rest o)
      (close_none sampled rs size R b.ending (assigns (instructions_of b) p) f.ends (assigns_reads sampled rs size R (instructions_of b) p f.body l))

  -- the block's arrival reads whether the block is reached
  pub made_counted : (p : BlockBuild) (reached : Bool) (rest : List Edge) {q refs : List ℕ} {n : ℕ} → PointReads sampled rs R p (truth reached) q
      → Counted (worked sampled rs p.wires) refs n
      → Counted (worked sampled rs (after rest (block_made b p)).wires) (refs ++ (p.arrival ∷ [])) (choose reached (suc n) n)
  unfolding after
  made_counted p reached rest l c = counted_grow (made_grow p) (counted_more p.arrival reached c l.low l.reads)

-- ---- the exits

module _ (sampled : ℕ) (rs : List ℕ) (size : length rs ≡ max_registers) (R : ℕ) (s : Groups) where
  exit_grow : (e : Edge) (p : BlockBuild) → Grows (worked sampled rs p.wires) (worked sampled rs (exit s e p).wires)
  unfolding exit
  exit_grow e p = wires_grow sampled rs p.wires _

  exit_reads : (e : Edge) (p : BlockBuild) (b : Bool) {v : ℕ} {q q' : List ℕ} → PointReads sampled rs R p v q
      → Reads R (drop R rs) (worked sampled rs p.wires) e.taken e.values (truth b) q'
      → PointReads sampled rs R (exit s e p) (choose b (next_state_of s e.target) v) (choose b q' q)
  unfolding exit
  exit_reads e p b l m = rw (worked_append sampled rs p.wires, fresh_is sampled rs size p.wires) (reads_exit sampled (worked sampled rs p.wires) (next_state_of s e.target) b l m)

  exits_none : (es : List Edge) (p : BlockBuild) {v : ℕ} {q : List ℕ} → NoneTaken R (drop R rs) (worked sampled rs p.wires) es → PointReads sampled rs R p v q → PointReads sampled rs R (exits s es p) v q
  unfolding exits
  exits_none [] p n l = l
  exits_none (e ∷ es) p n l =
      exits_none es (exit s e p) (none_grow R (drop R rs) (worked sampled rs p.wires) (worked sampled rs (exit s e p).wires) (exit_grow e p) es n.1) (exit_reads e p false l n.0.1)

  exits_one : (es : List Edge) (p : BlockBuild) (c : Moved) {v : ℕ} {q : List ℕ} → OneTaken R (drop R rs) (worked sampled rs p.wires) c es → PointReads sampled rs R p v q
      → PointReads sampled rs R (exits s es p) (next_state_of s c.place) c.registers
  unfolding exits
  exits_one [] p c o l = absurd o
  exits_one (e ∷ es) p c (inl o) l =
      rw (← o.0.0) (exits_none es (exit s e p) (none_grow R (drop R rs) (worked sampled rs p.wires) (worked sampled rs (exit s e p).wires) (exit_grow e p) es o.1)
      (exit_reads e p true l o.0.1))
  exits_one (e ∷ es) p c (inr o) l =
      exits_one es (exit s e p) c (one_grow R (drop R rs) (worked sampled rs p.wires) (worked sampled rs (exit s e p).wires) (exit_grow e p) c es o.1) (exit_reads e p false l o.0.1)

  first_reads : (e : Edge) (ws : List Wire) {v : ℕ} {q : List ℕ} → Reads R (drop R rs) (worked sampled rs ws) e.taken e.values v q
      → Reads R (drop R rs) (worked sampled rs (ws ++ (set_wire (next_state_of s e.target) ∷ []))) (fresh ws) e.values (next_state_of s e.target) q
  first_reads e ws l =
      let k = next_state_of s e.target in
      let E = worked sampled rs ws in
      rw (worked_append sampled rs ws, worked_cons sampled E (set_wire k) [] k (set_value sampled (at E) k), worked_nil, fresh_is sampled rs size ws) (reads_put E k l)

  -- the state's references read the next state and the registers along the taken edge
  pub close_state_one : (es : List Edge) (ws : List Wire) (c : Moved) → OneTaken R (drop R rs) (worked sampled rs ws) c es
      → PointReads sampled rs R (close_state s es ws) (next_state_of s c.place) c.registers
  unfolding close_state
  close_state_one [] ws c o = absurd o
  close_state_one (e ∷ es) ws c (inl o) =
      let v = ws ++ (set_wire (next_state_of s e.target) ∷ []) in
      let p : BlockBuild = record { arrival = fresh ws; values = e.values; wires = v } in
      rw (← o.0.0) (exits_none es p (none_grow R (drop R rs) (worked sampled rs ws) (worked sampled rs v) (wires_grow sampled rs ws (set_wire (next_state_of s e.target) ∷ [])) es o.1)
      (first_reads e ws o.0.1))
  close_state_one (e ∷ es) ws c (inr o) =
      let v = ws ++ (set_wire (next_state_of s e.target) ∷ []) in
      let p : BlockBuild = record { arrival = fresh ws; values = e.values; wires = v } in
      exits_one es p c (one_grow R (drop R rs) (worked sampled rs ws) (worked sampled rs v) (wires_grow sampled rs ws (set_wire (next_state_of s e.target) ∷ [])) c es o.1) (first_reads e ws o.0.1)

  pub close_state_grow : (es : List Edge) (ws : List Wire) → Grows (worked sampled rs ws) (worked sampled rs (close_state s es ws).wires)
  close_state_grow es ws = let c = close_state_grown s es ws in rw c.wires (wires_grow sampled rs ws c.more)
