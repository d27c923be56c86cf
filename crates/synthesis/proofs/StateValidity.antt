-- The states that synthesis makes are valid, and each has a next reference for every register. Assumes nothing.
use Prim.Native.Nat.{ℕ, suc, ◌+◌, ◌≤◌}
use native.Mathlib.Omega.{arith}
use native.Mathlib.Nat.{zero-add}
use mathlib.Core.Path.{◌≡◌, sym, ap, ◌∙◌}
use mathlib.Core.Logic.{inr}
use mathlib.Core.Bool.{Bool, true, false, not, ◌&&◌}
use mathlib.Core.List.{List, [], ◌∷◌, ◌++◌}
use lib.ListN.{length, get_or, length-append, length-set}
use Rattle.word.specs.Word.{comparison_code}
use Rattle.runs.specs.Lists.{up_from, mem, keep, every}
use Rattle.runs.specs.Runs.{Place}
use Rattle.runs.proofs.ListLaws.{length-up_from, and_both}
use Rattle.cfg.specs.declared.Instruction.{Instruction}
use Rattle.cfg.specs.declared.Ending.{Ending}
use Rattle.cfg.specs.declared.Ending.TheVariants.{Goto, Ite, Halt}
use Rattle.cfg.specs.Graph.{CFG, block_of, instructions_of}
use Rattle.cfg.proofs.Admitted.{ValidInstruction}
use Rattle.fsmd.specs.Layout.{max_registers}
use Rattle.fsmd.specs.declared.Wire.{Wire}
use Rattle.fsmd.specs.Table.{valid_reference, valid_wires, valid_state}
use Rattle.grouping.specs.Grouping.{Groups}
use Rattle.placement.specs.Placement.{order}
use Rattle.state.proofs.CloseLaws.{grow_close}
use Rattle.state.proofs.AssignLaws.{grow_assigns}
use Rattle.state.proofs.BlocksLaws.{grow_enter}
use Rattle.state.proofs.JoinLaws.{grow_join}
use Rattle.state.proofs.Selections.{length_selects}
use Rattle.state.specs.Wires.{wire, set_wire, and_wire, or_wire, and_not_wire, select_wire, selects, Edge, BlockBuild, StateBuild, fresh, join, joins, arrive, start_block}
use Rattle.state.specs.Wires.{instruction_wire, assign, assigns, close, leads_to, towards, enter, after, put, build, leaves, next_state_of, exit, exits, close_state, state_made}
use Rattle.synthesis.proofs.GraphFacts.{ValidCode, Compares, BlockFits, GraphFits}
use Rattle.placement.proofs.StateOrder.{StateOrder}
use Rattle.synthesis.proofs.FoundEdges.{exit_found}
use Rattle.synthesis.proofs.WireValidity.{OfWire, References, wire_more, reference_more, references_more, reference_at, references_set, new_references, register_references, reference_valid, references_valid, set_valid, select_valid, two_valid, and_two, or_two, and_not_two, comparison_two, instruction_valid, wires_append, one_wire, cons_wires, no_wires, selects_valid}

-- ---- points, edges and builds

pub record PointValid (R : ℕ) (p : BlockBuild) : Type 0 where
  pub arrives : OfWire (length p.wires) p.arrival
  pub count : length p.values ≡ R
  pub reads : References R (length p.wires) p.values
  pub wired : valid_wires R 0 p.wires ≡ true

-- where the state has n wires so far
pub record EdgeValid (R n : ℕ) (e : Edge) : Type 0 where
  pub takes : OfWire n e.taken
  pub count : length e.values ≡ R
  pub reads : References R n e.values

abbrev pub EdgesValid : ℕ → ℕ → List Edge → Type 0
EdgesValid R n [] = Unit {0}
EdgesValid R n (e ∷ es) = EdgeValid R n e × EdgesValid R n es

pub record BuildValid (R : ℕ) (b : StateBuild) : Type 0 where
  pub wired : valid_wires R 0 b.wires ≡ true
  pub joined : EdgesValid R (length b.wires) b.edges

edges_more : (R n m : ℕ) (es : List Edge) → n ≤ m → EdgesValid R n es → EdgesValid R m es
edges_more R n m [] h a = tt
edges_more R n m (e ∷ es) h a = (
  record { takes = wire_more n m e.taken h a.0.takes; count = a.0.count; reads = references_more R n m e.values h a.0.reads },
  edges_more R n m es h a.1,
)

edges_append : (R n : ℕ) (es fs : List Edge) → EdgesValid R n es → EdgesValid R n fs → EdgesValid R n (es ++ fs)
edges_append R n [] fs a b = b
edges_append R n (e ∷ es) fs a b = (a.0, edges_append R n es fs a.1 b)

pub edges_towards : (R n : ℕ) (p : Place → Bool) (es : List Edge) → EdgesValid R n es → EdgesValid R n (towards p es)
edges_towards R n p [] a = tt
edges_towards R n p (e ∷ es) a = go (p e.target) (edges_towards R n p es a.1)
  where
    go : (b : Bool) → EdgesValid R n (towards p es) → EdgesValid R n (keep b e (towards p es))
    go true ih = (a.0, ih)
    go false ih = ih

-- ---- each step of the builder

join_valid : (R : ℕ) (e : Edge) (p : BlockBuild) → EdgeValid R (length p.wires) e → PointValid R p → PointValid R (join e p)
unfolding join
join_valid R e p a b =
    let n = length p.wires in
    let new = or_wire p.arrival e.taken ∷ selects e.taken e.values p.values in
    let l : length (p.wires ++ new) ≡ n + suc (length e.values) =
    length-append p.wires new ∙ ap (λ (k : ℕ). n + suc k) (length_selects e.taken e.values p.values (a.count ∙ sym b.count)) in
    record {
      arrives = (omega arith, omega arith);
      count = length-up_from (suc (max_registers + n)) (length e.values) ∙ a.count;
      reads = new_references R (length (p.wires ++ new)) (suc (max_registers + n)) (length e.values) (omega arith) (omega arith);
      wired = wires_append R 0 p.wires new b.wired (rw zero-add (cons_wires R n (or_wire p.arrival e.taken) (selects e.taken e.values p.values)
          (two_valid R n 6 p.arrival e.taken or_two (inr b.arrives) (inr a.takes))
          (selects_valid R n (suc n) e.taken e.values p.values (omega arith) (inr a.takes) a.reads b.reads)));
    }

joins_valid : (R : ℕ) (es : List Edge) (p : BlockBuild) → EdgesValid R (length p.wires) es → PointValid R p → PointValid R (joins es p)
unfolding joins
joins_valid R [] p a b = b
joins_valid R (e ∷ es) p a b =
    joins_valid R es (join e p) (edges_more R (length p.wires) (length (join e p).wires) es (grow_join e p) a.1) (join_valid R e p a.0 b)

-- a `set` and the start values
set_point : (R : ℕ) (ws : List Wire) (k : ℕ) → valid_wires R 0 ws ≡ true → PointValid R (record { arrival = fresh ws; values = up_from 0 R; wires = ws ++ (set_wire k ∷ []) })
set_point R ws k a =
    let l = length-append ws (set_wire k ∷ []) in
    record {
      arrives = (omega arith, omega arith);
      count = length-up_from 0 R;
      reads = register_references R (length (ws ++ (set_wire k ∷ []))) 0 R (omega arith);
      wired = one_wire R 0 ws (set_wire k) a (set_valid R (0 + length ws) k);
    }

arrive_valid : (R : ℕ) (es : List Edge) (ws : List Wire) → EdgesValid R (length ws) es → valid_wires R 0 ws ≡ true → PointValid R (arrive R es ws)
unfolding arrive
arrive_valid R [] ws a b = set_point R ws 0 b
arrive_valid R (e ∷ es) ws a b =
    joins_valid R es (record { arrival = e.taken; values = e.values; wires = ws }) a.1
    (record { arrives = a.0.takes; count = a.0.count; reads = a.0.reads; wired = b })

pub enter_valid : (R : ℕ) (c : Bool) (x : ℕ) (b : StateBuild) → BuildValid R b → PointValid R (enter R c x b)
unfolding enter start_block
enter_valid R true x b v = set_point R b.wires 1 v.wired
enter_valid R false x b v =
    arrive_valid R (towards (leads_to x) b.edges) b.wires (edges_towards R (length b.wires) (leads_to x) b.edges v.joined) v.wired

assign_valid : (R : ℕ) (i : Instruction) (p : BlockBuild) → ValidInstruction R i → PointValid R p → PointValid R (assign i p)
unfolding assign
assign_valid R i p v a =
    let n = length p.wires in
    let w = instruction_wire (λ r. get_or p.values r 0) p.arrival i in
    let m = length (p.wires ++ (w ∷ [])) in
    let l : m ≡ n + 1 = length-append p.wires (w ∷ []) in
    record {
      arrives = wire_more n m p.arrival (omega arith) a.arrives;
      count = length-set p.values i.d (fresh p.wires) ∙ a.count;
      reads = references_set R m p.values i.d (fresh p.wires) (references_more R n m p.values (omega arith) a.reads) (inr (omega arith, omega arith));
      wired = one_wire R 0 p.wires w a.wired (rw zero-add (instruction_valid R n p.values p.arrival i a.count a.reads (inr a.arrives) v));
    }

assigns_valid : (R : ℕ) (is : List Instruction) (p : BlockBuild) → ValidCode R is → PointValid R p → PointValid R (assigns is p)
unfolding assigns
assigns_valid R [] p f a = a
assigns_valid R (i ∷ is) p f a = assigns_valid R is (assign i p) f.1 (assign_valid R i p f.0 a)

close_valid : (R : ℕ) (e : Ending) (p : BlockBuild) → Compares R e → PointValid R p → BuildValid R (close e p)
unfolding close
close_valid R (Goto t) p f a = record { wired = a.wired; joined = (record { takes = a.arrives; count = a.count; reads = a.reads }, tt) }
close_valid R (Ite c t f) p h a =
    let n = length p.wires in
    let x = max_registers + n in
    let w = wire (comparison_code c.comparison) (get_or p.values c.a 0) (get_or p.values c.b 0) 0 in
    let new = w ∷ and_wire p.arrival x ∷ and_not_wire p.arrival x ∷ [] in
    let m = length (p.wires ++ new) in
    let l : m ≡ n + 3 = length-append p.wires new in
    let v = references_more R n m p.values (omega arith) a.reads in
    let k = a.count in
    let ha = h.0 in
    let hb = h.1 in
    record {
      wired = wires_append R 0 p.wires new a.wired (rw zero-add (
          cons_wires R n w (and_wire p.arrival x ∷ and_not_wire p.arrival x ∷ [])
          (two_valid R n (comparison_code c.comparison) (get_or p.values c.a 0) (get_or p.values c.b 0) (comparison_two c.comparison)
          (reference_at R n p.values c.a a.reads (omega arith)) (reference_at R n p.values c.b a.reads (omega arith)))
          (cons_wires R (suc n) (and_wire p.arrival x) (and_not_wire p.arrival x ∷ [])
          (two_valid R (suc n) 5 p.arrival x and_two (reference_more R n (suc n) p.arrival (omega arith) (inr a.arrives)) (inr (omega arith, omega arith)))
          (cons_wires R (suc (suc n)) (and_not_wire p.arrival x) []
          (two_valid R (suc (suc n)) 18 p.arrival x and_not_two (reference_more R n (suc (suc n)) p.arrival (omega arith) (inr a.arrives)) (inr (omega arith, omega arith)))
          (no_wires R (suc (suc (suc n))))))));
      joined = (record { takes = (omega arith, omega arith); count = a.count; reads = v }, (record { takes = (omega arith, omega arith); count = a.count; reads = v }, tt));
    }
close_valid R Halt p f a = record { wired = a.wired; joined = (record { takes = a.arrives; count = a.count; reads = a.reads }, tt) }

pub put_valid : (g : CFG) (s : Groups) (x : ℕ) (b : StateBuild) → BlockFits g.registers (block_of g x) → BuildValid g.registers b → BuildValid g.registers (put g s x b)
unfolding put after
put_valid g s x b f v =
    let R = g.registers in
    let p = enter R (mem x s.starters) x b in
    let q = assigns (instructions_of (block_of g x)) p in
    let z = close (block_of g x).ending q in
    let rest = towards (λ p. not (leads_to x p)) b.edges in
    let e = close_valid R (block_of g x).ending q f.ends (assigns_valid R (instructions_of (block_of g x)) p f.body (enter_valid R (mem x s.starters) x b v)) in
    record {
      wired = e.wired;
      joined = edges_append R (length z.wires) rest z.edges
          (edges_more R (length b.wires) (length z.wires) rest
          (omega (arith, grow_enter R (mem x s.starters) x b, grow_assigns (instructions_of (block_of g x)) p, grow_close (block_of g x).ending q))
          (edges_towards R (length b.wires) (λ p. not (leads_to x p)) b.edges v.joined))
          e.joined;
    }

pub build_valid : (g : CFG) (s : Groups) → GraphFits g → (xs : List ℕ) (b : StateBuild) → BuildValid g.registers b → BuildValid g.registers (build g s xs b)
unfolding build
build_valid g s f [] b v = v
build_valid g s f (x ∷ xs) b v = build_valid g s f xs (put g s x b) (put_valid g s x b (f.block x) v)

pub empty_valid : (R : ℕ) → BuildValid R (record { wires = []; edges = [] })
empty_valid R = record { wired = no_wires R 0; joined = tt }

-- ---- the exits

exit_valid : (R : ℕ) (s : Groups) (e : Edge) (p : BlockBuild) → EdgeValid R (length p.wires) e → PointValid R p → PointValid R (exit s e p)
unfolding exit
exit_valid R s e p a b =
    let n = length p.wires in
    let k = next_state_of s e.target in
    let w = select_wire e.taken (max_registers + n) p.arrival in
    let more = selects e.taken e.values p.values in
    let new = set_wire k ∷ w ∷ more in
    let l : length (p.wires ++ new) ≡ n + suc (suc (length e.values)) =
    length-append p.wires new ∙ ap (λ (k : ℕ). n + suc (suc k)) (length_selects e.taken e.values p.values (a.count ∙ sym b.count)) in
    record {
      arrives = (omega arith, omega arith);
      count = length-up_from (2 + (max_registers + n)) (length e.values) ∙ a.count;
      reads = new_references R (length (p.wires ++ new)) (2 + (max_registers + n)) (length e.values) (omega arith) (omega arith);
      wired = wires_append R 0 p.wires new b.wired (rw zero-add (
          cons_wires R n (set_wire k) (w ∷ more) (set_valid R n k)
          (cons_wires R (suc n) w more
          (select_valid R (suc n) e.taken (max_registers + n) p.arrival (reference_more R n (suc n) e.taken (omega arith) (inr a.takes))
          (inr (omega arith, omega arith)) (reference_more R n (suc n) p.arrival (omega arith) (inr b.arrives)))
          (selects_valid R n (suc (suc n)) e.taken e.values p.values (omega arith) (inr a.takes) a.reads b.reads))));
    }

exit_more : (s : Groups) (e : Edge) (p : BlockBuild) → length p.wires ≤ length (exit s e p).wires
unfolding exit
exit_more s e p =
    omega (arith, length-append p.wires (set_wire (next_state_of s e.target) ∷ select_wire e.taken (fresh p.wires) p.arrival ∷ selects e.taken e.values p.values))

exits_valid : (R : ℕ) (s : Groups) (es : List Edge) (p : BlockBuild) → EdgesValid R (length p.wires) es → PointValid R p → PointValid R (exits s es p)
unfolding exits
exits_valid R s [] p a b = b
exits_valid R s (e ∷ es) p a b =
    exits_valid R s es (exit s e p) (edges_more R (length p.wires) (length (exit s e p).wires) es (exit_more s e p) a.1) (exit_valid R s e p a.0 b)

close_state_valid : (R : ℕ) (s : Groups) (e : Edge) (es : List Edge) (ws : List Wire) → EdgesValid R (length ws) (e ∷ es) → valid_wires R 0 ws ≡ true
    → PointValid R (close_state s (e ∷ es) ws)
unfolding close_state
close_state_valid R s e es ws a b =
    let w = set_wire (next_state_of s e.target) in
    let v = ws ++ (w ∷ []) in
    let l : length v ≡ length ws + 1 = length-append ws (w ∷ []) in
    exits_valid R s es (record { arrival = fresh ws; values = e.values; wires = v }) (edges_more R (length ws) (length v) es (omega arith) a.1)
    (record {
      arrives = (omega arith, omega arith);
      count = a.0.count;
      reads = references_more R (length ws) (length v) e.values (omega arith) a.0.reads;
      wired = one_wire R 0 ws w b (set_valid R (0 + length ws) (next_state_of s e.target));
    })

-- ---- a state

pub record StateValid (g : CFG) (s : Groups) (k : ℕ) : Type 0 where
  pub valid : valid_state g.registers (state_made g s k) ≡ true
  pub registers : length (state_made g s k).next_registers ≡ g.registers

pub state_valid : (g : CFG) (s : Groups) (k y : ℕ) → GraphFits g → StateOrder g s k y → StateValid g s k
unfolding state_made valid_state
state_valid g s k y f o =
    let R = g.registers in
    let b = build g s (order g s k) (record { wires = []; edges = [] }) in
    let v = build_valid g s f (order g s k) (record { wires = []; edges = [] }) (empty_valid R) in
    let t = exit_found g s k y o in
    let a : EdgesValid R (length b.wires) (t.0 ∷ t.1) = rw t.2 at (edges_towards R (length b.wires) (leaves s) b.edges v.joined) in
    let p : PointValid R (close_state s (towards (leaves s) b.edges) b.wires) = rw t.2 (close_state_valid R s t.0 t.1 b.wires a v.wired) in
    let q = close_state s (towards (leaves s) b.edges) b.wires in
    let n = length q.wires in
    record {
      valid = and_both (valid_wires R 0 q.wires && valid_reference R n q.arrival) (every (valid_reference R n) q.values)
          (and_both (valid_wires R 0 q.wires) (valid_reference R n q.arrival) p.wired (reference_valid R n q.arrival (inr p.arrives)))
          (references_valid R n q.values p.reads);
      registers = p.count;
    }
