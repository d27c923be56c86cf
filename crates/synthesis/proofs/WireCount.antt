-- How many wires synthesis makes: at most 48 for each block, 3,072 in all. Assumes nothing.
use Prim.Native.Nat.{ℕ, zero, suc, ◌+◌, ◌*◌, ◌≤◌}
use native.Mathlib.Omega.{arith}
use mathlib.Core.Path.{◌≡◌, refl}
use mathlib.Core.Bool.{Bool, true, false, not}
use mathlib.Core.List.{List, [], ◌∷◌, ◌++◌, map}
use lib.ListN.{length, get_or, length-append}
use lib.Dec.{eqb, leb}
use borrow.Author.Tests.{le-leb, lt-leb, leb-true, eqb-true}
use Rattle.word.specs.Word.{comparison_code}
use Rattle.runs.specs.Lists.{up_from, mem, keep, only}
use Rattle.runs.specs.Runs.{Place}
use Rattle.runs.proofs.ListLaws.{length-up_from, length_only}
use Rattle.cfg.specs.declared.Instruction.{Instruction}
use Rattle.cfg.specs.declared.Ending.{Ending}
use Rattle.cfg.specs.declared.Ending.TheVariants.{Goto, Ite, Halt}
use Rattle.cfg.specs.Graph.{CFG, block_of, instructions_of}
use Rattle.fsmd.specs.declared.Wire.{Wire}
use Rattle.fsmd.specs.Machine.{wire_count}
use Rattle.fsmd.specs.Layout.{max_registers, max_wires, absent}
use Rattle.grouping.specs.Grouping.{Groups}
use Rattle.placement.specs.Placement.{members, order}
use Rattle.synthesis.specs.Synthesis.{machine_for}
use Rattle.state.proofs.Selections.{selects_short}
use Rattle.state.specs.Wires.{wire, set_wire, and_wire, or_wire, and_not_wire, select_wire, selects, Edge, BlockBuild, StateBuild, fresh, join, joins, arrive, start_block}
use Rattle.state.specs.Wires.{instruction_wire, assign, assigns, close, leads_to, towards, enter, after, put, build, leaves, next_state_of, exit, exits, close_state, state_made}
use Rattle.synthesis.proofs.GraphFacts.{GraphFits}
use Rattle.placement.proofs.PlacementLaws.{order_length}
use Rattle.synthesis.proofs.StateValidity.{EdgesValid, BuildValid, edges_towards, put_valid, build_valid, empty_valid}

-- edges of at most 16 registers
abbrev Narrow : List Edge → Type 0
Narrow [] = Unit {0}
Narrow (e ∷ es) = (length e.values ≤ max_registers) × Narrow es

narrow_valid : (R n : ℕ) (es : List Edge) → R ≤ max_registers → EdgesValid R n es → Narrow es
narrow_valid R n [] r a = tt
narrow_valid R n (e ∷ es) r a = (let c = a.0.count in omega arith, narrow_valid R n es r a.1)

narrow_towards : (p : Place → Bool) (es : List Edge) → Narrow es → Narrow (towards p es)
narrow_towards p [] h = tt
narrow_towards p (e ∷ es) h = go (p e.target) (narrow_towards p es h.1)
  where
    go : (b : Bool) → Narrow (towards p es) → Narrow (keep b e (towards p es))
    go true ih = (h.0, ih)
    go false ih = ih

-- each edge goes one way
parted : (p : Place → Bool) (es : List Edge) → length (towards p es) + length (towards (λ q. not (p q)) es) ≡ length es
parted p [] = omega arith
parted p (e ∷ es) = go (p e.target) (parted p es)
  where
    go : (b : Bool) → length (towards p es) + length (towards (λ q. not (p q)) es) ≡ length es
        → length (keep b e (towards p es)) + length (keep (not b) e (towards (λ q. not (p q)) es)) ≡ suc (length es)
    go true ih = omega arith
    go false ih = omega arith

-- ---- a block: 1 for the starter's `set`, 8 for instructions, 3 for an ite, and 18 for each edge out of it, paid before it is joined or left

join_count : (e : Edge) (p : BlockBuild) → length e.values ≤ max_registers → length (join e p).wires ≤ length p.wires + 17
unfolding join
join_count e p h =
    omega (arith, length-append p.wires (or_wire p.arrival e.taken ∷ selects e.taken e.values p.values), selects_short e.taken e.values p.values)

joins_count : (es : List Edge) (p : BlockBuild) → Narrow es → length (joins es p).wires ≤ length p.wires + 18 * length es
unfolding joins
joins_count [] p h = omega arith
joins_count (e ∷ es) p h = omega (arith, join_count e p h.0, joins_count es (join e p) h.1)

arrive_count : (R : ℕ) (es : List Edge) (ws : List Wire) → Narrow es → length (arrive R es ws).wires ≤ length ws + 18 * length es + 1
unfolding arrive
arrive_count R [] ws h = omega (arith, length-append ws (set_wire 0 ∷ []))
arrive_count R (e ∷ es) ws h = omega (arith, joins_count es (record { arrival = e.taken; values = e.values; wires = ws }) h.1)

enter_count : (R : ℕ) (c : Bool) (x : ℕ) (b : StateBuild) → Narrow b.edges
    → length (enter R c x b).wires + 18 * length (towards (λ p. not (leads_to x p)) b.edges) ≤ length b.wires + 18 * length b.edges + 1
unfolding enter start_block
enter_count R true x b h = omega (arith, length-append b.wires (set_wire 1 ∷ []), parted (leads_to x) b.edges)
enter_count R false x b h =
    omega (arith, arrive_count R (towards (leads_to x) b.edges) b.wires (narrow_towards (leads_to x) b.edges h), parted (leads_to x) b.edges)

assigns_count : (is : List Instruction) (p : BlockBuild) → length (assigns is p).wires ≡ length p.wires + length is
unfolding assigns assign
assigns_count [] p = omega arith
assigns_count (i ∷ is) p = omega (arith, length-append p.wires (instruction_wire (λ r. get_or p.values r 0) p.arrival i ∷ []), assigns_count is (assign i p))

close_count : (e : Ending) (p : BlockBuild) → length (close e p).wires + 18 * length (close e p).edges ≤ length p.wires + 39
unfolding close
close_count (Goto t) p = omega arith
close_count (Ite c t f) p =
    omega (
      arith,
      length-append p.wires (wire (comparison_code c.comparison) (get_or p.values c.a 0) (get_or p.values c.b 0) 0
          ∷ and_wire p.arrival (fresh p.wires) ∷ and_not_wire p.arrival (fresh p.wires) ∷ []),
    )
close_count Halt p = omega arith

put_count : (g : CFG) (s : Groups) (x : ℕ) (b : StateBuild) → length (instructions_of (block_of g x)) ≤ 8 → Narrow b.edges
    → length (put g s x b).wires + 18 * length (put g s x b).edges ≤ length b.wires + 18 * length b.edges + 48
unfolding put after
put_count g s x b h n =
    let R = g.registers in
    let p = enter R (mem x s.starters) x b in
    let q = assigns (instructions_of (block_of g x)) p in
    let z = close (block_of g x).ending q in
    let rest = towards (λ p. not (leads_to x p)) b.edges in
    omega (arith, enter_count R (mem x s.starters) x b n, assigns_count (instructions_of (block_of g x)) p, close_count (block_of g x).ending q, length-append rest z.edges)

-- ---- a state

module _ (g : CFG) (s : Groups) (f : GraphFits g) where
  build_count : (xs : List ℕ) (b : StateBuild) → BuildValid g.registers b
      → length (build g s xs b).wires + 18 * length (build g s xs b).edges ≤ length b.wires + 18 * length b.edges + 48 * length xs
  unfolding build
  build_count [] b v = omega arith
  build_count (x ∷ xs) b v =
      omega (
        arith,
        put_count g s x b (f.block x).short (narrow_valid g.registers (length b.wires) b.edges f.few_registers v.joined),
        build_count xs (put g s x b) (put_valid g s x b (f.block x) v),
      )

  exits_count : (es : List Edge) (p : BlockBuild) → Narrow es → length (exits s es p).wires ≤ length p.wires + 18 * length es
  unfolding exits exit
  exits_count [] p h = omega arith
  exits_count (e ∷ es) p h =
      let k = h.0 in
      omega (
        arith,
        length-append p.wires (set_wire (next_state_of s e.target) ∷ select_wire e.taken (fresh p.wires) p.arrival ∷ selects e.taken e.values p.values),
        selects_short e.taken e.values p.values,
        exits_count es (exit s e p) h.1,
      )

  close_state_count : (es : List Edge) (ws : List Wire) → Narrow es → length (close_state s es ws).wires ≤ length ws + 18 * length es
  unfolding close_state
  close_state_count [] ws h = omega arith
  close_state_count (e ∷ es) ws h =
      let w = set_wire (next_state_of s e.target) in
      omega (arith, length-append ws (w ∷ []), exits_count es (record { arrival = fresh ws; values = e.values; wires = ws ++ (w ∷ []) }) h.1)

  pub state_count_lem : (k : ℕ) → length (state_made g s k).wires ≤ 48 * length (members g s k)
  unfolding state_made
  state_count_lem k =
      let R = g.registers in
      let absent : StateBuild = record { wires = []; edges = [] } in
      let b = build g s (order g s k) absent in
      let v = build_valid g s f (order g s k) absent (empty_valid R) in
      let out = towards (leaves s) b.edges in
      omega (
        arith,
        build_count (order g s k) absent (empty_valid R),
        parted (leaves s) b.edges,
        order_length g s k,
        close_state_count out b.wires (narrow_valid R (length b.wires) out f.few_registers (edges_towards R (length b.wires) (leaves s) b.edges v.joined)),
      )

-- ---- all states: a block is in one of them

-- how many of l have f at k, for the n numbers k from a up
spread : (ℕ → ℕ) → List ℕ → ℕ → ℕ → ℕ
spread f l a zero = 0
spread f l a (suc n) = length (only (λ x. eqb (f x) a) l) + spread f l (suc a) n

apart : (f : ℕ → ℕ) (a : ℕ) (l : List ℕ)
    → length (only (λ x. eqb (f x) a) l) + length (only (λ x. leb (suc a) (f x)) l) ≤ length (only (λ x. leb a (f x)) l)
apart f a [] = omega arith
apart f a (x ∷ l) =
    go (eqb (f x) a) (leb (suc a) (f x)) (leb a (f x))
    (λ e. le-leb a (f x) (let q = eqb-true (f x) a e in omega arith))
    (λ e. le-leb a (f x) (let q = leb-true (suc a) (f x) e in omega arith))
    (λ e. lt-leb (suc a) (f x) (let q = eqb-true (f x) a e in omega arith)) (apart f a l)
  where
    go : (b c d : Bool) → (b ≡ true → d ≡ true) → (c ≡ true → d ≡ true) → (b ≡ true → c ≡ false)
        → length (only (λ x. eqb (f x) a) l) + length (only (λ x. leb (suc a) (f x)) l) ≤ length (only (λ x. leb a (f x)) l)
        → length (keep b x (only (λ x. eqb (f x) a) l)) + length (keep c x (only (λ x. leb (suc a) (f x)) l)) ≤ length (keep d x (only (λ x. leb a (f x)) l))
    go true c d p q r ih = rw (p refl, r refl) (omega arith)
    go false true d p q r ih = rw (q refl) (omega arith)
    go false false true p q r ih = omega arith
    go false false false p q r ih = ih

spread_count : (f : ℕ → ℕ) (l : List ℕ) (a n : ℕ) → spread f l a n ≤ length (only (λ x. leb a (f x)) l)
unfolding spread
spread_count f l a zero = omega arith
spread_count f l a (suc n) = omega (arith, spread_count f l (suc a) n, apart f a l)

module _ (g : CFG) (s : Groups) (f : GraphFits g) where
  count_from : (a n : ℕ) → wire_count (map (state_made g s) (up_from a n)) ≤ 48 * spread (λ x. get_or s.states x absent) (up_from 0 (length g.blocks)) a n
  unfolding wire_count spread members
  count_from a zero = omega arith
  count_from a (suc n) = omega (arith, state_count_lem g s f a, count_from (suc a) n)

  -- the whole machine: synthesis never lacks space
  pub machine_count : wire_count (machine_for g s).states ≤ max_wires
  unfolding machine_for
  machine_count =
      let b = f.few_blocks in
      omega (
        arith,
        count_from 0 (length s.starters),
        spread_count (λ x. get_or s.states x absent) (up_from 0 (length g.blocks)) 0 (length s.starters),
        length_only (λ x. leb 0 (get_or s.states x absent)) (up_from 0 (length g.blocks)),
        length-up_from 0 (length g.blocks),
      )
