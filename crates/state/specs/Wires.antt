-- The wires of a state ("Wires" of paper 01). Assumes nothing.
-- A reference below 16 is a register at the start of the cycle, and 16 + i is wire i of the state.
use Rattle.std.specs.Prelude.{ℕ, suc, ◌+◌, Bool, true, false, not, List, [], ◌∷◌, ◌++◌, length, get_or, set, eqb, ltb}
use Rattle.word.specs.Word.{choose, comparison_code, set_code, and_code, or_code, and_not_code, select_code}
use Rattle.runs.specs.Lists.{up_from, mem, only}
use Rattle.runs.specs.Runs.{Place, standing, halted}
use Rattle.cfg.specs.declared.Instruction.{Instruction}
use Rattle.cfg.specs.declared.Ending.{Ending}
use Rattle.cfg.specs.declared.Ending.TheVariants.{Goto, Ite, Halt}
use Rattle.cfg.specs.Graph.{CFG, block_of, instructions_of}
use Rattle.fsmd.specs.declared.Wire.{Wire}
use Rattle.fsmd.specs.Layout.{max_registers, absent}
use Rattle.fsmd.specs.Machine.{State, wire_arity}
use Rattle.grouping.specs.Grouping.{Groups}
use Rattle.placement.specs.Placement.{order}

abbrev pub wire : ℕ → ℕ → ℕ → ℕ → Wire
wire code a b c = record { code = code; a = a; b = b; c = c }

-- the codes that synthesis adds by itself
abbrev pub set_wire : ℕ → Wire
set_wire w = wire set_code w 0 0

abbrev pub and_wire : ℕ → ℕ → Wire
and_wire a b = wire and_code a b 0

abbrev pub or_wire : ℕ → ℕ → Wire
or_wire a b = wire or_code a b 0

abbrev pub and_not_wire : ℕ → ℕ → Wire
and_not_wire a b = wire and_not_code a b 0

-- b where a is nonzero, else c
abbrev pub select_wire : ℕ → ℕ → ℕ → Wire
select_wire a b c = wire select_code a b c

-- an edge out of a placed block: where it leads, the reference that says whether it is taken, and those of the registers along it
pub record Edge : Type 0 where
  pub target : Place
  pub taken : ℕ
  pub values : List ℕ

-- a block in the making: the reference of its arrival, those of its registers, and the state's wires so far
pub record BlockBuild : Type 0 where
  pub arrival : ℕ
  pub values : List ℕ
  pub wires : List Wire

-- the reference of the next wire
abbrev pub fresh : List Wire → ℕ
fresh ws = max_registers + length ws

-- for each register in rising order: the source's value where the edge is taken, else the one so far
abbrev pub selects : ℕ → List ℕ → List ℕ → List Wire
selects taken [] so_far = []
selects taken (v ∷ vs) [] = []
selects taken (v ∷ vs) (s ∷ ss) = select_wire taken v s ∷ selects taken vs ss

-- a further incoming edge: an `or` for the arrival, then a 19 for each register
unfoldable pub join : Edge → BlockBuild → BlockBuild
join e p =
    let n = fresh p.wires in
    record {
      arrival = n;
      values = up_from (suc n) (length e.values);
      wires = p.wires ++ (or_wire p.arrival e.taken ∷ selects e.taken e.values p.values);
    }

unfoldable pub joins : List Edge → BlockBuild → BlockBuild
unfolding join
joins [] p = p
joins (e ∷ es) p = joins es (join e p)

-- arrival and values of a block that is no starter, from its first incoming edge and each further one
-- (every such block has an incoming edge: the first clause is never used, which is proved; it is a block not arrived at)
unfoldable pub arrive : ℕ → List Edge → List Wire → BlockBuild
unfolding joins
arrive r [] ws = record { arrival = fresh ws; values = up_from 0 r; wires = ws ++ (set_wire 0 ∷ []) }
arrive r (e ∷ es) ws = joins es (record { arrival = e.taken; values = e.values; wires = ws })

-- the starter arrives by a wire `set 1` and has the start values
unfoldable pub start_block : ℕ → List Wire → BlockBuild
start_block r ws = record { arrival = fresh ws; values = up_from 0 r; wires = ws ++ (set_wire 1 ∷ []) }

-- an instruction's wire: the same code over references, where `at` gives a register's and c is the block's arrival; words that the wire does not read are 0
unfoldable pub instruction_wire : (ℕ → ℕ) → ℕ → Instruction → Wire
unfolding wire_arity
instruction_wire at arrival i =
    wire i.code
    (choose (ltb (wire_arity i.code) 1) 0 (choose (eqb i.code set_code) i.a (at i.a)))
    (choose (ltb (wire_arity i.code) 2) 0 (at i.b))
    (choose (ltb (wire_arity i.code) 3) 0 arrival)

unfoldable pub assign : Instruction → BlockBuild → BlockBuild
unfolding instruction_wire
assign i p =
    record {
      arrival = p.arrival;
      values = set p.values i.d (fresh p.wires);
      wires = p.wires ++ (instruction_wire (λ r. get_or p.values r 0) p.arrival i ∷ []);
    }

unfoldable pub assigns : List Instruction → BlockBuild → BlockBuild
unfolding assign
assigns [] p = p
assigns (i ∷ is) p = assigns is (assign i p)

-- the wires of a state so far, and the edges out of its placed blocks that lead to no placed block
pub record StateBuild : Type 0 where
  pub wires : List Wire
  pub edges : List Edge

abbrev pub edge : Place → ℕ → BlockBuild → Edge
edge target taken p = record { target = target; taken = taken; values = p.values }

-- an ending's wires and edges, true first: an ite adds its comparison, `and` for true and 18 for false
unfoldable pub close : Ending → BlockBuild → StateBuild
close (Goto t) p = record { wires = p.wires; edges = edge (standing t) p.arrival p ∷ [] }
close (Ite c t f) p =
    let n = fresh p.wires in
    record {
      wires = p.wires ++ (wire (comparison_code c.comparison) (get_or p.values c.a 0) (get_or p.values c.b 0) 0
          ∷ and_wire p.arrival n ∷ and_not_wire p.arrival n ∷ []);
      edges = edge (standing t) (1 + n) p ∷ edge (standing f) (2 + n) p ∷ [];
    }
close Halt p = record { wires = p.wires; edges = edge halted p.arrival p ∷ [] }

abbrev pub leads_to : ℕ → Place → Bool
leads_to x (standing y) = eqb y x
leads_to x halted = false

-- the edges whose target passes a test
abbrev pub towards : (Place → Bool) → List Edge → List Edge
towards p es = only (λ e. p e.target) es

unfoldable pub enter : ℕ → Bool → ℕ → StateBuild → BlockBuild
unfolding arrive start_block
enter r true x b = start_block r b.wires
enter r false x b = arrive r (towards (leads_to x) b.edges) b.wires

unfoldable pub after : List Edge → StateBuild → StateBuild
after es b = record { wires = b.wires; edges = es ++ b.edges }

-- block x placed: its arrival and joins, its instructions, its ending; the edges that lead to it are used up
unfoldable pub put : CFG → Groups → ℕ → StateBuild → StateBuild
unfolding enter assigns close after
put g s x b =
    after (towards (λ p. not (leads_to x p)) b.edges)
    (close (block_of g x).ending (assigns (instructions_of (block_of g x)) (enter g.registers (mem x s.starters) x b)))

unfoldable pub build : CFG → Groups → List ℕ → StateBuild → StateBuild
unfolding put
build g s [] b = b
build g s (x ∷ xs) b = build g s xs (put g s x b)

-- no block placed
abbrev pub nothing : StateBuild
nothing = record { wires = []; edges = [] }

-- the reference of the arrival of block x, where blocks are placed one after another; 0 where it is none of them
unfoldable pub arrival_in : CFG → Groups → ℕ → List ℕ → StateBuild → ℕ
unfolding enter put
arrival_in g s x [] b = 0
arrival_in g s x (y ∷ ys) b =
    choose (eqb y x) (enter g.registers (mem y s.starters) y b).arrival (arrival_in g s x ys (put g s y b))

-- ---- the exits: edges to starters and halts

abbrev pub leaves : Groups → Place → Bool
leaves s (standing y) = mem y s.starters
leaves s halted = true

-- the next state of an exit
abbrev pub next_state_of : Groups → Place → ℕ
next_state_of s (standing y) = get_or s.states y absent
next_state_of s halted = absent

-- a further exit: a `set` of its next state, a 19 for the next state, then one for each register
unfoldable pub exit : Groups → Edge → BlockBuild → BlockBuild
exit s e p =
    let n = fresh p.wires in
    record {
      arrival = 1 + n;
      values = up_from (2 + n) (length e.values);
      wires = p.wires ++ (set_wire (next_state_of s e.target) ∷ select_wire e.taken n p.arrival ∷ selects e.taken e.values p.values);
    }

unfoldable pub exits : Groups → List Edge → BlockBuild → BlockBuild
unfolding exit
exits s [] p = p
exits s (e ∷ es) p = exits s es (exit s e p)

-- the first exit adds only its `set`; a point's arrival is here the next state's reference
-- (every state has an exit: the first clause is never used, which is proved)
unfoldable pub close_state : Groups → List Edge → List Wire → BlockBuild
unfolding exits
close_state s [] ws = record { arrival = 0; values = []; wires = ws }
close_state s (e ∷ es) ws =
    exits s es (record { arrival = fresh ws; values = e.values; wires = ws ++ (set_wire (next_state_of s e.target) ∷ []) })

-- state k
unfoldable pub state_made : CFG → Groups → ℕ → State
unfolding order build close_state
state_made g s k =
    let b = build g s (order g s k) nothing in
    let p = close_state s (towards (leaves s) b.edges) b.wires in
    record { wires = p.wires; next = p.arrival; next_registers = p.values }

-- the reference of block x's arrival in its state; 0 of an absent block
unfoldable pub arrival_made : CFG → Groups → ℕ → ℕ
unfolding order arrival_in
arrival_made g s x =
    let k = get_or s.states x absent in
    choose (eqb k absent) 0 (arrival_in g s x (order g s k) nothing)
