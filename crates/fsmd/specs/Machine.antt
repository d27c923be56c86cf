-- A machine and what it does ("Wires" and "Runs" of paper 01, R-2 and R-7 of paper 02). Assumes nothing.
use Rattle.std.specs.Prelude.{ℕ, ◌+◌, Bool, true, false, not, ◌&&◌, ◌||◌, List, [], ◌∷◌, ◌++◌, map, length, get_or, take, drop, eqb, ltb}
use Rattle.word.specs.Word.{choose, eval_of, over_of, arity, set_code, add_code, sub_code, in_code}
use Rattle.runs.specs.Lists.{up_from, only, every}
use Rattle.runs.specs.Runs.{Place, standing, halted, Moved, Runner}
use Rattle.fsmd.specs.declared.Wire.{Wire}
use Rattle.fsmd.specs.Layout.{max_blocks, absent}

-- a state: its wires, and the references of the next state and of the next registers
pub record State : Type 0 where
  pub wires : List Wire
  pub next : ℕ
  pub next_registers : List ℕ

-- how many wires some states have
unfoldable pub wire_count : List State → ℕ
wire_count [] = 0
wire_count (q ∷ qs) = length q.wires + wire_count qs

-- a machine: R, each state's starter, each block's state and the reference of its arrival, and the states
pub record FSMD : Type 0 where
  pub registers : ℕ
  pub starters : List ℕ
  pub block_states : List ℕ
  pub arrivals : List ℕ
  pub states : List State

unfoldable pub empty_state : State
empty_state = record { wires = []; next = 0; next_registers = [] }

abbrev pub state_of : FSMD → ℕ → State
state_of m k = get_or m.states k empty_state

-- ---- what a wire reads

-- how many of a, b and c: those that its code's value is of and, of an add or sub, c: the reference of its block's arrival
unfoldable pub wire_arity : ℕ → ℕ
unfolding arity
wire_arity code = choose (eqb code add_code || eqb code sub_code) 3 (arity code)

-- its references; a set's a is its literal
unfoldable pub reads : Wire → List ℕ
unfolding wire_arity
reads w = choose (eqb w.code set_code) [] (take (wire_arity w.code) (w.a ∷ w.b ∷ w.c ∷ []))

-- ---- what a machine does

-- a wire's word, where `at` reads a reference and `sampled` is the word of the cycle; a set's a is its literal
unfoldable pub wire_value : ℕ → (ℕ → ℕ) → Wire → ℕ
unfolding eval_of
wire_value sampled at w = eval_of sampled w.code (choose (eqb w.code set_code) w.a (at w.a)) (at w.b) (at w.c)

-- what references read: the sixteen registers at the start of the cycle, then the wires so far, in order
unfoldable pub worked : ℕ → List ℕ → List Wire → List ℕ
unfolding wire_value
worked sampled env [] = env
worked sampled env (w ∷ ws) = worked sampled (env ++ (wire_value sampled (λ r. get_or env r 0) w ∷ [])) ws

-- whether a wire goes over and counts: its block is arrived at
unfoldable pub wire_over : (ℕ → ℕ) → Wire → Bool
unfolding over_of
wire_over at w = over_of w.code (at w.a) (at w.b) && not (eqb (at w.c) 0)

-- whether one of the wires does, each read as it is worked out
unfoldable pub wires_over : ℕ → List ℕ → List Wire → Bool
unfolding wire_value wire_over
wires_over sampled env [] = false
wires_over sampled env (w ∷ ws) =
    wire_over (λ r. get_or env r 0) w || wires_over sampled (env ++ (wire_value sampled (λ r. get_or env r 0) w ∷ [])) ws

-- a next state not below N halts
abbrev pub to_state : ℕ → ℕ → Place
to_state n k = choose (ltb k n) (standing k) halted

-- the next state and all next registers below R at once; registers from R up keep their words
unfoldable pub clock : FSMD → ℕ → State → List ℕ → Moved
unfolding worked wires_over
clock m sampled q rs =
    let env = worked sampled rs q.wires in
    record {
      place = to_state (length m.states) (get_or env q.next 0);
      registers = map (λ r. get_or env r 0) q.next_registers ++ drop m.registers rs;
      over = wires_over sampled rs q.wires;
    }

-- one step is a cycle of the state stood in, and each makes the next arrival
abbrev pub machine_runner : FSMD → Runner
machine_runner m = record { unit = λ sampled k rs. clock m sampled (state_of m k) rs; arrives = λ k. true }

-- the blocks of state k, in rising order
unfoldable pub blocks_of : FSMD → ℕ → List ℕ
blocks_of m k = only (λ b. eqb (get_or m.block_states b absent) k) (up_from 0 max_blocks)

-- how many of these references read nonzero, each counted by itself
abbrev pub nonzero : List ℕ → List ℕ → ℕ
nonzero env refs = length (only (λ x. not (eqb (get_or env x 0) 0)) refs)

-- how many blocks a cycle of state k runs: those of the state whose arrival is nonzero
unfoldable pub blocks_run : FSMD → ℕ → ℕ → List ℕ → ℕ
unfolding worked blocks_of
blocks_run m sampled k rs = nonzero (worked sampled rs (state_of m k).wires) (map (λ b. get_or m.arrivals b 0) (blocks_of m k))

-- no wire reads the sampled word
unfoldable pub wordless_machine : FSMD → Bool
wordless_machine m = every (λ q. every (λ w. not (eqb w.code in_code)) q.wires) m.states
