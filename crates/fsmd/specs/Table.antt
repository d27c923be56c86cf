-- The machine table ("Machine table" of paper 01, touch words of R-4 and arrivals of R-7 of paper 02): the words of a machine, the machine of some words, and which words are admitted. Assumes nothing.
use Rattle.std.specs.Prelude.{ℕ, suc, ◌+◌, Bool, true, ◌&&◌, ◌||◌, List, [], ◌∷◌, ◌++◌, map, length, get_or, take, drop, eqb, leb, ltb, Option, Some, None}
use Rattle.word.specs.Word.{choose, first_code, last_code}
use Rattle.runs.specs.Lists.{up_from, every, padded, concat_map}
use Rattle.fsmd.specs.declared.Wire.{Wire}
use Rattle.refusal.specs.declared.Refusal.{Refusal}
use Rattle.refusal.specs.declared.Refusal.TheVariants.{ShortBuffer, BadMachine}
use Rattle.fsmd.specs.Layout.{machine_words, max_states, max_blocks, max_registers, max_wires, wire_a_offset, wire_b_offset, wire_c_offset, wire_count_offset, state_count_offset, register_count_offset, all_record_words, all_wire_words, starters_offset, block_states_offset, record_offset, next_state_offset, next_registers_offset, touch_offset, wire_offset, arrivals_offset, absent}
use Rattle.fsmd.specs.Machine.{State, FSMD, reads}
use Rattle.fsmd.specs.Touch.{touch_word}

-- ---- words of a machine

abbrev pub wire_words_of : Wire → List ℕ
wire_words_of w = w.code ∷ w.a ∷ w.b ∷ w.c ∷ []

-- the record of a state whose first wire is number n of the whole machine
abbrev pub record_of : ℕ → State → List ℕ
record_of n q = n ∷ length q.wires ∷ q.next ∷ (padded max_registers 0 q.next_registers ++ (touch_word q.next_registers ∷ []))

-- the records of states of which the first one's first wire is number n
unfoldable pub records_of : ℕ → List State → List ℕ
records_of n [] = []
records_of n (q ∷ qs) = record_of n q ++ records_of (n + length q.wires) qs

-- the words of some states' wires, in state order
unfoldable pub wires_of : List State → List ℕ
unfolding concat_map
wires_of qs = concat_map (λ q. concat_map wire_words_of q.wires) qs

-- counts, starters, block states, records, wires in state order, arrivals; unused words are 0, but an absent block's state is 255
unfoldable pub machine_table_of : FSMD → List ℕ
unfolding records_of wires_of
machine_table_of m =
    length m.states ∷ m.registers
    ∷ (padded max_states 0 m.starters
    ++ (padded max_blocks absent m.block_states
    ++ (padded all_record_words 0 (records_of 0 m.states)
    ++ (padded all_wire_words 0 (wires_of m.states)
    ++ padded max_blocks 0 m.arrivals))))

-- ---- the machine of a table

-- N and R
abbrev pub state_count : List ℕ → ℕ
state_count t = get_or t state_count_offset 0

abbrev pub machine_register_count : List ℕ → ℕ
machine_register_count t = get_or t register_count_offset 0

-- wire i of the whole machine
unfoldable pub wire_at : List ℕ → ℕ → Wire
wire_at t i =
    let p = wire_offset i in
    record { code = get_or t p 0; a = get_or t (p + wire_a_offset) 0; b = get_or t (p + wire_b_offset) 0; c = get_or t (p + wire_c_offset) 0 }

abbrev pub first_wire_at : List ℕ → ℕ → ℕ
first_wire_at t k = get_or t (record_offset k) 0

abbrev pub wire_count_at : List ℕ → ℕ → ℕ
wire_count_at t k = get_or t (record_offset k + wire_count_offset) 0

unfoldable pub state_at : List ℕ → ℕ → State
unfolding wire_at
state_at t k =
    record {
      wires = map (wire_at t) (up_from (first_wire_at t k) (wire_count_at t k));
      next = get_or t (record_offset k + next_state_offset) 0;
      next_registers = take (machine_register_count t) (drop (record_offset k + next_registers_offset) t);
    }

-- the touch word of state k
abbrev pub touch_at : List ℕ → ℕ → ℕ
touch_at t k = get_or t (record_offset k + touch_offset) 0

-- the state of block b, and the reference of its arrival
abbrev pub block_state_at : List ℕ → ℕ → ℕ
block_state_at t b = get_or t (block_states_offset + b) 0

abbrev pub arrival_at : List ℕ → ℕ → ℕ
arrival_at t b = get_or t (arrivals_offset + b) 0

unfoldable pub machine_of : List ℕ → FSMD
unfolding state_at
machine_of t =
    record {
      registers = machine_register_count t;
      starters = take (state_count t) (drop starters_offset t);
      block_states = take max_blocks (drop block_states_offset t);
      arrivals = take max_blocks (drop arrivals_offset t);
      states = map (state_at t) (up_from 0 (state_count t));
    }

-- ---- refusal 10: which tables are admitted

-- a reference is below R, or one of the first n wires of the state
abbrev pub valid_reference : ℕ → ℕ → ℕ → Bool
valid_reference r n x = ltb x r || (leb max_registers x && ltb x (max_registers + n))

-- wire n of its state: a known code, and each reference that it reads is a register or an earlier wire
unfoldable pub valid_wire : ℕ → ℕ → Wire → Bool
unfolding reads
valid_wire r n w = leb first_code w.code && leb w.code last_code && every (valid_reference r n) (reads w)

unfoldable pub valid_wires : ℕ → ℕ → List Wire → Bool
unfolding valid_wire
valid_wires r n [] = true
valid_wires r n (w ∷ ws) = valid_wire r n w && valid_wires r (suc n) ws

unfoldable pub valid_state : ℕ → State → Bool
unfolding valid_wires
valid_state r q =
    let n = length q.wires in
    valid_wires r 0 q.wires && valid_reference r n q.next && every (valid_reference r n) q.next_registers

-- two states' wires have none in common
abbrev pub apart : List ℕ → ℕ → ℕ → Bool
apart t j k =
    eqb (wire_count_at t j) 0 || eqb (wire_count_at t k) 0
    || leb (first_wire_at t j + wire_count_at t j) (first_wire_at t k)
    || leb (first_wire_at t k + wire_count_at t k) (first_wire_at t j)

abbrev pub within : List ℕ → ℕ → Bool
within t k = leb (first_wire_at t k + wire_count_at t k) max_wires

-- the touch word is that of the state's next references
abbrev pub right_touch : List ℕ → ℕ → Bool
right_touch t k = eqb (touch_at t k) (touch_word (state_at t k).next_registers)

-- of a block, its state k and the reference x of its arrival: it is absent and x is 0, or k is one of the machine's states and x a wire of it
abbrev pub right_block : List ℕ → ℕ → ℕ → Bool
right_block t k x = choose (eqb k absent) (eqb x 0) (ltb k (state_count t) && leb max_registers x && ltb x (max_registers + wire_count_at t k))

-- of blocks, their states and references one after another (both lists have 64, so that the second clause is never used:
-- `right_blocks_are` shows that these are the 64 blocks one by one)
abbrev pub right_together : List ℕ → List ℕ → List ℕ → Bool
right_together t [] xs = true
right_together t (k ∷ ks) [] = true
right_together t (k ∷ ks) (x ∷ xs) = right_block t k x && right_together t ks xs

-- of all 64
unfoldable pub right_blocks : List ℕ → Bool
right_blocks t = right_together t (padded max_blocks 0 (drop block_states_offset t)) (padded max_blocks 0 (drop arrivals_offset t))

unfoldable pub admitted_machine : List ℕ → Bool
unfolding state_at valid_state touch_word right_blocks
admitted_machine t =
    let n = state_count t in
    let r = machine_register_count t in
    leb 1 n && leb n max_states && leb 1 r && leb r max_registers
    && every (within t) (up_from 0 n)
    && every (λ k. every (λ j. apart t j k) (up_from 0 k)) (up_from 0 n)
    && every (λ k. valid_state r (state_at t k) && right_touch t k) (up_from 0 n)
    && right_blocks t

-- why a table alone is refused: it is short, or else it is not admitted
abbrev pub table_refusal : List ℕ → Option Refusal
table_refusal t = choose (ltb (length t) machine_words) (Some ShortBuffer) (choose (admitted_machine t) None (Some BadMachine))
