-- Limits of a machine, and the numbers of its table (paper 01, with the records of R-4 and the arrivals of R-7 of paper 02): no other definition writes them. Assumes nothing.
use Rattle.std.specs.Prelude.{ℕ, ◌+◌, ◌*◌}
use Rattle.word.specs.RegisterFile.{file_words}
use Rattle.runs.specs.Runs.{max_places, no_place}

-- 64 states and 64 blocks, 16 registers
abbrev pub max_states : ℕ
max_states = max_places

abbrev pub max_blocks : ℕ
max_blocks = max_places

abbrev pub max_registers : ℕ
max_registers = file_words

-- "The whole machine has at most 3,072 wires"
abbrev pub max_wires : ℕ
max_wires = 3072

-- "code, a, b, c": from a wire's first word, its code
abbrev pub wire_a_offset : ℕ
wire_a_offset = 1

abbrev pub wire_b_offset : ℕ
wire_b_offset = 2

abbrev pub wire_c_offset : ℕ
wire_c_offset = 3

abbrev pub wire_words : ℕ
wire_words = wire_c_offset + 1

-- from the first word of a state's record, its first wire
abbrev pub wire_count_offset : ℕ
wire_count_offset = 1

abbrev pub next_state_offset : ℕ
next_state_offset = wire_count_offset + 1

abbrev pub next_registers_offset : ℕ
next_registers_offset = next_state_offset + 1

abbrev pub touch_offset : ℕ
touch_offset = next_registers_offset + max_registers

-- "the records become 20 words": first wire, wire count, next-state reference, 16 next-register references, touch word
abbrev pub record_words : ℕ
record_words = touch_offset + 1

-- the words of all records, and of all wires
abbrev pub all_record_words : ℕ
all_record_words = max_states * record_words

abbrev pub all_wire_words : ℕ
all_wire_words = max_wires * wire_words

-- N and R
abbrev pub state_count_offset : ℕ
state_count_offset = 0

abbrev pub register_count_offset : ℕ
register_count_offset = 1

-- where the starters, the block states, the records, the wires and the arrivals begin: 2, 66, 130, 1,410 and 13,698
abbrev pub starters_offset : ℕ
starters_offset = register_count_offset + 1

abbrev pub block_states_offset : ℕ
block_states_offset = starters_offset + max_states

abbrev pub records_offset : ℕ
records_offset = block_states_offset + max_blocks

abbrev pub wires_offset : ℕ
wires_offset = records_offset + all_record_words

abbrev pub arrivals_offset : ℕ
arrivals_offset = wires_offset + all_wire_words

-- "it now has 13,762 words"
abbrev pub machine_words : ℕ
machine_words = arrivals_offset + max_blocks

-- where the record of state k begins
abbrev pub record_offset : ℕ → ℕ
record_offset k = records_offset + record_words * k

-- where wire i of the whole machine begins
abbrev pub wire_offset : ℕ → ℕ
wire_offset i = wires_offset + wire_words * i

-- the words that a run keeps for what references read: not below 16 + 3,072; fewer where no state has more than 240 wires
abbrev pub room_words : ℕ
room_words = 4096

abbrev pub small_room_words : ℕ
small_room_words = 256

-- no block or no state
abbrev pub absent : ℕ
absent = no_place
