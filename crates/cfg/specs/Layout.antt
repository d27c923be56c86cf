-- Limits of a graph, and the numbers of its table: no other definition writes them. Assumes nothing.
use Rattle.std.specs.Prelude.{ℕ, ◌+◌, ◌*◌}
use Rattle.word.specs.RegisterFile.{file_words}
use Rattle.runs.specs.Runs.{max_places}

-- "The limits are 64 blocks, 16 registers, 8 instructions a block"; a machine has the first two as well
abbrev pub max_blocks : ℕ
max_blocks = max_places

abbrev pub max_registers : ℕ
max_registers = file_words

abbrev pub max_instructions : ℕ
max_instructions = 8

-- B and R
abbrev pub block_count_offset : ℕ
block_count_offset = 0

abbrev pub register_count_offset : ℕ
register_count_offset = 1

abbrev pub head_words : ℕ
head_words = register_count_offset + 1

-- "code, d, a or literal, b": from an instruction's first word, its code
abbrev pub d_offset : ℕ
d_offset = 1

abbrev pub a_offset : ℕ
a_offset = 2

abbrev pub b_offset : ℕ
b_offset = 3

abbrev pub instruction_words : ℕ
instruction_words = b_offset + 1

-- the words of a block's eight instructions
abbrev pub code_words : ℕ
code_words = max_instructions * instruction_words

-- "ending kind (1 goto, 2 ite, 3 halt), comparison (its code), a, b, t, f": from an ending's first word, its kind
abbrev pub goto_kind : ℕ
goto_kind = 1

abbrev pub ite_kind : ℕ
ite_kind = 2

abbrev pub halt_kind : ℕ
halt_kind = 3

abbrev pub comparison_offset : ℕ
comparison_offset = 1

abbrev pub ending_a_offset : ℕ
ending_a_offset = 2

abbrev pub ending_b_offset : ℕ
ending_b_offset = 3

abbrev pub true_offset : ℕ
true_offset = 4

abbrev pub false_offset : ℕ
false_offset = 5

abbrev pub ending_words : ℕ
ending_words = false_offset + 1

-- where a block's first instruction, its ending and its last word, always 0, stand from the block's first word: 1, 33 and 39
abbrev pub code_offset : ℕ
code_offset = 1

abbrev pub ending_offset : ℕ
ending_offset = code_offset + code_words

abbrev pub last_offset : ℕ
last_offset = ending_offset + ending_words

-- "40 words a block"
abbrev pub block_words : ℕ
block_words = last_offset + 1

abbrev pub all_block_words : ℕ
all_block_words = max_blocks * block_words

-- "Graph table, 2,562 words"
abbrev pub graph_words : ℕ
graph_words = head_words + all_block_words

-- where block n begins
abbrev pub block_offset : ℕ → ℕ
block_offset n = head_words + block_words * n
