-- A control-flow graph and what it does ("The graph" and "Runs" of paper 01, R-2 of paper 02). Assumes nothing.
use Rattle.std.specs.Prelude.{ℕ, Bool, true, false, not, ◌&&◌, ◌||◌, List, [], ◌∷◌, length, get_or, set, take, drop, replicate, eqb, leb, ltb}
use Rattle.word.specs.Word.{choose, eval_of, over_of, arity, compare_of, set_code, sx_code, in_code, first_code}
use Rattle.runs.specs.Lists.{mem, every}
use Rattle.runs.specs.Runs.{Place, standing, halted, Moved, Runner}
use Rattle.cfg.specs.declared.Instruction.{Instruction}
use Rattle.cfg.specs.declared.Condition.{Condition}
use Rattle.cfg.specs.declared.Ending.{Ending}
use Rattle.cfg.specs.declared.Ending.TheVariants.{Goto, Ite, Halt}
use Rattle.cfg.specs.declared.Block.{Block}
use Rattle.cfg.specs.Layout.{max_blocks, max_registers, max_instructions}

-- a decoded graph: R, and blocks 0 to B - 1
pub record CFG : Type 0 where
  pub registers : ℕ
  pub blocks : List Block

abbrev pub no_instruction : Instruction
no_instruction = record { code = 0; d = 0; a = 0; b = 0 }

unfoldable pub empty_block : Block
empty_block = record { count = 0; instructions = replicate max_instructions no_instruction; ending = Halt }

abbrev pub block_of : CFG → ℕ → Block
block_of g n = get_or g.blocks n empty_block

-- a block's instructions
abbrev pub instructions_of : Block → List Instruction
instructions_of b = take b.count b.instructions

-- successors, true first
abbrev pub targets : Ending → List ℕ
targets (Goto t) = t ∷ []
targets (Ite c t f) = t ∷ f ∷ []
targets Halt = []

abbrev pub successors : CFG → ℕ → List ℕ
successors g n = targets (block_of g n).ending

-- ---- what a block does, where `sampled` is the word of the last arrival

-- the word that code k gives of operands a and b, where `at` reads a register; a set's a is its literal
abbrev pub value_of : ℕ → (ℕ → ℕ) → ℕ → ℕ → ℕ → ℕ
value_of sampled at k a b = eval_of sampled k (choose (eqb k set_code) a (at a)) (at b) 0

-- an instruction writes one register and no other
unfoldable pub execute : ℕ → Instruction → List ℕ → List ℕ
unfolding eval_of
execute sampled i rs = set rs i.d (value_of sampled (λ r. get_or rs r 0) i.code i.a i.b)

-- in order, each seeing the one before
unfoldable pub execute_all : ℕ → List Instruction → List ℕ → List ℕ
unfolding execute
execute_all sampled [] rs = rs
execute_all sampled (i ∷ is) rs = execute_all sampled is (execute sampled i rs)

-- whether an instruction goes over
abbrev pub instruction_over : Instruction → List ℕ → Bool
instruction_over i rs = over_of i.code (get_or rs i.a 0) (get_or rs i.b 0)

-- whether one of them does, each on the registers that those before it leave
unfoldable pub instructions_over : ℕ → List Instruction → List ℕ → Bool
unfolding execute over_of
instructions_over sampled [] rs = false
instructions_over sampled (i ∷ is) rs = instruction_over i rs || instructions_over sampled is (execute sampled i rs)

abbrev pub holds : Condition → List ℕ → Bool
holds c rs = compare_of c.comparison (get_or rs c.a 0) (get_or rs c.b 0)

-- where an ending leads
unfoldable pub leave : Ending → List ℕ → Place
leave (Goto t) rs = standing t
leave (Ite c t f) rs = standing (choose (holds c rs) t f)
leave Halt rs = halted

unfoldable pub run_block : ℕ → Block → List ℕ → Moved
unfolding execute_all instructions_over leave
run_block sampled b rs =
    let after = execute_all sampled (instructions_of b) rs in
    record { place = leave b.ending after; registers = after; over = instructions_over sampled (instructions_of b) rs }

-- one step runs the block stood at; each that moves to a starter makes the next arrival
abbrev pub graph_runner : CFG → List ℕ → Runner
graph_runner g starters = record { unit = λ sampled n rs. run_block sampled (block_of g n) rs; arrives = λ n. mem n starters }

-- no instruction reads the sampled word
unfoldable pub wordless_graph : CFG → Bool
wordless_graph g = every (λ b. every (λ i. not (eqb i.code in_code)) (instructions_of b)) g.blocks

-- ---- which graphs there are

-- codes 1 to 11, and 20
abbrev pub instruction_code : ℕ → Bool
instruction_code k = leb first_code k && leb k sx_code || eqb k in_code

-- a known code; registers below R where the code reads one, and 0 where it does not
unfoldable pub valid_instruction : ℕ → Instruction → Bool
unfolding arity
valid_instruction r i =
    instruction_code i.code && ltb i.d r
    && choose (eqb (arity i.code) 0) (eqb i.a 0) (eqb i.code set_code || ltb i.a r)
    && choose (eqb (arity i.code) 2) (ltb i.b r) (eqb i.b 0)

unfoldable pub valid_ending : ℕ → ℕ → Ending → Bool
valid_ending b r (Goto t) = ltb t b
valid_ending b r (Ite c t f) = ltb c.a r && ltb c.b r && ltb t b && ltb f b
valid_ending b r Halt = true

abbrev pub unused : Instruction → Bool
unused i = eqb i.code 0 && eqb i.d 0 && eqb i.a 0 && eqb i.b 0

unfoldable pub valid_block : ℕ → ℕ → Block → Bool
unfolding valid_instruction valid_ending
valid_block b r blk =
    leb blk.count max_instructions
    && every (valid_instruction r) (instructions_of blk)
    && every unused (drop blk.count blk.instructions)
    && valid_ending b r blk.ending

unfoldable pub valid_graph : CFG → Bool
unfolding valid_block
valid_graph g =
    let b = length g.blocks in
    leb 1 b && leb b max_blocks && leb 1 g.registers && leb g.registers max_registers
    && every (valid_block b g.registers) g.blocks
