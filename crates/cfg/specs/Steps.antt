-- What the parts of a graph's run give: cited by inner functions alone. Assumes nothing.
use Rattle.std.specs.Prelude.{ℕ, ◌≤◌, ◌<◌, ◌≡◌, Bool, false, length, get_or, List, Option, Some, None}
use Rattle.word.specs.Word.{choose, set_code, compare_of}
use Rattle.word.specs.declared.Comparison.TheVariants.{Eq}
use Rattle.runs.specs.Lists.{mem}
use Rattle.runs.specs.Runs.{Place, standing, halted, Runner}
use Rattle.cfg.specs.declared.Instruction.{Instruction}
use Rattle.cfg.specs.declared.Condition.{Condition}
use Rattle.cfg.specs.declared.Ending.{Ending}
use Rattle.cfg.specs.declared.Ending.TheVariants.{Goto, Ite, Halt}
use Rattle.cfg.specs.declared.Block.{Block}
use Rattle.cfg.specs.Layout.{max_registers, max_instructions}
use Rattle.cfg.specs.Graph.{CFG, no_instruction, block_of, run_block}

-- an instruction reads registers of the register file; a set reads none
pub record Within (i : Instruction) : Type 0 where
  pub first : (i.code ≡ set_code → ⊥) → i.a < max_registers
  pub second : i.b < max_registers

pub record IteWithin (c : Condition) : Type 0 where
  pub first : c.a < max_registers
  pub second : c.b < max_registers

abbrev pub EndingWithin : Ending → Type 0
EndingWithin (Goto t) = Unit {0}
EndingWithin (Ite c t f) = IteWithin c
EndingWithin Halt = Unit {0}

pub record BlockWithin (k : Block) : Type 0 where
  pub few : k.count ≤ max_instructions
  pub fits : k.count ≤ length k.instructions
  pub each : (i : ℕ) → i < k.count → Within (get_or k.instructions i no_instruction)

-- the registers that an ending compares
abbrev pub compared_of : Ending → Condition
compared_of (Goto t) = record { comparison = Eq; a = 0; b = 0 }
compared_of (Ite c t f) = c
compared_of Halt = record { comparison = Eq; a = 0; b = 0 }

-- where an ending leads, where they hold x and y
abbrev pub leave_by : Ending → ℕ → ℕ → Place
leave_by (Goto t) x y = standing t
leave_by (Ite c t f) x y = standing (choose (compare_of c.comparison x y) t f)
leave_by Halt x y = halted

-- the place of the next block, or of none
abbrev pub place_of : Option ℕ → Place
place_of (Some t) = standing t
place_of None = halted

-- a graph whose starters are the marked blocks
abbrev pub marked_runner : CFG → List Bool → Runner
marked_runner g marks = record { unit = λ sampled n rs. run_block sampled (block_of g n) rs; arrives = λ n. get_or marks n false }

-- the marked blocks are the starters
abbrev pub Marks : List ℕ → List Bool → Type 0
Marks starters marks = (b : ℕ) → get_or marks b false ≡ mem b starters
