-- What a valid graph gives to synthesis: its limits, and that each block reads and writes registers below R. Assumes nothing.
use Prim.Native.Nat.{ℕ, zero, suc, ◌≤◌, ◌<◌}
use native.Mathlib.Omega.{arith}
use native.Mathlib.Decide.{dec_lt}
use mathlib.Core.Path.{◌≡◌, refl}
use mathlib.Core.Logic.{◌⊎◌, inl, inr}
use mathlib.Core.Bool.{true}
use mathlib.Core.List.{List, [], ◌∷◌}
use lib.ListN.{length, get_or, take, length-take, get_or-eq_default}
use lib.Seq.{get_or-take}
use lib.Dec.{leb}
use borrow.Author.Tests.{leb-true}
use Rattle.fsmd.specs.Layout.{max_blocks, max_registers}
use Rattle.word.specs.Word.{arities, arity}
use Rattle.runs.specs.Lists.{every}
use Rattle.runs.proofs.ListLaws.{and_left, and_right}
use Rattle.cfg.specs.declared.Instruction.{Instruction}
use Rattle.cfg.specs.declared.Ending.{Ending}
use Rattle.cfg.specs.declared.Ending.TheVariants.{Goto, Ite, Halt}
use Rattle.cfg.specs.declared.Block.{Block}
use Rattle.cfg.specs.Graph.{CFG, no_instruction, empty_block, block_of, instructions_of}
use Rattle.cfg.proofs.Admitted.{ValidInstruction, ValidEnding, ValidBlock, ValidGraph}

abbrev pub ValidCode : ℕ → List Instruction → Type 0
ValidCode R [] = Unit {0}
ValidCode R (i ∷ is) = ValidInstruction R i × ValidCode R is

-- an ite compares registers below R
abbrev pub Compares : ℕ → Ending → Type 0
Compares R (Goto t) = Unit {0}
Compares R (Ite c t f) = (c.a < R) × (c.b < R)
Compares R Halt = Unit {0}

pub record BlockFits (R : ℕ) (b : Block) : Type 0 where
  pub short : length (instructions_of b) ≤ 8
  pub body : ValidCode R (instructions_of b)
  pub ends : Compares R b.ending

pub record GraphFits (g : CFG) : Type 0 where
  pub some_block : 1 ≤ length g.blocks
  pub few_blocks : length g.blocks ≤ max_blocks
  pub some_register : 1 ≤ g.registers
  pub few_registers : g.registers ≤ max_registers
  pub block : (n : ℕ) → BlockFits g.registers (block_of g n)

valid_code : (R : ℕ) (is : List Instruction) → ((k : ℕ) → k < length is → ValidInstruction R (get_or is k no_instruction)) → ValidCode R is
valid_code R [] h = tt
valid_code R (i ∷ is) h = (h 0 (omega arith), valid_code R is (λ k l. h (suc k) (omega arith)))

compares : (B R : ℕ) (e : Ending) → ValidEnding B R e → Compares R e
compares B R (Goto t) v = tt
compares B R (Ite c t f) v = (v.first, v.second)
compares B R Halt v = tt

block_fits_lem : (B R : ℕ) (b : Block) → ValidBlock B R b → BlockFits R b
block_fits_lem B R b v =
    let n = length-take b.count b.instructions in
    let c = v.few in
    record {
      short = omega arith;
      body = valid_code R (instructions_of b) (λ k l. rw (get_or-take b.count b.instructions k no_instruction (omega arith)) (v.instruction k (omega arith) (omega arith)));
      ends = compares B R b.ending v.ended;
    }

-- a block that is none is empty
empty_fits : (R : ℕ) → BlockFits R empty_block
unfolding empty_block
empty_fits R = record { short = omega arith; body = tt; ends = tt }

pub graph_fits : (g : CFG) → ValidGraph g → GraphFits g
graph_fits g v =
    record {
      some_block = v.some_block;
      few_blocks = v.few_blocks;
      some_register = v.some_register;
      few_registers = v.few_registers;
      block = λ n. go n (dec_lt n (length g.blocks));
    }
  where
    go : (n : ℕ) → Dec (n < length g.blocks) → BlockFits g.registers (block_of g n)
    go n (yes l) = block_fits_lem (length g.blocks) g.registers (block_of g n) (v.block n l)
    go n (no l) = rw (get_or-eq_default g.blocks empty_block {n = n} (omega arith)) (empty_fits g.registers)

-- ---- no instruction reads a third operand

low : (l : List ℕ) (n : ℕ) → every (λ x. leb x 2) (take n l) ≡ true → (k : ℕ) → k < n → get_or l k 0 ≤ 2
low [] n h k d = omega arith
low (x ∷ l) zero h k d = absurd (omega arith)
low (x ∷ l) (suc n) h zero d = leb-true x 2 (and_left (leb x 2) (every (λ x. leb x 2) (take n l)) h)
low (x ∷ l) (suc n) h (suc k) d = low l n (and_right (leb x 2) (every (λ x. leb x 2) (take n l)) h) k (omega arith)

pub two_operands : {R : ℕ} {i : Instruction} → ValidInstruction R i → arity i.code ≤ 2
unfolding arity
two_operands {R} {i} v = go v.known
  where
    go : ((1 ≤ i.code) × (i.code ≤ 11)) ⊎ (i.code ≡ 20) → arity i.code ≤ 2
    go (inl h) = low arities 12 refl i.code (let l = h.1 in omega arith)
    go (inr h) = rw h (omega arith)

-- an instruction's code is a wire's
pub code_range : {R : ℕ} {i : Instruction} → ValidInstruction R i → (1 ≤ i.code) × (i.code ≤ 20)
code_range {R} {i} v = go v.known
  where
    go : ((1 ≤ i.code) × (i.code ≤ 11)) ⊎ (i.code ≡ 20) → (1 ≤ i.code) × (i.code ≤ 20)
    go (inl h) = let l = h.0 in let m = h.1 in (omega arith, omega arith)
    go (inr h) = (omega arith, omega arith)
