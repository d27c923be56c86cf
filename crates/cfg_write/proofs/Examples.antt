-- Texts that are written, computed. Assumes nothing.
use Prim.Native.Nat.{ℕ, ◌-◌, ◌^◌}
use mathlib.Core.List.{List, [], ◌∷◌, ◌++◌}
use Prim.Native.String.{String}
use lib.Dec.{T}
use lib.ListN.{length}
use Rattle.word.specs.declared.Comparison.TheVariants.{Geu}
use Rattle.runs.specs.Lists.{same, concat_map, padded}
use Rattle.cfg.specs.declared.Instruction.{Instruction}
use Rattle.cfg.specs.declared.Ending.TheVariants.{Goto, Ite, Halt}
use Rattle.cfg.specs.declared.Ending.{Ending}
use Rattle.cfg.specs.declared.Block.{Block}
use Rattle.cfg.specs.Graph.{CFG, no_instruction}
use Rattle.delimited.specs.Parts.{bytes}
use Rattle.cfg_write.specs.Write.{text_of}

-- lines, each with its line feed
abbrev pub lines : List String → List ℕ
lines = concat_map (λ (l : String). bytes l ++ (10 ∷ []))

abbrev pub block_of : List Instruction → Ending → Block
block_of is e = record { count = length is; instructions = padded 8 no_instruction is; ending = e }

abbrev pub instruction : ℕ → ℕ → ℕ → ℕ → Instruction
instruction k d a b = record { code = k; d = d; a = a; b = b }

-- every form of line, and the literals at both ends
abbrev pub one : CFG
one =
    record {
      registers = 16;
      blocks =
          block_of (instruction 1 15 (2 ^ 31) 0 ∷ instruction 1 0 (2 ^ 31 - 1) 0 ∷ instruction 1 0 0 0 ∷ instruction 1 0 (2 ^ 32 - 1) 0 ∷ instruction 2 10 9 0 ∷ instruction 11 1 2 0 ∷ instruction 4 1 2 3 ∷ instruction 20 15 0 0 ∷ []) (Ite (record { comparison = Geu; a = 7; b = 12 }) 1 0)
          ∷ block_of [] (Goto 0)
          ∷ block_of [] Halt
          ∷ [];
    }

abbrev pub text : List ℕ
unfolding concat_map
text =
    lines (
    "graph,3,16" ∷ "block,0" ∷ "set,15,-2147483648" ∷ "set,0,2147483647" ∷ "set,0,0" ∷ "set,0,-1" ∷ "copy,10,9" ∷ "sx,1,2" ∷ "sub,1,2,3" ∷ "in,15" ∷ "ite,geu,7,12,1,0" ∷ "block,1" ∷ "goto,0" ∷ "block,2" ∷ "halt" ∷ [])

pub example_holds : T (same (text_of one) text)
unfolding text_of concat_map
example_holds = tt
