-- The graphs of the worked examples. Where paper 01 leaves a comparison or a register open, any will do. Assumes nothing.
use Rattle.std.specs.Prelude.{ℕ, List, [], ◌∷◌, length}
use Rattle.word.specs.declared.Comparison.{Comparison}
use Rattle.word.specs.declared.Comparison.TheVariants.{Eq, Ne, Lt, Ltu, Geu}
use Rattle.runs.specs.Lists.{padded}
use Rattle.cfg.specs.declared.Instruction.{Instruction}
use Rattle.cfg.specs.declared.Ending.{Ending}
use Rattle.cfg.specs.declared.Ending.TheVariants.{Goto, Ite, Halt}
use Rattle.cfg.specs.declared.Block.{Block}
use Rattle.cfg.specs.Layout.{max_instructions}
use Rattle.cfg.specs.Graph.{CFG, no_instruction}

abbrev block : List Instruction → Ending → Block
block is e = record { count = length is; instructions = padded max_instructions no_instruction is; ending = e }

abbrev graph : ℕ → List Block → CFG
graph r bs = record { registers = r; blocks = bs }

abbrev sub : ℕ → ℕ → ℕ → Instruction
sub d a b = record { code = 4; d = d; a = a; b = b }

abbrev add : ℕ → ℕ → ℕ → Instruction
add d a b = record { code = 3; d = d; a = a; b = b }

abbrev shr : ℕ → ℕ → ℕ → Instruction
shr d a b = record { code = 9; d = d; a = a; b = b }

abbrev put : ℕ → ℕ → Instruction
put d literal = record { code = 1; d = d; a = literal; b = 0 }

abbrev sampled : ℕ → Instruction
sampled d = record { code = 20; d = d; a = 0; b = 0 }

-- a code on r0, or on r0 and r1, into r2
abbrev one : ℕ → Instruction
one code = record { code = code; d = 2; a = 0; b = 0 }

abbrev two_into : ℕ → ℕ → Instruction
two_into d code = record { code = code; d = d; a = 0; b = 1 }

abbrev two : ℕ → Instruction
two = two_into 2

abbrev ite : Comparison → ℕ → ℕ → Ending
ite c t f = Ite (record { comparison = c; a = 0; b = 1 }) t f

-- the greatest common divisor
unfoldable pub P7 : CFG
P7 =
    graph 2 (
    block [] (Goto 1)
    ∷ block [] (ite Ne 2 5)
    ∷ block [] (ite Ltu 3 4)
    ∷ block (sub 1 1 0 ∷ []) (Goto 1)
    ∷ block (sub 0 0 1 ∷ []) (Goto 1)
    ∷ block [] Halt
    ∷ [])

unfoldable pub P9 : CFG
P9 =
    graph 2 (
    block [] (ite Eq 1 2) ∷ block [] (ite Eq 1 3) ∷ block [] (ite Eq 3 4) ∷ block [] (Goto 4) ∷ block [] Halt ∷ [])

unfoldable pub P10 : CFG
P10 = graph 2 (block [] (ite Eq 1 2) ∷ block [] (ite Eq 2 3) ∷ block [] (Goto 1) ∷ block [] Halt ∷ [])

unfoldable pub P11 : CFG
P11 = graph 1 (block [] (Goto 0) ∷ [])

unfoldable pub P12 : CFG
P12 = graph 1 (block [] (Goto 1) ∷ block [] Halt ∷ block [] (Goto 1) ∷ [])

-- the seven blocks of figure 5 of the published procedure
unfoldable pub Figure5 : CFG
Figure5 =
    graph 2 (
    block [] (Goto 1) ∷ block [] (ite Eq 2 5) ∷ block [] (Goto 3) ∷ block [] (Goto 4) ∷ block [] (ite Eq 3 5) ∷ block [] (Goto 6) ∷ block [] (Goto 1) ∷ [])

-- R-1: both blocks of a cycle read the same word, and the next cycle the next
unfoldable pub Rates : CFG
Rates =
    graph 2 (
    block (sampled 0 ∷ []) (Goto 1)
    ∷ block (sampled 1 ∷ add 1 1 0 ∷ []) (Goto 0)
    ∷ [])

-- R-3: both edges of block 0 lead to block 3, and block 1 waits for blocks of higher numbers
unfoldable pub Twins : CFG
Twins = graph 2 (block [] (ite Eq 3 3) ∷ block [] Halt ∷ block [] (Goto 1) ∷ block [] (ite Eq 2 1) ∷ [])

-- two cycles from block 0, with work in each, and then a halt: blocks 1 and 2 are a state of their own
unfoldable pub Twice : CFG
Twice =
    graph 2 (
    block (put 0 1 ∷ []) (Goto 1)
    ∷ block (put 1 2 ∷ []) (ite Eq 1 2)
    ∷ block [] Halt
    ∷ [])

-- R-2: a sum, and a difference
unfoldable pub Sum : CFG
Sum = graph 2 (block (add 0 0 1 ∷ []) Halt ∷ [])

unfoldable pub Difference : CFG
Difference = graph 2 (block (sub 0 0 1 ∷ []) Halt ∷ [])

-- a sum of what the block has set, which the block then sets anew
unfoldable pub Between : CFG
Between = graph 2 (block (put 0 2147483646 ∷ add 0 0 1 ∷ put 0 0 ∷ []) Halt ∷ [])

-- in one state: the sum where r0 is below r1, else the difference
unfoldable pub Fork : CFG
Fork = graph 2 (block [] (ite Lt 1 2) ∷ block (add 0 0 1 ∷ []) Halt ∷ block (sub 0 0 1 ∷ []) Halt ∷ [])

-- in one state: both ways lead to the sum
unfoldable pub Meet : CFG
Meet = graph 2 (block [] (ite Lt 1 2) ∷ block [] (Goto 3) ∷ block [] (Goto 3) ∷ block (add 0 0 1 ∷ []) Halt ∷ [])

-- a sum in the first cycle, and then r0 is shifted right by r1, a cycle each time, until it is below r1
unfoldable pub Once : CFG
Once =
    graph 2 (
    block (add 0 0 1 ∷ []) (Goto 1)
    ∷ block (shr 0 0 1 ∷ []) (ite Geu 1 2)
    ∷ block [] Halt
    ∷ [])

-- a sum in every cycle
unfoldable pub Counting : CFG
Counting = graph 2 (block (add 0 0 1 ∷ []) (Goto 0) ∷ [])

-- every instruction code in one state, the sums last
unfoldable pub Codes : CFG
Codes =
    graph 3 (
    block (one 2 ∷ two 5 ∷ two 6 ∷ two 7 ∷ two 8 ∷ two 9 ∷ two 10 ∷ one 11 ∷ []) (Goto 1)
    ∷ block (put 0 5 ∷ sampled 1 ∷ two 3 ∷ two 4 ∷ []) Halt
    ∷ [])

-- r0 shifted by r1, each way, in two blocks of one state
unfoldable pub Shifts : CFG
Shifts = graph 5 (block (two 8 ∷ []) (Goto 1) ∷ block (two_into 3 9 ∷ two_into 4 10 ∷ []) Halt ∷ [])

-- the same by the sampled word, and by a literal
unfoldable pub SampledShifts : CFG
SampledShifts = graph 5 (block (sampled 1 ∷ two 8 ∷ two_into 3 9 ∷ two_into 4 10 ∷ []) Halt ∷ [])

unfoldable pub LiteralShifts : ℕ → CFG
LiteralShifts literal = graph 5 (block (put 1 literal ∷ two 8 ∷ two_into 3 9 ∷ two_into 4 10 ∷ []) Halt ∷ [])
