-- What the steps of reading hand on: how the code's place and table stand to the lines read so far. Assumes nothing.
use Rattle.std.specs.Prelude.{ℕ, ◌+◌, ◌≤◌, Bool, true, List, [], ◌∷◌, ◌++◌, ◌≡◌, length, set, eqb, Result, Ok, Err}
use Rattle.std.proofs.lemmas.List.Edits.{sets}
use Rattle.refusal.specs.declared.Refusal.{Refusal}
use Rattle.refusal.specs.declared.Refusal.TheVariants.{NoRegister, NoTarget}
use Rattle.word.specs.Word.{choose}
use Rattle.runs.specs.Lists.{every, padded, concat_map}
use Rattle.cfg.specs.Layout.{max_blocks, max_instructions, graph_words, block_offset, ending_offset}
use Rattle.cfg.specs.Table.{instruction_words_of, block_words_of, graph_table_of}
use Rattle.cfg.specs.Graph.{CFG, targets}
use Rattle.cfg.specs.declared.Instruction.{Instruction}
use Rattle.cfg.specs.declared.Ending.{Ending}
use Rattle.cfg.specs.declared.Block.{Block}
use Rattle.cfg_line.specs.declared.Line.{Line}
use Rattle.cfg_line.specs.declared.Line.TheVariants as line
use Rattle.cfg_text.specs.declared.state.BlocksRead.{BlocksRead}
use Rattle.cfg_text.specs.declared.state.ReadState.{ReadState}
use Rattle.cfg_text.specs.declared.state.ReadState.TheVariants as state
use Rattle.cfg_text.specs.declared.ReadError.{ReadError}
use Rattle.cfg_text.specs.Walk.{Progress, start, between, inside, Next, Reading, all_below, ending_registers}
use Rattle.cfg_text.specs.Read.{reading_answer}

-- B, R and the blocks read so far, as the code has them
abbrev pub Before : BlocksRead → ℕ → ℕ → List Block → Type 0
Before p b r bs = (p.blocks ≡ b) × (p.registers ≡ r) × (p.done ≡ length bs)

-- the code stands where the definition stands
abbrev pub Stands : ReadState → Progress → Type 0
Stands state.Start start = Unit
Stands state.Start (between b r bs) = ⊥
Stands state.Start (inside b r bs is) = ⊥
Stands (state.Between p) start = ⊥
Stands (state.Between p) (between b r bs) = Before p b r bs
Stands (state.Between p) (inside b r bs is) = ⊥
Stands (state.Inside k) start = ⊥
Stands (state.Inside k) (between b r bs) = ⊥
Stands (state.Inside k) (inside b r bs is) = Before k.before b r bs × (k.count ≡ length is)

-- the words written so far; a block's count is written as it ends
unfoldable pub words_so_far : Progress → List ℕ
unfolding concat_map block_words_of
words_so_far start = []
words_so_far (between b r bs) = b ∷ r ∷ concat_map block_words_of bs
words_so_far (inside b r bs is) = b ∷ r ∷ (concat_map block_words_of bs ++ (0 ∷ concat_map instruction_words_of is))

-- the whole table, 0 where nothing is written
unfoldable pub filled : Progress → List ℕ
unfolding words_so_far
filled q = padded graph_words 0 (words_so_far q)

-- a block's words are as many as the layout has
abbrev pub sized : Block → Bool
sized k = eqb (length k.instructions) max_instructions

abbrev pub blocks_read : Progress → List Block
blocks_read start = []
blocks_read (between b r bs) = bs
blocks_read (inside b r bs is) = bs

abbrev pub instructions_read : Progress → List Instruction
instructions_read start = []
instructions_read (between b r bs) = []
instructions_read (inside b r bs is) = is

pub record StandsAfter (p : ReadState) (w : List ℕ) (q : Progress) : Type 0 where
  pub place : Stands p q
  pub words : w ≡ filled q
  pub whole : every sized (blocks_read q) ≡ true
  pub few : length (instructions_read q) ≤ max_instructions

-- the code went where the definition goes, or refused the line as it refuses
abbrev pub Advances : Result ReadState Refusal → List ℕ → Next → Type 0
Advances (Ok p) w (Ok q) = StandsAfter p w q
Advances (Ok p) w (Err e) = ⊥
Advances (Err d) w (Ok q) = ⊥
Advances (Err d) w (Err e) = d ≡ e

-- the answer of a reading, and the table where it is a graph's
pub record AnswersReading (r : Result Unit ReadError) (w : List ℕ) (x : Reading) : Type 0 where
  pub answer : r ≡ reading_answer x
  pub words : (g : CFG) → x ≡ Ok g → w ≡ graph_table_of g

-- an ending's registers, then its targets
abbrev pub ending_check : ℕ → ℕ → Ending → Result Unit Refusal
ending_check b r e =
    choose (all_below r (ending_registers e)) (choose (all_below b (targets e)) (Ok tt) (Err NoTarget)) (Err NoRegister)

-- the words with count and ending of block n
abbrev pub ended_at : List ℕ → ℕ → ℕ → List ℕ → List ℕ
ended_at w n count ending = sets (set w (block_offset n) count) (block_offset n + ending_offset) ending

-- a graph line has at most 64 blocks
abbrev pub FewBlocks : Line → Type 0
FewBlocks (line.Graph b r) = b ≤ max_blocks
FewBlocks (line.Block n) = Unit
FewBlocks (line.Instruction i) = Unit
FewBlocks (line.Goto t) = Unit
FewBlocks (line.Ite c t f) = Unit
FewBlocks line.Halt = Unit
