-- What the parts of the admission test look for: cited by inner functions alone. Assumes nothing.
use Rattle.std.specs.Prelude.{ℕ, Bool, not, ◌&&◌, ◌||◌, List, take, drop, eqb}
use Rattle.word.specs.Word.{in_code}
use Rattle.runs.specs.Lists.{same, every}
use Rattle.cfg.specs.Layout.{ending_words, block_words, block_offset}
use Rattle.cfg.specs.declared.Instruction.{Instruction}
use Rattle.cfg.specs.Graph.{instructions_of, valid_ending, valid_block}
use Rattle.cfg.specs.Table.{ending_words_of, block_words_of, ending_at, block_at}

-- the n words from o on are 0
abbrev pub zeros : List ℕ → ℕ → ℕ → Bool
zeros t o n = every (λ (x : ℕ). eqb x 0) (take n (drop o t))

-- the ending whose words begin at o is valid, and the words are no others than its own
unfoldable pub ending_fits : ℕ → ℕ → List ℕ → ℕ → Bool
unfolding valid_ending ending_at
ending_fits b r t o = valid_ending b r (ending_at t o) && same (ending_words_of (ending_at t o)) (take ending_words (drop o t))

-- block n is valid, and its words are no others than its own
unfoldable pub block_fits : ℕ → ℕ → List ℕ → ℕ → Bool
unfolding valid_block block_at block_words_of
block_fits b r t n = valid_block b r (block_at t n) && same (block_words_of (block_at t n)) (take block_words (drop (block_offset n) t))

-- code 20 passes only where words are given
abbrev pub passes : Bool → Instruction → Bool
passes words i = words || not (eqb i.code in_code)

-- and so do the instructions of block n
abbrev pub block_passes : Bool → ℕ → ℕ → List ℕ → ℕ → Bool
block_passes words b r t n = block_fits b r t n && every (passes words) (instructions_of (block_at t n))
