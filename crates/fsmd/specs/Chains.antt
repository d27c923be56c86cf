-- The blocks of each state as chains in one list, which the code of a cycle goes along. Assumes nothing.
use Rattle.std.specs.Prelude.{ℕ, ◌+◌, ◌-◌, ◌≤◌, ◌<◌, List, [], ◌∷◌, ◌≡◌, eqb, length, get_or}
use Rattle.runs.specs.Lists.{up_from, only}
use Rattle.fsmd.specs.Layout.{max_states, max_blocks}
use Rattle.fsmd.specs.Table.{block_state_at}

-- the blocks from b up whose state is k, in rising order
unfoldable pub blocks_from : List ℕ → ℕ → ℕ → List ℕ
blocks_from t k b = only (λ x. eqb (block_state_at t x) k) (up_from b (max_blocks - b))

-- the number of words: the first block of each state, then the block that follows each block
abbrev pub chain_words : ℕ
chain_words = max_states + max_blocks

-- from x on the chain has the blocks xs, which rise, and then ends with what is no block
abbrev pub Chain : List ℕ → ℕ → List ℕ → Type 0
Chain c x [] = max_blocks ≤ x
Chain c x (y ∷ ys) = (x ≡ y) × (y < max_blocks) × (y < get_or c (max_states + y) 0) × Chain c (get_or c (max_states + y) 0) ys

-- c has for each state the chain of its blocks from b up
pub record Chained (t : List ℕ) (b : ℕ) (c : List ℕ) : Type 0 where
  pub all : length c ≡ chain_words
  pub low : (k : ℕ) → k < max_states → b ≤ get_or c k 0
  pub each : (k : ℕ) → k < max_states → Chain c (get_or c k 0) (blocks_from t k b)
