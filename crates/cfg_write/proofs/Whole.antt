-- Which graphs a table of words can hold: the theorems on reading and writing are about these. Assumes nothing.
use Prim.Native.Nat.{ℕ, ◌<◌, ◌^◌}
use mathlib.Core.Path.{◌≡◌}
use mathlib.Core.Bool.{Bool, true, ◌&&◌}
use mathlib.Core.List.{List}
use lib.Dec.{eqb, ltb}
use lib.ListN.{length, get_or}
use borrow.Author.Tests.{lt-ltb}
use Rattle.runs.specs.Lists.{every}
use Rattle.runs.proofs.ListLaws.{every_all}
use Rattle.cfg.specs.Layout.{max_instructions}
use Rattle.cfg.specs.declared.Instruction.{Instruction}
use Rattle.cfg.specs.declared.Block.{Block}
use Rattle.cfg.specs.Graph.{CFG, instructions_of, valid_graph}

-- each number is below 2 ^ 32
abbrev pub all_words : List ℕ → Bool
all_words = every (λ (w : ℕ). ltb w (2 ^ 32))

-- as the elements of a slice of words are
pub all_words_lem : (t : List ℕ) → ((i : ℕ) → get_or t i 0 < 2 ^ 32) → all_words t ≡ true
all_words_lem t w = every_all (λ (x : ℕ). ltb x (2 ^ 32)) t 0 (λ i l. lt-ltb (get_or t i 0) (2 ^ 32) (w i))

-- what a table's block has beside being valid: eight instructions, and words for literals
abbrev pub proper : Block → Bool
proper b = eqb (length b.instructions) max_instructions && every (λ (i : Instruction). ltb i.a (2 ^ 32)) (instructions_of b)

pub record Whole (g : CFG) : Type 0 where
  pub valid : valid_graph g ≡ true
  pub properly : every proper g.blocks ≡ true
