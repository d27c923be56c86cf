-- What a function that stores bytes in a buffer promises: cited by inner functions alone. Assumes nothing.
use Rattle.std.specs.Prelude.{ℕ, ◌+◌, ◌≤◌, ◌≡◌, List, [], ◌∷◌, ◌++◌, length}
use Rattle.std.proofs.lemmas.List.Edits.{sets}
use Rattle.runs.specs.Lists.{concat_map}
use Rattle.decimal.specs.Decimal.{decimal_of}
use Rattle.cfg_line.specs.declared.Line.{Line}
use Rattle.cfg_write.specs.declared.line.Writer.{Writer}
use Rattle.cfg_write.specs.Write.{line_text}

-- the bytes s stand from `at` on, r is the place behind them, and they are at most `most`
pub record Put (most : ℕ) (before after : List ℕ) (at : ℕ) (s : List ℕ) (r : ℕ) : Type 0 where
  pub stored : after ≡ sets before at s
  pub place : r ≡ at + length s
  pub near : r ≤ at + most

-- a writer puts them behind what it has written
pub record Wrote (most : ℕ) (before after : Writer) (s : List ℕ) : Type 0 where
  pub same_buffer : after.out.ghost_name ≡ before.out.ghost_name
  pub put : Put most before.out.now after.out.now before.at s after.at

-- fields with a comma before each
unfoldable pub commas : List (List ℕ) → List ℕ
unfolding concat_map
commas = concat_map (λ (f : List ℕ). 44 ∷ f)

-- a line of a name and a number
unfoldable pub numbered : List ℕ → ℕ → List ℕ
unfolding decimal_of
numbered name n = name ++ (44 ∷ (decimal_of n ++ (10 ∷ [])))

abbrev pub lines_text : List Line → List ℕ
lines_text = concat_map line_text
