-- Numbers and literals in a field ("Text" of paper 01). Assumes nothing.
use Rattle.std.specs.Prelude.{ℕ, ◌-◌, ◌^◌, List, [], ◌∷◌, eqb, Option, Some, None, option_and_then}
use Rattle.word.specs.Word.{choose}
use Rattle.delimited.specs.Number.{at_most}

-- "Numbers are 0 to 255 without leading zeros"
abbrev pub small_number : List ℕ → Option ℕ
small_number f = at_most 255 f

-- the word of a value below zero; there is no -0
abbrev pub negative : ℕ → Option ℕ
negative v = choose (eqb v 0) None (Some (2 ^ 32 - v))

-- "a literal −2147483648 to 2147483647 likewise, with byte 45 as minus", as its word
unfoldable pub literal_of : List ℕ → Option ℕ
unfolding at_most
literal_of [] = None
literal_of (b ∷ bs) = choose (eqb b 45) (option_and_then negative (at_most (2 ^ 31) bs)) (at_most (2 ^ 31 - 1) (b ∷ bs))
