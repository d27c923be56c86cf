-- A number in a field: digits without leading zeros. Assumes nothing.
use Rattle.std.specs.Prelude.{ℕ, ◌+◌, ◌-◌, ◌*◌, Bool, false, not, ◌&&◌, List, [], ◌∷◌, ◌==◌, nat_le, Option, Some, None}
use Rattle.word.specs.Word.{choose}
use Rattle.runs.specs.Lists.{every}

abbrev pub digit : ℕ → Bool
digit b = nat_le 48 b && nat_le b 57

-- at least one digit, nothing else, and no leading zero
unfoldable pub decimal : List ℕ → Bool
decimal [] = false
decimal (b ∷ []) = digit b
decimal (b ∷ c ∷ bs) = not (b == 48) && every digit (b ∷ c ∷ bs)

-- the value of the digits behind the value v
unfoldable pub value_from : ℕ → List ℕ → ℕ
value_from v [] = v
value_from v (b ∷ bs) = value_from (v * 10 + (b - 48)) bs

-- a field as a number of at most `most`
unfoldable pub at_most : ℕ → List ℕ → Option ℕ
unfolding decimal value_from
at_most most f = choose (decimal f && nat_le (value_from 0 f) most) (Some (value_from 0 f)) None
