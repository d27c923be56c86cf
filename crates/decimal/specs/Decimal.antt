-- A number in base ten, as bytes. Assumes nothing.
use Rattle.std.specs.Prelude.{ℕ, zero, suc, ◌+◌, ◌/◌, ◌%◌, true, false, List, [], ◌∷◌, ◌++◌, ltb}

-- byte 48 is the digit 0; a number of two digits or more is that without its last digit, then its last digit
-- (the first argument bounds the digits; the number itself is enough)
unfoldable pub digits_of : ℕ → ℕ → List ℕ
digits_of zero n = (48 + n % 10) ∷ []
digits_of (suc k) n = elim (ltb n 10) [ true ↦ (48 + n) ∷ [] | false ↦ digits_of k (n / 10) ++ ((48 + n % 10) ∷ []) ]

unfoldable pub decimal_of : ℕ → List ℕ
unfolding digits_of
decimal_of n = digits_of n n
