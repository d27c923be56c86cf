-- Worked examples, one computed table: P4, P5 and P6 of the scope paper, then both ends of each code, and sums that go over or just do not. Assumes nothing.
use Rattle.std.proofs.Common.{ℕ, Bool, true, not, ◌&&◌, T, eqb, List, [], ◌∷◌, ℤ, pos, negsuc}
use lib.Signed.{le_z}
use Rattle.word.specs.Word.{eval_of, signed_of, over_of}

-- code k gives r on these operands, with 9 sampled
abbrev gives : ℕ → ℕ → ℕ → ℕ → ℕ → Bool
gives k a b c r = eqb (eval_of 9 k a b c) r

-- the word x is the signed number z
abbrev reads : ℕ → ℤ → Bool
reads x z = le_z (signed_of x) z && le_z z (signed_of x)

-- the signed result of code k does not leave the range
abbrev stays : ℕ → ℕ → ℕ → Bool
stays k a b = not (over_of k a b)

abbrev every : List Bool → Bool
every [] = true
every (t ∷ l) = t && every l

abbrev tests : List Bool
tests =
    -- P4
    gives 11 32767 0 0 32767
    ∷ gives 11 32768 0 0 4294934528
    -- P5
    ∷ gives 14 4294967096 0 0 1
    ∷ gives 16 4294967096 0 0 0
    -- P6
    ∷ gives 4 0 1 0 4294967295
    -- signed readings
    ∷ reads 2147483647 (pos 2147483647)
    ∷ reads 2147483648 (negsuc 2147483647)
    ∷ reads 4294967295 (negsuc 0)
    -- arithmetic and bits
    ∷ gives 3 4294967295 1 0 0
    ∷ gives 5 4294901760 16777215 0 16711680
    ∷ gives 6 4294901760 16777215 0 4294967295
    ∷ gives 7 4294901760 16777215 0 4278255615
    -- shifts by the whole amount, of 2684354561, which is negative as a signed number, and of 1610612737, which is not
    ∷ gives 8 2684354561 0 0 2684354561
    ∷ gives 8 2684354561 1 0 1073741826
    ∷ gives 8 2684354561 31 0 2147483648
    ∷ gives 8 2684354561 32 0 0
    ∷ gives 8 2684354561 33 0 0
    ∷ gives 8 2684354561 63 0 0
    ∷ gives 8 2684354561 64 0 0
    ∷ gives 8 2684354561 2147483648 0 0
    ∷ gives 8 2684354561 4294967295 0 0
    ∷ gives 9 2684354561 0 0 2684354561
    ∷ gives 9 2684354561 1 0 1342177280
    ∷ gives 9 2684354561 31 0 1
    ∷ gives 9 2684354561 32 0 0
    ∷ gives 9 2684354561 33 0 0
    ∷ gives 9 2684354561 63 0 0
    ∷ gives 9 2684354561 64 0 0
    ∷ gives 9 2684354561 2147483648 0 0
    ∷ gives 9 2684354561 4294967295 0 0
    ∷ gives 10 2684354561 0 0 2684354561
    ∷ gives 10 2684354561 1 0 3489660928
    ∷ gives 10 2684354561 31 0 4294967295
    ∷ gives 10 2684354561 32 0 4294967295
    ∷ gives 10 2684354561 33 0 4294967295
    ∷ gives 10 2684354561 63 0 4294967295
    ∷ gives 10 2684354561 64 0 4294967295
    ∷ gives 10 2684354561 2147483648 0 4294967295
    ∷ gives 10 2684354561 4294967295 0 4294967295
    ∷ gives 10 1610612737 0 0 1610612737
    ∷ gives 10 1610612737 1 0 805306368
    ∷ gives 10 1610612737 31 0 0
    ∷ gives 10 1610612737 32 0 0
    ∷ gives 10 1610612737 33 0 0
    ∷ gives 10 1610612737 63 0 0
    ∷ gives 10 1610612737 64 0 0
    ∷ gives 10 1610612737 2147483648 0 0
    ∷ gives 10 1610612737 4294967295 0 0
    -- all bits, and the lowest one, at the last amounts that leave some
    ∷ gives 8 4294967295 31 0 2147483648
    ∷ gives 8 1 31 0 2147483648
    ∷ gives 9 4294967295 31 0 1
    ∷ gives 10 2147483648 31 0 4294967295
    ∷ gives 10 2147483647 31 0 0
    ∷ gives 10 2147483648 30 0 4294967294
    ∷ gives 10 2147483647 30 0 1
    -- wires
    ∷ gives 18 4294967295 1 0 4294967294
    ∷ gives 19 5 6 7 6
    ∷ gives 19 0 6 7 7
    -- in
    ∷ gives 20 5 6 7 9
    -- codes that are none
    ∷ gives 0 5 6 7 0
    ∷ gives 21 5 6 7 0
    ∷ gives 4294967295 5 6 7 0
    -- sums, above and below the range
    ∷ over_of 3 2147483647 1
    ∷ stays 3 2147483646 1
    ∷ over_of 3 2147483648 4294967295
    ∷ stays 3 2147483649 4294967295
    ∷ over_of 3 2147483648 2147483648
    ∷ stays 3 2147483648 2147483647
    -- a carry that is none of the signed sum: -1 + 1
    ∷ stays 3 4294967295 1
    -- differences, above and below the range
    ∷ over_of 4 2147483647 4294967295
    ∷ stays 4 2147483646 4294967295
    ∷ over_of 4 2147483648 1
    ∷ stays 4 2147483649 1
    ∷ over_of 4 0 2147483648
    ∷ stays 4 4294967295 2147483648
    -- a borrow that is none of the signed difference: 1 - 2
    ∷ stays 4 1 2
    -- no other code goes over
    ∷ stays 0 2147483647 1
    ∷ stays 2 2147483647 1
    ∷ stays 5 2147483647 1
    ∷ stays 8 2147483647 1
    ∷ stays 19 2147483647 1
    ∷ stays 20 2147483647 1
    ∷ stays 21 2147483647 1
    ∷ stays 4294967295 2147483647 1
    ∷ []

pub worked_examples : T (every tests)
unfolding eval_of over_of
worked_examples = tt
