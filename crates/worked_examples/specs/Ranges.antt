-- R-5 of paper 02: the range of each code, and bounds of a cycle with their refusals, a row a case. Assumes nothing.
use Rattle.std.specs.Prelude.{ℕ, ◌+◌, ◌-◌, ◌^◌, Bool, ◌&&◌, List, [], ◌∷◌, ◌++◌, eqb, take, replicate}
use Rattle.word.specs.Word.{eval_of, over_of, arity}
use Rattle.runs.specs.Lists.{same, every, concat_map}
use Rattle.fsmd.specs.Table.{machine_table_of, admitted_machine}
use Rattle.grouping.specs.Grouping.{groups}
use Rattle.synthesis.specs.Synthesis.{machine}
use Rattle.bounds.specs.declared.Range.{Range}
use Rattle.bounds.specs.Range.{span, exact, full, sixteen_bits, rule_of, range_of}
use Rattle.bounds.specs.Operation.{bounds_answer, bounds_after, lowest_left, highest_left, bounds_number}
use Rattle.worked_examples.specs.Graphs.{P7}
use Rattle.worked_examples.specs.Rows.{Row, row, no_machine, regs}
use Rattle.worked_examples.specs.Admission.{by_hand, state, touching}

-- the word of -n
abbrev neg : ℕ → ℕ
neg n = 2 ^ 32 - n

-- code k gives r on these ranges
abbrev gives : ℕ → Range → Range → Range → Range → Bool
gives k a b c r = let s = range_of k a b c in eqb s.low r.low && eqb s.high r.high

abbrev rate : Range
rate = span (neg 720) 720

-- what a comparison gives that the ends do not decide
abbrev undecided : Range
undecided = span 0 1

-- the number of an answer, and the first three words of each buffer at the end
abbrev asked : List ℕ → List ℕ → List ℕ → ℕ → List ℕ
asked t ls hs k = bounds_number (bounds_answer t ls hs k) ∷ (take 3 (lowest_left t ls hs k) ++ take 3 (highest_left t ls hs k))

abbrev gcd : List ℕ
gcd = machine_table_of (machine P7)

-- one state with R = 2: r0 takes the sum of both, r1 the word that is read
abbrev sum : List ℕ
sum = by_hand 1 2 (touching 3 (state 0 2 0 (16 ∷ 17 ∷ []))) (3 ∷ 0 ∷ 1 ∷ 0 ∷ 20 ∷ [])

-- r0 and r1 change places: each is read as it was at the start
abbrev swap : List ℕ
swap = by_hand 1 2 (touching 3 (state 0 0 0 (1 ∷ 0 ∷ []))) []

-- the same with a wrong touch word: no machine table
abbrev wrong_touch : List ℕ
wrong_touch = by_hand 1 2 (touching 2 (state 0 0 0 (1 ∷ 0 ∷ []))) []

-- refused with this number, with both buffers as they were
abbrev refused_with : ℕ → List ℕ → List ℕ → List ℕ → ℕ → Bool
refused_with n t ls hs k = same (asked t ls hs k) (n ∷ (take 3 ls ++ take 3 hs)) && same (lowest_left t ls hs k) ls && same (highest_left t ls hs k) hs

unfoldable pub range_rows : List Row
unfolding concat_map eval_of over_of arity rule_of range_of groups machine machine_table_of admitted_machine bounds_answer bounds_after lowest_left highest_left P7
range_rows =
    -- set and copy
    row "set" (gives 1 (exact 7) full full (exact 7))
    ∷ row "copy" (gives 2 rate full full rate)
    -- add and sub from the ends; those that just fit, and those that could wrap by one
    ∷ row "add" (gives 3 rate (exact 1) full (span (neg 719) 721))
    ∷ row "sub" (gives 4 rate rate full (span (neg 1440) 1440))
    ∷ row "a sum that just fits" (gives 3 rate (exact (2 ^ 31 - 721)) full (span (2 ^ 31 - 1441) (2 ^ 31 - 1)))
    ∷ row "a sum that could wrap by one" (gives 3 rate (exact (2 ^ 31 - 720)) full full)
    ∷ row "a sum that just fits below" (gives 3 rate (exact (2 ^ 31 + 720)) full (span (2 ^ 31) (2 ^ 31 + 1440)))
    ∷ row "a sum that could wrap by one below" (gives 3 rate (exact (2 ^ 31 + 719)) full full)
    ∷ row "both ends wrap" (gives 3 (span (2 ^ 31 - 2) (2 ^ 31 - 1)) (span 2 3) full full)
    ∷ row "a difference that just fits" (gives 4 rate (exact (2 ^ 31 - 720)) full (span (2 ^ 31) (2 ^ 31 + 1440)))
    ∷ row "a difference that could wrap by one" (gives 4 rate (exact (2 ^ 31 - 719)) full full)
    ∷ row "a difference that just fits above" (gives 4 rate (exact (neg (2 ^ 31 - 721))) full (span (2 ^ 31 - 1441) (2 ^ 31 - 1)))
    ∷ row "a difference that could wrap by one above" (gives 4 rate (exact (neg (2 ^ 31 - 720))) full full)
    -- of single words the exact one, also where it wraps, and whatever c is
    ∷ row "a single sum wraps" (gives 3 (exact (2 ^ 31 - 1)) (exact 1) full (exact (2 ^ 31)))
    ∷ row "a single difference wraps" (gives 4 (exact (2 ^ 31)) (exact 1) full (exact (2 ^ 31 - 1)))
    ∷ row "single words: and, or, xor" (gives 5 (exact 12) (exact 10) full (exact 8) && gives 6 (exact 12) (exact 10) full (exact 14) && gives 7 (exact 12) (exact 10) full (exact 6))
    ∷ row "single words: shl, shr, sar" (gives 8 (exact 12) (exact 2) full (exact 48) && gives 9 (exact 12) (exact 2) full (exact 3) && gives 10 (exact (neg 12)) (exact 2) full (exact (neg 3)))
    ∷ row "single words: 18" (gives 18 (exact 12) (exact 10) full (exact 4))
    ∷ row "one range is enough for full" (every (λ k. gives k rate (exact 10) full full && gives k (exact 10) rate full full) (5 ∷ 6 ∷ 7 ∷ 8 ∷ 9 ∷ 10 ∷ 18 ∷ []))
    -- sx
    ∷ row "sx of a rate" (gives 11 rate full full rate)
    ∷ row "sx of what 16 bits hold" (gives 11 sixteen_bits full full sixteen_bits)
    ∷ row "sx up to 32768" (gives 11 (span 0 32768) full full sixteen_bits)
    ∷ row "sx from -32769" (gives 11 (span (neg 32769) 0) full full sixteen_bits)
    ∷ row "sx of 16 unsigned bits" (gives 11 (span 32768 65535) full full sixteen_bits)
    ∷ row "sx of a single word" (gives 11 (exact 32768) full full (exact (neg 32768)))
    -- eq and ne
    ∷ row "eq of ranges that do not meet" (gives 12 rate (exact 721) full (exact 0) && gives 12 (exact 721) rate full (exact 0))
    ∷ row "eq of ranges that meet in one word" (gives 12 rate (exact 720) full undecided)
    ∷ row "eq of one range with itself" (gives 12 rate rate full undecided)
    ∷ row "eq of single words" (gives 12 (exact 5) (exact 5) full (exact 1))
    ∷ row "ne" (gives 13 rate (exact 721) full (exact 1) && gives 13 rate (exact 720) full undecided && gives 13 (exact 5) (exact 5) full (exact 0))
    -- lt and ge
    ∷ row "lt: all, some, none" (gives 14 rate (exact 721) full (exact 1) && gives 14 rate (exact 720) full undecided && gives 14 rate (exact (neg 720)) full (exact 0))
    ∷ row "lt: some just so" (gives 14 rate (exact (neg 719)) full undecided)
    ∷ row "ge: all, some, none" (gives 15 rate (exact (neg 720)) full (exact 1) && gives 15 rate (exact (neg 719)) full undecided && gives 15 rate (exact 721) full (exact 0))
    ∷ row "lt is signed" (gives 14 (span (neg 2) (neg 1)) (exact 0) full (exact 1))
    -- ltu and geu
    ∷ row "ltu and geu are not decided by the ends" (gives 16 undecided (exact 2) full undecided && gives 17 undecided (exact 2) full undecided)
    ∷ row "ltu and geu of single words" (gives 16 (exact (neg 1)) (exact 2) full (exact 0) && gives 17 (exact (neg 1)) (exact 2) full (exact 1))
    -- 19
    ∷ row "a condition that is only zero" (gives 19 (exact 0) rate (span 3 9) (span 3 9))
    ∷ row "a condition above zero, and below" (gives 19 (span 1 2) rate (exact 9) rate && gives 19 (span (neg 2) (neg 1)) rate (exact 9) rate)
    ∷ row "a condition that may be zero" (every (λ (a : Range). gives 19 a (span 5 900) (span (neg 3) 7) (span (neg 3) 900)) (span (neg 1) 0 ∷ span (neg 1) 1 ∷ span 0 1 ∷ []))
    ∷ row "19 of single words" (gives 19 (exact 5) (exact 6) (exact 7) (exact 6) && gives 19 (exact 0) (exact 6) (exact 7) (exact 7))
    -- in, and a code that is none
    ∷ row "in" (gives 20 (exact 1) (exact 1) (exact 1) full)
    ∷ row "a code that is none" (gives 21 (exact 1) (exact 1) (exact 1) full)
    -- one cycle
    ∷ row "P7 from 12 and 18: 12 and 6" (same (asked gcd (regs 12 18) (regs 12 18) 1) (0 ∷ 12 ∷ 6 ∷ 0 ∷ 12 ∷ 6 ∷ 0 ∷ []))
    ∷ row "P7 from 1 to 100 each" (same (asked gcd (regs 1 1) (regs 100 100) 1) (0 ∷ neg 99 ∷ neg 99 ∷ 0 ∷ 100 ∷ 100 ∷ 0 ∷ []))
    ∷ row "P7 state 0 keeps both" (same (asked gcd (regs 1 (neg 5)) (regs 100 5) 0) (0 ∷ 1 ∷ neg 5 ∷ 0 ∷ 100 ∷ 5 ∷ 0 ∷ []))
    ∷ row "a sum, and a word that is read" (same (asked sum (regs (neg 720) 1) (regs 720 2) 0) (0 ∷ neg 719 ∷ (2 ^ 31) ∷ 0 ∷ 722 ∷ (2 ^ 31 - 1) ∷ 0 ∷ []))
    ∷ row "r0 and r1 change places" (same (asked swap (regs 1 5) (regs 2 6) 0) (0 ∷ 5 ∷ 1 ∷ 0 ∷ 6 ∷ 2 ∷ 0 ∷ []))
    ∷ row "words from R up stay, whatever they are" (same (asked swap (1 ∷ 5 ∷ 9 ∷ replicate 14 3) (2 ∷ 6 ∷ 8 ∷ replicate 14 4) 0) (0 ∷ 5 ∷ 1 ∷ 9 ∷ 6 ∷ 2 ∷ 8 ∷ []))
    -- refusals: 7, 10, 9, 13
    ∷ row "7: 13,761 words" (refused_with 7 (take 13761 gcd) (regs 1 1) (regs 2 2) 0)
    ∷ row "7: 15 lowest words, 15 highest" (refused_with 7 gcd (take 15 (regs 1 1)) (regs 2 2) 0 && refused_with 7 gcd (regs 1 1) (take 15 (regs 2 2)) 0)
    ∷ row "7: two are short, and all" (refused_with 7 (take 13761 gcd) [] (regs 2 2) 0 && refused_with 7 (take 13761 gcd) (regs 1 1) [] 0 && refused_with 7 gcd [] [] 0 && refused_with 7 [] [] [] 0)
    ∷ row "7 of the table before 10, 9 and 13" (refused_with 7 (take 13761 no_machine) (regs 1 1) (regs 2 2) 0 && refused_with 7 (take 13761 gcd) (regs 1 1) (regs 2 2) 2 && refused_with 7 (take 13761 gcd) (regs 1 1) (regs 0 0) 0)
    ∷ row "7 of the lowest before 10, 9 and 13" (refused_with 7 no_machine (take 15 (regs 1 1)) (regs 2 2) 0 && refused_with 7 gcd (take 15 (regs 1 1)) (regs 2 2) 2 && refused_with 7 gcd (take 15 (regs 1 1)) (regs 0 0) 0)
    ∷ row "7 of the highest before 10, 9 and 13" (refused_with 7 no_machine (regs 1 1) (take 15 (regs 2 2)) 0 && refused_with 7 gcd (regs 1 1) (take 15 (regs 2 2)) 2 && refused_with 7 gcd (regs 1 1) (take 15 (regs 0 0)) 0)
    ∷ row "10 before 9" (refused_with 10 wrong_touch (regs 1 1) (regs 2 2) 1)
    ∷ row "10 before 13" (refused_with 10 wrong_touch (regs 1 1) (regs 0 0) 0)
    ∷ row "9: states from N up, before 13" (every (λ k. refused_with 9 gcd (regs 1 1) (regs 0 0) k) (2 ∷ 64 ∷ 255 ∷ 4294967295 ∷ []))
    ∷ row "13: of r0, of r1" (refused_with 13 gcd (regs 1 0) (regs 0 0) 1 && refused_with 13 gcd (regs 0 1) (regs 0 0) 1)
    ∷ row "13 is signed" (refused_with 13 gcd (regs 0 0) (regs (neg 1) 0) 1 && same (asked gcd (regs (neg 1) 0) (regs 0 0) 0) (0 ∷ neg 1 ∷ 0 ∷ 0 ∷ 0 ∷ 0 ∷ 0 ∷ []))
    ∷ row "13 at both ends of the range" (refused_with 13 gcd (regs (2 ^ 31 - 1) 0) (regs (2 ^ 31) 0) 0)
    ∷ []
