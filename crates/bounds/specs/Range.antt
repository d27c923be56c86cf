-- What a wire can give where its inputs are known within bounds: the rules of R-5 of paper 02, code by code. Assumes nothing.
use Rattle.std.specs.Prelude.{ℕ, ◌-◌, ◌^◌, Bool, false, not, ◌&&◌, ◌||◌, List, [], ◌∷◌, ◌==◌, nat_le, nat_lt, slice_index_or}
use Rattle.word.specs.Word.{choose, add_of, sub_of, compare_of, truth, add_code, sub_code, eval_of, over_of, arity}
use Rattle.word.specs.declared.Comparison.TheVariants.{Lt, Ge}
use Rattle.bounds.specs.declared.Range.{Range}

-- ---- ranges: all words from a lowest to a highest, in signed order

abbrev pub span : ℕ → ℕ → Range
span l h = record { low = l; high = h }

-- a single word
abbrev pub exact : ℕ → Range
exact x = span x x

-- -2147483648 to 2147483647
abbrev pub full : Range
full = span (2 ^ 31) (2 ^ 31 - 1)

-- what 16 signed bits hold: -32768 to 32767
abbrev pub sixteen_bits : Range
sixteen_bits = span (2 ^ 32 - 2 ^ 15) (2 ^ 15 - 1)

abbrev pub is_single : Range → Bool
is_single r = r.low == r.high

-- 0 lies in it
abbrev pub has_zero : Range → Bool
has_zero r = compare_of Ge 0 r.low && compare_of Ge r.high 0

-- the smallest range over two
abbrev pub hull : Range → Range → Range
hull r s =
    span (choose (compare_of Lt s.low r.low) s.low r.low) (choose (compare_of Lt r.high s.high) s.high r.high)

-- every word of a is below every word of b; none is below one of b
abbrev pub all_below : Range → Range → Bool
all_below a b = compare_of Lt a.high b.low

abbrev pub none_below : Range → Range → Bool
none_below a b = compare_of Ge a.low b.high

-- no word is in both
abbrev pub disjoint : Range → Range → Bool
disjoint a b = all_below a b || all_below b a

-- ---- the rules

-- "add and sub from the ends unless a result could wrap, then full"
abbrev pub sum_range : Range → Range → Range
sum_range a b =
    choose (over_of add_code a.low b.low || over_of add_code a.high b.high) full
    (span (add_of a.low b.low) (add_of a.high b.high))

abbrev pub difference_range : Range → Range → Range
difference_range a b =
    choose (over_of sub_code a.low b.high || over_of sub_code a.high b.low) full
    (span (sub_of a.low b.high) (sub_of a.high b.low))

-- "sx the range itself where it fits 16 signed bits"
abbrev pub sx_range : Range → Range
sx_range a = choose (compare_of Lt a.low sixteen_bits.low || compare_of Lt sixteen_bits.high a.high) sixteen_bits a

-- a comparison that holds of all words, of none, or of some: 1, 0, or 0 to 1
abbrev pub verdict : Bool → Bool → Range
verdict all none = span (truth all) (truth (not none))

-- b or c by the condition a: c where it is only zero, b where it is never zero, else "the smallest range over both arms"
abbrev pub select_range : Range → Range → Range → Range
select_range a b c = choose (has_zero a) (choose (is_single a) c (hull b c)) b

-- the ranges by code, from code 0, which is none
abbrev pub rules : Range → Range → Range → List Range
rules a b c =
    full
    -- 1 set, 2 copy
    ∷ a
    ∷ a
    -- 3 add, 4 sub
    ∷ sum_range a b
    ∷ difference_range a b
    -- 5 and, 6 or, 7 xor
    ∷ full
    ∷ full
    ∷ full
    -- 8 shl, 9 shr, 10 sar
    ∷ full
    ∷ full
    ∷ full
    -- 11 sx
    ∷ sx_range a
    -- 12 eq, 13 ne
    ∷ verdict false (disjoint a b)
    ∷ verdict (disjoint a b) false
    -- 14 lt, 15 ge
    ∷ verdict (all_below a b) (none_below a b)
    ∷ verdict (none_below a b) (all_below a b)
    -- 16 ltu, 17 geu
    ∷ verdict false false
    ∷ verdict false false
    -- 18 a and not b
    ∷ full
    -- 19 b where a is nonzero, else c
    ∷ select_range a b c
    -- 20 in
    ∷ full
    ∷ []

unfoldable pub rule_of : ℕ → Range → Range → Range → Range
rule_of code a b c = slice_index_or (rules a b c) code full

-- of n inputs, at least one, each is a single word
abbrev pub all_single : ℕ → Range → Range → Range → Bool
all_single n a b c = nat_le 1 n && is_single a && (nat_lt n 2 || is_single b) && (nat_lt n 3 || is_single c)

-- what a code can give: "where all inputs of a wire are single values the result is the exact one". Only code 20 reads the sampled word,
-- and it has no input, so that any word may stand for it here.
unfoldable pub range_of : ℕ → Range → Range → Range → Range
unfolding rule_of eval_of arity
range_of code a b c =
    choose (all_single (arity code) a b c) (exact (eval_of 0 code a.low b.low c.low)) (rule_of code a b c)
