-- What each code gives. A word is a natural number below 2 ^ 32; codes and terms are those of the scope paper, in its order. Assumes nothing.
use Rattle.std.specs.Prelude.{ℕ, suc, ◌+◌, ◌-◌, ◌*◌, ◌/◌, ◌%◌, ◌^◌, Bool, true, false, not, ◌||◌, List, [], ◌∷◌, get_or, ℤ, pos, negsuc, ◌+ℤ◌, ◌-ℤ◌, ◌==◌, nat_le, nat_lt}
use Rattle.std.specs.Int.Signed.{lt_z, le_z, shr_z}
use Rattle.std.specs.Int.Bits.{bit_and, bit_or, bit_xor}
use Rattle.word.specs.declared.Comparison.{Comparison}
use Rattle.word.specs.declared.Comparison.TheVariants.{Eq, Ne, Lt, Ge, Ltu, Geu}

-- the first where the test holds, else the second
abbrev pub choose {ℓ} : {X : Type ℓ} → Bool → X → X → X
choose true x y = x
choose false x y = y

-- add wraps modulo 2 ^ 32
abbrev pub add_of : ℕ → ℕ → ℕ
add_of a b = (a + b) % 2 ^ 32

-- sub wraps likewise: 2 ^ 32 - b is what b lacks of 2 ^ 32
abbrev pub sub_of : ℕ → ℕ → ℕ
sub_of a b = (a + (2 ^ 32 - b)) % 2 ^ 32

-- the amount of every shift: the whole second operand; every amount from 32 up does what 32 does
abbrev pub amount_of : ℕ → ℕ
amount_of b = choose (nat_lt b 32) b 32

-- shl drops what passes bit 31
abbrev pub shl_of : ℕ → ℕ → ℕ
shl_of a b = (a * 2 ^ amount_of b) % 2 ^ 32

-- shr brings in zeros
abbrev pub shr_of : ℕ → ℕ → ℕ
shr_of a b = a / 2 ^ amount_of b

-- x, of k bits, read as signed: itself below 2 ^ (k - 1), and from there x - 2 ^ k (negsuc n is -1 - n)
abbrev pub signed_at : ℕ → ℕ → ℤ
signed_at k x = choose (nat_lt x (2 ^ (k - 1))) (pos x) (negsuc (2 ^ k - suc x))

-- a word read as signed
abbrev pub signed_of : ℕ → ℤ
signed_of = signed_at 32

-- the word of a signed number of 32 bits: the number modulo 2 ^ 32
abbrev pub word_of : ℤ → ℕ
word_of (pos n) = n
word_of (negsuc n) = 2 ^ 32 - suc n

-- sar brings in copies of the sign bit: the signed number divided, rounded down
abbrev pub sar_of : ℕ → ℕ → ℕ
sar_of a b = word_of (shr_z (signed_of a) (2 ^ amount_of b))

-- sx takes the low 16 bits as signed
abbrev pub sx_of : ℕ → ℕ
sx_of a = word_of (signed_at 16 (a % 2 ^ 16))

-- lt and ge compare as signed, ltu and geu as unsigned
abbrev pub compare_of : Comparison → ℕ → ℕ → Bool
compare_of Eq a b = a == b
compare_of Ne a b = not (a == b)
compare_of Lt a b = lt_z (signed_of a) (signed_of b)
compare_of Ge a b = le_z (signed_of b) (signed_of a)
compare_of Ltu a b = nat_lt a b
compare_of Geu a b = nat_le b a

-- a comparison's code
abbrev pub comparison_code : Comparison → ℕ
comparison_code Eq = 12
comparison_code Ne = 13
comparison_code Lt = 14
comparison_code Ge = 15
comparison_code Ltu = 16
comparison_code Geu = 17

abbrev pub first_comparison : ℕ
first_comparison = comparison_code Eq

-- the comparison of a code; what a code that is none stands for is of no matter
abbrev pub comparison_at : ℕ → Comparison
comparison_at code = get_or (Eq ∷ Ne ∷ Lt ∷ Ge ∷ Ltu ∷ Geu ∷ []) (code - first_comparison) Eq

-- a comparison's value is 1 or 0
abbrev pub truth : Bool → ℕ
truth true = 1
truth false = 0

-- code 18: a and not b, bit by bit
abbrev pub and_not_of : ℕ → ℕ → ℕ
and_not_of a b = bit_and a (2 ^ 32 - 1 - b)

-- ---- the codes that are spoken of by name

abbrev pub set_code : ℕ
set_code = 1

abbrev pub add_code : ℕ
add_code = 3

abbrev pub sub_code : ℕ
sub_code = 4

abbrev pub and_code : ℕ
and_code = 5

abbrev pub or_code : ℕ
or_code = 6

-- the last of the instructions that read registers
abbrev pub sx_code : ℕ
sx_code = 11

abbrev pub and_not_code : ℕ
and_not_code = 18

abbrev pub select_code : ℕ
select_code = 19

abbrev pub in_code : ℕ
in_code = 20

abbrev pub first_code : ℕ
first_code = set_code

abbrev pub last_code : ℕ
last_code = in_code

-- ---- what they give

-- the results by code, from code 0, which is none; `sampled` is the word sampled at the start of the cycle
abbrev pub results : ℕ → ℕ → ℕ → ℕ → List ℕ
results sampled a b c =
    0
    -- 1 set, 2 copy
    ∷ a
    ∷ a
    -- 3 add, 4 sub
    ∷ add_of a b
    ∷ sub_of a b
    -- 5 and, 6 or, 7 xor
    ∷ bit_and a b
    ∷ bit_or a b
    ∷ bit_xor a b
    -- 8 shl, 9 shr, 10 sar
    ∷ shl_of a b
    ∷ shr_of a b
    ∷ sar_of a b
    -- 11 sx
    ∷ sx_of a
    -- 12 eq to 17 geu
    ∷ truth (compare_of Eq a b)
    ∷ truth (compare_of Ne a b)
    ∷ truth (compare_of Lt a b)
    ∷ truth (compare_of Ge a b)
    ∷ truth (compare_of Ltu a b)
    ∷ truth (compare_of Geu a b)
    -- 18 a and not b
    ∷ and_not_of a b
    -- 19 b where a is nonzero, else c
    ∷ choose (a == 0) c b
    -- 20 in
    ∷ sampled
    ∷ []

-- what a code gives; 0 at a code that is none
unfoldable pub eval_of : ℕ → ℕ → ℕ → ℕ → ℕ → ℕ
eval_of sampled code a b c = get_or (results sampled a b c) code 0

-- ---- sums that go over

-- a whole number that 32 bits do not hold as signed: they hold -2 ^ 31 to 2 ^ 31 - 1
abbrev pub outside : ℤ → Bool
outside z = lt_z z (negsuc (2 ^ 31 - 1)) || lt_z (pos (2 ^ 31 - 1)) z

-- the signed results of add and sub as whole numbers, by code from 0; no other code has one, and 0 stands for it
abbrev pub exacts : ℕ → ℕ → List ℤ
exacts a b = pos 0 ∷ pos 0 ∷ pos 0 ∷ (signed_of a +ℤ signed_of b) ∷ (signed_of a -ℤ signed_of b) ∷ []

unfoldable pub exact_of : ℕ → ℕ → ℕ → ℤ
exact_of code a b = get_or (exacts a b) code (pos 0)

-- whether the signed result of a code leaves that range: only that of an add or a sub can
unfoldable pub over_of : ℕ → ℕ → ℕ → Bool
unfolding exact_of
over_of code a b = outside (exact_of code a b)

-- ---- what they read

-- how many of a, b and c each code reads, from code 0
abbrev pub arities : List ℕ
arities = 0 ∷ 1 ∷ 1 ∷ 2 ∷ 2 ∷ 2 ∷ 2 ∷ 2 ∷ 2 ∷ 2 ∷ 2 ∷ 1 ∷ 2 ∷ 2 ∷ 2 ∷ 2 ∷ 2 ∷ 2 ∷ 2 ∷ 3 ∷ 0 ∷ []

-- how many operands a code reads; a code that is none reads none
unfoldable pub arity : ℕ → ℕ
arity code = get_or arities code 0
