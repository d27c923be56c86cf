-- Touch words: how one is made bit by bit, and that bit i of it says whether register i is touched. Assumes nothing.
use Prim.Native.Nat.{ℕ, zero, suc, ◌+◌, ◌-◌, ◌*◌, ◌/◌, ◌%◌, ◌^◌, ◌<◌, ◌≤◌}
use native.Mathlib.Nat.{two-pow-succ, pow-succ', pow-le-pow_right, zero-div, div-div-eq-div-mul}
use native.Mathlib.Omega.{arith}
use mathlib.Core.Bool.{Bool, true, false, not, ◌&&◌}
use mathlib.Core.List.{List, [], ◌∷◌, map}
use mathlib.Core.Path.{◌≡◌, refl, sym, ap, ◌∙◌}
use lib.Dec.{eqb, ltb}
use lib.ListN.{length, get_or, length-map, get_or-eq_default}
use borrow.Author.Tests.{ltb-true, ltb-false, lt-ltb, eq-eqb, ne_eqb}
use Rattle.word.specs.Word.{truth}
use Rattle.runs.specs.Lists.{up_from}
use Rattle.runs.proofs.ListLaws.{length-up_from, up_from_cons, up_from_done, get_or-map-up_from}
use Rattle.fsmd.specs.Layout.{max_registers}
use Rattle.fsmd.specs.Touch.{touches, bits_of, bit, touch_word}

-- ---- words of bits

pub bit_low : (b : Bool) → truth b ≤ 1
bit_low true = omega arith
bit_low false = omega arith

bits_low : (bs : List Bool) → bits_of bs < 2 ^ length bs
unfolding bits_of
bits_low [] = omega arith
bits_low (b ∷ bs) = omega (arith, bits_low bs, bit_low b, two-pow-succ (length bs))

-- the lowest bit, and those above it
lowest : (b : Bool) (w : ℕ) → bit (truth b + 2 * w) 0 ≡ b
lowest true w = eq-eqb ((1 + 2 * w) / 2 ^ 0 % 2) 1 (omega arith)
lowest false w = ne_eqb ((0 + 2 * w) / 2 ^ 0 % 2) 1 (λ e. absurd (omega arith))

above : (b : Bool) (w i : ℕ) → bit (truth b + 2 * w) (suc i) ≡ bit w i
above b w i =
    let v = truth b + 2 * w in
    let half : v / 2 ≡ w = omega (arith, bit_low b) in
    ap (λ (d : ℕ). eqb (v / d % 2) 1) (pow-succ' 2 i)
    ∙ ap (λ (x : ℕ). eqb (x % 2) 1) (sym (div-div-eq-div-mul v 2 (2 ^ i)) ∙ ap (λ (x : ℕ). x / 2 ^ i) half)

no_bits : (i : ℕ) → bit 0 i ≡ false
no_bits i = ap (λ (x : ℕ). eqb (x % 2) 1) (zero-div (2 ^ i))

bit_at : (bs : List Bool) (i : ℕ) → bit (bits_of bs) i ≡ get_or bs i false
unfolding bits_of
bit_at [] i = no_bits i
bit_at (b ∷ bs) zero = lowest b (bits_of bs)
bit_at (b ∷ bs) (suc i) = above b (bits_of bs) i ∙ bit_at bs i

-- ---- touch words

-- the bits of the registers from i on
abbrev pub bits_from : List ℕ → ℕ → ℕ
bits_from next i = bits_of (map (touches next) (up_from i (length next - i)))

module _ (next : List ℕ) where
  pub bits_all : bits_from next 0 ≡ touch_word next
  unfolding touch_word
  bits_all = let e : length next - 0 ≡ length next = omega arith in ap (λ (n : ℕ). bits_of (map (touches next) (up_from 0 n))) e

  pub bits_none : (i : ℕ) → length next ≤ i → bits_from next i ≡ 0
  unfolding bits_of
  bits_none i h = ap (λ (l : List ℕ). bits_of (map (touches next) l)) (up_from_done i (length next) h)

  bits_more : (i : ℕ) → i < length next → bits_from next i ≡ truth (not (eqb (get_or next i 0) i)) + 2 * bits_from next (i + 1)
  unfolding bits_of
  bits_more i h =
      ap (λ (l : List ℕ). bits_of (map (touches next) l)) (up_from_cons i (length next) h)
      ∙ ap (λ (b : Bool). truth (b && not (eqb (get_or next i 0) i)) + 2 * bits_from next (i + 1)) (lt-ltb i (length next) h)

  -- a loop's step from i down
  pub bits_step : (i w : ℕ) → 0 < i → i ≤ length next → w ≡ bits_from next i → truth (not (eqb (get_or next (i - 1) 0) (i - 1))) + 2 * w ≡ bits_from next (i - 1)
  bits_step i w h l e =
      let back : i - 1 + 1 ≡ i = omega arith in
      sym (bits_more (i - 1) (omega arith) ∙ ap (λ (v : ℕ). truth (not (eqb (get_or next (i - 1) 0) (i - 1))) + 2 * v) (ap (bits_from next) back ∙ sym e))

  pub bits_few : (i : ℕ) → length next ≤ max_registers → bits_from next i < 2 ^ max_registers
  bits_few i h =
      let l = map (touches next) (up_from i (length next - i)) in
      let n : length l ≡ length next - i = length-map (up_from i (length next - i)) (touches next) ∙ length-up_from i (length next - i) in
      let p : 2 ^ length l ≤ 2 ^ max_registers = pow-le-pow_right {n = 2} (omega arith) {i = length l} {j = max_registers} (omega arith) in
      omega (arith, bits_low l)

  -- "bit r is set when r is below R and the next reference of register r is anything but r itself"
  pub touch_bit : (i : ℕ) → bit (touch_word next) i ≡ touches next i
  unfolding touch_word
  touch_bit i = bit_at all i ∙ go (ltb i (length next)) refl
    where
      all : List Bool
      all = map (touches next) (up_from 0 (length next))

      go : (b : Bool) → ltb i (length next) ≡ b → get_or all i false ≡ (b && not (eqb (get_or next i 0) i))
      go true e = get_or-map-up_from (touches next) (length next) i false (ltb-true i (length next) e) ∙ ap (λ (b : Bool). b && not (eqb (get_or next i 0) i)) e
      go false e =
          get_or-eq_default all false (rw (length-map (up_from 0 (length next)) (touches next), length-up_from 0 (length next)) (ltb-false i (length next) e))
