-- Literals in a field: what is written is read, and what is read was so written; how long fields are. Assumes nothing.
use Prim.Native.Nat.{ℕ, zero, suc, ◌-◌, ◌^◌, ◌≤◌, ◌<◌}
use native.Mathlib.Omega.{arith}
use native.Mathlib.Decide.{dec_lt}
use mathlib.Core.Path.{◌≡◌, refl, ◌∙◌}
use mathlib.Core.Bool.{Bool, true, false}
use mathlib.Core.List.{List, [], ◌∷◌}
use Rattle.std.specs.Prelude.{Option, Some, None, option_and_then}
use lib.Dec.{eqb, leb}
use lib.ListN.{length}
use borrow.Author.Tests.{leb-true, eqb-true, eqb-false, ne_eqb, lt-ltb, le-ltb}
use Rattle.word.specs.Word.{choose}
use Rattle.runs.specs.Lists.{every}
use Rattle.runs.proofs.ListLaws.{and_left}
use Rattle.decimal.specs.Decimal.{decimal_of}
use Rattle.decimal.proofs.Laws.{decimal_some, decimal_short}
use Rattle.delimited.specs.Number.{digit, at_most}
use Rattle.delimited.proofs.Written.{decimal_digits, number_read, number_written}
use Rattle.cfg_line.specs.Number.{negative, literal_of}
use Rattle.cfg_write.specs.Write.{literal_text}

pub literal_read : (w : ℕ) → w < 2 ^ 32 → literal_of (literal_text w) ≡ Some w
unfolding literal_of literal_text
literal_read w h = go (dec_lt w (2 ^ 31))
  where
    -- the digits do not begin with a minus
    plain : (f : List ℕ) → 0 < length f → every digit f ≡ true → literal_of f ≡ at_most (2 ^ 31 - 1) f
    plain [] s d = absurd (omega arith)
    plain (b ∷ bs) s d =
        let low = leb-true 48 b (and_left (leb 48 b) (leb b 57) (and_left (digit b) (every digit bs) d)) in
        rw (ne_eqb b 45 (λ e. omega arith))

    go : Dec (w < 2 ^ 31) → literal_of (literal_text w) ≡ Some w
    go (yes l) =
        rw (lt-ltb w (2 ^ 31) l) (plain (decimal_of w) (decimal_some w) (decimal_digits w) ∙ number_read (2 ^ 31 - 1) w (omega arith))
    go (no l) =
        let e : 2 ^ 32 - (2 ^ 32 - w) ≡ w = omega arith in
        rw (le-ltb w (2 ^ 31) (omega arith), number_read (2 ^ 31) (2 ^ 32 - w) (omega arith), ne_eqb (2 ^ 32 - w) 0 (λ z. omega arith), e)

pub record WrittenLiteral (w : ℕ) (f : List ℕ) : Type 0 where
  pub field : f ≡ literal_text w
  pub word : w < 2 ^ 32

pub literal_written : (w : ℕ) (f : List ℕ) → literal_of f ≡ Some w → WrittenLiteral w f
unfolding literal_of literal_text
literal_written w [] h = absurd (cc)
literal_written w (b ∷ bs) h = go (eqb b 45) refl h
  where
    minus : b ≡ 45 → (o : Option ℕ) → at_most (2 ^ 31) bs ≡ o → option_and_then negative o ≡ Some w → WrittenLiteral w (b ∷ bs)
    minus m None e h = absurd (cc)
    minus m (Some v) e h = by (eqb v 0) refl h
      where
        by : (z : Bool) → eqb v 0 ≡ z → choose z None (Some (2 ^ 32 - v)) ≡ Some w → WrittenLiteral w (b ∷ bs)
        by true z h = absurd (cc)
        by false z h =
            let n = number_written (2 ^ 31) v bs e in
            let s = n.small in
            let p = n.field in
            let q : 2 ^ 32 - v ≡ w = cc in
            let nz = eqb-false v 0 z in
            let pos : 1 ≤ v = positive v nz in
            let back : 2 ^ 32 - w ≡ v = omega arith in
            record { field = rw (le-ltb w (2 ^ 31) (omega arith), back) (cc); word = omega arith }
          where
            positive : (v : ℕ) → (v ≡ 0 → ⊥) → 1 ≤ v
            positive zero n = absurd (n refl)
            positive (suc v) n = omega arith

    go : (t : Bool) → eqb b 45 ≡ t → choose t (option_and_then negative (at_most (2 ^ 31) bs)) (at_most (2 ^ 31 - 1) (b ∷ bs)) ≡ Some w → WrittenLiteral w (b ∷ bs)
    go true e h = minus (eqb-true b 45 e) (at_most (2 ^ 31) bs) refl h
    go false e h =
        let n = number_written (2 ^ 31 - 1) w (b ∷ bs) h in
        let s = n.small in
        record { field = rw (lt-ltb w (2 ^ 31) (omega arith)) n.field; word = omega arith }

-- ---- lengths

pub number_length : (n : ℕ) → n ≤ 255 → length (decimal_of n) ≤ 3
number_length n h = decimal_short 2 n (omega arith)

pub literal_length : (w : ℕ) → w < 2 ^ 32 → length (literal_text w) ≤ 11
unfolding literal_text
literal_length w h = go (dec_lt w (2 ^ 31))
  where
    go : Dec (w < 2 ^ 31) → length (literal_text w) ≤ 11
    go (yes l) = let s = decimal_short 9 w (omega arith) in rw (lt-ltb w (2 ^ 31) l) (omega arith)
    go (no l) = let s = decimal_short 9 (2 ^ 32 - w) (omega arith) in rw (le-ltb w (2 ^ 31) (omega arith)) (omega arith)
