-- Signed readings: the machine's is the definition's, a shift keeps its size, and the word of a reading is the word. Assumes nothing.
use Rattle.std.proofs.Common.{◌≡◌, ℕ, suc, ◌-◌, ◌^◌, ◌<◌, Bool, true, false, ltb, ℤ, pos, negsuc, sym, refl, ◌∙◌, subst, arith, to_z-of_z, w32, SFits, to_z}
use lib.Signed.{shr_z, mag_shr}
use mir.Val.{sel}
use mir.ValLaws.{sfits_le}
use mir.Facts.{sfits_to_z}
use Rattle.word.specs.Word.{choose, signed_of, word_of}

-- ---- the machine's reading of a word is the definition's

pub signed_is : (x : ℕ) → to_z w32 x ≡ signed_of x
signed_is x = same (ltb x (2 ^ 31)) (pos x) (negsuc (2 ^ 32 - suc x))
  where
    same : (t : Bool) (y z : ℤ) → sel t y z ≡ choose t y z
    same true y z = refl
    same false y z = refl

pub signed_fits : (x : ℕ) → x < 2 ^ 32 → SFits w32 (signed_of x)
signed_fits x h = subst (SFits w32) (signed_is x) (sfits_to_z (record { fits = h }))

-- ---- shifts of signed readings

pub shr_fits : (x m : ℕ) → x < 2 ^ 32 → SFits w32 (shr_z (signed_of x) m)
shr_fits x m h = sfits_le {y = shr_z (signed_of x) m} {z = signed_of x} (mag_shr (signed_of x) m) (signed_fits x h)

-- ---- there and back

pub word_signed : (x : ℕ) → x < 2 ^ 32 → word_of (signed_of x) ≡ x
word_signed x h = go (ltb x (2 ^ 31))
  where
    go : (t : Bool) → word_of (choose t (pos x) (negsuc (2 ^ 32 - suc x))) ≡ x
    go true = refl
    go false = omega arith

pub signed_word : (z : ℤ) → SFits w32 z → signed_of (word_of z) ≡ z
signed_word (pos n) h = sym (signed_is n) ∙ to_z-of_z h
signed_word (negsuc n) h = sym (signed_is (2 ^ 32 - suc n)) ∙ to_z-of_z h
