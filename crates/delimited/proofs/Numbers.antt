-- One more byte of a number. Assumes nothing.
use Rattle.std.proofs.Common.{◌≡◌, ℕ, suc, ◌+◌, ◌-◌, ◌*◌, ◌<◌, ◌≤◌, Bool, true, false, eqb, leb, List, [], ◌∷◌, length, get_or, drop, sym, refl, ap, ◌∙◌, add-one, arith, drop-cons, drop_of_length-le, eq-eqb, ne_eqb, le-leb, leb-true}
use mathlib.Core.Bool.{and-false, and-true}
use Rattle.std.specs.Prelude.{Option, None}
use borrow.Author.Tests.{lt-leb}
use Rattle.word.specs.Word.{choose}
use Rattle.runs.specs.Lists.{every}
use Rattle.delimited.specs.declared.Field.{Field}
use Rattle.delimited.specs.Number.{digit, decimal, value_from, at_most}
use Rattle.delimited.specs.Cursor.{stops, front_field, stop_of, found, valued, field_at, digits_at_most}
use Rattle.delimited.proofs.Cursors.{field_none}

pub drop_more : (f : List ℕ) (i : ℕ) → i < length f → drop i f ≡ get_or f i 0 ∷ drop (i + 1) f
drop_more f i h = rw add-one (drop-cons f i 0 h)

-- where the text goes on, its next byte may stand in front; where it does not, nothing is read
pub at_byte : (read : List ℕ → Option ℕ) (end at : ℕ) (t : List ℕ) {r : Option Field}
    → at < length t → field_at read end at (get_or t at 0 ∷ drop (at + 1) t) ≡ r → r ≡ field_at read end at (drop at t)
at_byte read end at t h e = sym (ap (field_at read end at) (drop_more t at h) ∙ e)

pub at_none : (read : List ℕ → Option ℕ) (end at : ℕ) (t : List ℕ) → stops end ≡ true → length t ≤ at → None ≡ field_at read end at (drop at t)
at_none read end at t e h = sym (ap (field_at read end at) (drop_of_length-le t h) ∙ field_none read [] refl end at e)

pub value_grows : (v : ℕ) (f : List ℕ) → v ≤ value_from v f
unfolding value_from
value_grows v [] = omega arith
value_grows v (b ∷ bs) =
    let h = value_grows (v * 10 + (b - 48)) bs in
    omega arith

-- ---- a field by its first byte

module _ (read : List ℕ → Option ℕ) (end at : ℕ) (s : List ℕ) where
  -- that ends it
  pub first_end : stops end ≡ true → field_at read end at (end ∷ s) ≡ valued (read []) (at + 1)
  unfolding field_at front_field stop_of
  first_end h =
      let z : at + 0 + 1 ≡ at + 1 = omega arith in
      rw (h, eq-eqb end end refl) (ap (valued (read [])) z)

  -- that ends it in another way
  pub first_other : (b : ℕ) → stops b ≡ true → (b ≡ end → ⊥) → field_at read end at (b ∷ s) ≡ None
  unfolding field_at front_field stop_of
  first_other b h n = rw (h, ne_eqb b end n)

  -- that does not end it
  pub first_in : (b : ℕ) → stops b ≡ false → field_at read end at (b ∷ s) ≡ field_at (λ f. read (b ∷ f)) end (at + 1) s
  unfolding field_at front_field stop_of
  first_in b h =
      let e : at + suc (length (front_field s)) + 1 ≡ at + 1 + length (front_field s) + 1 = omega arith in
      rw (h, e)

  -- a field of which nothing is read
  pub first_bad : (b : ℕ) → stops b ≡ false → ((f : List ℕ) → read (b ∷ f) ≡ None) → field_at read end at (b ∷ s) ≡ None
  unfolding field_at front_field stop_of
  first_bad b h n = rw (h, n (front_field s)) (go (eqb (stop_of s) end))
    where
      go : (t : Bool) → ◌≡◌ {A = Option Field} (choose t None None) None
      go true = refl
      go false = refl

  -- a field read in another way
  pub first_as :
      (other : List ℕ → Option ℕ) (b : ℕ)
      → stops b ≡ false
      → ((f : List ℕ) → read (b ∷ f) ≡ other (b ∷ f))
      → field_at read end at (b ∷ s) ≡ field_at other end at (b ∷ s)
  unfolding field_at front_field stop_of
  first_as other b h e = rw (h, e (front_field s))

pub no_byte : (read : List ℕ → Option ℕ) (end at : ℕ) → stops end ≡ true → field_at read end at [] ≡ None
no_byte read end at h = field_none read [] refl end at h

-- ---- digits

digit_inside : (b : ℕ) → 48 ≤ b → b ≤ 57 → stops b ≡ false
digit_inside b l u = rw (ne_eqb b 44 (λ e. omega arith), ne_eqb b 10 (λ e. omega arith))

module _ (most v end at : ℕ) (s : List ℕ) (e : stops end ≡ true) where
  pub digits_end : v ≤ most → field_at (digits_at_most most v) end at (end ∷ s) ≡ found v (at + 1)
  unfolding digits_at_most value_from
  digits_end h = first_end (digits_at_most most v) end at s e ∙ rw (le-leb v most h)

  pub digits_bad : (b : ℕ) → ((48 ≤ b) × (b ≤ 57) → ⊥) → (b ≡ end → ⊥) → field_at (digits_at_most most v) end at (b ∷ s) ≡ None
  unfolding digits_at_most
  digits_bad b n o = go (stops b) refl
    where
      none_read : (f : List ℕ) → digits_at_most most v (b ∷ f) ≡ None
      none_read f = by (leb 48 b) refl (leb b 57) refl
        where
          by : (p : Bool) → leb 48 b ≡ p → (q : Bool) → leb b 57 ≡ q → digits_at_most most v (b ∷ f) ≡ None
          by true p true q = absurd (n (leb-true 48 b p, leb-true b 57 q))
          by true p false q = rw (p, q)
          by false p t q = rw p

      go : (t : Bool) → stops b ≡ t → field_at (digits_at_most most v) end at (b ∷ s) ≡ None
      go true h = first_other (digits_at_most most v) end at s b h o
      go false h = first_bad (digits_at_most most v) end at s b h none_read

  pub digits_over : (b : ℕ) → 48 ≤ b → b ≤ 57 → most < v * 10 + (b - 48) → field_at (digits_at_most most v) end at (b ∷ s) ≡ None
  unfolding digits_at_most value_from
  digits_over b l u o = first_bad (digits_at_most most v) end at s b (digit_inside b l u) none_read
    where
      none_read : (f : List ℕ) → digits_at_most most v (b ∷ f) ≡ None
      none_read f =
          let g = value_grows (v * 10 + (b - 48)) f in
          rw (lt-leb (value_from (v * 10 + (b - 48)) f) most (omega arith), and-false)

  pub digits_more : (b : ℕ) → 48 ≤ b → b ≤ 57
      → field_at (digits_at_most most v) end at (b ∷ s) ≡ field_at (digits_at_most most (v * 10 + (b - 48))) end (at + 1) s
  unfolding field_at digits_at_most value_from
  digits_more b l u = first_in (digits_at_most most v) end at s b (digit_inside b l u) ∙ rw (le-leb 48 b l, le-leb b 57 u)

-- w is the value behind one more digit of the text
pub digits_next : (most v w end at : ℕ) (t : List ℕ)
    → stops end ≡ true → at < length t → 48 ≤ get_or t at 0 → get_or t at 0 ≤ 57 → w ≡ v * 10 + (get_or t at 0 - 48)
    → field_at (digits_at_most most w) end (at + 1) (drop (at + 1) t) ≡ field_at (digits_at_most most v) end at (drop at t)
digits_next most v w end at t s h low high e =
    ap (λ (x : ℕ). field_at (digits_at_most most x) end (at + 1) (drop (at + 1) t)) e
    ∙ at_byte (digits_at_most most v) end at t h (digits_more most v end at (drop (at + 1) t) s (get_or t at 0) low high)

-- ---- numbers: at least one digit, and no leading zero

all_digits : (b : ℕ) (f : List ℕ) → (b ≡ 48 → ⊥) → decimal (b ∷ f) ≡ every digit (b ∷ f)
unfolding decimal
all_digits b [] n = sym (and-true (digit b))
all_digits b (c ∷ f) n = rw (ne_eqb b 48 n)

module _ (most end at : ℕ) (s : List ℕ) (e : stops end ≡ true) where
  pub number_none : field_at (at_most most) end at (end ∷ s) ≡ None
  unfolding at_most decimal
  number_none = first_end (at_most most) end at s e

  pub number_digits : (b : ℕ) → (b ≡ end → ⊥) → (b ≡ 48 → ⊥)
      → field_at (at_most most) end at (b ∷ s) ≡ field_at (digits_at_most most 0) end at (b ∷ s)
  unfolding at_most digits_at_most
  number_digits b o n = go (stops b) refl
    where
      same_read : (f : List ℕ) → at_most most (b ∷ f) ≡ digits_at_most most 0 (b ∷ f)
      same_read f = rw (all_digits b f n)

      go : (t : Bool) → stops b ≡ t → field_at (at_most most) end at (b ∷ s) ≡ field_at (digits_at_most most 0) end at (b ∷ s)
      go true h = first_other (at_most most) end at s b h o ∙ sym (first_other (digits_at_most most 0) end at s b h o)
      go false h = first_as (at_most most) end at s (digits_at_most most 0) b h same_read

  pub number_zero : field_at (at_most most) end at (48 ∷ end ∷ s) ≡ found 0 (at + 1 + 1)
  unfolding at_most decimal value_from
  number_zero =
      first_in (at_most most) end at (end ∷ s) 48 refl
      ∙ first_end (λ f. at_most most (48 ∷ f)) end (at + 1) s e
      ∙ rw (le-leb 0 most (omega arith))

  pub number_zero_alone : field_at (at_most most) end at (48 ∷ []) ≡ None
  number_zero_alone = first_in (at_most most) end at [] 48 refl ∙ no_byte (λ f. at_most most (48 ∷ f)) end (at + 1) e

  pub number_zero_leads : (b : ℕ) → (b ≡ end → ⊥) → field_at (at_most most) end at (48 ∷ b ∷ s) ≡ None
  unfolding at_most decimal
  number_zero_leads b o = first_in (at_most most) end at (b ∷ s) 48 refl ∙ go (stops b) refl
    where
      go : (t : Bool) → stops b ≡ t → field_at (λ f. at_most most (48 ∷ f)) end (at + 1) (b ∷ s) ≡ None
      go true h = first_other (λ f. at_most most (48 ∷ f)) end (at + 1) s b h o
      go false h = first_bad (λ f. at_most most (48 ∷ f)) end (at + 1) s b h (λ f. refl)

-- ---- numbers in a text, by the bytes that stand at `at` and behind it

module _ (most end at : ℕ) (t : List ℕ) (e : stops end ≡ true) where
  pub none_at : length t ≤ at → None ≡ field_at (at_most most) end at (drop at t)
  none_at h = at_none (at_most most) end at t e h

  module _ (h : at < length t) where
    pub end_at : get_or t at 0 ≡ end → None ≡ field_at (at_most most) end at (drop at t)
    end_at b = at_byte (at_most most) end at t h (rw b (number_none most end at (drop (at + 1) t) e))

    -- a first digit that is not 0
    pub other_at : (get_or t at 0 ≡ end → ⊥) → (get_or t at 0 ≡ 48 → ⊥)
        → field_at (digits_at_most most 0) end at (drop at t) ≡ field_at (at_most most) end at (drop at t)
    other_at o n =
        at_byte (at_most most) end at t h
        (number_digits most end at (drop (at + 1) t) e (get_or t at 0) o n ∙ at_byte (digits_at_most most 0) end at t h refl)

    module _ (b : get_or t at 0 ≡ 48) where
      pub zero_alone_at : length t ≤ at + 1 → None ≡ field_at (at_most most) end at (drop at t)
      zero_alone_at l = at_byte (at_most most) end at t h (rw (b, drop_of_length-le t l) (number_zero_alone most end at [] e))

      module _ (g : at + 1 < length t) where
        pub zero_at : get_or t (at + 1) 0 ≡ end → found 0 (at + 2) ≡ field_at (at_most most) end at (drop at t)
        zero_at f =
            let n : at + 1 + 1 ≡ at + 2 = omega arith in
            at_byte (at_most most) end at t h (rw (b, drop_more t (at + 1) g, f) (number_zero most end at (drop (at + 1 + 1) t) e ∙ ap (found 0) n))

        pub zero_leads_at : (get_or t (at + 1) 0 ≡ end → ⊥) → None ≡ field_at (at_most most) end at (drop at t)
        zero_leads_at o =
            at_byte (at_most most) end at t h
            (rw (b, drop_more t (at + 1) g) (number_zero_leads most end at (drop (at + 1 + 1) t) e (get_or t (at + 1) 0) o))
