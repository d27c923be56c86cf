-- A literal by its first byte: a minus and a number, or a number. Assumes nothing.
use mathlib.Core.Path.{◌≡◌, ◌∙◌, refl, sym, ap}
use mathlib.Core.List.{List, ◌∷◌}
use mathlib.Core.Bool.{Bool, true, false}
use Rattle.std.specs.Prelude.{Option, Some, None, option_and_then}
use Prim.Native.Nat.{ℕ, ◌+◌, ◌-◌, ◌%◌, ◌^◌, ◌≤◌, ◌<◌}
use native.Mathlib.Omega.{arith}
use lib.ListN.{length, get_or, drop}
use lib.Dec.{eqb}
use borrow.Author.Tests.{eq-eqb, ne_eqb}
use Rattle.word.specs.Word.{choose}
use Rattle.delimited.specs.declared.Field.{Field}
use Rattle.delimited.specs.Number.{decimal, at_most}
use Rattle.delimited.specs.Cursor.{stops, front_field, stop_of, found, valued, field_at}
use Rattle.delimited.proofs.Numbers.{drop_more, at_byte, at_none, first_in}
use Rattle.cfg_line.specs.Number.{literal_of, negative}

-- a number with a minus before it
abbrev pub negated : Option Field → Option Field
negated o = option_and_then (λ (f : Field). valued (negative f.value) f.next) o

negated_valued : (o : Option ℕ) (n : ℕ) → valued (option_and_then negative o) n ≡ negated (valued o n)
negated_valued None n = refl
negated_valued (Some v) n = refl

pub literal_minus : (end at : ℕ) (s : List ℕ) → field_at literal_of end at (45 ∷ s) ≡ negated (field_at (at_most (2 ^ 31)) end (at + 1) s)
unfolding literal_of field_at
literal_minus end at s = first_in literal_of end at s 45 refl ∙ go (eqb (stop_of s) end) (at_most (2 ^ 31) (front_field s))
  where
    go :
        (t : Bool) (o : Option ℕ)
        → choose t (valued (option_and_then negative o) (at + 1 + length (front_field s) + 1)) None ≡ negated (choose t (valued o (at + 1 + length (front_field s) + 1)) None)
    go true o = negated_valued o (at + 1 + length (front_field s) + 1)
    go false o = refl

pub literal_plain : (end at : ℕ) (s : List ℕ) (b : ℕ) → (b ≡ 45 → ⊥) → field_at literal_of end at (b ∷ s) ≡ field_at (at_most (2 ^ 31 - 1)) end at (b ∷ s)
unfolding literal_of field_at front_field stop_of at_most decimal
literal_plain end at s b n = go (stops b) refl
  where
    go : (t : Bool) → stops b ≡ t → field_at literal_of end at (b ∷ s) ≡ field_at (at_most (2 ^ 31 - 1)) end at (b ∷ s)
    go true h = rw h
    go false h = rw (h, ne_eqb b 45 n)

-- ---- a literal in a text, by the byte that stands at `at`

module _ (end at : ℕ) (t : List ℕ) (e : stops end ≡ true) where
  pub none_at : length t ≤ at → None ≡ field_at literal_of end at (drop at t)
  none_at h = at_none literal_of end at t e h

  module _ (h : at < length t) where
    pub plain_at : (get_or t at 0 ≡ 45 → ⊥) → field_at (at_most 2147483647) end at (drop at t) ≡ field_at literal_of end at (drop at t)
    plain_at n = at_byte literal_of end at t h (literal_plain end at (drop (at + 1) t) (get_or t at 0) n ∙ sym (ap (field_at (at_most 2147483647) end at) (drop_more t at h)))

    module _ (b : get_or t at 0 ≡ 45) where
      minus_at : negated (field_at (at_most 2147483648) end (at + 1) (drop (at + 1) t)) ≡ field_at literal_of end at (drop at t)
      minus_at = at_byte literal_of end at t h (rw b (literal_minus end at (drop (at + 1) t)))

      pub minus_none : field_at (at_most 2147483648) end (at + 1) (drop (at + 1) t) ≡ None → None ≡ field_at literal_of end at (drop at t)
      minus_none n = ap negated (sym n) ∙ minus_at

      module _ {f : Field} (s : field_at (at_most 2147483648) end (at + 1) (drop (at + 1) t) ≡ Some f) where
        pub minus_zero : f.value ≡ 0 → None ≡ field_at literal_of end at (drop at t)
        minus_zero z = sym (rw (eq-eqb f.value 0 z)) ∙ ap negated (sym s) ∙ minus_at

        pub minus_some : (w : ℕ) → (f.value ≡ 0 → ⊥) → f.value < 2 ^ 32 → w < 2 ^ 32 → (w + f.value) % 2 ^ 32 ≡ 0 → found w f.next ≡ field_at literal_of end at (drop at t)
        minus_some w n l m z =
            let e : w ≡ 2 ^ 32 - f.value = omega arith in
            sym (rw (ne_eqb f.value 0 n, e)) ∙ ap negated (sym s) ∙ minus_at
