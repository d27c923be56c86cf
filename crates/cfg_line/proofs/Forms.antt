-- A graph's line, field by field: the laws of a text's first line, for the forms of a graph's text. Assumes nothing.
use Rattle.std.proofs.Common.{◌≡◌, ℕ, ◌+◌, true, List, [], ◌∷◌, ◌++◌, length, drop, refl, ap}
use Rattle.std.specs.Prelude.{Option, Some, None, option_map, option_and_then}
use Rattle.delimited.specs.declared.Field.{Field}
use Rattle.delimited.specs.Parts.{Fields}
use Rattle.delimited.specs.Cursor.{field_at}
use Rattle.delimited.proofs.Cursors.{whole, no_feed}
use Rattle.delimited.proofs.Lines as lines
use Rattle.cfg_line.specs.declared.Line.{Line}
use Rattle.cfg_line.specs.Form.{field, end}
use Rattle.cfg_line.specs.Cursor.{parsed, parsed_at}

module _ (k : Fields → Option Line) (at : ℕ) where
  -- a form that wants no field, of a line that has one
  pub form_none : (s : List ℕ) → ((f : List ℕ) (fs : Fields) → k (f ∷ fs) ≡ None) → parsed_at k at s ≡ None
  unfolding parsed_at
  form_none s h = lines.line_none None (λ fs. parsed (k fs)) at s (λ f fs n. rw (h f fs))

  pub form_open : (s : List ℕ) → whole s ≡ true → parsed_at k at s ≡ None
  unfolding parsed_at
  form_open s w = lines.line_open None (λ fs. parsed (k fs)) at s (no_feed s w)

  pub form_feed : (f t : List ℕ) → whole f ≡ true → parsed_at k at (f ++ (10 ∷ t)) ≡ parsed (k (f ∷ [])) (at + length f + 1)
  unfolding parsed_at
  form_feed f t w = lines.field_feed None (λ fs. parsed (k fs)) at f t w

  pub form_comma : (f t : List ℕ) → whole f ≡ true → parsed_at k at (f ++ (44 ∷ t)) ≡ parsed_at (λ fs. k (f ∷ fs)) (at + length f + 1) t
  unfolding parsed_at
  form_comma f t w = lines.field_comma None (λ fs. parsed (k fs)) at f t w

-- ---- the same value in two ways, where there is one

module _ {A B : Type 0} where
  pub then_same : {g h : A → Option B} → ((x : A) → g x ≡ h x) → (o : Option A) → option_and_then g o ≡ option_and_then h o
  then_same e None = refl
  then_same e (Some x) = e x

  pub then_mapped : {C : Type 0} (g : C → Option B) (h : A → C) (o : Option A) → option_and_then g (option_map h o) ≡ option_and_then (λ x. g (h x)) o
  then_mapped g h None = refl
  then_mapped g h (Some x) = refl

-- ---- one field of a form

none_read : (o : Option ℕ) (k : ℕ → Option Line) → ((v : ℕ) → k v ≡ None) → option_and_then k o ≡ None
none_read None k h = refl
none_read (Some v) k h = h v

module _ (read : List ℕ → Option ℕ) (text : List ℕ) (at : ℕ) where
  -- a field with a comma behind it, where the form wants more
  pub comma_is : (k : ℕ → Fields → Option Line) → ((v : ℕ) → k v [] ≡ None)
      → parsed_at (field read k) at (drop at text)
      ≡ option_and_then (λ (f : Field). parsed_at (k f.value) f.next (drop f.next text)) (field_at read 44 at (drop at text))
  unfolding parsed_at
  comma_is k more = go (field_at read 44 at (drop at text)) refl
    where
      go : (o : Option Field) → field_at read 44 at (drop at text) ≡ o
          → parsed_at (field read k) at (drop at text) ≡ option_and_then (λ (f : Field). parsed_at (k f.value) f.next (drop f.next text)) o
      go None e =
          lines.not_on None (λ fs. parsed (field read k fs)) read at (drop at text) (λ f fs m u. rw u)
          (λ f m. rw (none_read (read f) (λ v. k v []) more)) e
      go (Some g) e =
          lines.on None (λ fs. parsed (field read k fs)) read text at (λ fs. parsed (k g.value fs))
          (λ f fs m u. ap (λ (o : Option ℕ). parsed (option_and_then (λ x. k x fs) o) m) u) e

  -- the last field, with the line feed behind it
  pub feed_is : (l : ℕ → Option Line)
      → parsed_at (field read (λ x. end (l x))) at (drop at text)
      ≡ option_and_then (λ (f : Field). parsed (l f.value) f.next) (field_at read 10 at (drop at text))
  unfolding parsed_at
  feed_is l = go (field_at read 10 at (drop at text)) refl
    where
      go : (o : Option Field) → field_at read 10 at (drop at text) ≡ o
          → parsed_at (field read (λ x. end (l x))) at (drop at text) ≡ option_and_then (λ (f : Field). parsed (l f.value) f.next) o
      go None e =
          lines.not_last None (λ fs. parsed (field read (λ x. end (l x)) fs)) read at (drop at text) (λ f fs m u. rw u)
          (λ f g fs m. rw (none_read (read f) (λ v. end (l v) (g ∷ fs)) (λ v. refl))) e
      go (Some g) e =
          lines.last None (λ fs. parsed (field read (λ x. end (l x)) fs)) read text at {v = g.value} (parsed (l g.value)) (λ f m u. rw u) e
