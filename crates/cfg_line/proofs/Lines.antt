-- Each form of a line as the steps that read it, one field after another. Assumes nothing.
use Rattle.std.proofs.Common.{◌≡◌, ℕ, List, drop, sym, refl, ◌∙◌}
use Rattle.std.specs.Prelude.{Option, Some, None, option_and_then}
use Rattle.word.specs.Word.{set_code, in_code}
use Rattle.delimited.specs.declared.Field.{Field}
use Rattle.delimited.specs.Cursor.{field_at}
use Rattle.cfg_line.specs.declared.Comparing.{Comparing}
use Rattle.cfg_line.specs.declared.Parsed.{Parsed}
use Rattle.cfg_line.specs.declared.Keyword.TheVariants as keyword
use Rattle.cfg_line.specs.declared.Line.TheVariants as line
use Rattle.cfg_line.specs.Number.{small_number, literal_of}
use Rattle.cfg_line.specs.Name.{comparison_of}
use Rattle.cfg_line.specs.Form.{number, field, end, graph_line, instruction, ite_line, form_of}
use Rattle.cfg_line.specs.Cursor.{comparing_at, parsed, parsed_at}
use Rattle.cfg_line.proofs.Forms.{form_none, then_same, then_mapped, comma_is, feed_is}

module _ (text : List ℕ) where
  -- a field's number, and on with the text behind it
  abbrev with_number : ℕ → ℕ → (Field → Option Parsed) → Option Parsed
  with_number end at k = option_and_then k (field_at small_number end at (drop at text))

  pub graph_is : (at : ℕ) → parsed_at (form_of keyword.Graph) at (drop at text)
      ≡ with_number 44 at (λ b. with_number 10 b.next (λ r. parsed (graph_line b.value r.value) r.next))
  unfolding form_of
  graph_is at =
      comma_is small_number text at (λ b. number (λ r. end (graph_line b r))) (λ v. refl)
      ∙ then_same (λ (b : Field). feed_is small_number text b.next (graph_line b.value)) (field_at small_number 44 at (drop at text))

  pub block_is : (at : ℕ) → parsed_at (form_of keyword.Block) at (drop at text) ≡ with_number 10 at (λ n. parsed (Some (line.Block n.value)) n.next)
  unfolding form_of
  block_is at = feed_is small_number text at (λ n. Some (line.Block n))

  pub goto_is : (at : ℕ) → parsed_at (form_of keyword.Goto) at (drop at text) ≡ with_number 10 at (λ t. parsed (Some (line.Goto t.value)) t.next)
  unfolding form_of
  goto_is at = feed_is small_number text at (λ t. Some (line.Goto t))

  pub set_is : (at : ℕ) → parsed_at (form_of keyword.Set) at (drop at text)
      ≡ with_number 44 at (λ d. option_and_then (λ (a : Field). parsed (Some (instruction set_code d.value a.value 0)) a.next) (field_at literal_of 10 d.next (drop d.next text)))
  unfolding form_of
  set_is at =
      comma_is small_number text at (λ d. field literal_of (λ a. end (Some (instruction set_code d a 0)))) (λ v. refl)
      ∙ then_same (λ (d : Field). feed_is literal_of text d.next (λ a. Some (instruction set_code d.value a 0))) (field_at small_number 44 at (drop at text))

  pub in_is : (at : ℕ) → parsed_at (form_of keyword.In) at (drop at text) ≡ with_number 10 at (λ d. parsed (Some (instruction in_code d.value 0 0)) d.next)
  unfolding form_of
  in_is at = feed_is small_number text at (λ d. Some (instruction in_code d 0 0))

  pub unary_is : (k at : ℕ) → parsed_at (form_of (keyword.Unary k)) at (drop at text)
      ≡ with_number 44 at (λ d. with_number 10 d.next (λ a. parsed (Some (instruction k d.value a.value 0)) a.next))
  unfolding form_of
  unary_is k at =
      comma_is small_number text at (λ d. number (λ a. end (Some (instruction k d a 0)))) (λ v. refl)
      ∙ then_same (λ (d : Field). feed_is small_number text d.next (λ a. Some (instruction k d.value a 0))) (field_at small_number 44 at (drop at text))

  pub binary_is : (k at : ℕ) → parsed_at (form_of (keyword.Binary k)) at (drop at text)
      ≡ with_number 44 at (λ d. with_number 44 d.next (λ a. with_number 10 a.next (λ b. parsed (Some (instruction k d.value a.value b.value)) b.next)))
  unfolding form_of
  binary_is k at =
      comma_is small_number text at (λ d. number (λ a. number (λ b. end (Some (instruction k d a b))))) (λ v. refl)
      ∙ then_same
      (λ (d : Field).
      comma_is small_number text d.next (λ a. number (λ b. end (Some (instruction k d.value a b)))) (λ v. refl)
      ∙ then_same (λ (a : Field). feed_is small_number text a.next (λ b. Some (instruction k d.value a.value b))) (field_at small_number 44 d.next (drop d.next text)))
      (field_at small_number 44 at (drop at text))

  -- behind a comparison: its operands and the two targets
  operands_is : (c at : ℕ) → parsed_at (number (λ a. number (λ b. number (λ t. number (λ f. end (Some (ite_line c a b t f))))))) at (drop at text)
      ≡ with_number 44 at
      (λ a. with_number 44 a.next (λ b. with_number 44 b.next (λ t. with_number 10 t.next (λ f. parsed (Some (ite_line c a.value b.value t.value f.value)) f.next))))
  operands_is c at =
      comma_is small_number text at (λ a. number (λ b. number (λ t. number (λ f. end (Some (ite_line c a b t f)))))) (λ v. refl)
      ∙ then_same
      (λ (a : Field).
      comma_is small_number text a.next (λ b. number (λ t. number (λ f. end (Some (ite_line c a.value b t f))))) (λ v. refl)
      ∙ then_same
      (λ (b : Field).
      comma_is small_number text b.next (λ t. number (λ f. end (Some (ite_line c a.value b.value t f)))) (λ v. refl)
      ∙ then_same (λ (t : Field). feed_is small_number text t.next (λ f. Some (ite_line c a.value b.value t.value f))) (field_at small_number 44 b.next (drop b.next text)))
      (field_at small_number 44 a.next (drop a.next text)))
      (field_at small_number 44 at (drop at text))

  pub ite_is : (at : ℕ) → parsed_at (form_of keyword.Ite) at (drop at text)
      ≡ option_and_then
      (λ (c : Comparing).
      with_number 44 c.next
      (λ a. with_number 44 a.next
      (λ b. with_number 44 b.next
      (λ t. with_number 10 t.next
      (λ f. parsed (Some (line.Ite (record { comparison = c.comparison; a = a.value; b = b.value }) t.value f.value)) f.next)))))
      (comparing_at at (drop at text))
  unfolding form_of comparing_at
  ite_is at =
      comma_is comparison_of text at (λ c. number (λ a. number (λ b. number (λ t. number (λ f. end (Some (ite_line c a b t f))))))) (λ v. refl)
      ∙ then_same (λ (c : Field). operands_is c.value c.next) (field_at comparison_of 44 at (drop at text))
      ∙ sym (then_mapped _ _ (field_at comparison_of 44 at (drop at text)))

  pub halt_is : (at : ℕ) → parsed_at (form_of keyword.Halt) at (drop at text) ≡ None
  unfolding form_of
  halt_is at = form_none (form_of keyword.Halt) at (drop at text) (λ f fs. refl)
