-- The answer of reading and the table it leaves, by the tests that lead there. Assumes nothing.
use mathlib.Core.Path.{◌≡◌, ◌∙◌, refl, sym, ap}
use mathlib.Core.List.{List, ◌++◌}
use Prim.Native.Nat.{ℕ, ◌≤◌, ◌<◌}
use lib.ListN.{length, drop, replicate}
use borrow.Author.Tests.{lt-ltb, le-ltb}
use Rattle.cfg.specs.Layout.{graph_words}
use Rattle.std.specs.Prelude.{Result, Ok, Err}
use Rattle.refusal.specs.declared.Refusal.TheVariants.{LongText, ShortBuffer}
use Rattle.cfg_text.specs.declared.ReadError.{ReadError}
use Rattle.cfg_text.specs.Walk.{Reading, start}
use Rattle.cfg_text.specs.Read.{max_text, read_text, reading, reading_answer, words_after, read_answer, read_words}
use Rattle.cfg_text.specs.ReadSteps.{AnswersReading, words_so_far, filled}

-- a table of zeros
pub blank : replicate graph_words 0 ≡ filled start
unfolding filled words_so_far
blank = refl

module _ (text table : List ℕ) where
  pub too_long : max_text < length text → (Err (record { refusal = LongText; line = 0 }) ≡ read_answer text table) × (table ≡ read_words text table)
  unfolding read_answer read_words reading
  too_long h = (rw (lt-ltb max_text (length text) h), rw (lt-ltb max_text (length text) h))

  module _ (short : length text ≤ max_text) where
    pub too_short : length table < graph_words → (Err (record { refusal = ShortBuffer; line = 0 }) ≡ read_answer text table) × (table ≡ read_words text table)
    unfolding read_answer read_words reading
    too_short h =
        let a = le-ltb max_text (length text) short in
        let b = lt-ltb (length table) graph_words h in
        (rw (a, b), rw (a, b))

    module _ (long : graph_words ≤ length table) where
      both_pass : reading text table ≡ read_text text
      unfolding reading
      both_pass = rw (le-ltb max_text (length text) short, le-ltb (length table) graph_words long)

      module _ (r : Result Unit ReadError) (w : List ℕ) (a : AnswersReading r w (read_text text)) where
        pub answered : r ≡ read_answer text table
        unfolding read_answer
        answered = a.answer ∙ ap reading_answer (sym both_pass)

        -- on a refusal the table stays
        pub stays : {d : ReadError} → r ≡ Err d → table ≡ read_words text table
        unfolding read_words
        stays h = by (read_text text) refl ∙ ap (λ (x : Reading). words_after x table) (sym both_pass)
          where
            by : (x : Reading) → read_text text ≡ x → table ≡ words_after (read_text text) table
            by (Err d) e = ap (λ (y : Reading). words_after y table) (sym e)
            by (Ok g) e = let z = sym h ∙ a.answer ∙ ap reading_answer e in absurd (cc)

        -- a graph's words go in front
        pub written_over : (v : List ℕ) {u : Unit} → r ≡ Ok u → v ≡ w ++ drop graph_words table → v ≡ read_words text table
        unfolding read_words
        written_over v h e = e ∙ by (read_text text) refl ∙ ap (λ (x : Reading). words_after x table) (sym both_pass)
          where
            by : (x : Reading) → read_text text ≡ x → w ++ drop graph_words table ≡ words_after (read_text text) table
            by (Err d) q = let z = sym h ∙ a.answer ∙ ap reading_answer q in absurd (cc)
            by (Ok g) q = ap (λ (l : List ℕ). l ++ drop graph_words table) (a.words g q) ∙ ap (λ (y : Reading). words_after y table) (sym q)
