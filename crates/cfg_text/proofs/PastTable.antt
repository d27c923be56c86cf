-- Reading into a table with words past its length: it reads none of them and leaves them. Assumes nothing.
use Prim.Native.Nat.{ℕ, ◌≤◌}
use native.Mathlib.Omega.{arith}
use mathlib.Core.List.{List, ◌++◌, append_assoc}
use mathlib.Core.Path.{◌≡◌, refl, sym, ap, ◌∙◌}
use lib.ListN.{length, drop, length-append}
use lib.Seq.{drop-append-le}
use borrow.Author.Tests.{le-ltb}
use Rattle.cfg.specs.Layout.{graph_words}
use Rattle.cfg.specs.Table.{graph_table_of}
use Rattle.std.specs.Prelude.{Ok, Err}
use Rattle.cfg_text.specs.Walk.{Reading}
use Rattle.cfg_text.specs.Read.{reading, reading_answer, words_after, read_answer, read_words}

module _ (text t u : List ℕ) (whole : graph_words ≤ length t) where
  past_whole : graph_words ≤ length (t ++ u)
  past_whole = rw length-append (omega arith)

  past_reading : reading text (t ++ u) ≡ reading text t
  unfolding reading
  past_reading = rw (le-ltb (length (t ++ u)) graph_words past_whole, le-ltb (length t) graph_words whole)

  past_words : (r : Reading) → words_after r (t ++ u) ≡ words_after r t ++ u
  past_words (Err e) = refl
  past_words (Ok g) = ap (λ (l : List ℕ). graph_table_of g ++ l) (drop-append-le graph_words t u whole) ∙ sym (append_assoc (graph_table_of g) (drop graph_words t) u)

  pub past_read_answer : read_answer text (t ++ u) ≡ read_answer text t
  unfolding read_answer
  past_read_answer = ap reading_answer past_reading

  pub past_read_words : read_words text (t ++ u) ≡ read_words text t ++ u
  unfolding read_words
  past_read_words = ap (λ (r : Reading). words_after r (t ++ u)) past_reading ∙ past_words (reading text t)
