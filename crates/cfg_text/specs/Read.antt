-- "Read text into graph table" of paper 01: its answer and the table it leaves, on all inputs. Assumes nothing.
use Rattle.std.specs.Prelude.{ℕ, List, ◌++◌, ◌≡◌, length, drop, ltb, Result, Ok, Err}
use Rattle.refusal.specs.declared.Refusal.TheVariants.{LongText, ShortBuffer}
use Rattle.refusal.specs.Refusal.{number}
use Rattle.word.specs.Word.{choose}
use Rattle.cfg.specs.Layout.{graph_words}
use Rattle.cfg.specs.Table.{graph_table_of}
use Rattle.delimited.specs.Parts.{split_at}
use Rattle.cfg_text.specs.declared.ReadError.{ReadError}
use Rattle.cfg_text.specs.Walk.{Reading, refused, start, walk}

-- "A text has at most 16,384 bytes"
abbrev pub max_text : ℕ
max_text = 16384

-- the lines in order; the first faulty one decides
unfoldable pub read_text : List ℕ → Reading
unfolding walk split_at
read_text text = walk start 1 (split_at 10 text)

-- with the refusals that come before: a text too long, a table short
unfoldable pub reading : List ℕ → List ℕ → Reading
unfolding read_text
reading text table =
    choose (ltb max_text (length text)) (refused LongText 0)
    (choose (ltb (length table) graph_words) (refused ShortBuffer 0) (read_text text))

abbrev pub reading_answer : Reading → Result Unit ReadError
reading_answer (Err e) = Err e
reading_answer (Ok g) = Ok tt

-- the graph's words in front; on a refusal what the table held
abbrev pub words_after : Reading → List ℕ → List ℕ
words_after (Err e) table = table
words_after (Ok g) table = graph_table_of g ++ drop graph_words table

unfoldable pub read_answer : List ℕ → List ℕ → Result Unit ReadError
unfolding reading
read_answer text table = reading_answer (reading text table)

unfoldable pub read_words : List ℕ → List ℕ → List ℕ
unfolding reading graph_table_of
read_words text table = words_after (reading text table) table

-- the table's first words are such as reading makes: some text is accepted and leaves this very table
pub record Readable (table : List ℕ) : Type 0 where
  pub text : List ℕ
  pub accepted : read_answer text table ≡ Ok tt
  pub made : read_words text table ≡ table

-- paper 01's fields of an answer: number and line
abbrev pub read_number : Result Unit ReadError → ℕ
read_number (Err e) = number e.refusal
read_number (Ok u) = 0

abbrev pub read_line : Result Unit ReadError → ℕ
read_line (Err e) = e.line
read_line (Ok u) = 0
