-- The fields of the answers of reading, writing, synthesis and comparing captures are the papers'. Assumes nothing.
use Prim.Native.Nat.{ℕ, ◌<◌}
use mathlib.Core.Bool.{Bool, true, false, ◌||◌}
use mathlib.Core.Path.{◌≡◌, refl}
use mathlib.Core.Logic.{◌⊎◌, inl, inr}
use mathlib.Core.List.{List}
use lib.ListN.{length}
use lib.Dec.{ltb}
use borrow.Author.Tests.{lt-ltb, le-ltb}
use Rattle.std.specs.Prelude.{Ok, Err}
use Rattle.capture.specs.Capture.{compare_lines, compare_captures, comparison}
use Rattle.cfg.specs.Layout.{graph_words}
use Rattle.cfg.specs.Table.{graph_of}
use Rattle.cfg_text.specs.Walk.{Reading}
use Rattle.cfg_text.specs.Read.{reading, reading_answer, read_answer, read_number, read_line}
use Rattle.cfg_write.specs.Write.{text_of, write_answer, write_number, write_length}
use Rattle.refusal.specs.declared.Refusal.TheVariants.{ShortOutput}
use Rattle.fsmd.specs.Layout.{machine_words}
use Rattle.synthesis.specs.Synthesis.{synthesis_answer, synthesis_number}
use Rattle.word.specs.Word.{choose}
use Rattle.compiler.specs.Answers.{number_in, line_in, ReadValues, WriteValues, SynthesisValues, CaptureValues}

number_in_lem : (x : Reading) → read_number (reading_answer x) ≡ number_in x
number_in_lem (Err e) = refl
number_in_lem (Ok g) = refl

line_in_lem : (x : Reading) → read_line (reading_answer x) ≡ line_in x
line_in_lem (Err e) = refl
line_in_lem (Ok g) = refl

pub read_values : (text table : List ℕ) → ReadValues text table (read_answer text table)
unfolding read_answer
read_values text table = record { number = number_in_lem (reading text table); line = line_in_lem (reading text table) }

written_number : (b : Bool) (n : ℕ) → write_number (choose b (Err (record { refusal = ShortOutput; length = n })) (Ok n)) ≡ choose b 8 0
written_number true n = refl
written_number false n = refl

written_length : (b : Bool) (n : ℕ) → write_length (choose b (Err (record { refusal = ShortOutput; length = n })) (Ok n)) ≡ n
written_length true n = refl
written_length false n = refl

module _ (table out : List ℕ) where
  pub write_values : WriteValues table out (write_answer table out)
  unfolding write_answer
  write_values =
      record {
        short = λ h. (rw (lt-ltb (length table) graph_words h), rw (lt-ltb (length table) graph_words h));
        other = λ h f. (rw (le-ltb (length table) graph_words h, f), rw (le-ltb (length table) graph_words h, f));
        number = λ h e. rw (le-ltb (length table) graph_words h, e) (written_number (ltb (length out) (length (text_of (graph_of table)))) (length (text_of (graph_of table))));
        needed = λ h e. rw (le-ltb (length table) graph_words h, e) (written_length (ltb (length out) (length (text_of (graph_of table)))) (length (text_of (graph_of table))));
      }

or_right : (b : Bool) → (b || true) ≡ true
or_right true = refl
or_right false = refl

module _ (graph machine : List ℕ) where
  short_table : (length graph < graph_words) ⊎ (length machine < machine_words) → synthesis_number (synthesis_answer graph machine) ≡ 7
  unfolding synthesis_answer
  short_table (inl h) = rw (lt-ltb (length graph) graph_words h)
  short_table (inr h) = rw (lt-ltb (length machine) machine_words h, or_right (ltb (length graph) graph_words))

  pub synthesis_values : SynthesisValues graph machine (synthesis_answer graph machine)
  unfolding synthesis_answer
  synthesis_values =
      record {
        short = short_table;
        other = λ h k f. rw (le-ltb (length graph) graph_words h, le-ltb (length machine) machine_words k, f);
        number = λ h k e. rw (le-ltb (length graph) graph_words h, le-ltb (length machine) machine_words k, e);
      }

module _ (r : ℕ) (one two : List ℕ) where
  pub capture_values : CaptureValues r one two (compare_captures r one two)
  unfolding compare_captures compare_lines comparison
  capture_values =
      record {
        range = λ f. rw f (refl, refl, refl, refl, refl, refl);
        first = λ i f e. rw (i, e) (refl, refl, refl, refl, refl, refl);
        second = λ i n f e. rw (i, n, e) (refl, refl, refl, refl, refl, refl);
        sound = λ i n m. rw (i, n, m) (refl, refl, refl, refl, refl, refl);
      }
