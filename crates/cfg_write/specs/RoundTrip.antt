-- Demand 2, "reading and writing are exact inverses": what each gives back of the other. Assumes nothing.
-- To be read beside "Operations and their refusals" of paper 01. proofs/RoundTrip proves both.
use Rattle.std.specs.Prelude.{ℕ, ◌≡◌, List, ◌++◌, length, take, drop, Ok}
use Rattle.cfg.specs.Layout.{graph_words}
use Rattle.cfg_text.specs.Read.{read_answer, read_words}
use Rattle.cfg_write.specs.Write.{write_answer, write_bytes}

-- a text that was read into `table`: writing that table gives the same text; bytes of `out` past it stay
pub record WrittenAgain (text table out : List ℕ) : Type 0 where
  pub accepted : write_answer table out ≡ Ok (length text)
  pub bytes : write_bytes table out ≡ text ++ drop (length text) out

-- a table that was written as `text`: reading that text gives the same 2,562 words; words of `again` past them stay
pub record ReadAgain (table again text : List ℕ) : Type 0 where
  pub accepted : read_answer text again ≡ Ok tt
  pub words : read_words text again ≡ take graph_words table ++ drop graph_words again
