-- Writing a table with words past its length: it reads none of them. Assumes nothing.
use Prim.Native.Nat.{ℕ, ◌≤◌}
use mathlib.Core.Bool.{Bool, true, false}
use mathlib.Core.List.{List, ◌++◌}
use mathlib.Core.Path.{◌≡◌, refl, sym, ◌∙◌}
use lib.ListN.{length}
use borrow.Author.Tests.{le-ltb}
use Rattle.cfg.specs.Layout.{graph_words}
use Rattle.cfg.specs.Table.{admitted_graph}
use Rattle.cfg.proofs.PastTable.{past_whole, past_admitted, past_graph}
use Rattle.std.specs.Prelude.{Err}
use Rattle.refusal.specs.declared.Refusal.TheVariants.{BadGraph}
use Rattle.cfg_write.specs.Write.{write_answer, write_bytes}
use Rattle.cfg_write.proofs.AnswerLaws.{answer_is, bytes_are}

not_admitted : (t out : List ℕ) → graph_words ≤ length t → admitted_graph t ≡ false → write_answer t out ≡ Err (record { refusal = BadGraph; length = 0 })
not_admitted t out whole e = answer_is t out ∙ rw (le-ltb (length t) graph_words whole, e)

module _ (t u out : List ℕ) (whole : graph_words ≤ length t) where
  pub past_write_answer : write_answer (t ++ u) out ≡ write_answer t out
  past_write_answer = go (admitted_graph t) refl
    where
      go : (b : Bool) → admitted_graph t ≡ b → write_answer (t ++ u) out ≡ write_answer t out
      go false e = not_admitted (t ++ u) out (past_whole t u whole) (past_admitted t u whole ∙ e) ∙ sym (not_admitted t out whole e)
      go true e =
          answer_is (t ++ u) out
          ∙ rw (le-ltb (length (t ++ u)) graph_words (past_whole t u whole), past_admitted t u whole, e, past_graph t u whole e)
          (sym (answer_is t out ∙ rw (le-ltb (length t) graph_words whole, e)))

  pub past_write_bytes : write_bytes (t ++ u) out ≡ write_bytes t out
  past_write_bytes = go (admitted_graph t) refl
    where
      go : (b : Bool) → admitted_graph t ≡ b → write_bytes (t ++ u) out ≡ write_bytes t out
      go false e =
          bytes_are (t ++ u) out ∙ rw (past_write_answer, not_admitted t out whole e) (sym (bytes_are t out ∙ rw (not_admitted t out whole e)))
      go true e = bytes_are (t ++ u) out ∙ rw (past_write_answer, past_graph t u whole e) (sym (bytes_are t out))
