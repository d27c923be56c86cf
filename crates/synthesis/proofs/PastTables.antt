-- Synthesis on tables with words past their lengths: it reads none of them and leaves them. Assumes nothing.
use Prim.Native.Nat.{ℕ, ◌≤◌}
use native.Mathlib.Omega.{arith}
use mathlib.Core.Bool.{Bool, true, false}
use mathlib.Core.List.{List, ◌++◌, append_assoc}
use mathlib.Core.Path.{◌≡◌, refl, sym, ap, ap₂, ◌∙◌}
use lib.ListN.{length, drop, length-append}
use lib.Seq.{drop-append-le}
use Rattle.cfg.specs.Layout.{graph_words}
use Rattle.cfg.specs.Graph.{CFG}
use Rattle.cfg.specs.Table.{graph_of, admitted_graph}
use Rattle.cfg.proofs.PastTable.{past_whole, past_admitted, past_graph}
use Rattle.fsmd.specs.Layout.{machine_words}
use Rattle.fsmd.specs.Table.{machine_table_of}
use Rattle.synthesis.specs.Synthesis.{machine, synthesis_answer, synthesis_words}
use Rattle.synthesis.proofs.MadeTable.{made_words, admitted_made}
use Rattle.synthesis.proofs.TableFilled.{not_admitted}

module _ (t u m v : List ℕ) (whole : graph_words ≤ length t) (room : machine_words ≤ length m) where
  past_room : machine_words ≤ length (m ++ v)
  past_room = rw length-append (omega arith)

  past_good : (b : Bool) → admitted_graph t ≡ b → admitted_graph (t ++ u) ≡ b
  past_good b e = past_admitted t u whole ∙ e

  pub past_synthesis_answer : synthesis_answer (t ++ u) (m ++ v) ≡ synthesis_answer t m
  past_synthesis_answer = go (admitted_graph t) refl
    where
      go : (b : Bool) → admitted_graph t ≡ b → synthesis_answer (t ++ u) (m ++ v) ≡ synthesis_answer t m
      go false e = sym (not_admitted (t ++ u) (m ++ v) (past_whole t u whole) past_room (past_good false e)).0 ∙ (not_admitted t m whole room e).0
      go true e = admitted_made (t ++ u) (m ++ v) (past_good true e) past_room ∙ sym (admitted_made t m e room)

  pub past_synthesis_words : synthesis_words (t ++ u) (m ++ v) ≡ synthesis_words t m ++ v
  past_synthesis_words = go (admitted_graph t) refl
    where
      go : (b : Bool) → admitted_graph t ≡ b → synthesis_words (t ++ u) (m ++ v) ≡ synthesis_words t m ++ v
      go false e =
          sym (not_admitted (t ++ u) (m ++ v) (past_whole t u whole) past_room (past_good false e)).1
          ∙ ap (λ (l : List ℕ). l ++ v) (not_admitted t m whole room e).1
      go true e =
          made_words (t ++ u) (m ++ v) (admitted_made (t ++ u) (m ++ v) (past_good true e) past_room)
          ∙ ap₂ (λ (g : CFG) (l : List ℕ). machine_table_of (machine g) ++ l) (past_graph t u whole e) (drop-append-le machine_words m v room)
          ∙ sym (append_assoc (machine_table_of (machine (graph_of t))) (drop machine_words m) v)
          ∙ ap (λ (l : List ℕ). l ++ v) (sym (made_words t m (admitted_made t m e room)))
