-- What Synthesise leaves by its answer, and when it makes a machine. Assumes nothing.
use Prim.Native.Nat.{ℕ, ◌≤◌}
use mathlib.Core.Path.{◌≡◌, refl, ap}
use mathlib.Core.Bool.{Bool, true, false, not, ◌||◌}
use mathlib.Core.List.{List, ◌++◌}
use lib.ListN.{length, drop}
use lib.Dec.{ltb}
use borrow.Author.Tests.{le-ltb}
use Rattle.std.specs.Prelude.{Result, Ok, Err}
use Rattle.refusal.specs.declared.Refusal.{Refusal}
use Rattle.refusal.specs.declared.Refusal.TheVariants.{BadGraph, ShortBuffer}
use Rattle.word.specs.Word.{choose}
use Rattle.cfg.specs.Layout.{graph_words}
use Rattle.cfg.specs.Table.{graph_of, admitted_graph}
use Rattle.cfg.proofs.Admitted.{admitted_facts}
use Rattle.fsmd.specs.Layout.{machine_words}
use Rattle.fsmd.specs.Table.{machine_table_of}
use Rattle.synthesis.specs.Synthesis.{machine, synthesis_answer, made, synthesis_words}

module _ (t old : List ℕ) where
  pub answer_words : (a : Result (Unit {0}) Refusal) → synthesis_answer t old ≡ a → synthesis_words t old ≡ made a (machine_table_of (machine (graph_of t)) ++ drop machine_words old) old
  unfolding synthesis_words
  answer_words a e = ap (λ (b : Result (Unit {0}) Refusal). made b (machine_table_of (machine (graph_of t)) ++ drop machine_words old) old) e

  pub made_words : synthesis_answer t old ≡ Ok tt → synthesis_words t old ≡ machine_table_of (machine (graph_of t)) ++ drop machine_words old
  made_words e = answer_words (Ok tt) e

  pub admitted_made : admitted_graph t ≡ true → machine_words ≤ length old → synthesis_answer t old ≡ Ok tt
  unfolding synthesis_answer
  admitted_made ok long = rw (le-ltb (length t) graph_words (admitted_facts t ok).long, le-ltb (length old) machine_words long, ok) refl

  made_test : (short ok : Bool) → choose {X = Result (Unit {0}) Refusal} short (Err ShortBuffer) (choose (not ok) (Err BadGraph) (Ok tt)) ≡ Ok tt → ok ≡ true
  made_test true ok e = cc
  made_test false true e = refl
  made_test false false e = cc

  pub made_admitted : synthesis_answer t old ≡ Ok tt → admitted_graph t ≡ true
  unfolding synthesis_answer
  made_admitted e = made_test (ltb (length t) graph_words || ltb (length old) machine_words) (admitted_graph t) e
