-- What is known where running a graph is not refused, with words or without. Assumes nothing.
use Prim.Native.Nat.{ℕ, ◌≤◌}
use mathlib.Core.Bool.{true, not}
use mathlib.Core.List.{List}
use mathlib.Core.Path.{◌≡◌}
use lib.Dec.{ltb}
use lib.ListN.{length, get_or}
use borrow.Author.Tests.{ltb-false, not-false}
use Rattle.std.specs.Prelude.{Option, Some, None}
use Rattle.refusal.specs.declared.Refusal.{Refusal}
use Rattle.refusal.specs.declared.Refusal.TheVariants.{ShortBuffer, BadGraph, NoWords, NoStart, BadStarters}
use Rattle.word.specs.Word.{choose}
use Rattle.runs.proofs.KeptRegisters.{tests_passed}
use Rattle.runs.proofs.Tests.{or_false}
use Rattle.cfg.specs.Layout.{max_registers, graph_words}
use Rattle.cfg.specs.Graph.{wordless_graph}
use Rattle.cfg.specs.Table.{graph_of, admitted_graph}
use Rattle.cfg.specs.Run.{graph_short, starters_fit, graph_refusal, graph_words_refusal}

-- the buffer has all registers, and the table is admitted
pub record Unrefused (t rs : List ℕ) : Type 0 where
  pub long : max_registers ≤ length rs
  pub good : admitted_graph t ≡ true

-- both refusals begin with the same two tests
first_two : (t rs : List ℕ) (n : Option Refusal) → choose (graph_short t rs) (Some ShortBuffer) (choose (not (admitted_graph t)) (Some BadGraph) n) ≡ None → Unrefused t rs
first_two t rs n h =
    let p = tests_passed (graph_short t rs) ShortBuffer (choose (not (admitted_graph t)) (Some BadGraph) n) h in
    let q = tests_passed (not (admitted_graph t)) BadGraph n p.1 in
    record {
      long = ltb-false (length rs) max_registers (or_false (ltb (length t) graph_words) (ltb (length rs) max_registers) p.0).1;
      good = not-false (admitted_graph t) q.0;
    }

pub unrefused : (t rs : List ℕ) (start : ℕ) → graph_refusal t rs start ≡ None → Unrefused t rs
unfolding graph_refusal
unrefused t rs start h = first_two t rs (choose (not (wordless_graph (graph_of t))) (Some NoWords) (choose (not (ltb start (get_or t 0 0))) (Some NoStart) None)) h

pub words_unrefused : (t rs : List ℕ) (start : ℕ) (starters : List ℕ) → graph_words_refusal t rs start starters ≡ None → Unrefused t rs
unfolding graph_words_refusal
words_unrefused t rs start starters h = first_two t rs (choose (not (ltb start (get_or t 0 0))) (Some NoStart) (choose (not (starters_fit (get_or t 0 0) start starters)) (Some BadStarters) None)) h
