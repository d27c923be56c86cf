-- Why a lent table is refused, if it is. Assumes nothing.
use Rattle.std.specs.Prelude.{ℕ, not, List, length, ltb, Option, Some, None}
use Rattle.word.specs.Word.{choose}
use Rattle.refusal.specs.declared.Refusal.{Refusal}
use Rattle.refusal.specs.declared.Refusal.TheVariants.{ShortBuffer, BadGraph, NoWords}
use Rattle.cfg.specs.Layout.{graph_words}
use Rattle.cfg.specs.Graph.{wordless_graph}
use Rattle.cfg.specs.Table.{graph_of, admitted_graph}

-- too short, or not admitted
abbrev pub table_refusal : List ℕ → Option Refusal
table_refusal t =
    choose (ltb (length t) graph_words) (Some ShortBuffer)
    (choose (not (admitted_graph t)) (Some BadGraph) None)

-- the same where no words are given
abbrev pub wordless_table_refusal : List ℕ → Option Refusal
wordless_table_refusal t =
    choose (ltb (length t) graph_words) (Some ShortBuffer)
    (choose (not (admitted_graph t)) (Some BadGraph)
    (choose (not (wordless_graph (graph_of t))) (Some NoWords) None))
