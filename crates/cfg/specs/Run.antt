-- "Run graph" of paper 01, and with words as R-1 of paper 02 adds it: answers, and registers left, on all inputs. Assumes nothing.
use Rattle.std.specs.Prelude.{ℕ, Bool, not, ◌&&◌, ◌||◌, List, [], length, ltb, Option, Some, None, Result}
use Rattle.word.specs.Word.{choose}
use Rattle.runs.specs.Lists.{mem, every}
use Rattle.runs.specs.Runs.{listed, unread}
use Rattle.runs.specs.Operations.{answered, registers_left}
use Rattle.runs.specs.declared.RunEnd.{RunEnd}
use Rattle.refusal.specs.declared.Refusal.{Refusal}
use Rattle.refusal.specs.declared.Refusal.TheVariants.{ShortBuffer, BadGraph, NoWords, NoStart, BadStarters}
use Rattle.cfg.specs.Layout.{max_registers, graph_words}
use Rattle.cfg.specs.Graph.{wordless_graph, graph_runner}
use Rattle.cfg.specs.Table.{block_count, graph_of, admitted_graph}

abbrev pub graph_short : List ℕ → List ℕ → Bool
graph_short t rs = ltb (length t) graph_words || ltb (length rs) max_registers

-- ---- without words

-- a short table or register buffer, a table that is not admitted, one with code 20, or a start that is no block
unfoldable pub graph_refusal : List ℕ → List ℕ → ℕ → Option Refusal
unfolding admitted_graph wordless_graph graph_of
graph_refusal t rs start =
    choose (graph_short t rs) (Some ShortBuffer)
    (choose (not (admitted_graph t)) (Some BadGraph)
    (choose (not (wordless_graph (graph_of t))) (Some NoWords)
    (choose (not (ltb start (block_count t))) (Some NoStart) None)))

abbrev pub graph_answer : List ℕ → List ℕ → ℕ → ℕ → Result RunEnd Refusal
graph_answer t rs start budget = answered (graph_refusal t rs start) (graph_runner (graph_of t) []) unread rs start budget

abbrev pub graph_registers : List ℕ → List ℕ → ℕ → ℕ → List ℕ
graph_registers t rs start budget = registers_left (graph_refusal t rs start) (graph_runner (graph_of t) []) unread rs start budget

-- ---- with words, and the starters whose every coming to is an arrival

-- block 0 and the start are among the starters, and each is one of b blocks
abbrev pub starters_fit : ℕ → ℕ → List ℕ → Bool
starters_fit b start starters = mem 0 starters && mem start starters && every (λ s. ltb s b) starters

-- the same but for code 20, then starters that do not fit
unfoldable pub graph_words_refusal : List ℕ → List ℕ → ℕ → List ℕ → Option Refusal
unfolding admitted_graph
graph_words_refusal t rs start starters =
    choose (graph_short t rs) (Some ShortBuffer)
    (choose (not (admitted_graph t)) (Some BadGraph)
    (choose (not (ltb start (block_count t))) (Some NoStart)
    (choose (not (starters_fit (block_count t) start starters)) (Some BadStarters) None)))

abbrev pub graph_words_answer : List ℕ → List ℕ → ℕ → ℕ → List ℕ → List ℕ → Result RunEnd Refusal
graph_words_answer t rs start budget words starters =
    answered (graph_words_refusal t rs start starters) (graph_runner (graph_of t) starters) (listed words) rs start budget

abbrev pub graph_words_registers : List ℕ → List ℕ → ℕ → ℕ → List ℕ → List ℕ → List ℕ
graph_words_registers t rs start budget words starters =
    registers_left (graph_words_refusal t rs start starters) (graph_runner (graph_of t) starters) (listed words) rs start budget
