-- The answer of grouping a graph table. Assumes nothing.
use Rattle.std.specs.Prelude.{ℕ, List}
use Rattle.runs.specs.Lists.{padded}
use Rattle.cfg.specs.Layout.{max_blocks}
use Rattle.cfg.specs.Table.{graph_of}
use Rattle.fsmd.specs.Layout.{absent}
use Rattle.grouping.specs.declared.Grouping.{Grouping}
use Rattle.grouping.specs.Grouping.{Groups, groups}

-- a grouping in an answer: the state of an absent block is 255
abbrev pub answer_of : Groups → Grouping
answer_of s = record { starters = s.starters; states = padded max_blocks absent s.states }

unfoldable pub grouping_of : List ℕ → Grouping
unfolding graph_of groups
grouping_of t = answer_of (groups (graph_of t))
