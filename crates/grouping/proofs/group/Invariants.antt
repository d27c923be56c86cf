-- `grouping::group` meets its contract: each pass of its loop is a round of `GroupingRounds`. Assumes nothing.
use mathlib.Core.Path.{◌≡◌}
use Prim.Native.Nat.{◌-◌}
use lib.ListN.{length}
use Rattle.cfg.specs.Layout.{max_blocks}
use Rattle.cfg.specs.Table.{graph_of}
use Rattle.grouping.specs.Grouping.{groups}
use Rattle.grouping.specs.Bytes.{population}
use Rattle.grouping.proofs.GroupingRounds.{Round}
use Rattle.grouping.proofs.group.Given as goal

abbrev pub invariant-loop-block : goal.invariant-loop-block
invariant-loop-block l = Round (graph_of l.graph.words.now) (groups (graph_of l.graph.words.now)) l.starters × (l.states ≡ population l.edges l.starters)

abbrev pub decreases-loop-block : goal.decreases-loop-block
decreases-loop-block l = max_blocks - length l.starters
