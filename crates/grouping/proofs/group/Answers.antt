-- `grouping::group` meets its contract: each pass of its loop is a round of `GroupingRounds`. Assumes nothing.
use mathlib.Core.Path.{sym, ◌∙◌}
use native.Mathlib.Omega.{arith}
use Rattle.cfg.specs.Table.{graph_of}
use Rattle.grouping.specs.Grouping.{groups}
use Rattle.grouping.specs.Answer.{grouping_of}
use Rattle.grouping.proofs.Reach.{admitted_closed}
use Rattle.grouping.proofs.GroupingRounds.{round_few, round_first, illegal_low, round_on, round_last}
use Rattle.grouping.proofs.group.Goals as goal

pub loop-block-init : goal.loop-block-init
loop-block-init c =
    (round_first (graph_of c.args.graph.words.now) (admitted_closed c.args.graph.words.now c.args.graph.admitted) c.edges_of-edges.result c.edges_of-edges.ensures c.loop_starters-starters.result c.loop_starters-starters.ensures, c.populate-states.ensures)

pub add-requires : goal.add-requires
add-requires c =
    let l = c.loop-block in
    illegal_low (graph_of c.args.graph.words.now) (admitted_closed c.args.graph.words.now c.args.graph.admitted) c.edges_of-edges.result c.edges_of-edges.ensures (groups (graph_of c.args.graph.words.now)) l.starters l.invariant.0 l.states l.invariant.1 c.in-Some.block (sym c.in-Some.ensures)

pub loop-block-smaller : goal.loop-block-smaller
loop-block-smaller c =
    let l = c.loop-block in
    let a = admitted_closed c.args.graph.words.now c.args.graph.admitted in
    let n = round_on (graph_of c.args.graph.words.now) a c.edges_of-edges.result c.edges_of-edges.ensures (groups (graph_of c.args.graph.words.now)) l.starters l.invariant.0 l.states l.invariant.1 c.in-Some.block (sym c.in-Some.ensures) c.add.new.self c.add.ensures in
    omega (arith, n.1, round_few a n.0)

pub loop-block-preserved : goal.loop-block-preserved
loop-block-preserved c =
    let l = c.loop-block in
    let a = admitted_closed c.args.graph.words.now c.args.graph.admitted in
    ((round_on (graph_of c.args.graph.words.now) a c.edges_of-edges.result c.edges_of-edges.ensures (groups (graph_of c.args.graph.words.now)) l.starters l.invariant.0 l.states l.invariant.1 c.in-Some.block (sym c.in-Some.ensures) c.add.new.self c.add.ensures).0, c.populate-states-in-Some.ensures)

pub returns : goal.returns
unfolding grouping_of
returns c =
    let l = c.loop-block in
    round_last (graph_of c.args.graph.words.now) (admitted_closed c.args.graph.words.now c.args.graph.admitted) c.edges_of-edges.result c.edges_of-edges.ensures (groups (graph_of c.args.graph.words.now)) l.starters l.invariant.0 l.states l.invariant.1 (sym c.detect.ensures ∙ c.in_default.is)
