-- `state::joins::BlockProgress::join_all` meets its contract. Assumes nothing.
use mathlib.Core.Path.{sym, ◌∙◌}
use Rattle.state.specs.Wires.{join, joins, leads_to}
use Rattle.state.specs.EdgeList.{leading}
use Rattle.state.specs.Steps.{block_in}
use Rattle.state.proofs.StepLaws.{walk_start}
use Rattle.state.proofs.EdgeWalk.{edge_room, edge_next, edge_passed, edges_done}
use Rattle.state.proofs.JoinLaws.{grow_join, joins_fold}
use Rattle.state.proofs.joins.BlockProgress.join_all.Goals as goal
use Rattle.state.proofs.joins.BlockProgress.join_all.Goals.{then-leads_to, else-leads_to}

pub loop-edge-init : goal.loop-edge-init
loop-edge-init c =
    let a = c.args in
    let es = leading a.self.now.registers (leads_to a.x) a.edges.now in
    let p = block_in a.self.now a.wires.now in
    walk_start join grow_join es (joins es p) a.self.now a.wires.now (sym (joins_fold es p)) c.requires

pub join-requires : goal.join-requires
join-requires c =
    let a = c.args in
    let l = c.loop-edge in
    edge_room join grow_join (leads_to a.x) a.edges.now _ l.edge-index l.invariant c.loop-edge-test.true (sym c.leads_to.ensures ∙ c.if-leads_to.true) c.requires

pub loop-edge-preserved : goal.loop-edge-preserved
loop-edge-preserved c =
    let a = c.args in
    let l = c.loop-edge in
    elim c.if-leads_to.branch [
      | then-leads_to w ↦ rw (w.self-is, w.wires-is)
          (edge_next join grow_join (leads_to a.x) a.edges.now _ l.edge-index l.invariant c.loop-edge-test.true (sym c.leads_to.ensures ∙ w.if-leads_to.true) w.join.new.self w.join.new.wires w.join.ensures)
      | else-leads_to w ↦ rw (w.self-is, w.wires-is)
          (edge_passed join grow_join (leads_to a.x) a.edges.now _ l.edge-index l.invariant c.loop-edge-test.true (sym c.leads_to.ensures ∙ w.if-leads_to.false))
    ]

pub returns : goal.returns
returns c = edges_done join grow_join (leads_to c.args.x) c.args.edges.now c.loop-edge.edge-index c.loop-edge.invariant c.loop-edge-test.false
