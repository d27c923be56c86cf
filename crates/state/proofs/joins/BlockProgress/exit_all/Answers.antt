-- `state::joins::BlockProgress::exit_all` meets its contract. Assumes nothing.
use mathlib.Core.Path.{sym, ◌∙◌}
use Rattle.state.specs.Wires.{exit, exits, leaves}
use Rattle.state.specs.EdgeList.{leading}
use Rattle.state.specs.Steps.{block_in}
use Rattle.state.proofs.StepLaws.{walk_start}
use Rattle.state.proofs.EdgeWalk.{edge_room, edge_next, edge_passed, edges_done}
use Rattle.state.proofs.ExitLaws.{grow_exit, exits_fold}
use Rattle.state.proofs.joins.BlockProgress.exit_all.Goals as goal
use Rattle.state.proofs.joins.BlockProgress.exit_all.Goals.{then-leaves, else-leaves}

pub loop-edge-init : goal.loop-edge-init
loop-edge-init c =
    let a = c.args in
    let s = a.groups.now in
    let es = leading a.self.now.registers (leaves s) a.edges.now in
    let p = block_in a.self.now a.wires.now in
    walk_start (exit s) (grow_exit s) es (exits s es p) a.self.now a.wires.now (sym (exits_fold s es p)) c.requires

pub exit-requires : goal.exit-requires
exit-requires c =
    let a = c.args in
    let s = a.groups.now in
    let l = c.loop-edge in
    edge_room (exit s) (grow_exit s) (leaves s) a.edges.now _ l.edge-index l.invariant c.loop-edge-test.true (sym c.leaves.ensures ∙ c.if-leaves.true) c.requires

pub loop-edge-preserved : goal.loop-edge-preserved
loop-edge-preserved c =
    let a = c.args in
    let s = a.groups.now in
    let l = c.loop-edge in
    elim c.if-leaves.branch [
      | then-leaves w ↦ rw (w.self-is, w.wires-is)
          (edge_next (exit s) (grow_exit s) (leaves s) a.edges.now _ l.edge-index l.invariant c.loop-edge-test.true (sym c.leaves.ensures ∙ w.if-leaves.true) w.exit.new.self w.exit.new.wires w.exit.ensures)
      | else-leaves w ↦ rw (w.self-is, w.wires-is)
          (edge_passed (exit s) (grow_exit s) (leaves s) a.edges.now _ l.edge-index l.invariant c.loop-edge-test.true (sym c.leaves.ensures ∙ w.if-leaves.false))
    ]

pub returns : goal.returns
returns c =
    let s = c.args.groups.now in
    edges_done (exit s) (grow_exit s) (leaves s) c.args.edges.now c.loop-edge.edge-index c.loop-edge.invariant c.loop-edge-test.false
