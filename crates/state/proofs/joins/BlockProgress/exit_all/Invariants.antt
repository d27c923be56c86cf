-- `state::joins::BlockProgress::exit_all` meets its contract. Assumes nothing.
use lib.ListN.{drop}
use Rattle.state.specs.Wires.{exit, exits, leaves}
use Rattle.state.specs.EdgeList.{leading}
use Rattle.state.specs.Steps.{block_in}
use Rattle.state.proofs.StepLaws.{Walking}
use Rattle.state.proofs.joins.BlockProgress.exit_all.Given as goal

abbrev pub invariant-loop-edge : goal.invariant-loop-edge
invariant-loop-edge l =
    let b = l.initial.self in
    let s = l.groups in
    Walking (exit s) (leading b.registers (leaves s) (drop l.edge-index l.edges)) (exits s (leading b.registers (leaves s) l.edges) (block_in b l.initial.wires)) b.registers l.initial.wires l.self l.wires
