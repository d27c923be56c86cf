-- `state::joins::BlockProgress::join_all` meets its contract. Assumes nothing.
use lib.ListN.{drop}
use Rattle.state.specs.Wires.{join, joins, leads_to}
use Rattle.state.specs.EdgeList.{leading}
use Rattle.state.specs.Steps.{block_in}
use Rattle.state.proofs.StepLaws.{Walking}
use Rattle.state.proofs.joins.BlockProgress.join_all.Given as goal

abbrev pub invariant-loop-edge : goal.invariant-loop-edge
invariant-loop-edge l =
    let b = l.initial.self in
    Walking join (leading b.registers (leads_to l.x) (drop l.edge-index l.edges)) (joins (leading b.registers (leads_to l.x) l.edges) (block_in b l.initial.wires)) b.registers l.initial.wires l.self l.wires
