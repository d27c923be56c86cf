-- `grouping::edges::edges_of` meets its contract. Assumes nothing.
use Rattle.grouping.proofs.EdgeBytes.{Copied}
use Rattle.grouping.proofs.edges.edges_of.Given as goal

abbrev pub invariant-loop-n : goal.invariant-loop-n
invariant-loop-n l = Copied l.graph.words.now l.edges l.n
