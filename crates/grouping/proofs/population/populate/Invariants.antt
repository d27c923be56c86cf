-- `grouping::population::populate` meets its contract: one state after another, as `PopulationTracks` has them. Assumes nothing.
use Rattle.grouping.proofs.PopulationTracks.{Populating}
use Rattle.grouping.proofs.population.populate.Given as goal

abbrev pub invariant-loop-root : goal.invariant-loop-root
invariant-loop-root l = Populating l.edges l.starters l.search l.root-index
