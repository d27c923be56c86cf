-- `Starters::entry` meets its contract. Assumes nothing.
use Rattle.grouping.proofs.StarterLaws.{entry_listed}
use Rattle.grouping.proofs.starters.Starters.entry.Goals as goal

pub invariant_of-result : goal.invariant_of-result
invariant_of-result c = entry_listed
