-- All elements are done at the end. Assumes nothing.
use Rattle.cases.proofs.Digests.{all_done}
use Rattle.cases.proofs.digest.of.Goals as goal

pub returns : goal.returns
returns g c = all_done _ _ _ _ c.loop-element.invariant c.loop-element-test.false
