-- What is done is the digest of the first elements' numbers. Assumes nothing.
use Rattle.cases.proofs.Digests.{Done}
use Rattle.cases.proofs.digest.of.Given as goal

abbrev pub invariant-loop-element : goal.invariant-loop-element
invariant-loop-element g l = Done g.T.Into.converts l.elements l.h l.element-index
