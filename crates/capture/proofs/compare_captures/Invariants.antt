-- `capture::compare_captures` meets its contract: the answer from where the merge stands is the answer of the whole. Assumes nothing.
use Rattle.capture.specs.Steps.{left}
use Rattle.capture.proofs.Answers.{Reached}
use Rattle.capture.proofs.compare_captures.Given as goal

abbrev pub invariant-loop-next : goal.invariant-loop-next
invariant-loop-next l = Reached l.registers l.first l.second l.m

abbrev pub decreases-loop-next : goal.decreases-loop-next
decreases-loop-next l = left l.first l.second l.m
