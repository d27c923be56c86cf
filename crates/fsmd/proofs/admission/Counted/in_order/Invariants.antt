-- `fsmd::admission::Counted::in_order` meets its contract: the states so far stand in order. Assumes nothing.
use Rattle.fsmd.proofs.Apart.{InOrder}
use Rattle.fsmd.proofs.admission.Counted.in_order.Given as goal

abbrev pub invariant-loop-k : goal.invariant-loop-k
invariant-loop-k l = InOrder l.self.table.words.now l.end l.k
