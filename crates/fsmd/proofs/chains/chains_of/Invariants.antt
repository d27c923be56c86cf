-- `fsmd::chains::chains_of` meets its contract: the chains of the blocks from b up. Assumes nothing.
use Rattle.fsmd.specs.Chains.{Chained}
use Rattle.fsmd.proofs.chains.chains_of.Given as goal

abbrev pub invariant-loop-b : goal.invariant-loop-b
invariant-loop-b l = Chained l.table.words.now l.b l.chains
