-- `cfg_write::put_blocks` meets its contract. Assumes nothing.
use Prim.Native.Nat.{◌*◌}
use Rattle.cfg_write.specs.Put.{Wrote}
use Rattle.cfg_write.proofs.BlockTextLaws.{blocks_text}
use Rattle.cfg_write.proofs.put_blocks.Given as goal

abbrev pub invariant-loop-n : goal.invariant-loop-n
invariant-loop-n l = Wrote (640 * l.n) l.initial.writer l.writer (blocks_text l.graph.words.now l.n)
