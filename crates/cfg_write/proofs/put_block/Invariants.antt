-- `cfg_write::put_block` meets its contract. Assumes nothing.
use Prim.Native.Nat.{◌*◌}
use lib.ListN.{take}
use Rattle.cfg_write.specs.Put.{Wrote}
use Rattle.cfg_write.proofs.BlockTextLaws.{code_text}
use Rattle.cfg_write.proofs.put_block.Given as goal

abbrev pub invariant-loop-instruction : goal.invariant-loop-instruction
invariant-loop-instruction l = Wrote (64 * l.instruction-index) l.initial.writer l.writer (code_text (take l.instruction-index l.instruction-items))
