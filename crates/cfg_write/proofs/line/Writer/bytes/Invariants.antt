-- `cfg_write::line::Writer::bytes` meets its contract. Assumes nothing.
use lib.ListN.{take}
use Rattle.cfg_write.specs.Put.{Wrote}
use Rattle.cfg_write.proofs.line.Writer.bytes.Given as goal

abbrev pub invariant-loop-byte : goal.invariant-loop-byte
invariant-loop-byte l = Wrote l.byte-index l.initial.self l.self (take l.byte-index l.bytes)
