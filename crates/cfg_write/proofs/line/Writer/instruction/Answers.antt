-- `cfg_write::line::Writer::instruction` meets its contract. Assumes nothing.
use native.Mathlib.Omega.{arith}
use Rattle.cfg_write.specs.Write.{instruction_name, line_text}
use Rattle.cfg_line.specs.declared.Line.TheVariants as line
use Rattle.cfg_write.proofs.PutLaws.{wrote_then, wrote_as, instruction_text}
use Rattle.cfg_write.proofs.line.Writer.instruction.Goals as goal

pub returns : goal.returns
returns c =
    let i = c.args.i in
    wrote_as 64 (line_text (line.Instruction i)) (omega arith) (instruction_text i)
    (wrote_then (wrote_as 8 (instruction_name i.code) (omega arith) c.name_of.ensures.named c.bytes.ensures) (wrote_then c.number.ensures (wrote_then c.operands.ensures c.line_feed.ensures)))
