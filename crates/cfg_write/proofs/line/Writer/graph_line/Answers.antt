-- `cfg_write::line::Writer::graph_line` meets its contract. Assumes nothing.
use native.Mathlib.Omega.{arith}
use Rattle.cfg_write.specs.Write.{line_text}
use Rattle.cfg_line.specs.declared.Line.TheVariants as line
use Rattle.cfg_write.proofs.PutLaws.{wrote_then, wrote_as, graph_text}
use Rattle.cfg_write.proofs.line.Writer.graph_line.Goals as goal

pub returns : goal.returns
returns c =
    wrote_as 64 (line_text (line.Graph c.args.blocks c.args.registers)) (omega arith) (graph_text c.args.blocks c.args.registers)
    (wrote_then c.bytes.ensures (wrote_then c.number.ensures (wrote_then c.number-2.ensures c.line_feed.ensures)))
