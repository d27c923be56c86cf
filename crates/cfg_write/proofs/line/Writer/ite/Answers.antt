-- `cfg_write::line::Writer::ite` meets its contract. Assumes nothing.
use native.Mathlib.Omega.{arith}
use Rattle.cfg_write.specs.Write.{comparison_name, line_text}
use Rattle.cfg_line.specs.declared.Line.TheVariants as line
use Rattle.cfg_write.proofs.PutLaws.{wrote_then, wrote_as, ite_text}
use Rattle.cfg_write.proofs.line.Writer.ite.Goals as goal

pub returns : goal.returns
returns c =
    let a = c.args in
    wrote_as 64 (line_text (line.Ite a.c a.t a.f)) (omega arith) (ite_text a.c a.t a.f)
    (wrote_then c.bytes.ensures
    (wrote_then (wrote_as 8 (comparison_name a.c.comparison) (omega arith) c.comparison_of.ensures.named c.bytes-2.ensures)
    (wrote_then c.number.ensures
    (wrote_then c.number-2.ensures
    (wrote_then c.number-3.ensures
    (wrote_then c.number-4.ensures c.line_feed.ensures))))))
