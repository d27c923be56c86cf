-- `cfg_write::line::Writer::ending` meets its contract. Assumes nothing.
use native.Mathlib.Omega.{arith}
use mathlib.Core.Path.{◌∙◌, sym, ap}
use Rattle.cfg_write.specs.Write.{ending_line, line_text}
use Rattle.cfg.specs.declared.Ending.{Ending}
use Rattle.cfg_write.proofs.PutLaws.{wrote_as, goto_text, halt_text}
use Rattle.cfg_write.proofs.line.Writer.ending.Goals as goal

pub returns-in-Goto : goal.returns-in-Goto
returns-in-Goto c =
    wrote_as 64 (line_text (ending_line c.args.e)) (omega arith) (goto_text c.in-Goto.t ∙ ap (λ (x : Ending). line_text (ending_line x)) (sym c.in-Goto.is))
    c.numbered.ensures

pub returns-in-Halt : goal.returns-in-Halt
returns-in-Halt c =
    wrote_as 64 (line_text (ending_line c.args.e)) (omega arith) (halt_text ∙ ap (λ (x : Ending). line_text (ending_line x)) (sym c.in-Halt.is))
    c.bytes.ensures
