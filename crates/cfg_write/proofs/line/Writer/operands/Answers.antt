-- `cfg_write::line::Writer::operands` meets its contract. Assumes nothing.
use mathlib.Core.Path.{sym, ◌∙◌}
use native.Mathlib.Omega.{arith}
use Rattle.cfg_write.specs.Put.{commas}
use Rattle.cfg_write.specs.Write.{operands_of}
use Rattle.cfg_write.proofs.PutLaws.{wrote_none, wrote_then, wrote_as, set_text, none_text, one_text, two_text}
use Rattle.cfg_write.proofs.line.Writer.operands.Goals as goal

pub returns-then-i-eq-SET : goal.returns-then-i-eq-SET
returns-then-i-eq-SET c =
    let i = c.args.i in
    wrote_as 22 (commas (operands_of i)) (omega arith) (set_text i c.if-i-eq-SET.true) c.literal.ensures

pub returns-in-0 : goal.returns-in-0
returns-in-0 c =
    let i = c.args.i in
    wrote_as 22 (commas (operands_of i)) (omega arith) (none_text i c.if-i-eq-SET.false (sym c.arity.ensures ∙ c.in-0.is)) (wrote_none c.args.self.now)

pub returns-in-1 : goal.returns-in-1
returns-in-1 c =
    let i = c.args.i in
    wrote_as 22 (commas (operands_of i)) (omega arith) (one_text i c.if-i-eq-SET.false (sym c.arity.ensures ∙ c.in-1.is)) c.number.ensures

pub returns-in_default : goal.returns-in_default
returns-in_default c =
    let i = c.args.i in
    let n = c.arity.ensures in
    wrote_as 22 (commas (operands_of i)) (omega arith) (two_text i c.if-i-eq-SET.false (λ e. omega arith) (λ e. omega arith))
    (wrote_then c.number-in_default.ensures c.number-in_default-2.ensures)
