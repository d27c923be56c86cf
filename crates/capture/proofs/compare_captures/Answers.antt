-- `capture::compare_captures` meets its contract: the answer from where the merge stands is the answer of the whole. Assumes nothing.
use Rattle.std.proofs.Common.{◌∙◌, sym}
use Rattle.capture.proofs.Answers.{from_start, out_of_range, within_range}
use Rattle.capture.proofs.compare_captures.Goals as goal

pub returns-then-not-in_range : goal.returns-then-not-in_range
returns-then-not-in_range c =
    let a = c.args in
    sym (out_of_range a.registers a.first.now a.second.now (sym c.in_range.ensures ∙ c.if-not-in_range.true))

pub loop-next-init : goal.loop-next-init
loop-next-init c =
    let a = c.args in
    from_start a.registers a.first.now a.second.now c.at.result c.at-2.result c.at.ensures.position_value c.at-2.ensures.position_value c.at.ensures.line_value c.at-2.ensures.line_value

pub returns : goal.returns
returns c =
    let a = c.args in
    c.finish.ensures
    ∙ sym c.in_default.ensures
    ∙ c.loop-next.invariant.1
    ∙ sym (within_range a.registers a.first.now a.second.now (sym c.in_range.ensures ∙ c.if-not-in_range.false))
