-- `capture::recording::Position::advance` meets its contract. Assumes nothing.
use Rattle.std.proofs.Common.{◌∙◌, sym, arith}
use Rattle.capture.proofs.Positions.{recording_end, not_read, not_above, passed}
use Rattle.capture.proofs.recording.Position.advance.Goals as goal

pub returns-then-text-self : goal.returns-then-text-self
returns-then-text-self c =
    let a = c.args in
    recording_end a.registers a.text.now a.self.at c.if-text-self.true

pub returns-in_default : goal.returns-in_default
returns-in_default c =
    let a = c.args in
    not_read a.registers a.text.now a.self (omega arith) (sym c.line_at.ensures ∙ c.in_default.is)

pub returns-then-from-self : goal.returns-then-from-self
returns-then-from-self c =
    let a = c.args in
    not_above a.registers a.text.now a.self c.in-Some.read.cycle c.in-Some.read.next (sym c.line_at.ensures ∙ c.in-Some.is) (omega arith)

pub returns : goal.returns
returns c =
    let a = c.args in
    passed a.registers a.text.now a.self c.in-Some.read.cycle c.in-Some.read.next (sym c.line_at.ensures ∙ c.in-Some.is) (omega arith) c.requires
