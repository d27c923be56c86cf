-- `capture::recording::first_fault` meets its contract: the fault from q on is the fault from p on. Assumes nothing.
use Rattle.std.proofs.Common.{◌∙◌, sym}
use Rattle.capture.proofs.Positions.{ended_here}
use Rattle.capture.proofs.recording.first_fault.Goals as goal

pub returns-in-Ok-None : goal.returns-in-Ok-None
returns-in-Ok-None c =
    let a = c.args in
    let l = c.loop-read in
    sym (ended_here a.registers a.text.now l.q (rw (c.in-Ok-None.is, c.in-Ok-None.field-0-is) at c.advance.ensures)) ∙ l.invariant.1
