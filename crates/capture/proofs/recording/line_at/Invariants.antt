-- `capture::recording::line_at` meets its contract: what is left of the line from p on gives what the whole line gives. Assumes nothing.
use Rattle.std.proofs.Common.{◌≡◌, suc, ◌-◌, None, drop}
use Rattle.delimited.specs.Cursor.{front_line}
use Rattle.capture.specs.Steps.{scan_at}
use Rattle.capture.proofs.Forms.{behind_cycle}
use Rattle.capture.proofs.recording.line_at.Given as goal

abbrev pub invariant-loop : goal.invariant-loop
invariant-loop l =
    front_line None (behind_cycle l.cycle.value (suc (l.registers - l.counter))) l.p (drop l.p l.text) ≡ scan_at l.registers l.at (drop l.at l.text)
