-- `capture::recording::first_fault` meets its contract: the fault from q on is the fault from p on. Assumes nothing.
use Rattle.std.proofs.Common.{◌≡◌, ◌-◌, length}
use Rattle.capture.specs.Steps.{Within, fault_at}
use Rattle.capture.proofs.recording.first_fault.Given as goal

abbrev pub invariant-loop-read : goal.invariant-loop-read
invariant-loop-read l = Within l.text l.q × (fault_at l.registers l.text l.q ≡ fault_at l.registers l.text l.initial.q)

abbrev pub decreases-loop-read : goal.decreases-loop-read
decreases-loop-read l = length l.text - l.q.at
