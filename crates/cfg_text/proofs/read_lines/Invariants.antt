-- The lines so far are stored, and the walk from here gives what the whole text gives. Assumes nothing.
use Rattle.std.proofs.Common.{length, ◌-◌}
use Rattle.cfg_text.proofs.Reached.{Reached}
use Rattle.cfg_text.proofs.read_lines.Given as goal

abbrev pub invariant-loop-at : goal.invariant-loop-at
invariant-loop-at l = Reached l.text l.words l.p l.at l.line

abbrev pub decreases-loop-at : goal.decreases-loop-at
decreases-loop-at l = length l.text - l.at
