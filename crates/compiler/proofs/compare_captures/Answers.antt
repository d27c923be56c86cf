-- `compare_captures` passes on what `capture` promises, and what the answer says follows from it. Assumes nothing.
use Rattle.capture.proofs.Meaning.{means}
use Rattle.compiler.proofs.Values.{capture_values}
use Rattle.compiler.proofs.compare_captures.Goals as goal

pub returns-clause-capture_values : goal.returns-clause-capture_values
returns-clause-capture_values c = let a = c.args in rw c.compare_captures.ensures (capture_values a.registers a.first.now a.second.now)

pub returns-clause-means : goal.returns-clause-means
returns-clause-means c = let a = c.args in rw c.compare_captures.ensures (means a.registers a.first.now a.second.now)
