-- `touches` passes on what `touching` promises, and that it equals a look at the references follows from it. Assumes nothing.
use Rattle.touching.proofs.Values.{touches_values}
use Rattle.compiler.proofs.touches.Goals as goal

pub returns-clause-touches_values : goal.returns-clause-touches_values
returns-clause-touches_values c = rw c.touches.ensures (touches_values c.args.machine.now c.args.state c.args.register)
