-- `first_touching` passes on what `touching` promises, and that it equals a look at the references follows from it. Assumes nothing.
use Rattle.touching.proofs.Values.{first_touching_values}
use Rattle.compiler.proofs.first_touching.Goals as goal

pub returns-clause-first_touching_values : goal.returns-clause-first_touching_values
returns-clause-first_touching_values c = rw c.first_touching.ensures (first_touching_values c.args.machine.now c.args.register)
