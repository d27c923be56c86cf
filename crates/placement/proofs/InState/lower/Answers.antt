-- `InState::lower` meets its contract. Assumes nothing.
use mathlib.Core.Path.{sym, ◌∙◌}
use Rattle.placement.proofs.CountSteps.{lower_none, lower_one}
use Rattle.placement.proofs.InState.lower.Goals as goal

pub returns-then-awaits : goal.returns-then-awaits
returns-then-awaits c = rw c.from.ensures (lower_one c.args.self.starts.now c.args.waits.now c.args.t (sym c.awaits.ensures ∙ c.if-awaits.true) c.told-waits)

pub returns-else-awaits : goal.returns-else-awaits
returns-else-awaits c = lower_none c.args.self.starts.now c.args.waits.now c.args.t (sym c.awaits.ensures ∙ c.if-awaits.false)
