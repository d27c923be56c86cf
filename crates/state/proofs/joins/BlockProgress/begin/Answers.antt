-- `state::joins::BlockProgress::begin` meets its contract. Assumes nothing.
use Prim.Native.Nat.{ℕ}
use mathlib.Core.Path.{ap, ◌∙◌}
use lib.ListN.{take}
use Rattle.fsmd.specs.Layout.{max_registers}
use Rattle.runs.specs.Lists.{up_from}
use Rattle.state.proofs.Counting.{take-up_from}
use Rattle.state.proofs.joins.BlockProgress.begin.Goals as goal

pub returns-clause-values : goal.returns-clause-values
returns-clause-values c =
    let w = c.args.wires.now in
    ap (λ (k : ℕ). take k (up_from 0 max_registers)) c.emit-arrival.ensures.added.same.registers ∙ take-up_from 0 max_registers w.registers w.few
