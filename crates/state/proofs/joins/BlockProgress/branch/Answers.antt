-- `state::joins::BlockProgress::branch` meets its contract. Assumes nothing.
use mathlib.Core.Path.{refl}
use Rattle.state.proofs.StepLaws.{adds_on, adds_same}
use Rattle.state.proofs.joins.BlockProgress.branch.Goals as goal

pub returns-clause-wires : goal.returns-clause-wires
returns-clause-wires c =
    adds_same (rw (c.wire-compared.ensures, c.wire.ensures, c.wire-2.ensures, c.code.ensures, c.value.ensures, c.value-2.ensures, c.emit-holds.ensures.reference) refl)
    (adds_on (adds_on c.emit-holds.ensures.added c.emit-yes.ensures.added) c.emit-no.ensures.added)
