-- `state::joins::BlockProgress::first_exit` meets its contract. Assumes nothing.
use Prim.Native.Nat.{ℕ}
use mathlib.Core.Path.{ap}
use lib.ListN.{take}
use Rattle.state.proofs.ExitLaws.{first_becomes}
use Rattle.state.proofs.joins.BlockProgress.first_exit.Goals as goal

pub returns : goal.returns
returns c =
    let a = c.args in
    let u = c.emit-arrival in
    first_becomes a.groups.now a.wires.now.registers _ a.edge.now a.wires.now u.new.self c.next_state.result c.wire.result c.next_state.ensures c.wire.ensures u.ensures.added u.ensures.reference
    u.ensures.added.same.registers (ap (λ (k : ℕ). take k a.edge.now.values) u.ensures.added.same.registers)
