-- `bounds::operation::bounds` meets its contract: a refusal leaves the buffers, else they hold the bounds of the cycle. Assumes nothing.
use Rattle.std.proofs.Common.{refl, sym, ◌∙◌}
use Rattle.bounds.proofs.Answers.{accepted, ready, refused_left, bounded-left}
use Rattle.bounds.proofs.operation.bounds.Goals as goal

-- ---- where something is refused

pub returns-in_err-machine-clause-lowest_after : goal.returns-in_err-machine-clause-lowest_after
returns-in_err-machine-clause-lowest_after c =
    let a = c.args in
    sym (refused_left a.table.now a.lowest.now a.highest.now a.state _ c.in_err-machine.ensures).0

pub returns-in_err-machine-clause-highest_after : goal.returns-in_err-machine-clause-highest_after
returns-in_err-machine-clause-highest_after c =
    let a = c.args in
    sym (refused_left a.table.now a.lowest.now a.highest.now a.state _ c.in_err-machine.ensures).1

-- ---- where nothing is refused

pub bound_cycle-requires-clause-ready : goal.bound_cycle-requires-clause-ready
bound_cycle-requires-clause-ready c =
    let a = c.args in
    let m = c.in_ok-machine.ensures in
    rw m.0 (ready a.table.now a.lowest.now a.highest.now a.state (accepted a.table.now a.lowest.now a.highest.now a.state m.1) a.state refl)

pub bound_cycle-requires-clause-lowest : goal.bound_cycle-requires-clause-lowest
bound_cycle-requires-clause-lowest c =
    let a = c.args in
    (accepted a.table.now a.lowest.now a.highest.now a.state c.in_ok-machine.ensures.1).long.lowest

pub bound_cycle-requires-clause-highest : goal.bound_cycle-requires-clause-highest
bound_cycle-requires-clause-highest c =
    let a = c.args in
    (accepted a.table.now a.lowest.now a.highest.now a.state c.in_ok-machine.ensures.1).long.highest

pub returns-clause-lowest_after : goal.returns-clause-lowest_after
returns-clause-lowest_after c =
    let a = c.args in
    let m = c.in_ok-machine.ensures in
    let b = bounded-left a.table.now a.lowest.now a.highest.now a.state m.1 in
    let d = rw m.0 at c.bound_cycle.ensures in
    d.lowest ∙ sym b.lowest

pub returns-clause-highest_after : goal.returns-clause-highest_after
returns-clause-highest_after c =
    let a = c.args in
    let m = c.in_ok-machine.ensures in
    let b = bounded-left a.table.now a.lowest.now a.highest.now a.state m.1 in
    let d = rw m.0 at c.bound_cycle.ensures in
    d.highest ∙ sym b.highest
