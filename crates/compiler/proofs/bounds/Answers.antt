-- `bounds` passes on what crate `bounds` promises; its numbers, that cycles stay inside and that no ends cross follow from it. Assumes nothing.
use mathlib.Core.Path.{sym, ◌∙◌}
use Rattle.std.proofs.Common.{rules}
use Rattle.bounds.proofs.StaysInside.{stays_inside, not_crossed}
use Rattle.bounds.proofs.Values.{bounds_values}
use Rattle.compiler.proofs.bounds.Goals as goal

pub returns-clause-bounds_values : goal.returns-clause-bounds_values
returns-clause-bounds_values c =
    let a = c.args in
    rw c.bounds.ensures.value (bounds_values a.machine.now a.lowest.now a.highest.now a.state)

pub returns-clause-cycles_stay_inside : goal.returns-clause-cycles_stay_inside
returns-clause-cycles_stay_inside c =
    let a = c.args in
    let e = c.bounds.ensures in
    λ q. rw (e.lowest_after, e.highest_after)
    (stays_inside a.machine.now a.lowest.now a.highest.now a.state (search rules) (search rules)
    (search rules) (sym e.value ∙ q))

pub returns-clause-not_crossed : goal.returns-clause-not_crossed
returns-clause-not_crossed c =
    let a = c.args in
    let e = c.bounds.ensures in
    λ q. rw (e.lowest_after, e.highest_after)
    (not_crossed a.machine.now a.lowest.now a.highest.now a.state (search rules) (search rules)
    (search rules) (sym e.value ∙ q))
