-- `synthesise` passes on what synthesis promises, and demand 3 follows from the words it leaves. Assumes nothing.
use mathlib.Core.Path.{sym, ◌∙◌}
use Rattle.agreement.proofs.TableAgreement.{synthesised_agrees}
use Rattle.compiler.proofs.Values.{synthesis_values}
use Rattle.compiler.proofs.synthesise.Goals as goal

pub returns-clause-synthesis_values : goal.returns-clause-synthesis_values
returns-clause-synthesis_values c = rw c.synthesise.ensures.0 (synthesis_values c.args.graph.now c.args.machine.now)

pub returns-clause-agreement : goal.returns-clause-agreement
returns-clause-agreement c =
    let a = c.args in
    let u = c.synthesise in
    λ e. rw u.ensures.1 (synthesised_agrees a.graph.now a.machine.now (sym u.ensures.0 ∙ e))
