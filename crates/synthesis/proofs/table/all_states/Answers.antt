-- `synthesis::table::all_states` meets its contract. Assumes nothing.
use mathlib.Core.Path.{◌∙◌}
use Rattle.synthesis.specs.Plans.{words_in, groups_of}
use Rattle.synthesis.proofs.MachineTable.{filled_on}
use Rattle.synthesis.proofs.table.all_states.Goals as goal

pub loop-k-preserved : goal.loop-k-preserved
loop-k-preserved c =
    let p = c.args.plan.now in
    let l = c.loop-k in
    let o = c.one_state-next in
    let f = filled_on (words_in p) (groups_of p) l.table l.k l.first l.invariant.0.0 o.new.table o.result o.auto.table o.ensures.states o.ensures.wires in
    ((f.0, o.ensures.arrivals), f.1 ∙ l.invariant.1)
