-- `InState::pass` meets its contract. Assumes nothing.
use Rattle.placement.proofs.CountSteps.{pass_both}
use Rattle.placement.proofs.InState.pass.Goals as goal

pub returns : goal.returns
returns c =
    let s = c.args.self in
    pass_both s.edges.now s.starts.now c.args.waits.now c.args.u c.row.result c.row.ensures c.requires c.lower.new.waits c.lower.ensures c.lower-2.new.waits c.lower-2.ensures
