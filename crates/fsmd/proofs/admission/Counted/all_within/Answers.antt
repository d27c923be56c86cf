-- `fsmd::admission::Counted::all_within` meets its contract: each state is tested. Assumes nothing.
use Rattle.std.proofs.Common.{refl, rules}
use borrow.Author.Tests.{tests}
use Rattle.fsmd.specs.Table.{within}
use Rattle.runs.proofs.Ranges.{all_below}
use Rattle.fsmd.proofs.admission.Counted.all_within.Goals as goal

pub returns : goal.returns
returns c =
    let t = c.args.self.table.words.now in
    all_below (within t) _ c.args.self.states _ _ _ c.all.ensures.ran (search rules) refl (λ x b q k. search (rules, tests))
