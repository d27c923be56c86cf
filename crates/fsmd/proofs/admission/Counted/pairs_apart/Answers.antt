-- `fsmd::admission::Counted::pairs_apart` meets its contract: each state is tested. Assumes nothing.
use Rattle.std.proofs.Common.{refl, rules}
use borrow.Author.Tests.{tests}
use Rattle.runs.specs.Lists.{up_from, every}
use Rattle.fsmd.specs.Table.{apart}
use Rattle.runs.proofs.Ranges.{all_below}
use Rattle.fsmd.proofs.admission.Counted.pairs_apart.Goals as goal

pub returns : goal.returns
returns c =
    let t = c.args.self.table.words.now in
    all_below (λ k. every (λ j. apart t j k) (up_from 0 k)) _ c.args.self.states _ _ _ c.all.ensures.ran (search rules) refl (λ x b q k. search (rules, tests))
