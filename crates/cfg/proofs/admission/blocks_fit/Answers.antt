-- `cfg::admission::blocks_fit` meets its contract. Assumes nothing.
use mathlib.Core.Path.{refl}
use borrow.Author.Tests.{tests}
use Rattle.std.proofs.Common.{rules}
use Rattle.cfg.specs.Fits.{block_passes}
use Rattle.runs.proofs.Ranges.{all_below}
use Rattle.cfg.proofs.admission.blocks_fit.Goals as goal

pub returns : goal.returns
returns c =
    let k = c.args in
    let test = block_passes k.words k.head.blocks k.head.registers k.table.now in
    all_below test _ k.head.blocks _ _ _ c.all.ensures.ran (search rules) refl (λ x b q h. search (rules, tests))
