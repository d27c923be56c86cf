-- `fsmd::admission::Counted::all_right` meets its contract: each block is tested. Assumes nothing.
use Rattle.std.proofs.Common.{refl, rules}
use borrow.Author.Tests.{tests}
use Rattle.std.proofs.Common.{sym, ◌∙◌}
use Rattle.fsmd.specs.Layout.{max_blocks}
use Rattle.fsmd.proofs.BlockLaws.{right_at, right_blocks_are}
use Rattle.runs.proofs.Ranges.{all_below}
use Rattle.fsmd.proofs.admission.Counted.all_right.Goals as goal

pub returns : goal.returns
returns c =
    let t = c.args.self.table.words.now in
    all_below (right_at t) _ max_blocks _ _ _ c.all.ensures.ran (search rules) refl (λ x b q k. search (rules, tests)) ∙ sym (right_blocks_are t)
