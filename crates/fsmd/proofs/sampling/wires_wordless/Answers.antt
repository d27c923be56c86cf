-- `fsmd::sampling::wires_wordless` meets its contract: each wire is tested. Assumes nothing.
use Rattle.std.proofs.Common.{◌+◌, ◌∙◌, refl, rules, not, eqb}
use borrow.Author.Tests.{tests}
use Rattle.word.specs.Word.{in_code}
use Rattle.fsmd.specs.Table.{wire_at}
use Rattle.runs.proofs.Ranges.{all_below}
use Rattle.fsmd.proofs.Windows.{every_wire}
use Rattle.fsmd.proofs.sampling.wires_wordless.Goals as goal

pub returns : goal.returns
returns c =
    let a = c.args in
    let t = a.table.words.now in
    all_below (λ n. not (eqb (wire_at t (a.first + n)).code in_code)) _ a.count _ _ _ c.all.ensures.ran (search rules) refl (λ x b q k. search (rules, tests))
    ∙ every_wire t (λ w. not (eqb w.code in_code)) a.first a.count
