-- `fsmd::admission::Counted::valid_wires` meets its contract: each wire is tested. Assumes nothing.
use Rattle.std.proofs.Common.{refl, rules}
use borrow.Author.Tests.{tests}
use Rattle.std.proofs.Common.{◌∙◌, ◌+◌}
use Rattle.fsmd.specs.Table.{wire_at, valid_wire}
use Rattle.fsmd.proofs.Windows.{wires_tested}
use Rattle.runs.proofs.Ranges.{all_below}
use Rattle.fsmd.proofs.admission.Counted.valid_wires.Goals as goal

pub returns : goal.returns
returns c =
    let t = c.args.self.table.words.now in
    all_below (λ n. valid_wire c.args.self.registers n (wire_at t (c.args.first + n))) _ c.args.count _ _ _ c.all.ensures.ran (search rules) refl (λ x b q k. search (rules, tests))
    ∙ wires_tested t c.args.self.registers c.args.first c.args.count
