-- `cfg::admission::code_valid` meets its contract. Assumes nothing.
use mathlib.Core.Bool.{◌&&◌}
use mathlib.Core.Path.{refl, sym, ◌∙◌}
use borrow.Author.Tests.{tests}
use Rattle.std.proofs.Common.{rules}
use Rattle.runs.specs.Lists.{up_from}
use Rattle.runs.proofs.ListLaws.{every_map}
use Rattle.cfg.specs.declared.Instruction.{Instruction}
use Rattle.cfg.specs.Graph.{valid_instruction}
use Rattle.cfg.specs.Fits.{passes}
use Rattle.cfg.specs.Table.{instruction_at}
use Rattle.runs.proofs.Ranges.{all_below}
use Rattle.cfg.proofs.admission.code_valid.Goals as goal

pub returns : goal.returns
returns c =
    let k = c.args in
    let good = λ (i : Instruction). valid_instruction k.registers i && passes k.words i in
    let at = instruction_at k.table.now k.start in
    all_below (λ n. good (at n)) _ k.count _ _ _ c.all.ensures.ran (search rules) refl (λ x b q h. search (rules, tests))
    ∙ sym (every_map at good (up_from 0 k.count))
