-- `fsmd::sampling::AdmittedMachine::is_wordless` meets its contract: each state is tested. Assumes nothing.
use Rattle.std.proofs.Common.{◌∙◌, sym, rules, not, eqb}
use borrow.Author.Tests.{tests}
use Rattle.runs.specs.Lists.{every}
use Rattle.word.specs.Word.{in_code}
use Rattle.fsmd.specs.Table.{state_count, state_at}
use Rattle.fsmd.proofs.Machines.{wordless_states}
use Rattle.runs.proofs.Ranges.{all_below}
use Rattle.fsmd.proofs.admission.AdmittedMachine.is_wordless.Goals as goal

pub returns : goal.returns
returns c =
    let t = c.args.self.table.words.now in
    all_below (λ k. every (λ w. not (eqb w.code in_code)) (state_at t k).wires) _ (state_count t) _ _ _ c.all.ensures.ran (search rules) c.state_count-states.ensures.value (λ x b q k. search (rules, tests))
    ∙ sym (wordless_states t)
