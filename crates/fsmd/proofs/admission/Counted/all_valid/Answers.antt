-- `fsmd::admission::Counted::all_valid` meets its contract: each state is tested. Assumes nothing.
use Rattle.std.proofs.Common.{refl, rules}
use borrow.Author.Tests.{tests}
use mathlib.Core.Bool.{◌&&◌}
use Rattle.fsmd.specs.Table.{machine_register_count, valid_state, state_at, right_touch}
use Rattle.runs.proofs.Ranges.{all_below}
use Rattle.fsmd.proofs.admission.Counted.all_valid.Goals as goal

pub returns : goal.returns
returns c =
    let t = c.args.self.table.words.now in
    all_below (λ k. valid_state (machine_register_count t) (state_at t k) && right_touch t k) _ c.args.self.states _ _ _ c.all.ensures.ran (search rules) refl (λ x b q k. search (rules, tests))
