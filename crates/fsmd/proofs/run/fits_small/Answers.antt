-- `fsmd::run::fits_small` meets its contract: each state is tested. Assumes nothing.
use Rattle.std.proofs.Common.{◌+◌, leb, rules}
use borrow.Author.Tests.{tests}
use Rattle.fsmd.specs.Layout.{max_registers, small_room_words}
use Rattle.fsmd.specs.Table.{state_count, wire_count_at}
use Rattle.runs.proofs.Ranges.{all_below}
use Rattle.fsmd.proofs.run.fits_small.Goals as goal

pub returns : goal.returns
returns c =
    let t = c.args.machine.table.words.now in
    all_below (λ k. leb (max_registers + wire_count_at t k) small_room_words) _ (state_count t) _ _ _ c.all.ensures.ran (search rules) c.state_count.ensures.value (λ x b q k. search (rules, tests))
