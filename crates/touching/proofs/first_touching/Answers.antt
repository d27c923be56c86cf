-- `touching::first_touching` meets its contract: an admitted table is searched. Assumes nothing.
use Rattle.std.proofs.Common.{rules}
use Rattle.touching.proofs.Answers.{first_answered}
use Rattle.touching.proofs.first_touching.Goals as goal

pub returns : goal.returns
returns c =
    let m = c.in_ok-machine.machine in
    rw (← c.in_ok-machine.ensures) (search (rules, first_answered m.table.words.now c.args.register m.table.whole m.admitted))
