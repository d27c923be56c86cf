-- `touching::touches` meets its contract: of an admitted table a state is asked about. Assumes nothing.
use Rattle.std.proofs.Common.{sym, ap, ◌∙◌, Ok, arith}
use Rattle.touching.proofs.Answers.{touches_no_state, touches_answered}
use Rattle.touching.proofs.touches.Goals as goal

pub returns-then-state_count-k : goal.returns-then-state_count-k
returns-then-state_count-k c =
    let m = c.in_ok-machine.machine in
    rw (← c.in_ok-machine.ensures) (sym (touches_no_state m.table.words.now c.args.state c.args.register m.table.whole m.admitted (omega arith)))

pub returns : goal.returns
returns c =
    let m = c.in_ok-machine.machine in
    let t = m.table.words.now in
    rw (← c.in_ok-machine.ensures)
    (ap Ok (c.touches_at.ensures)
    ∙ sym (touches_answered t c.args.state c.args.register m.table.whole m.admitted (omega arith)))
