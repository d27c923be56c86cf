-- `bounds::operation::check` meets its contract: what an admitted table, its state and both buffers say. Assumes nothing.
use Rattle.std.proofs.Common.{ℕ, sym, ap, ◌∙◌, arith}
use Rattle.bounds.specs.Operation.{ordered}
use Rattle.bounds.proofs.Answers.{no_state, crossed, not_refused}
use Rattle.bounds.proofs.operation.check.Goals as goal

pub returns-then-state_count-state : goal.returns-then-state_count-state
returns-then-state_count-state c =
    let m = c.in_ok-machine.machine in
    rw (← c.in_ok-machine.ensures)
    (no_state m.table.words.now c.args.lowest.now c.args.highest.now c.args.state
    (record { table = m.table.whole; lowest = c.if-lowest-lt-REGISTERS.false; highest = c.if-highest-lt-REGISTERS.false }) m.admitted (omega arith))

pub returns-then-not-is_ordered : goal.returns-then-not-is_ordered
returns-then-not-is_ordered c =
    let m = c.in_ok-machine.machine in
    rw (← c.in_ok-machine.ensures)
    (crossed m.table.words.now c.args.lowest.now c.args.highest.now c.args.state
    (record { table = m.table.whole; lowest = c.if-lowest-lt-REGISTERS.false; highest = c.if-highest-lt-REGISTERS.false }) m.admitted (omega arith)
    (ap (λ (n : ℕ). ordered n c.args.lowest.now c.args.highest.now) (sym c.register_count.ensures.value) ∙ sym c.is_ordered.ensures ∙ c.if-not-is_ordered.true))

pub returns : goal.returns
returns c =
    let m = c.in_ok-machine.machine in (
      c.in_ok-machine.ensures,
      rw (← c.in_ok-machine.ensures)
          (not_refused m.table.words.now c.args.lowest.now c.args.highest.now c.args.state
          (record { table = m.table.whole; lowest = c.if-lowest-lt-REGISTERS.false; highest = c.if-highest-lt-REGISTERS.false }) m.admitted (omega arith)
          (ap (λ (n : ℕ). ordered n c.args.lowest.now c.args.highest.now) (sym c.register_count.ensures.value) ∙ sym c.is_ordered.ensures ∙ c.if-not-is_ordered.false)),
    )
