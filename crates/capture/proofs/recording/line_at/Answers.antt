-- `capture::recording::line_at` meets its contract: what is left of the line from p on gives what the whole line gives. Assumes nothing.
use Rattle.std.proofs.Common.{◌≡◌, ℕ, suc, ◌+◌, ◌-◌, None, drop, sym, ap, ◌∙◌, arith}
use Rattle.delimited.specs.Cursor.{front_line}
use Rattle.capture.proofs.Forms.{behind_cycle, cycle_missing, cycle_read, word_missing, word_read, last_read, last_missing}
use Rattle.capture.proofs.recording.line_at.Goals as goal

pub returns-in_err-cycle : goal.returns-in_err-cycle
returns-in_err-cycle c =
    let a = c.args in
    c.from_residual.ensures ∙ sym (cycle_missing a.registers a.at (drop a.at a.text.now) (sym c.word_at.ensures ∙ c.in_err-cycle.was))

pub loop-init : goal.loop-init
loop-init c =
    let a = c.args in
    let e : a.registers - 0 ≡ a.registers = omega arith in
    rw e (sym (cycle_read a.registers a.at a.text.now (sym c.word_at.ensures ∙ c.in_ok-cycle.was)))

pub returns-in_err-p : goal.returns-in_err-p
returns-in_err-p c =
    let a = c.args in
    let l = c.loop in
    let t = a.text.now in
    let cycle = c.in_ok-cycle.cycle.value in
    let e : a.registers - l.counter ≡ suc (a.registers - (l.counter + 1)) = omega arith in
    c.from_residual-in_err-p.ensures
    ∙ sym (ap (λ (n : ℕ). front_line None (behind_cycle cycle (suc n)) l.p (drop l.p t)) e ∙ word_missing cycle (a.registers - (l.counter + 1)) l.p (drop l.p t) (sym c.word_at-in-loop.ensures ∙ c.in_err-p.was))
    ∙ l.invariant

pub loop-preserved : goal.loop-preserved
loop-preserved c =
    let a = c.args in
    let l = c.loop in
    let t = a.text.now in
    let cycle = c.in_ok-cycle.cycle.value in
    let e : a.registers - l.counter ≡ suc (a.registers - (l.counter + 1)) = omega arith in
    let q = c.in_ok-p.field-0.next in
    ap (λ (n : ℕ). front_line None (behind_cycle cycle n) q (drop q t)) (sym e)
    ∙ sym (word_read cycle (a.registers - l.counter) l.p t (sym c.word_at-in-loop.ensures ∙ c.in_ok-p.was))
    ∙ l.invariant

pub returns-in_err-last : goal.returns-in_err-last
returns-in_err-last c =
    let a = c.args in
    let l = c.loop in
    let t = a.text.now in
    let cycle = c.in_ok-cycle.cycle.value in
    let e : a.registers - l.counter ≡ 0 = omega arith in
    c.from_residual-in_err-last.ensures
    ∙ sym (ap (λ (n : ℕ). front_line None (behind_cycle cycle (suc n)) l.p (drop l.p t)) e ∙ last_missing cycle l.p (drop l.p t) (sym c.word_at-2.ensures ∙ c.in_err-last.was))
    ∙ l.invariant

pub returns : goal.returns
returns c =
    let a = c.args in
    let l = c.loop in
    let t = a.text.now in
    let cycle = c.in_ok-cycle.cycle.value in
    let e : a.registers - l.counter ≡ 0 = omega arith in
    sym (ap (λ (n : ℕ). front_line None (behind_cycle cycle (suc n)) l.p (drop l.p t)) e ∙ last_read cycle l.p t (sym c.word_at-2.ensures ∙ c.in_ok-last.was))
    ∙ l.invariant
