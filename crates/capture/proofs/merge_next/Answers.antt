-- `capture::merge_next` meets its contract. Assumes nothing.
use Rattle.std.proofs.Common.{ℕ, ◌-◌, Bool, take, drop, sym, ap₂, arith}
use Rattle.runs.specs.Lists.{same}
use Rattle.capture.proofs.Answers.{first_stops, second_stops, first_goes, second_goes, both_go}
use Rattle.capture.proofs.merge_next.Goals as goal

pub returns-in_err-x : goal.returns-in_err-x
returns-in_err-x c =
    let a = c.args in
    rw c.from_residual.ensures (first_stops a.registers a.first.now a.second.now a.m (rw c.in_err-x.was at c.requires.first.line))

pub returns-in_err-y : goal.returns-in_err-y
returns-in_err-y c =
    let a = c.args in
    rw c.from_residual-in_err-y.ensures (second_stops a.registers a.first.now a.second.now a.m (rw c.in_err-y.was at c.requires.second.line))

pub returns-then-x-y : goal.returns-then-x-y
returns-then-x-y c =
    let a = c.args in
    let h = c.behind.ensures in
    let x = c.in_ok-x.x in
    let y = c.in_ok-y.y in
    let Q = rw c.in_ok-y.was at c.requires.second.line in
    first_goes a.registers a.first.now a.second.now a.m x.cycle y.cycle c.behind.result.position _ h.passed Q c.requires c.if-x-y.true c.behind.result.line h.line

pub returns-then-y-x : goal.returns-then-y-x
returns-then-y-x c =
    let a = c.args in
    let h = c.behind-then-y-x.ensures in
    let x = c.in_ok-x.x in
    let y = c.in_ok-y.y in
    let P = rw c.in_ok-x.was at c.requires.first.line in
    second_goes a.registers a.first.now a.second.now a.m x.cycle y.cycle _ c.behind-then-y-x.result.position P h.passed c.requires c.if-y-x.true c.behind-then-y-x.result.line h.line

pub returns : goal.returns
returns c =
    let a = c.args in
    let h = c.behind-2 in
    let k = c.behind-3 in
    let x = c.in_ok-x.x in
    let y = c.in_ok-y.y in
    let bytes : ℕ → ℕ → Bool = λ i j. same (take (i - a.m.first.position.at) (drop a.m.first.position.at a.first.now)) (take (j - a.m.second.position.at) (drop a.m.second.position.at a.second.now)) in
    rw c.first_difference.ensures
    (both_go a.registers a.first.now a.second.now a.m x.cycle y.cycle h.result.position k.result.position h.ensures.passed k.ensures.passed c.requires
    h.result.line k.result.line (bytes x.next y.next) (ap₂ bytes (sym h.ensures.ends) (sym k.ensures.ends))
    (omega (arith, c.if-x-y.false, c.if-y-x.false)) h.ensures.line k.ensures.line)
