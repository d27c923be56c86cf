-- `bounds::cycle::work` meets its contract: the bounds so far, then the wires from n on, give what all wires give. Assumes nothing.
use Rattle.std.proofs.Common.{◌≡◌, ℕ, ◌+◌, take, sym, ap, ◌∙◌, arith}
use Rattle.fsmd.specs.Layout.{max_registers}
use Rattle.bounds.specs.Bounds.{range_at, wire_range}
use Rattle.bounds.specs.Cycle.{bounds_of}
use Rattle.bounds.proofs.CycleBounds.{bound_next, bound_done}
use Rattle.bounds.proofs.cycle.work.Goals as goal

pub loop-n-preserved : goal.loop-n-preserved
loop-n-preserved c =
    let a = c.args in
    let l = c.loop-n in
    let w = c.wire_range in
    sym (bound_next a.machine.words.now a.first a.count l.n l.room w.result c.loop-n-test.true (omega arith)
    (w.ensures ∙ ap (wire_range (range_at (bounds_of (take (max_registers + l.n) l.room)))) c.wire.ensures))
    ∙ l.invariant

pub returns : goal.returns
returns c =
    let a = c.args in
    let l = c.loop-n in
    let e : l.n ≡ a.count = omega arith in
    ap (λ (i : ℕ). bounds_of (take (max_registers + i) l.room)) (sym e)
    ∙ sym (bound_done a.machine.words.now a.first a.count l.n (bounds_of (take (max_registers + l.n) l.room)) (omega arith)) ∙ l.invariant
