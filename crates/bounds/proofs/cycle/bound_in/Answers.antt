-- `bounds::cycle::bound_in` meets its contract: registers, wires and next registers, over ranges. Assumes nothing.
use Rattle.std.proofs.Common.{◌≡◌, ℕ, ◌+◌, ◌-◌, length, take, drop, ap, ◌∙◌, arith}
use Rattle.fsmd.specs.Layout.{max_registers, next_registers_offset}
use Rattle.fsmd.proofs.Windows.{window_length, wires_from}
use Rattle.bounds.specs.Bounds.{Bounds, bounded}
use Rattle.bounds.specs.Cycle.{bounds_of}
use Rattle.bounds.proofs.CycleBounds.{cycled}
use Rattle.bounds.proofs.cycle.bound_in.Goals as goal

pub returns : goal.returns
returns c =
    let a = c.args in
    let t = a.machine.words.now in
    let first = c.first_wire in
    let count = c.wire_count-count in
    let r = c.head-registers.result.registers in
    let at = c.record-next.result + next_registers_offset in
    let e : at + r - at ≡ r = omega arith in
    let next = ap (λ (n : ℕ). take n (drop at t)) e in
    cycled t a.k first.ensures.value count.ensures.value c.record-next.ensures c.head-registers.ensures.registers_value a.lowest.now a.highest.now
    (bounds_of (take (max_registers + count.result) c.work.new.room)) (take (at + r - at) (drop at t))
    (c.work.ensures ∙ ap (λ (b : Bounds). bounded b (wires_from t first.result count.result)) c.load.ensures)
    next
    (ap length next ∙ window_length t at r (omega arith))
    c.put_next.ensures.lowest_after
    c.put_next.ensures.highest_after
