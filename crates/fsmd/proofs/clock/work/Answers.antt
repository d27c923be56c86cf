-- `fsmd::clock::work` meets its contract: the words so far, then the wires from n on, give what all wires give, and whether one goes over. Assumes nothing.
use Prim.Native.Nat.{ℕ, ◌+◌}
use native.Mathlib.Omega.{arith}
use mathlib.Core.Bool.{Bool, ◌||◌, or_assoc, or-false}
use mathlib.Core.Path.{◌≡◌, sym, ap, ◌∙◌}
use lib.ListN.{take, drop, set, length-set, get_or}
use Rattle.fsmd.specs.Clock.{read_in}
use Rattle.fsmd.specs.Layout.{max_registers}
use Rattle.fsmd.specs.Machine.{wire_value, wire_over, wires_over}
use Rattle.fsmd.specs.Table.{wire_at}
use Rattle.fsmd.proofs.Environment.{value_within, over_within, work_next, over_next, work_done, over_done}
use Rattle.fsmd.proofs.Windows.{wires_from, wire_valid, wires_pass}
use Rattle.fsmd.proofs.clock.work.Goals as goal

pub loop-n-preserved : goal.loop-n-preserved
loop-n-preserved g c =
    let a = c.args in
    let t = a.table.words.now in
    let n = c.loop-n.n in
    let l = c.loop-n.room.words in
    let r = get_or t 1 0 in
    let i = c.wire in
    let w = wire_at t (a.first + n) in
    let below = c.loop-n-test.true in
    let valid = wire_valid t a.first a.count r n below c.loop-n.invariant.1 in
    let f : ℕ → ℕ = read_in l in
    let g : ℕ → ℕ = λ x. get_or (take (max_registers + n) l) x 0 in
    let given = c.evaluated-given.result in
    let v = c.evaluated-given.ensures.word_value ∙ ap (wire_value a.sampled f) i.ensures ∙ value_within a.sampled l r n w (omega arith) (omega arith) valid in
    let o = c.evaluated-given.ensures.over_value
    ∙ ap (λ (x : Bool). c.loop-n.over || x) (ap (wire_over f) i.ensures ∙ over_within a.sampled l r n w (omega arith) (omega arith) valid) in
    let rest = wires_over a.sampled (take (max_registers + (n + 1)) (set l (max_registers + n) given.word)) (drop (n + 1) (wires_from t a.first a.count)) in (
      length-set l (max_registers + n) given.word ∙ c.loop-n.invariant.0,
      sym (wires_pass t a.first a.count r n below valid) ∙ c.loop-n.invariant.1,
      sym (work_next a.sampled t a.first a.count n l given.word below (omega arith) v) ∙ c.loop-n.invariant.2,
      ap (λ (x : Bool). x || rest) o
          ∙ or_assoc c.loop-n.over (wire_over g w) rest
          ∙ ap (λ (x : Bool). c.loop-n.over || x) (sym (over_next a.sampled t a.first a.count n l given.word below (omega arith) v))
          ∙ c.loop-n.invariant.3,
    )

pub returns-clause-room_after : goal.returns-clause-room_after
returns-clause-room_after g c =
    let a = c.args in
    let n = c.loop-n.n in
    let e : n ≡ a.count = omega arith in
    ap (λ (i : ℕ). take (max_registers + i) c.loop-n.room.words) (sym e)
    ∙ sym (work_done a.sampled a.table.words.now a.first a.count n (take (max_registers + n) c.loop-n.room.words) (omega arith))
    ∙ c.loop-n.invariant.2

pub returns-clause-over_value : goal.returns-clause-over_value
returns-clause-over_value g c =
    let a = c.args in
    let n = c.loop-n.n in
    sym (or-false c.loop-n.over)
    ∙ ap (λ (x : Bool). c.loop-n.over || x) (sym (over_done a.sampled a.table.words.now a.first a.count n (take (max_registers + n) c.loop-n.room.words) (omega arith)))
    ∙ c.loop-n.invariant.3
