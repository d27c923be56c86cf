-- `fsmd::admission::Counted::in_order` meets its contract: the states so far stand in order. Assumes nothing.
use Rattle.std.proofs.Common.{◌≡◌, ◌+◌, ℕ, arith, sym, ap₂, subst}
use Rattle.fsmd.proofs.Apart.{InOrder, order_more, order_apart}
use Rattle.fsmd.proofs.admission.Counted.in_order.Goals as goal

pub loop-k-preserved : goal.loop-k-preserved
loop-k-preserved c =
    let t = c.args.self.table.words.now in
    let f = c.first_wire-first in
    let k = c.loop-k.k in
    subst (λ (e : ℕ). InOrder t e (k + 1)) (sym (ap₂ (λ (x y : ℕ). x + y) f.ensures.value c.wire_count.ensures.value)) (order_more t c.loop-k.end k c.loop-k.invariant (omega (arith, f.ensures.value)))

pub returns : goal.returns
returns c =
    let m = c.args.self in
    let all : c.loop-k.k ≡ m.states = omega arith in
    λ e. order_apart m.table.words.now c.loop-k.end m.states (subst (InOrder m.table.words.now c.loop-k.end) all c.loop-k.invariant)
