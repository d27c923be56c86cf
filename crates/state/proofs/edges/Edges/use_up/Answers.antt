-- `state::edges::Edges::use_up` meets its contract. Assumes nothing.
use mathlib.Core.Path.{◌≡◌, refl, sym, ap, ◌∙◌}
use Prim.Native.Nat.{ℕ}
use native.Mathlib.Omega.{arith}
use Rattle.std.proofs.lemmas.List.{set-get_or}
use Rattle.state.proofs.EdgeLaws.{partly, used_where, used_more, pending_used_up, first_within, used_front, none_used}
use Rattle.state.proofs.edges.Edges.use_up.Goals as goal

pub returns-in_default-clause-others : goal.returns-in_default-clause-others
returns-in_default-clause-others c = λ r. none_used r c.args.x c.args.self.now (sym c.in_default.is ∙ c.requires)

pub loop-i-init : goal.loop-i-init
loop-i-init c = (refl, used_front c.args.x c.args.self.now c.in-Some.first (sym c.in-Some.is ∙ c.requires))

pub loop-i-preserved : goal.loop-i-preserved
loop-i-preserved c =
    let l = c.loop-i in
    (l.invariant.0, simp set-get_or (used_more c.args.x c.args.self.now.list l.self.list l.i _ c.target_past.result l.invariant.1 (omega arith) c.target_past.ensures))

pub returns-clause-others : goal.returns-clause-others
returns-clause-others c =
    let l = c.loop-i in
    let f = first_within c.args.x c.args.self.now c.in-Some.first (sym c.in-Some.is ∙ c.requires) in
    let e : l.i ≡ c.args.self.now.count = omega arith in
    λ r. pending_used_up r c.args.x c.args.self.now l.self l.invariant.0 (l.invariant.1 ∙ ap (λ (n : ℕ). partly (used_where c.args.x) n c.args.self.now.list) e)
