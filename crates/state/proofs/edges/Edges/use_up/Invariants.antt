-- `state::edges::Edges::use_up` meets its contract. Assumes nothing.
use mathlib.Core.Path.{◌≡◌}
use Rattle.state.proofs.EdgeLaws.{partly, used_where}
use Rattle.state.proofs.edges.Edges.use_up.Given as goal

abbrev pub invariant-loop-i : goal.invariant-loop-i
invariant-loop-i l = (l.self.count ≡ l.initial.self.count) × (l.self.list ≡ partly (used_where l.x) l.i l.initial.self.list)
