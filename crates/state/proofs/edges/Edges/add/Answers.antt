-- `state::edges::Edges::add` meets its contract. Assumes nothing.
use native.Mathlib.Omega.{arith}
use mathlib.Core.Path.{refl}
use Rattle.state.proofs.EdgeLaws.{pending_added}
use Rattle.state.proofs.edges.Edges.add.Goals as goal

pub returns-clause-added : goal.returns-clause-added
returns-clause-added c = λ r. pending_added r c.args.self.now _ c.args.entry refl refl (omega arith) c.requires.live
