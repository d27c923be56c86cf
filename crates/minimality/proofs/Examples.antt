-- The theorem on the paper's own graphs: the numbers of states that no choice of starters on the same loops goes below. Assumes nothing.
use Prim.Native.Nat.{ℕ, ◌≤◌}
use mathlib.Core.Bool.{true}
use mathlib.Core.Path.{◌≡◌, refl}
use mathlib.Core.List.{List}
use lib.ListN.{length}
use Rattle.cfg.specs.Graph.{CFG, valid_graph}
use Rattle.cfg.proofs.Admitted.{valid_graph_lem}
use Rattle.grouping.specs.Grouping.{groups}
use Rattle.grouping.proofs.Reach.{valid_closed}
use Rattle.worked_examples.specs.Graphs.{P7, P9, P10}
use Rattle.minimality.specs.Fit.{Fit}
use Rattle.minimality.proofs.LeastStarters.{least_fit}

at_least : (g : CFG) → valid_graph g ≡ true → (set : List ℕ) → Fit g set → length (groups g).starters ≤ length set
at_least g ok = (least_fit g (valid_closed g (valid_graph_lem g ok))).least.fewest

pub P7_two : (set : List ℕ) → Fit P7 set → 2 ≤ length set
unfolding P7 groups valid_graph
P7_two = at_least P7 refl

pub P9_four : (set : List ℕ) → Fit P9 set → 4 ≤ length set
unfolding P9 groups valid_graph
P9_four = at_least P9 refl

pub P10_three : (set : List ℕ) → Fit P10 set → 3 ≤ length set
unfolding P10 groups valid_graph
P10_three = at_least P10 refl
