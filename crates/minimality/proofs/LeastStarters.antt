-- The starters of the finished grouping are the least fit set. Assumes nothing.
use Prim.Native.Nat.{ℕ}
use mathlib.Core.Bool.{true}
use mathlib.Core.Logic.{◌⊎◌, inl, inr}
use mathlib.Core.Path.{◌≡◌}
use mathlib.Core.List.{List, [], ◌∷◌}
use Rattle.runs.specs.Lists.{mem}
use Rattle.runs.proofs.Sets.{In, Subset, mem→In, In→mem, in_left, pigeonhole}
use Rattle.cfg.specs.Graph.{CFG, successors}
use Rattle.cfg.specs.Table.{graph_of, admitted_graph}
use Rattle.grouping.specs.Grouping.{loops, groups}
use Rattle.grouping.proofs.Reach.{Closed, admitted_closed}
use Rattle.grouping.proofs.PopulationLaws.{state_in}
use Rattle.grouping.proofs.GroupingLaws.{grouped, grouped_keeping}
use Rattle.minimality.specs.Fit.{Reachable, Fit, FitFromAll, Least, LeastFit}
use Rattle.minimality.specs.Division.{Division}
use Rattle.minimality.proofs.Paths.{reached, reachable}
use Rattle.minimality.proofs.Containment.{all_inside}
use Rattle.minimality.proofs.Divisions.{division_fit}
use Rattle.minimality.proofs.Readings.{fit_from_all, fit_of_reachable}

module _ (g : CFG) (a : Closed g) where
  abbrev starters : List ℕ
  starters = (groups g).starters

  loops_in : Subset (loops g).starters starters
  loops_in = (grouped_keeping g a (Subset (loops g).starters) (λ s y l b h x i. in_left x s (y ∷ []) (h x i)) (λ x i. i)).1

  pub groups_division : Division g starters (state_in (groups g).states)
  groups_division = record {
    holds = λ x e. In→mem x starters (loops_in x (mem→In x (loops g).starters e));
    own = (grouped g a).starter_home;
    legal = λ u v r e. legal v ((grouped g a).edge u v (reached r) (mem→In v (successors g u) e));
  }
    where
      legal : {Stays : Type 0} (v : ℕ) → In v starters ⊎ Stays → (mem v starters ≡ true) ⊎ Stays
      legal v (inl i) = inl (In→mem v starters i)
      legal v (inr q) = inr q

  starters_reachable : (x : ℕ) → mem x starters ≡ true → Reachable g x
  starters_reachable x e = reachable ((grouped g a).starter_reached x (mem→In x starters e))

  starters_fit_lem : Fit g starters
  starters_fit_lem = division_fit g a starters (state_in (groups g).states) groups_division

  -- the least of any kind of fit sets that the starters are of
  least_of : (Kind : List ℕ → Type 0) → Kind starters → ((set : List ℕ) → Kind set → Fit g set) → Least Kind starters
  least_of Kind own fits = record {
    of_kind = own;
    contained = λ set k x e. In→mem x set (all_inside g a set (fits set k) x (mem→In x starters e));
    fewest = λ set k. pigeonhole starters set (grouped g a).distinct (all_inside g a set (fits set k));
  }

  pub least_fit : LeastFit g starters
  least_fit = record {
    reachable = starters_reachable;
    least = least_of (Fit g) starters_fit_lem (λ set f. f);
    least_from_all = least_of (FitFromAll g) (fit_of_reachable g a starters starters_reachable starters_fit_lem) (fit_from_all g a);
  }

-- the starters of every admitted graph table
pub table_least_fit : (t : List ℕ) → admitted_graph t ≡ true → LeastFit (graph_of t) (groups (graph_of t)).starters
table_least_fit t ok = least_fit (graph_of t) (admitted_closed t ok)
