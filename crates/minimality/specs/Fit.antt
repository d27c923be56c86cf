-- Request R-13 of paper 02: which sets of starters are fit, and the least of them. A set is a list of blocks, in any order. Assumes nothing.
use Rattle.std.specs.Prelude.{ℕ, ◌≤◌, ◌≡◌, true, false, List, [], length}
use Rattle.runs.specs.Lists.{mem}
use Rattle.cfg.specs.Graph.{CFG, successors}
use Rattle.grouping.specs.Grouping.{loops}

-- a path of edges from s to x whose blocks after s, x too, are all outside the set
pub data Through (g : CFG) (set : List ℕ) (s : ℕ) : ℕ → Type 0 where
  here : Through g set s s
  on : {u v : ℕ} → Through g set s u → mem v (successors g u) ≡ true → mem v set ≡ false → Through g set s v

-- a path from block 0, through whatever blocks
abbrev pub Reachable : CFG → ℕ → Type 0
Reachable g x = Through g [] 0 x

-- x is reached from the starter s of the set, through blocks outside it. `Counts` says of which starters the paths count.
pub record From (g : CFG) (Counts : ℕ → Type 0) (set : List ℕ) (s x : ℕ) : Type 0 where
  pub starter : mem s set ≡ true
  pub counts : Counts s
  pub path : Through g set s x

pub record FitWhere (g : CFG) (Counts : ℕ → Type 0) (set : List ℕ) : Type 0 where
  -- it holds every starter of loop detection
  pub holds : (x : ℕ) → mem x (loops g).starters ≡ true → mem x set ≡ true
  -- each reachable block outside it is reached, through blocks outside it, from one starter of the set and no other
  pub one : (x : ℕ) → Reachable g x → mem x set ≡ false → (s : ℕ) × From g Counts set s x × ((t : ℕ) → From g Counts set t x → t ≡ s)

-- A set may hold unreachable blocks. They and their edges count for nothing ("Grouping" of paper 01).
abbrev pub Fit : CFG → List ℕ → Type 0
Fit g = FitWhere g (Reachable g)

-- the other reading: the paths of every starter of the set count
abbrev pub FitFromAll : CFG → List ℕ → Type 0
FitFromAll g = FitWhere g (λ s. Unit {0})

-- the least set of some kind: it is of the kind, and contained in every one; so none has fewer starters
pub record Least (Kind : List ℕ → Type 0) (set : List ℕ) : Type 0 where
  pub of_kind : Kind set
  pub contained : (other : List ℕ) → Kind other → (x : ℕ) → mem x set ≡ true → mem x other ≡ true
  pub fewest : (other : List ℕ) → Kind other → length set ≤ length other

-- the least fit set, by both readings; all its starters are reachable
pub record LeastFit (g : CFG) (set : List ℕ) : Type 0 where
  pub reachable : (x : ℕ) → mem x set ≡ true → Reachable g x
  pub least : Least (Fit g) set
  pub least_from_all : Least (FitFromAll g) set
