-- Paths through blocks outside a set, and the starters that they come from. Assumes nothing.
use Prim.Native.Nat.{ℕ}
use mathlib.Core.Bool.{true, false}
use mathlib.Core.Path.{◌≡◌, refl, ◌∙◌}
use mathlib.Core.List.{List}
use Rattle.runs.specs.Lists.{mem}
use Rattle.runs.proofs.Sets.{In, Found, there, missing, mem→In, In→mem, found}
use Rattle.cfg.specs.Graph.{CFG, successors}
use Rattle.grouping.specs.Grouping.{loops}
use Rattle.grouping.proofs.Reach.{Closed, Reached, entry, along}
use Rattle.grouping.proofs.LoopLaws.{looped}
use Rattle.minimality.specs.Fit.{Through, here, on, Reachable, From}

-- ---- a reachable block, as here and as in `grouping`

pub through_reached : {g : CFG} {set : List ℕ} {s x : ℕ} → Reached g s → Through g set s x → Reached g x
through_reached r here = r
through_reached {g} r (on {u = u} {v = v} p e o) = along (through_reached r p) (mem→In v (successors g u) e)

pub reached : {g : CFG} {x : ℕ} → Reachable g x → Reached g x
reached p = through_reached entry p

pub reachable : {g : CFG} {x : ℕ} → Reached g x → Reachable g x
reachable entry = here
reachable {g} (along {u = u} {v = v} r i) = on (reachable r) (In→mem v (successors g u) i) refl

-- what each step to a block outside the set keeps is kept on the whole path
pub path_keeps : (g : CFG) (set : List ℕ) (f : ℕ → ℕ) → ((u v : ℕ) → Reached g u → mem v (successors g u) ≡ true → mem v set ≡ false → f v ≡ f u)
    → {s x : ℕ} → Reached g s → Through g set s x → f x ≡ f s
path_keeps g set f step r here = refl
path_keeps g set f step r (on {u = u} {v = v} p e o) = step u v (through_reached r p) e o ∙ path_keeps g set f step r p

-- every set that holds the loop starters holds block 0
pub zero_in : (g : CFG) → Closed g → (set : List ℕ) → ((x : ℕ) → mem x (loops g).starters ≡ true → mem x set ≡ true) → mem 0 set ≡ true
zero_in g a set holds = holds 0 (rw (looped g a).headed.1 refl)

-- ---- from which starters a block is reached, where the paths of all reachable ones count

module _ (g : CFG) (Counts : ℕ → Type 0) (counted : (s : ℕ) → Reachable g s → Counts s) (set : List ℕ) where
  pub itself : {x : ℕ} → Reached g x → mem x set ≡ true → From g Counts set x x
  itself {x} r e = record { starter = e; counts = counted x (reachable r); path = here }

  pub onward : {s u v : ℕ} → From g Counts set s u → In v (successors g u) → mem v set ≡ false → From g Counts set s v
  onward {s} {u} {v} f i o = record { starter = f.starter; counts = f.counts; path = on f.path (In→mem v (successors g u) i) o }

  -- the last block of the set on a path from block 0
  pub some_starter : mem 0 set ≡ true → {x : ℕ} → Reached g x → (s : ℕ) × From g Counts set s x
  some_starter z entry = (0, itself entry z)
  some_starter z (along {u = u} {v = v} r i) = go (found v set) (some_starter z r)
    where
      go : Found v set → (s : ℕ) × From g Counts set s u → (s : ℕ) × From g Counts set s v
      go (there e j) s = (v, itself (along r i) e)
      go (missing e j) s = (s.0, onward s.1 i e)
