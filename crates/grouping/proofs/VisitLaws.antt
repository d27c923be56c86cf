-- What a depth-first visit keeps, and that its fuel never runs out: one induction for every visitor. Assumes nothing.
use Prim.Native.Nat.{ℕ, zero, suc, ◌+◌, ◌<◌}
use mathlib.Core.Bool.{true, false}
use mathlib.Core.Logic.{◌⊎◌, inl, inr}
use mathlib.Core.Path.{◌≡◌, refl, sym, ◌∙◌, ap, subst}
use mathlib.Core.List.{List, [], ◌∷◌}
use native.Mathlib.Omega.{arith}
use lib.ListN.{length}
use Rattle.runs.proofs.Tests.{true_or_false}
use Rattle.runs.proofs.Sets.{In, Distinct, distinct_below}
use Rattle.cfg.specs.Graph.{CFG, successors}
use Rattle.grouping.specs.Visit.{Visitor, visit, each, visit_from}
use Rattle.grouping.proofs.Reach.{Reached, along}

-- x was come to along the path: by an edge from its head, or as the root
abbrev pub Came : (ℕ → List ℕ) → ℕ → List ℕ → ℕ → Type 0
Came next root [] x = x ≡ root
Came next root (p ∷ ps) x = In x (next p)

pub came_reached : (g : CFG) {root : ℕ} → Reached g root → (path : List ℕ) (x : ℕ) → ((y : ℕ) → In y path → Reached g y) → Came (successors g) root path x → Reached g x
came_reached g r [] x h c = subst (Reached g) (sym c) r
came_reached g r (p ∷ path) x h c = along (h p (inl refl)) c

-- what a visit of x leaves: the invariant, x dealt with, and no step back
pub record Outcome {S : Type 0} (I : S → Type 0) (D : S → Type 0) (Le : S → S → Type 0) (s s' : S) : Type 0 where
  pub holds : I s'
  pub dealt : D s'
  pub grows : Le s s'

-- I path s: what holds while the blocks of the path are being visited. D path x s: x is dealt with, for an edge from the path's head.
pub record Law {S : Type 0} (v : Visitor S) (next : ℕ → List ℕ) (root bound : ℕ)
    (I : List ℕ → S → Type 0) (D : List ℕ → ℕ → S → Type 0) (Le : S → S → Type 0) : Type 0 where
  pub le_refl : (s : S) → Le s s
  pub le_trans : (a b c : S) → Le a b → Le b c → Le a c
  pub stays : (path : List ℕ) (x : ℕ) (s s' : S) → Le s s' → D path x s → D path x s'
  pub small : (path : List ℕ) (x : ℕ) (s : S) → I path s → Came next root path x → x < bound
  pub skipped : (path : List ℕ) (x : ℕ) (s : S) → I path s → Came next root path x → v.stop path x s ≡ true
      → Outcome (I path) (D path x) Le s (v.skip path x s)
  pub new : (path : List ℕ) (x : ℕ) (s : S) → I path s → v.stop path x s ≡ false → In x path → ⊥
  pub entered : (path : List ℕ) (x : ℕ) (s : S) → I path s → Came next root path x → v.stop path x s ≡ false
      → I (x ∷ path) (v.enter x s) × Le s (v.enter x s)
  pub finished : (path : List ℕ) (x : ℕ) (s₀ s : S) → v.stop path x s₀ ≡ false → I (x ∷ path) s → Distinct (x ∷ path) → Came next root path x
      → ((y : ℕ) → In y (next x) → D (x ∷ path) y s) → Outcome (I path) (D path x) Le s (v.finish x s)

module _ {S : Type 0} (v : Visitor S) (next : ℕ → List ℕ) (n : ℕ) (path : List ℕ) (x : ℕ) (s : S) where
  pub visit_stops : v.stop path x s ≡ true → visit v next (suc n) path x s ≡ v.skip path x s
  unfolding visit
  visit_stops h = rw (h, visit) refl

  pub visit_goes : v.stop path x s ≡ false → visit v next (suc n) path x s ≡ v.finish x (each (visit v next n (x ∷ path)) (next x) (v.enter x s))
  unfolding visit
  visit_goes h = rw (h, visit) refl

-- two ways to go to each of a list, alike wherever J holds, which the first keeps
each_alike : {S : Type 0} (J : S → Type 0) (f h : ℕ → S → S) (ys : List ℕ)
    → ((y : ℕ) (s : S) → In y ys → J s → J (f y s) × (f y s ≡ h y s)) → (s : S) → J s → each f ys s ≡ each h ys s
each_alike J f h [] a s j = refl
each_alike J f h (y ∷ ys) a s j =
    let b = a y s (inl refl) j in
    each_alike J f h ys (λ z t i k. a z t (inr i) k) (f y s) b.0 ∙ ap (each h ys) b.1

module _ {S : Type 0} {v : Visitor S} {next : ℕ → List ℕ} {root bound : ℕ}
    {I : List ℕ → S → Type 0} {D : List ℕ → ℕ → S → Type 0} {Le : S → S → Type 0} (law : Law v next root bound I D Le) where
  -- the successors one after another
  each_outcome : (path : List ℕ) (f : ℕ → S → S) (ys : List ℕ)
      → ((y : ℕ) (s : S) → In y ys → I path s → Outcome (I path) (D path y) Le s (f y s))
      → (s : S) → I path s → Outcome (I path) (λ s'. (y : ℕ) → In y ys → D path y s') Le s (each f ys s)
  each_outcome path f [] h s i = record { holds = i; dealt = λ y z. absurd z; grows = law.le_refl s }
  each_outcome path f (x ∷ ys) h s i =
      let a = h x s (inl refl) i in
      let b = each_outcome path f ys (λ y s j. h y s (inr j)) (f x s) a.holds in
      record { holds = b.holds; dealt = go a.dealt b.dealt b.grows; grows = law.le_trans s (f x s) (each f ys (f x s)) a.grows b.grows }
    where
      go : D path x (f x s) → ((y : ℕ) → In y ys → D path y (each f ys (f x s))) → Le (f x s) (each f ys (f x s))
          → (y : ℕ) → (y ≡ x) ⊎ In y ys → D path y (each f ys (f x s))
      go d e l y (inl p) = law.stays path y (f x s) (each f ys (f x s)) l (subst (λ w. D path w (f x s)) (sym p) d)
      go d e l y (inr j) = e y j

  -- one block more on the path
  low : (path : List ℕ) (x : ℕ) (s : S) → I path s → Came next root path x → ((y : ℕ) → In y path → y < bound) → (z : ℕ) → (z ≡ x) ⊎ In z path → z < bound
  low path x s i c b z (inl p) = let k = law.small path x s i c in omega arith
  low path x s i c b z (inr j) = b z j

  -- a path has no repeats and stays below the bound, so the fuel cannot run out
  visit_outcome : (n : ℕ) (path : List ℕ) (x : ℕ) (s : S) → bound < n + length path
      → Distinct path → ((y : ℕ) → In y path → y < bound) → I path s → Came next root path x
      → Outcome (I path) (D path x) Le s (visit v next n path x s)
  visit_outcome zero path x s e o b i c = absurd (let r = distinct_below bound path o b in omega arith)
  visit_outcome (suc n) path x s e o b i c = go (true_or_false (v.stop path x s)) (visit_outcome n (x ∷ path))
    where
      go : (v.stop path x s ≡ true) ⊎ (v.stop path x s ≡ false)
          → ((y : ℕ) (t : S) → bound < n + suc (length path) → (In x path → ⊥) × Distinct path → ((z : ℕ) → (z ≡ x) ⊎ In z path → z < bound)
          → I (x ∷ path) t → In y (next x) → Outcome (I (x ∷ path)) (D (x ∷ path) y) Le t (visit v next n (x ∷ path) y t))
          → Outcome (I path) (D path x) Le s (visit v next (suc n) path x s)
      go (inl h) ih = rw (visit_stops v next n path x s h) (law.skipped path x s i c h)
      go (inr h) ih =
          let new = law.new path x s i h in
          let op = law.entered path x s i c h in
          let ch = each_outcome (x ∷ path) (visit v next n (x ∷ path)) (next x)
          (λ y t j k. ih y t (omega arith) (new, o) (low path x s i c b) k j) (v.enter x s) op.0 in
          let t = each (visit v next n (x ∷ path)) (next x) (v.enter x s) in
          let cl = law.finished path x s t h ch.holds (new, o) c ch.dealt in
          rw (visit_goes v next n path x s h) (record {
            holds = cl.holds;
            dealt = cl.dealt;
            grows = law.le_trans s (v.enter x s) (v.finish x t) op.1 (law.le_trans (v.enter x s) t (v.finish x t) ch.grows cl.grows);
          })

  -- nor does more fuel change anything
  visit_alike : (n m : ℕ) (path : List ℕ) (x : ℕ) (s : S) → bound < n + length path → bound < m + length path
      → Distinct path → ((y : ℕ) → In y path → y < bound) → I path s → Came next root path x
      → visit v next n path x s ≡ visit v next m path x s
  visit_alike zero m path x s e f o b i c = absurd (let r = distinct_below bound path o b in omega arith)
  visit_alike (suc n) zero path x s e f o b i c = absurd (let r = distinct_below bound path o b in omega arith)
  visit_alike (suc n) (suc m) path x s e f o b i c = go (true_or_false (v.stop path x s)) (visit_alike n m (x ∷ path))
    where
      go : (v.stop path x s ≡ true) ⊎ (v.stop path x s ≡ false)
          → ((y : ℕ) (t : S) → bound < n + suc (length path) → bound < m + suc (length path) → (In x path → ⊥) × Distinct path
          → ((z : ℕ) → (z ≡ x) ⊎ In z path → z < bound) → I (x ∷ path) t → In y (next x) → visit v next n (x ∷ path) y t ≡ visit v next m (x ∷ path) y t)
          → visit v next (suc n) path x s ≡ visit v next (suc m) path x s
      go (inl h) ih = visit_stops v next n path x s h ∙ sym (visit_stops v next m path x s h)
      go (inr h) ih =
          let d : (In x path → ⊥) × Distinct path = (law.new path x s i h, o) in
          let l = low path x s i c b in
          visit_goes v next n path x s h
          ∙ ap (v.finish x) (each_alike (I (x ∷ path)) (visit v next n (x ∷ path)) (visit v next m (x ∷ path)) (next x)
          (λ y t j k. ((visit_outcome n (x ∷ path) y t (omega arith) d l k j).holds, ih y t (omega arith) (omega arith) d l k j))
          (v.enter x s) (law.entered path x s i c h).0)
          ∙ sym (visit_goes v next m path x s h)

module _ {S : Type 0} {v : Visitor S} (g : CFG) {root : ℕ}
    {I : List ℕ → S → Type 0} {D : List ℕ → ℕ → S → Type 0} {Le : S → S → Type 0} (law : Law v (successors g) root (length g.blocks) I D Le) where
  -- a whole visit
  pub whole_visit : (s : S) → I [] s → Outcome (I []) (D [] root) Le s (visit_from v g root s)
  unfolding visit_from
  whole_visit s i = visit_outcome law (suc (length g.blocks)) [] root s (omega arith) tt (λ y z. absurd z) i refl

  -- any fuel above the number of blocks gives the same
  pub whole_fuel : (n : ℕ) → length g.blocks < n → (s : S) → I [] s → visit v (successors g) n [] root s ≡ visit_from v g root s
  unfolding visit_from
  whole_fuel n h s i = visit_alike law n (suc (length g.blocks)) [] root s (omega arith) (omega arith) tt (λ y z. absurd z) i refl
