-- Two visits side by side: where each step of one keeps R with the other's, the whole visits do. R may speak of the path. Assumes nothing.
use Prim.Native.Nat.{ℕ, zero, suc, ◌<◌}
use mathlib.Core.Bool.{true, false}
use mathlib.Core.Logic.{◌⊎◌, inl, inr}
use mathlib.Core.Path.{◌≡◌, refl, ◌∙◌}
use mathlib.Core.List.{List, [], ◌∷◌}
use Rattle.runs.proofs.Tests.{true_or_false}
use Rattle.runs.proofs.Sets.{In}
use Rattle.grouping.specs.Visit.{Visitor, visit, each}
use Rattle.grouping.proofs.VisitLaws.{visit_stops, visit_goes}

-- on blocks below the bound
pub record Tracks {S T : Type 0} (v : Visitor S) (w : Visitor T) (R : List ℕ → S → T → Type 0) (bound : ℕ) : Type 0 where
  pub stops : (path : List ℕ) (x : ℕ) (s : S) (t : T) → x < bound → R path s t → v.stop path x s ≡ w.stop path x t
  pub skips : (path : List ℕ) (x : ℕ) (s : S) (t : T) → x < bound → R path s t → w.stop path x t ≡ true → R path (v.skip path x s) (w.skip path x t)
  pub enters : (path : List ℕ) (x : ℕ) (s : S) (t : T) → x < bound → R path s t → w.stop path x t ≡ false → R (x ∷ path) (v.enter x s) (w.enter x t)
  pub finishes : (path : List ℕ) (x : ℕ) (s : S) (t : T) → x < bound → R (x ∷ path) s t → R path (v.finish x s) (w.finish x t)

each_tracks : {S T : Type 0} (P : S → T → Type 0) (f : ℕ → S → S) (k : ℕ → T → T) (ys : List ℕ)
    → ((y : ℕ) (s : S) (t : T) → In y ys → P s t → P (f y s) (k y t)) → (s : S) (t : T) → P s t → P (each f ys s) (each k ys t)
each_tracks P f k [] a s t i = i
each_tracks P f k (y ∷ ys) a s t i = each_tracks P f k ys (λ z s t j. a z s t (inr j)) (f y s) (k y t) (a y s t (inl refl) i)

module _ {S T : Type 0} {v : Visitor S} {w : Visitor T} {R : List ℕ → S → T → Type 0} {bound : ℕ} (m : Tracks v w R bound)
    (next : ℕ → List ℕ) (inside : (u x : ℕ) → In x (next u) → x < bound) where
  -- below a block that is gone into
  below : (n : ℕ) (path : List ℕ) (x : ℕ) (s : S) (t : T)
      → ((y : ℕ) (s : S) (t : T) → y < bound → R (x ∷ path) s t → R (x ∷ path) (visit v next n (x ∷ path) y s) (visit w next n (x ∷ path) y t)) → x < bound → R (x ∷ path) s t
      → R path (v.finish x (each (visit v next n (x ∷ path)) (next x) s)) (w.finish x (each (visit w next n (x ∷ path)) (next x) t))
  below n path x s t ih l i =
      m.finishes path x (each (visit v next n (x ∷ path)) (next x) s) (each (visit w next n (x ∷ path)) (next x) t) l
      (each_tracks (R (x ∷ path)) (visit v next n (x ∷ path)) (visit w next n (x ∷ path)) (next x) (λ y s t j k. ih y s t (inside x y j) k) s t i)

  pub visit_tracks : (n : ℕ) (path : List ℕ) (x : ℕ) (s : S) (t : T) → x < bound → R path s t → R path (visit v next n path x s) (visit w next n path x t)
  unfolding visit
  visit_tracks zero path x s t l i = i
  visit_tracks (suc n) path x s t l i = go (true_or_false (w.stop path x t)) (visit_tracks n (x ∷ path))
    where
      go : (w.stop path x t ≡ true) ⊎ (w.stop path x t ≡ false)
          → ((y : ℕ) (s : S) (t : T) → y < bound → R (x ∷ path) s t → R (x ∷ path) (visit v next n (x ∷ path) y s) (visit w next n (x ∷ path) y t))
          → R path (visit v next (suc n) path x s) (visit w next (suc n) path x t)
      go (inl e) ih = rw (visit_stops v next n path x s (m.stops path x s t l i ∙ e), visit_stops w next n path x t e) (m.skips path x s t l i e)
      go (inr e) ih =
          rw (visit_goes v next n path x s (m.stops path x s t l i ∙ e), visit_goes w next n path x t e)
          (below n path x (v.enter x s) (w.enter x t) ih l (m.enters path x s t l i e))

  pub below_tracks : (n : ℕ) (path : List ℕ) (x : ℕ) (s : S) (t : T) → x < bound → R (x ∷ path) s t
      → R path (v.finish x (each (visit v next n (x ∷ path)) (next x) s)) (w.finish x (each (visit w next n (x ∷ path)) (next x) t))
  below_tracks n path x s t l i = below n path x s t (visit_tracks n (x ∷ path)) l i
