-- A depth-first visit by a stack goes on as the recursive visit does, whatever the visitor. A frame is a block and its successors that
-- are left; `resume` is what is left of the recursive visit when the stack is as given, the deepest frame first. Assumes nothing.
use Prim.Native.Nat.{ℕ, suc}
use mathlib.Core.Path.{◌≡◌, refl, ap, ◌∙◌}
use mathlib.Core.Bool.{true, false}
use mathlib.Core.List.{List, [], ◌∷◌}
use Rattle.grouping.specs.Visit.{Visitor, each, visit}
use Rattle.grouping.proofs.VisitLaws.{visit_stops, visit_goes}

pub record Frame : Type 0 where
  pub block : ℕ
  pub left : List ℕ

-- the path that the frames are
abbrev pub blocks : List Frame → List ℕ
blocks [] = []
blocks (f ∷ fs) = f.block ∷ blocks fs

module _ {S : Type 0} (v : Visitor S) (next : ℕ → List ℕ) where
  -- a visit from the deepest frame has fuel + 1
  unfoldable pub resume : ℕ → List Frame → S → S
  unfolding visit
  resume fuel [] s = s
  resume fuel (f ∷ fs) s = resume (suc fuel) fs (v.finish f.block (each (visit v next (suc fuel) (f.block ∷ blocks fs)) f.left s))

  pub resume_none : (fuel : ℕ) (s : S) → resume fuel [] s ≡ s
  unfolding resume
  resume_none fuel s = refl

  -- no successor is left
  pub resume_pop : (fuel n : ℕ) (fs : List Frame) (s : S) → resume fuel (record { block = n; left = [] } ∷ fs) s ≡ resume (suc fuel) fs (v.finish n s)
  unfolding resume
  resume_pop fuel n fs s = refl

  -- the next successor is skipped, or gone into
  module _ (n t : ℕ) (ts : List ℕ) (fs : List Frame) (s : S) (fuel : ℕ) where
    pub resume_skip : v.stop (n ∷ blocks fs) t s ≡ true
        → resume fuel (record { block = n; left = t ∷ ts } ∷ fs) s ≡ resume fuel (record { block = n; left = ts } ∷ fs) (v.skip (n ∷ blocks fs) t s)
    unfolding resume
    resume_skip h =
        ap (λ (u : S). resume (suc fuel) fs (v.finish n (each (visit v next (suc fuel) (n ∷ blocks fs)) ts u)))
        (visit_stops v next fuel (n ∷ blocks fs) t s h)

    pub resume_push : v.stop (n ∷ blocks fs) t s ≡ false
        → resume (suc fuel) (record { block = n; left = t ∷ ts } ∷ fs) s
        ≡ resume fuel (record { block = t; left = next t } ∷ record { block = n; left = ts } ∷ fs) (v.enter t s)
    unfolding resume
    resume_push h =
        ap (λ (u : S). resume (suc (suc fuel)) fs (v.finish n (each (visit v next (suc (suc fuel)) (n ∷ blocks fs)) ts u)))
        (visit_goes v next (suc fuel) (n ∷ blocks fs) t s h)

  -- where every block is skipped and nothing changes, nothing is left to do
  module _ (s : S) (stops : (path : List ℕ) (x : ℕ) → v.stop path x s ≡ true) (skips : (path : List ℕ) (x : ℕ) → v.skip path x s ≡ s)
      (finishes : (x : ℕ) → v.finish x s ≡ s) where
    each_over : (fuel : ℕ) (path ts : List ℕ) → each (visit v next (suc fuel) path) ts s ≡ s
    each_over fuel path [] = refl
    each_over fuel path (t ∷ ts) =
        ap (each (visit v next (suc fuel) path) ts) (visit_stops v next fuel path t s (stops path t) ∙ skips path t) ∙ each_over fuel path ts

    pub resume_over : (fuel : ℕ) (fs : List Frame) → resume fuel fs s ≡ s
    unfolding resume
    resume_over fuel [] = refl
    resume_over fuel (f ∷ fs) =
        ap (λ (u : S). resume (suc fuel) fs (v.finish f.block u)) (each_over fuel (f.block ∷ blocks fs) f.left)
        ∙ ap (resume (suc fuel) fs) (finishes f.block)
        ∙ resume_over (suc fuel) fs
