-- The starters of the finished grouping are in every fit set. Assumes nothing.
use Prim.Native.Nat.{ℕ, zero, suc, ◌+◌, ◌<◌}
use mathlib.Core.Logic.{◌⊎◌, inl, inr}
use mathlib.Core.Path.{◌≡◌, refl, sym, ◌∙◌, ap, subst}
use mathlib.Core.List.{List, [], ◌∷◌, ◌++◌}
use native.Mathlib.Omega.{arith}
use lib.ListN.{length, get_or}
use Rattle.runs.proofs.Sets.{In, Subset, Found, there, missing, mem→In, In→mem, found, in_append, get_or-in}
use Rattle.cfg.specs.Graph.{CFG, successors}
use Rattle.fsmd.specs.Layout.{absent}
use Rattle.grouping.specs.Grouping.{loops, populate, groups}
use Rattle.grouping.proofs.Reach.{Closed, Reached, along}
use Rattle.grouping.proofs.LoopLaws.{Looped, rank, rank_most, rank_falls}
use Rattle.grouping.proofs.PopulationLaws.{state_in, Populated, populated}
use Rattle.grouping.proofs.DetectionLaws.{IllegalEdge}
use Rattle.grouping.proofs.GroupingLaws.{grouped_keeping}
use Rattle.minimality.specs.Fit.{Reachable, From, Fit}
use Rattle.minimality.proofs.Paths.{reachable, itself, onward}

module _ (g : CFG) (a : Closed g) (set : List ℕ) (fit : Fit g set) where
  module _ (finished starters : List ℕ) (l : Looped g starters finished) (inside : Subset starters set) where
    abbrev states : List ℕ
    states = populate g starters

    given : Populated g starters states
    given = populated g a starters l.distinct l.known (rw l.headed.1 (inl refl))

    -- x is reached from a starter of the set that is in x's state
    abbrev Source : ℕ → Type 0
    Source x = (s : ℕ) × From g (Reachable g) set s x × (state_in states s ≡ state_in states x)

    -- the last block of the set on population's way to x; ranks rise on the way back
    source : (n x : ℕ) → length finished < n + rank finished x → Reached g x → Source x
    source zero x h r = absurd (omega (arith, rank_most finished x))
    source (suc n) x h r = go (found x set) (given.taken.rooted x (given.all x r)) (source n)
      where
        go : Found x set → (get_or starters (state_in states x) absent ≡ x) ⊎ ((u : ℕ) × (state_in states u ≡ state_in states x) × In x (successors g u))
            → ((u : ℕ) → length finished < n + rank finished u → Reached g u → Source u) → Source x
        go (there e i) q ih = (x, itself g (Reachable g) (λ s p. p) set r e, refl)
        go (missing e f) (inl q) ih =
            absurd (f (inside x (subst (λ z. In z starters) q (get_or-in starters (state_in states x) absent (given.taken.low x (given.all x r))))))
        go (missing e f) (inr q) ih =
            let before = given.taken.reach q.0 (λ w. given.all x r (sym q.1 ∙ w)) in
            let falls = rank_falls g starters finished l.ranked q.0 x (l.all q.0 before) q.2 (λ i. f (inside x i)) in
            let s = ih q.0 (omega arith) before in
            (s.0, onward g (Reachable g) (λ s p. p) set s.1 q.2 e, s.2 ∙ q.1)

    -- two states lead to the target of an illegal edge, so it is in the set
    illegal_inside : (y : ℕ) → IllegalEdge g starters states y → In y set
    illegal_inside y b = go (found y set)
      where
        target_reached : Reached g y
        target_reached = along b.reached b.edge

        from : (x : ℕ) → Reached g x → Source x
        from x = source (suc (length finished)) x (omega arith)

        go : Found y set → In y set
        go (there e i) = i
        go (missing e f) =
            let s = from b.source b.reached in
            let t = from y target_reached in
            let one = fit.one y (reachable target_reached) e in
            let same = one.2 s.0 (onward g (Reachable g) (λ s p. p) set s.1 b.edge e) ∙ sym (one.2 t.0 t.1) in
            absurd (b.leaves (sym s.2 ∙ ap (state_in states) same ∙ t.2))

  -- so every round's starters are, and the last one's
  pub all_inside : Subset (groups g).starters set
  all_inside = (grouped_keeping g a (λ starters. Subset starters set) more (λ x i. mem→In x set (fit.holds x (In→mem x (loops g).starters i)))).1
    where
      more : (starters : List ℕ) (y : ℕ) → Looped g starters (loops g).finished → IllegalEdge g starters (populate g starters) y
          → Subset starters set → Subset (starters ++ (y ∷ [])) set
      more starters y l b h x i = go (in_append x starters (y ∷ []) i)
        where
          go : In x starters ⊎ ((x ≡ y) ⊎ ⊥) → In x set
          go (inl j) = h x j
          go (inr (inl q)) = rw q (illegal_inside (loops g).finished starters l h y b)
          go (inr (inr z)) = absurd z
