-- Loop detection: no cycle avoids the starters. Assumes nothing.
use Prim.Native.Nat.{ℕ, suc, ◌≤◌, ◌<◌}
use mathlib.Core.Bool.{true, false, false≢true}
use mathlib.Core.Logic.{◌⊎◌, inl, inr, ◌≢◌}
use mathlib.Core.Path.{◌≡◌, refl, sym, ap, subst}
use mathlib.Core.List.{List, [], ◌∷◌, ◌++◌}
use native.Mathlib.Omega.{arith}
use lib.ListN.{length}
use lib.Dec.{eqb}
use Rattle.runs.specs.Lists.{mem}
use Rattle.runs.proofs.Tests.{or_false, Compared, same, other, compared}
use Rattle.runs.proofs.Sets.{In, Distinct, Subset, found, Found, there, missing, in_left, in_right, in_append, distinct_snoc, mem→Out}
use Rattle.cfg.specs.Graph.{CFG, successors}
use Rattle.grouping.specs.Visit.{visit}
use Rattle.grouping.specs.Grouping.{Loops, started_at, finished_at, looping, loops}
use Rattle.grouping.proofs.Reach.{Closed, Reached, entry, along, reached_below}
use Rattle.grouping.proofs.VisitLaws.{Came, came_reached, Outcome, Law, whole_visit, whole_fuel}

-- each block of the list has its successors among the starters or further down the list, and none stands twice
abbrev pub Ranked : CFG → List ℕ → List ℕ → Type 0
Ranked g starters [] = Unit {0}
Ranked g starters (u ∷ rest) = ((v : ℕ) → In v (successors g u) → In v starters ⊎ In v rest) × (In u rest → ⊥) × Ranked g starters rest

pub ranked_more : (g : CFG) (s t l : List ℕ) → Subset s t → Ranked g s l → Ranked g t l
ranked_more g s t [] h r = tt
ranked_more g s t (u ∷ rest) h r = (λ v i. go v (r.0 v i), r.1, ranked_more g s t rest h r.2)
  where
    go : (v : ℕ) → In v s ⊎ In v rest → In v t ⊎ In v rest
    go v (inl i) = inl (h v i)
    go v (inr i) = inr i

pub ranked_distinct : (g : CFG) (starters l : List ℕ) → Ranked g starters l → Distinct l
ranked_distinct g starters [] r = tt
ranked_distinct g starters (u ∷ rest) r = (r.1, ranked_distinct g starters rest r.2)

record Inv (g : CFG) (path : List ℕ) (s : Loops) : Type 0 where
  ranked : Ranked g s.starters s.finished
  apart : (x : ℕ) → In x path → In x s.finished → ⊥
  reach_path : (x : ℕ) → In x path → Reached g x
  reach_finished : (x : ℕ) → In x s.finished → Reached g x
  distinct : Distinct s.starters
  held : (x : ℕ) → In x s.starters → (x ≡ 0) ⊎ (In x path ⊎ In x s.finished)
  headed : (rest : List ℕ) × (s.starters ≡ 0 ∷ rest)

abbrev Dealt : List ℕ → ℕ → Loops → Type 0
Dealt path x s = In x s.finished ⊎ (In x path × In x s.starters)

abbrev Le : Loops → Loops → Type 0
Le s t = Subset s.finished t.finished × Subset s.starters t.starters

module _ (g : CFG) (a : Closed g) where
  stays : (path : List ℕ) (x : ℕ) (s t : Loops) → Le s t → Dealt path x s → Dealt path x t
  stays path x s t l (inl i) = inl (l.0 x i)
  stays path x s t l (inr i) = inr (i.0, l.1 x i.1)

  -- met on the path: a starter from now on
  again : (path : List ℕ) (x : ℕ) (s : Loops) → Inv g path s → In x path → Outcome (Inv g path) (Dealt path x) Le s (started_at x s)
  again path x s i k = go (found x s.starters)
    where
      held : (y : ℕ) → In y s.starters ⊎ ((y ≡ x) ⊎ ⊥) → (y ≡ 0) ⊎ (In y path ⊎ In y s.finished)
      held y (inl j) = i.held y j
      held y (inr (inl p)) = inr (inl (subst (λ z. In z path) (sym p) k))
      held y (inr (inr z)) = absurd z

      more : Subset s.starters (s.starters ++ (x ∷ []))
      more y j = in_left y s.starters (x ∷ []) j

      go : Found x s.starters → Outcome (Inv g path) (Dealt path x) Le s (started_at x s)
      go (there e j) = rw (e, started_at) (record { holds = i; dealt = inr (k, j); grows = (λ y i. i, λ y i. i) })
      go (missing e j) = rw (e, started_at) (record {
        holds = record {
          ranked = ranked_more g s.starters (s.starters ++ (x ∷ [])) s.finished more i.ranked;
          apart = i.apart;
          reach_path = i.reach_path;
          reach_finished = i.reach_finished;
          distinct = distinct_snoc s.starters x i.distinct j;
          held = λ y j. held y (in_append y s.starters (x ∷ []) j);
          headed = (i.headed.0 ++ (x ∷ []), ap (λ (l : List ℕ). l ++ (x ∷ [])) i.headed.1);
        };
        dealt = inr (k, in_right x s.starters (x ∷ []) (inl refl));
        grows = (λ y i. i, more);
      })

  skipped : (path : List ℕ) (x : ℕ) (s : Loops) → Inv g path s → Came (successors g) 0 path x → looping.stop path x s ≡ true
      → Outcome (Inv g path) (Dealt path x) Le s (looping.skip path x s)
  skipped path x s i c h = go (found x s.finished) (found x path)
    where
      go : Found x s.finished → Found x path → Outcome (Inv g path) (Dealt path x) Le s (looping.skip path x s)
      go (there e j) k = rw (e, looping) (record { holds = i; dealt = inl j; grows = (λ y i. i, λ y i. i) })
      go (missing e j) (there e' k) = rw (e, looping) (again path x s i k)
      go (missing e j) (missing e' k) = absurd (false≢true (rw (e, e') at h))

  new : (path : List ℕ) (x : ℕ) (s : Loops) → Inv g path s → looping.stop path x s ≡ false → In x path → ⊥
  new path x s i h j = mem→Out x path (or_false (mem x s.finished) (mem x path) h).1 j

  entered : (path : List ℕ) (x : ℕ) (s : Loops) → Inv g path s → Came (successors g) 0 path x → looping.stop path x s ≡ false
      → Inv g (x ∷ path) s × Le s s
  entered path x s i c h = (
    record {
      ranked = i.ranked;
      apart = apart;
      reach_path = reach;
      reach_finished = i.reach_finished;
      distinct = i.distinct;
      held = λ y j. held y (i.held y j);
      headed = i.headed;
    },
    (λ y i. i, λ y i. i),
  )
    where
      apart : (y : ℕ) → (y ≡ x) ⊎ In y path → In y s.finished → ⊥
      apart y (inl p) j = mem→Out x s.finished (or_false (mem x s.finished) (mem x path) h).0 (subst (λ z. In z s.finished) p j)
      apart y (inr k) j = i.apart y k j

      reach : (y : ℕ) → (y ≡ x) ⊎ In y path → Reached g y
      reach y (inl p) = subst (Reached g) (sym p) (came_reached g entry path x i.reach_path c)
      reach y (inr k) = i.reach_path y k

      held : (y : ℕ) → (y ≡ 0) ⊎ (In y path ⊎ In y s.finished) → (y ≡ 0) ⊎ (((y ≡ x) ⊎ In y path) ⊎ In y s.finished)
      held y (inl p) = inl p
      held y (inr (inl k)) = inr (inl (inr k))
      held y (inr (inr k)) = inr (inr k)

  finishes : (path : List ℕ) (x : ℕ) (s : Loops) → Inv g (x ∷ path) s → Distinct (x ∷ path) → Came (successors g) 0 path x
      → ((y : ℕ) → In y (successors g x) → Dealt (x ∷ path) y s) → Outcome (Inv g path) (Dealt path x) Le s (finished_at x s)
  finishes path x s i o c d = record {
    holds = record {
      ranked = (λ v j. rank v (d v j), i.apart x (inl refl), i.ranked);
      apart = apart;
      reach_path = λ y k. i.reach_path y (inr k);
      reach_finished = reach;
      distinct = i.distinct;
      held = λ y j. held y (i.held y j);
      headed = i.headed;
    };
    dealt = inl (inl refl);
    grows = (λ y j. inr j, λ y j. j);
  }
    where
      rank : (v : ℕ) → Dealt (x ∷ path) v s → In v s.starters ⊎ In v s.finished
      rank v (inl j) = inr j
      rank v (inr j) = inl j.1

      apart : (y : ℕ) → In y path → (y ≡ x) ⊎ In y s.finished → ⊥
      apart y k (inl p) = o.0 (subst (λ z. In z path) p k)
      apart y k (inr j) = i.apart y (inr k) j

      reach : (y : ℕ) → (y ≡ x) ⊎ In y s.finished → Reached g y
      reach y (inl p) = i.reach_path y (inl p)
      reach y (inr j) = i.reach_finished y j

      held : (y : ℕ) → (y ≡ 0) ⊎ (((y ≡ x) ⊎ In y path) ⊎ In y s.finished) → (y ≡ 0) ⊎ (In y path ⊎ ((y ≡ x) ⊎ In y s.finished))
      held y (inl p) = inl p
      held y (inr (inl (inl p))) = inr (inr (inl p))
      held y (inr (inl (inr k))) = inr (inl k)
      held y (inr (inr k)) = inr (inr (inr k))

  law : Law looping (successors g) 0 (length g.blocks) (Inv g) Dealt Le
  law = record {
    le_refl = λ s. (λ x i. i, λ x i. i);
    le_trans = λ s t u p q. (λ x i. q.0 x (p.0 x i), λ x i. q.1 x (p.1 x i));
    stays = stays;
    small = λ path x s i c. reached_below a (came_reached g entry path x i.reach_path c);
    skipped = skipped;
    new = new;
    entered = entered;
    finished = λ path x s₀ s h. finishes path x s;
  }

-- what loop detection gives: the starters, and the order in which the blocks were finished, the last first
pub record Looped (g : CFG) (starters finished : List ℕ) : Type 0 where
  pub ranked : Ranked g starters finished
  pub distinct : Distinct starters
  pub headed : (rest : List ℕ) × (starters ≡ 0 ∷ rest)
  pub all : (x : ℕ) → Reached g x → In x finished
  pub only : (x : ℕ) → In x finished → Reached g x
  pub known : (x : ℕ) → In x starters → Reached g x

-- a ranked list that has the starters is closed under successors
pub ranked_closed : (g : CFG) (starters finished : List ℕ) → Ranked g starters finished → (u v : ℕ) → In u finished → In v (successors g u) → In v starters ⊎ In v finished
ranked_closed g starters [] r u v i j = absurd i
ranked_closed g starters (w ∷ rest) r u v (inl p) j = go (r.0 v (subst (λ z. In v (successors g z)) p j))
  where
    go : In v starters ⊎ In v rest → In v starters ⊎ ((v ≡ w) ⊎ In v rest)
    go (inl k) = inl k
    go (inr k) = inr (inr k)
ranked_closed g starters (w ∷ rest) r u v (inr i) j = go (ranked_closed g starters rest r.2 u v i j)
  where
    go : In v starters ⊎ In v rest → In v starters ⊎ ((v ≡ w) ⊎ In v rest)
    go (inl k) = inl k
    go (inr k) = inr (inr k)

begun : (g : CFG) → Inv g [] (record { finished = []; starters = 0 ∷ [] })
begun g =
    record {
      ranked = tt;
      apart = λ x i j. i;
      reach_path = λ x i. absurd i;
      reach_finished = λ x i. absurd i;
      distinct = (λ i. i, tt);
      held = held;
      headed = ([], refl);
    }
  where
    held : (x : ℕ) → (x ≡ 0) ⊎ ⊥ → (x ≡ 0) ⊎ (⊥ ⊎ ⊥)
    held x (inl p) = inl p
    held x (inr z) = absurd z

module _ (g : CFG) (a : Closed g) where
  end : Outcome (Inv g []) (Dealt [] 0) Le (record { finished = []; starters = 0 ∷ [] }) (loops g)
  unfolding loops
  end = whole_visit g (law g a) (record { finished = []; starters = 0 ∷ [] }) (begun g)

  pub looped : Looped g (loops g).starters (loops g).finished
  looped = record {
    ranked = end.holds.ranked;
    distinct = end.holds.distinct;
    headed = end.holds.headed;
    all = all;
    only = end.holds.reach_finished;
    known = λ x i. end.holds.reach_finished x (started_finished x (end.holds.held x i));
  }
    where
      zero_finished : Dealt [] 0 (loops g) → In 0 (loops g).finished
      zero_finished (inl i) = i
      zero_finished (inr i) = absurd i.0

      started_finished : (x : ℕ) → (x ≡ 0) ⊎ (⊥ ⊎ In x (loops g).finished) → In x (loops g).finished
      started_finished x (inl p) = subst (λ z. In z (loops g).finished) (sym p) (zero_finished end.dealt)
      started_finished x (inr (inl z)) = absurd z
      started_finished x (inr (inr i)) = i

      step : (v : ℕ) → In v (loops g).starters ⊎ In v (loops g).finished → In v (loops g).finished
      step v (inl i) = started_finished v (end.holds.held v i)
      step v (inr i) = i

      all : (x : ℕ) → Reached g x → In x (loops g).finished
      all x entry = zero_finished end.dealt
      all x (along {u = u} {v = v} r i) = step v (ranked_closed g (loops g).starters (loops g).finished end.holds.ranked u v (all u r) i)

  -- more fuel changes nothing
  pub loops_fuel : (n : ℕ) → length g.blocks < n → visit looping (successors g) n [] 0 (record { finished = []; starters = 0 ∷ [] }) ≡ loops g
  unfolding loops
  loops_fuel n h = whole_fuel g (law g a) n h (record { finished = []; starters = 0 ∷ [] }) (begun g)

-- ---- the rank: how many blocks were finished before, and one more; 0 where it is not finished
abbrev pub rank : List ℕ → ℕ → ℕ
rank [] x = 0
rank (y ∷ l) x = elim (eqb x y) [ true ↦ suc (length l) | false ↦ rank l x ]

rank_here : (y : ℕ) (l : List ℕ) (x : ℕ) → x ≡ y → rank (y ∷ l) x ≡ suc (length l)
rank_here y l x p = go (compared x y)
  where
    go : Compared x y → rank (y ∷ l) x ≡ suc (length l)
    go (same h q) = rw (h, rank) refl
    go (other h q) = absurd (q p)

rank_there : (y : ℕ) (l : List ℕ) (x : ℕ) → x ≢ y → rank (y ∷ l) x ≡ rank l x
rank_there y l x p = go (compared x y)
  where
    go : Compared x y → rank (y ∷ l) x ≡ rank l x
    go (same h q) = absurd (p q)
    go (other h q) = rw (h, rank) refl

pub rank_most : (l : List ℕ) (x : ℕ) → rank l x ≤ length l
rank_most [] x = omega arith
rank_most (y ∷ l) x = go (compared x y) (rank_most l x)
  where
    go : Compared x y → rank l x ≤ length l → rank (y ∷ l) x ≤ suc (length l)
    go (same h q) ih = let e = rank_here y l x q in omega arith
    go (other h q) ih = let e = rank_there y l x q in omega arith

-- it falls along every edge to a non-starter
pub rank_falls : (g : CFG) (starters l : List ℕ) → Ranked g starters l → (u v : ℕ) → In u l → In v (successors g u) → (In v starters → ⊥) → rank l v < rank l u
rank_falls g starters [] r u v i j f = absurd i
rank_falls g starters (w ∷ l) r u v (inl p) j f = go (r.0 v (subst (λ z. In v (successors g z)) p j))
  where
    go : In v starters ⊎ In v l → rank (w ∷ l) v < rank (w ∷ l) u
    go (inl k) = absurd (f k)
    go (inr k) =
        let a = rank_there w l v (λ q. r.1 (subst (λ z. In z l) q k)) in
        let b = rank_here w l u p in
        let c = rank_most l v in
        omega arith
rank_falls g starters (w ∷ l) r u v (inr i) j f = go (ranked_closed g starters l r.2 u v i j) (rank_falls g starters l r.2 u v i j f)
  where
    go : In v starters ⊎ In v l → rank l v < rank l u → rank (w ∷ l) v < rank (w ∷ l) u
    go (inl k) h = absurd (f k)
    go (inr k) h =
        let a = rank_there w l v (λ q. r.1 (subst (λ z. In z l) q k)) in
        let b = rank_there w l u (λ q. r.1 (subst (λ z. In z l) q i)) in
        omega arith

-- one edge or several, one after another, none of them to a starter
pub data Walk (g : CFG) (starters : List ℕ) : ℕ → ℕ → Type 0 where
  step : {u v : ℕ} → In v (successors g u) → (In v starters → ⊥) → Walk g starters u v
  on : {u v w : ℕ} → Walk g starters u v → In w (successors g v) → (In w starters → ⊥) → Walk g starters u w

module _ (g : CFG) (starters finished : List ℕ) (l : Looped g starters finished) where
  pub walk_reach : {u v : ℕ} → Reached g u → Walk g starters u v → Reached g v
  walk_reach r (step i f) = along r i
  walk_reach r (on w i f) = along (walk_reach r w) i

  pub walk_falls : {u v : ℕ} → Reached g u → Walk g starters u v → rank finished v < rank finished u
  walk_falls r (step {u = u} {v = v} i f) = rank_falls g starters finished l.ranked u v (l.all u r) i f
  walk_falls r (on {u = u} {v = v} {w = w} q i f) =
      let a = walk_falls r q in
      let b = rank_falls g starters finished l.ranked v w (l.all v (walk_reach r q)) i f in
      omega arith

  -- no cycle avoids the starters
  pub no_cycle : {u : ℕ} → Reached g u → Walk g starters u u → ⊥
  no_cycle r w = let a = walk_falls r w in omega arith
