-- The finished grouping: the repetition ends, and what it ends in. Assumes nothing.
use Prim.Native.Nat.{ℕ, zero, suc, ◌+◌, ◌≤◌, ◌<◌}
use mathlib.Core.Logic.{◌⊎◌, inl, inr, ◌≢◌}
use mathlib.Core.Path.{◌≡◌, refl, sym, ◌∙◌, ap, subst}
use mathlib.Core.List.{List, [], ◌∷◌, ◌++◌, append-nil, append_assoc}
use native.Mathlib.Omega.{arith}
use lib.ListN.{length, get_or, replicate, length-append}
use Rattle.runs.proofs.Tests.{Compared, same, other, compared}
use Rattle.runs.proofs.Sets.{In, Distinct, in_left, in_append, distinct_snoc, distinct_below, get_or-in, get_or-any}
use Rattle.cfg.specs.Graph.{CFG, successors}
use Rattle.fsmd.specs.Layout.{absent}
use Rattle.grouping.specs.Visit.{visit}
use Rattle.grouping.specs.Grouping.{Loops, looping, loops, populate, Detection, visited, illegal_to, detecting, detect, Groups, regroup, groups}
use Rattle.grouping.proofs.Reach.{Closed, Reached, along, reached_below}
use Rattle.grouping.proofs.LoopLaws.{Looped, looped, loops_fuel, ranked_more, ranked_distinct, rank, rank_most, rank_falls, Walk, no_cycle}
use Rattle.grouping.proofs.PopulationLaws.{state_in, populate_with, populate_fuel, Populated, populated}
use Rattle.grouping.proofs.DetectionLaws.{Legal, IllegalEdge, detect_visited, detect_edge, detect_illegal, detect_fuel}

-- ---- what a finished grouping is

pub record Grouped (g : CFG) (s : Groups) : Type 0 where
  -- N is 1 to B, and every block has an entry
  pub some_state_lem : 0 < length s.starters
  pub few_states_lem : length s.starters ≤ length g.blocks
  pub all_blocks : length s.states ≡ length g.blocks
  -- starters: none twice, block 0 first, each reached, and in its own state
  pub distinct : Distinct s.starters
  pub entry_first : (d : ℕ) → get_or s.starters 0 d ≡ 0
  pub starter_reached : (x : ℕ) → In x s.starters → Reached g x
  pub starter_home : (k d : ℕ) → k < length s.starters → state_in s.states (get_or s.starters k d) ≡ k
  -- the reached blocks have a state, and no others
  pub reached_state : (x : ℕ) → Reached g x → state_in s.states x < length s.starters
  pub state_reached : (x : ℕ) → state_in s.states x ≢ absent → Reached g x
  pub unreached_none : (x : ℕ) → (Reached g x → ⊥) → state_in s.states x ≡ absent
  -- a block that is no starter is come to from its own state
  pub predecessor : (x : ℕ) → Reached g x → (In x s.starters → ⊥) → (p : ℕ) × (state_in s.states p ≡ state_in s.states x) × In x (successors g p)
  -- an edge leads to a starter or stays in its state
  pub edge : (u v : ℕ) → Reached g u → In v (successors g u) → In v s.starters ⊎ (state_in s.states v ≡ state_in s.states u)
  -- every cycle has a starter: a rank falls along every edge to a non-starter
  pub rank_of : ℕ → ℕ
  pub rank_bound : (x : ℕ) → rank_of x ≤ length g.blocks
  pub rank_down : (u v : ℕ) → Reached g u → In v (successors g u) → (In v s.starters → ⊥) → rank_of v < rank_of u
  pub cycles : (u : ℕ) → Reached g u → Walk g s.starters u u → ⊥
  -- the states are the last population's, and detection finds nothing more
  pub repopulated : s.states ≡ populate g s.starters
  pub ended : (seen : List ℕ) × (detect g s.starters s.states ≡ visited seen)

-- ---- the repetition

-- P is kept where the target of an illegal edge becomes the newest starter; `finished` is loop detection's
abbrev pub Keeps : CFG → List ℕ → (List ℕ → Type 0) → Type 0
Keeps g finished P =
    (starters : List ℕ) (y : ℕ) → Looped g starters finished → IllegalEdge g starters (populate g starters) y → P starters → P (starters ++ (y ∷ []))

-- the starters z are those that it began with, then new ones; loop detection's order of finishing serves them too, so it can begin again from z
pub record Longer (g : CFG) (finished starters z : List ℕ) : Type 0 where
  pub looped : Looped g z finished
  pub new : List ℕ
  pub kept : z ≡ starters ++ new

-- what it ends in
pub record Regrouped (g : CFG) (finished starters : List ℕ) (s : Groups) : Type 0 where
  pub grouped : Grouped g s
  pub longer : Longer g finished starters s.starters

-- the whole procedure with any fuel of the visits and any number of rounds
abbrev pub after_detection : Detection → Groups → (ℕ → Groups) → Groups
after_detection (visited seen) s f = s
after_detection (illegal_to y) s f = f y

module _ (fuel : ℕ) (g : CFG) where
  abbrev pub population_with : List ℕ → List ℕ
  population_with starters = populate_with fuel g starters 0 starters (replicate (length g.blocks) absent)

  abbrev pub detection_with : List ℕ → List ℕ → Detection
  detection_with starters states = visit (detecting starters states) (successors g) fuel [] 0 (visited [])

  abbrev pub regroup_with : ℕ → List ℕ → Groups
  regroup_with zero starters = record { starters = starters; states = population_with starters }
  regroup_with (suc rounds) starters =
      after_detection (detection_with starters (population_with starters)) (record { starters = starters; states = population_with starters })
      (λ y. regroup_with rounds (starters ++ (y ∷ [])))

  abbrev pub groups_with : ℕ → Groups
  groups_with rounds = regroup_with rounds (visit looping (successors g) fuel [] 0 (record { finished = []; starters = 0 ∷ [] })).starters

-- `finished` has the blocks in the order in which loop detection finished them
module _ (g : CFG) (a : Closed g) (finished : List ℕ) where
  -- one more starter
  pub looped_more : (starters : List ℕ) (y : ℕ) → Looped g starters finished → Reached g y → (In y starters → ⊥) → Looped g (starters ++ (y ∷ [])) finished
  looped_more starters y l r f = record {
    ranked = ranked_more g starters (starters ++ (y ∷ [])) finished (λ x i. in_left x starters (y ∷ []) i) l.ranked;
    distinct = distinct_snoc starters y l.distinct f;
    headed = (l.headed.0 ++ (y ∷ []), ap (λ (z : List ℕ). z ++ (y ∷ [])) l.headed.1);
    all = l.all;
    only = l.only;
    known = λ x i. known x (in_append x starters (y ∷ []) i);
  }
    where
      known : (x : ℕ) → In x starters ⊎ ((x ≡ y) ⊎ ⊥) → Reached g x
      known x (inl i) = l.known x i
      known x (inr (inl p)) = subst (Reached g) (sym p) r
      known x (inr (inr z)) = absurd z

  starters_few : (starters : List ℕ) → Looped g starters finished → length starters ≤ length g.blocks
  starters_few starters l = distinct_below (length g.blocks) starters l.distinct (λ x i. reached_below a (l.known x i))

  -- a clean detection ends it
  clean : (starters seen : List ℕ) → Looped g starters finished → detect g starters (populate g starters) ≡ visited seen
      → Grouped g (record { starters = starters; states = populate g starters })
  clean starters seen l e = record {
    some_state_lem = let z = ap length l.headed.1 in omega arith;
    few_states_lem = starters_few starters l;
    all_blocks = p.taken.size;
    distinct = l.distinct;
    entry_first = λ d. ap (λ (z : List ℕ). get_or z 0 d) l.headed.1;
    starter_reached = l.known;
    starter_home = home;
    reached_state = λ x r. p.taken.low x (p.all x r);
    state_reached = p.taken.reach;
    unreached_none = λ x f. unstated x f (compared (state_in (populate g starters) x) absent);
    predecessor = λ x r f. before x r f (p.taken.rooted x (p.all x r));
    edge = λ u v r i. swapped u v (detect_visited g a starters (populate g starters) seen e u v r i);
    rank_of = rank finished;
    rank_bound = λ x. let m = rank_most finished x in let b = bound in omega arith;
    rank_down = λ u v r i f. rank_falls g starters finished l.ranked u v (l.all u r) i f;
    cycles = λ u r w. no_cycle g starters finished l r w;
    repopulated = refl;
    ended = (seen, e);
  }
    where
      p : Populated g starters (populate g starters)
      p = populated g a starters l.distinct l.known (rw l.headed.1 (inl refl))

      bound : length finished ≤ length g.blocks
      bound = distinct_below (length g.blocks) finished (ranked_distinct g starters finished l.ranked) (λ x i. reached_below a (l.only x i))

      home : (k d : ℕ) → k < length starters → state_in (populate g starters) (get_or starters k d) ≡ k
      home k d h = ap (state_in (populate g starters)) (get_or-any starters k d absent h) ∙ p.starter k h

      unstated : (x : ℕ) → (Reached g x → ⊥) → Compared (state_in (populate g starters) x) absent → state_in (populate g starters) x ≡ absent
      unstated x f (same h q) = q
      unstated x f (other h q) = absurd (f (p.taken.reach x q))

      before : (x : ℕ) → Reached g x → (In x starters → ⊥)
          → (get_or starters (state_in (populate g starters) x) absent ≡ x) ⊎ ((q : ℕ) × (state_in (populate g starters) q ≡ state_in (populate g starters) x) × In x (successors g q))
          → (q : ℕ) × (state_in (populate g starters) q ≡ state_in (populate g starters) x) × In x (successors g q)
      before x r f (inl q) = absurd (f (subst (λ z. In z starters) q (get_or-in starters (state_in (populate g starters) x) absent (p.taken.low x (p.all x r)))))
      before x r f (inr q) = q

      swapped : (u v : ℕ) → Legal starters (populate g starters) u v → In v starters ⊎ (state_in (populate g starters) v ≡ state_in (populate g starters) u)
      swapped u v (inl q) = inr (sym q)
      swapped u v (inr i) = inl i

  -- As many rounds as there are blocks that are no starters suffice, and what each new starter keeps holds in the end.
  pub regroup_ends : (P : List ℕ → Type 0) → Keeps g finished P → (n : ℕ) (starters : List ℕ) → Looped g starters finished → P starters
      → length g.blocks < n + length starters → Grouped g (regroup g n starters) × P (regroup g n starters).starters
  unfolding regroup
  regroup_ends P keep zero starters l p e = absurd (let r = starters_few starters l in omega arith)
  regroup_ends P keep (suc n) starters l p e = go (detect g starters (populate g starters)) refl (regroup_ends P keep n)
    where
      go : (d : Detection) → detect g starters (populate g starters) ≡ d
          → ((t : List ℕ) → Looped g t finished → P t → length g.blocks < n + length t → Grouped g (regroup g n t) × P (regroup g n t).starters)
          → Grouped g (regroup g (suc n) starters) × P (regroup g (suc n) starters).starters
      go (visited seen) h ih = rw (h, regroup) (clean starters seen l h, p)
      go (illegal_to y) h ih =
          let b = detect_edge g a starters (populate g starters) y h in
          rw (h, regroup)
          (ih (starters ++ (y ∷ [])) (looped_more starters y l (along b.reached b.edge) b.fresh) (keep starters y l b p) (rw length-append (omega arith)))

  -- from any starters that loop detection's order serves
  pub regroup_from : (n : ℕ) (starters : List ℕ) → Looped g starters finished → length g.blocks < n + length starters
      → Regrouped g finished starters (regroup g n starters)
  regroup_from n starters l e = record { grouped = r.0; longer = r.1 }
    where
      P : List ℕ → Type 0
      P = Longer g finished starters

      keep : Keeps g finished P
      keep z y l b p =
          record {
            looped = looped_more z y l (along b.reached b.edge) b.fresh;
            new = p.new ++ (y ∷ []);
            kept = ap (λ (x : List ℕ). x ++ (y ∷ [])) p.kept ∙ append_assoc starters p.new (y ∷ []);
          }

      r : Grouped g (regroup g n starters) × P (regroup g n starters).starters
      r = regroup_ends P keep n starters l (record { looped = l; new = []; kept = sym (append-nil starters) }) e

  -- more fuel and more rounds change nothing
  regroup_alike : (fuel : ℕ) → length g.blocks < fuel → (m n : ℕ) (starters : List ℕ) → Looped g starters finished
      → length g.blocks < m + length starters → length g.blocks < n + length starters → regroup_with fuel g m starters ≡ regroup g n starters
  unfolding regroup
  regroup_alike fuel h zero n starters l e f = absurd (let r = starters_few starters l in omega arith)
  regroup_alike fuel h (suc m) zero starters l e f = absurd (let r = starters_few starters l in omega arith)
  regroup_alike fuel h (suc m) (suc n) starters l e f = go (detect g starters (populate g starters)) refl (regroup_alike fuel h m n)
    where
      same_population : population_with fuel g starters ≡ populate g starters
      same_population = populate_fuel g a starters l.distinct l.known fuel h

      same_detection : detection_with fuel g starters (populate g starters) ≡ detect g starters (populate g starters)
      same_detection = detect_fuel g a starters (populate g starters) fuel h

      go : (d : Detection) → detect g starters (populate g starters) ≡ d
          → ((t : List ℕ) → Looped g t finished → length g.blocks < m + length t → length g.blocks < n + length t → regroup_with fuel g m t ≡ regroup g n t)
          → regroup_with fuel g (suc m) starters ≡ regroup g (suc n) starters
      go (visited seen) k ih = rw (same_population, same_detection, k, regroup) refl
      go (illegal_to y) k ih =
          let b = detect_illegal g a starters (populate g starters) y k in
          rw (same_population, same_detection, k, regroup)
          (ih (starters ++ (y ∷ [])) (looped_more starters y l b.0 b.1) (rw length-append (omega arith)) (rw length-append (omega arith)))

  -- any number of rounds that suffices gives the same
  pub regroup_same : (m n : ℕ) (starters : List ℕ) → Looped g starters finished → length g.blocks < m + length starters
      → length g.blocks < n + length starters → regroup g m starters ≡ regroup g n starters
  regroup_same m n starters l e f =
      let fuel = suc (length g.blocks) in
      sym (regroup_alike fuel (omega arith) m m starters l e e) ∙ regroup_alike fuel (omega arith) m n starters l e f

-- ---- the grouping of a graph

-- It is finished, and what holds of loop detection's starters and is kept by each new one holds of its starters.
pub grouped_keeping : (g : CFG) → Closed g → (P : List ℕ → Type 0) → Keeps g (loops g).finished P → P (loops g).starters → Grouped g (groups g) × P (groups g).starters
unfolding groups
grouped_keeping g a P keep first =
    regroup_ends g a (loops g).finished P keep (length g.blocks) (loops g).starters l first (let z = ap length l.headed.1 in omega arith)
  where
    l : Looped g (loops g).starters (loops g).finished
    l = looped g a

pub regrouped : (g : CFG) → Closed g → Regrouped g (loops g).finished (loops g).starters (groups g)
unfolding groups
regrouped g a = regroup_from g a (loops g).finished (length g.blocks) (loops g).starters l (let z = ap length l.headed.1 in omega arith)
  where
    l : Looped g (loops g).starters (loops g).finished
    l = looped g a

pub grouped : (g : CFG) → Closed g → Grouped g (groups g)
grouped g a = (regrouped g a).grouped

-- any fuel above B and any number of rounds from B up give the same: the definitions mean the unbounded procedure
pub groups_fuel : (g : CFG) → Closed g → (fuel rounds : ℕ) → length g.blocks < fuel → length g.blocks ≤ rounds → groups_with fuel g rounds ≡ groups g
unfolding groups
groups_fuel g a fuel rounds h k =
    ap (λ (s : Loops). regroup_with fuel g rounds s.starters) (loops_fuel g a fuel h)
    ∙ regroup_alike g a (loops g).finished fuel h rounds (length g.blocks) (loops g).starters l (omega (arith, some)) (omega (arith, some))
  where
    l : Looped g (loops g).starters (loops g).finished
    l = looped g a

    some : 0 < length (loops g).starters
    some = let z = ap length l.headed.1 in omega arith

-- the same of the rounds alone
pub regroup_rounds : (g : CFG) → Closed g → (rounds : ℕ) → length g.blocks ≤ rounds → regroup g rounds (loops g).starters ≡ groups g
unfolding groups
regroup_rounds g a rounds k =
    regroup_same g a (loops g).finished rounds (length g.blocks) (loops g).starters l (omega (arith, some)) (omega (arith, some))
  where
    l : Looped g (loops g).starters (loops g).finished
    l = looped g a

    some : 0 < length (loops g).starters
    some = let z = ap length l.headed.1 in omega arith
