-- Population: every reached block gets a state, and what a state has. Assumes nothing.
use Prim.Native.Nat.{ℕ, zero, suc, ◌≤◌, ◌<◌}
use mathlib.Core.Bool.{true, false, not, ◌&&◌}
use mathlib.Core.Logic.{◌⊎◌, inl, inr, ◌≢◌}
use mathlib.Core.Path.{◌≡◌, refl, sym, ◌∙◌, ap, subst}
use mathlib.Core.List.{List, [], ◌∷◌, ◌++◌, append_assoc, append-nil}
use native.Mathlib.Omega.{arith}
use lib.ListN.{length, get_or, set, replicate, length-set, length-replicate, length-append}
use lib.Seq.{get_or-set_same, get_or-set_other, get_or-append_seam}
use lib.Dec.{eqb}
use borrow.Author.Tests.{not-true, not-false, eqb-true, eqb-false}
use Rattle.runs.specs.Lists.{mem}
use Rattle.runs.proofs.Tests.{or_false, or_true, and_true, and_false, Compared, same, other, compared}
use Rattle.runs.proofs.Sets.{In, Distinct, mem→In, mem→Out, in_append, in_right, distinct_below, get_or-in, distinct_at}
use Rattle.cfg.specs.Layout.{max_blocks}
use Rattle.cfg.specs.Graph.{CFG, successors}
use Rattle.fsmd.specs.Layout.{absent}
use Rattle.grouping.specs.Visit.{visit, visit_from}
use Rattle.grouping.specs.Grouping.{populating, populate_from, populate}
use Rattle.grouping.proofs.Reach.{Closed, Reached, entry, along, reached_below}
use Rattle.grouping.proofs.VisitLaws.{Came, came_reached, Outcome, Law, whole_visit, whole_fuel}

-- the state of a block, where it has one
abbrev pub state_in : List ℕ → ℕ → ℕ
state_in states x = get_or states x absent

-- what holds of the states when some are populated
pub record Taken (g : CFG) (starters states : List ℕ) : Type 0 where
  pub size : length states ≡ length g.blocks
  pub rooted : (u : ℕ) → state_in states u ≢ absent → (get_or starters (state_in states u) absent ≡ u) ⊎ ((p : ℕ) × (state_in states p ≡ state_in states u) × In u (successors g p))
  pub home : (u : ℕ) → In u starters → state_in states u ≢ absent → get_or starters (state_in states u) absent ≡ u
  pub reach : (u : ℕ) → state_in states u ≢ absent → Reached g u
  pub low : (u : ℕ) → state_in states u ≢ absent → state_in states u < length starters

record Inv (g : CFG) (starters : List ℕ) (k : ℕ) (path states : List ℕ) : Type 0 where
  taken : Taken g starters states
  on_path : (x : ℕ) → In x path → state_in states x ≡ k
  sealed : (u : ℕ) → state_in states u ≢ absent → (In u path → ⊥) → (v : ℕ) → In v (successors g u) → (state_in states v ≢ absent) ⊎ In v starters

abbrev Dealt : List ℕ → ℕ → List ℕ → ℕ → List ℕ → Type 0
Dealt starters r path x states = (state_in states x ≢ absent) ⊎ (In x starters × (x ≢ r))

abbrev pub Le : List ℕ → List ℕ → Type 0
Le o o' = (x : ℕ) → state_in o x ≢ absent → state_in o' x ≡ state_in o x

-- the population of one state
module _ (g : CFG) (a : Closed g) (starters : List ℕ) (r k : ℕ) (k-small : k < absent) (k_in : k < length starters) (k_at : get_or starters k absent ≡ r) (r-reach : Reached g r) where
  came_inv : (path : List ℕ) (x : ℕ) (o : List ℕ) → Inv g starters k path o → Came (successors g) r path x → Reached g x
  came_inv path x o i c = came_reached g r-reach path x (λ y j. i.taken.reach y (let e = i.on_path y j in omega arith)) c

  skipped : (path : List ℕ) (x : ℕ) (o : List ℕ) → Inv g starters k path o → Came (successors g) r path x → (populating starters r k).stop path x o ≡ true
      → Outcome (Inv g starters k path) (Dealt starters r path x) Le o o
  skipped path x o i c h = record { holds = i; dealt = go (or_true (not (eqb (state_in o x) absent)) (mem x starters && not (eqb x r)) h); grows = λ y e. refl }
    where
      go : (not (eqb (state_in o x) absent) ≡ true) ⊎ ((mem x starters && not (eqb x r)) ≡ true) → Dealt starters r path x o
      go (inl e) = inl (eqb-false (state_in o x) absent (not-true (eqb (state_in o x) absent) e))
      go (inr e) = let b = and_true (mem x starters) (not (eqb x r)) e in inr (mem→In x starters b.0, eqb-false x r (not-true (eqb x r) b.1))

  -- not stopped: x is free, and no other state's starter
  free : (path : List ℕ) (x : ℕ) (o : List ℕ) → (populating starters r k).stop path x o ≡ false → (state_in o x ≡ absent) × (In x starters → x ≡ r)
  free path x o h = let b = or_false (not (eqb (state_in o x) absent)) (mem x starters && not (eqb x r)) h in
      (eqb-true (state_in o x) absent (not-false (eqb (state_in o x) absent) b.0), go (and_false (mem x starters) (not (eqb x r)) b.1))
    where
      go : (mem x starters ≡ false) ⊎ (not (eqb x r) ≡ false) → In x starters → x ≡ r
      go (inl e) j = absurd (mem→Out x starters e j)
      go (inr e) j = eqb-true x r (not-false (eqb x r) e)

  new : (path : List ℕ) (x : ℕ) (o : List ℕ) → Inv g starters k path o → (populating starters r k).stop path x o ≡ false → In x path → ⊥
  new path x o i h j = let e = i.on_path x j in let f = (free path x o h).0 in omega arith

  entered : (path : List ℕ) (x : ℕ) (o : List ℕ) → Inv g starters k path o → Came (successors g) r path x → (populating starters r k).stop path x o ≡ false
      → Inv g starters k (x ∷ path) (set o x k) × Le o (set o x k)
  entered path x o i c h = (record { taken = record { size = length-set o x k ∙ i.taken.size; rooted = rooted; home = home; reach = reach; low = low }; on_path = on_path; sealed = sealed }, grows)
    where
      x_free : state_in o x ≡ absent
      x_free = (free path x o h).0

      x_small : x < length o
      x_small = rw i.taken.size (reached_below a (came_inv path x o i c))

      at_x : state_in (set o x k) x ≡ k
      at_x = get_or-set_same o x k absent x_small

      grows : Le o (set o x k)
      grows y e = get_or-set_other o x y k absent (λ p. e (ap (state_in o) p ∙ x_free))

      Was : ℕ → Type 0
      Was u = ((u ≡ x) × (state_in (set o x k) u ≡ k)) ⊎ ((u ≢ x) × (state_in (set o x k) u ≡ state_in o u))

      was : (u : ℕ) → Was u
      was u = go (compared u x)
        where
          go : Compared u x → Was u
          go (same h p) = inl (p, ap (state_in (set o x k)) p ∙ at_x)
          go (other h p) = inr (p, get_or-set_other o x u k absent p)

      on_path : (y : ℕ) → (y ≡ x) ⊎ In y path → state_in (set o x k) y ≡ k
      on_path y (inl p) = ap (state_in (set o x k)) p ∙ at_x
      on_path y (inr j) = let e = i.on_path y j in grows y (omega arith) ∙ e

      -- x itself is the root, or has the path's head before it
      came_by : (q : List ℕ) → ((y : ℕ) → In y q → state_in (set o x k) y ≡ k) → Came (successors g) r q x
          → (get_or starters k absent ≡ x) ⊎ ((p : ℕ) × (state_in (set o x k) p ≡ k) × In x (successors g p))
      came_by [] m c = inl (k_at ∙ sym c)
      came_by (p ∷ q) m c = inr (p, m p (inl refl), c)

      rooted : (u : ℕ) → state_in (set o x k) u ≢ absent
          → (get_or starters (state_in (set o x k) u) absent ≡ u) ⊎ ((p : ℕ) × (state_in (set o x k) p ≡ state_in (set o x k) u) × In u (successors g p))
      rooted u e = go (was u)
        where
          old : state_in (set o x k) u ≡ state_in o u → (get_or starters (state_in o u) absent ≡ u) ⊎ ((p : ℕ) × (state_in o p ≡ state_in o u) × In u (successors g p))
              → (get_or starters (state_in (set o x k) u) absent ≡ u) ⊎ ((p : ℕ) × (state_in (set o x k) p ≡ state_in (set o x k) u) × In u (successors g p))
          old q (inl s) = inl (rw q s)
          old q (inr s) = inr (s.0, (let t = s.1 in let w = grows s.0 (omega arith) in omega arith), s.2)

          go : Was u → (get_or starters (state_in (set o x k) u) absent ≡ u) ⊎ ((p : ℕ) × (state_in (set o x k) p ≡ state_in (set o x k) u) × In u (successors g p))
          go (inl w) = rw w.1 (rw w.0 (came_by path (λ y j. on_path y (inr j)) c))
          go (inr w) = old w.1 (i.taken.rooted u (let z = w.1 in omega arith))

      home : (u : ℕ) → In u starters → state_in (set o x k) u ≢ absent → get_or starters (state_in (set o x k) u) absent ≡ u
      home u j e = go (was u)
        where
          go : Was u → get_or starters (state_in (set o x k) u) absent ≡ u
          go (inl w) = rw w.1 (k_at ∙ sym ((free path x o h).1 (subst (λ z. In z starters) w.0 j)) ∙ sym w.0)
          go (inr w) = rw w.1 (i.taken.home u j (let z = w.1 in omega arith))

      reach : (u : ℕ) → state_in (set o x k) u ≢ absent → Reached g u
      reach u e = go (was u)
        where
          go : Was u → Reached g u
          go (inl w) = subst (Reached g) (sym w.0) (came_inv path x o i c)
          go (inr w) = i.taken.reach u (let z = w.1 in omega arith)

      low : (u : ℕ) → state_in (set o x k) u ≢ absent → state_in (set o x k) u < length starters
      low u e = go (was u)
        where
          go : Was u → state_in (set o x k) u < length starters
          go (inl w) = let z = w.1 in omega arith
          go (inr w) = let z = w.1 in let y = i.taken.low u (omega arith) in omega arith

      sealed : (u : ℕ) → state_in (set o x k) u ≢ absent → ((u ≡ x) ⊎ In u path → ⊥) → (v : ℕ) → In v (successors g u) → (state_in (set o x k) v ≢ absent) ⊎ In v starters
      sealed u e f v j = go (was u)
        where
          up : (state_in o v ≢ absent) ⊎ In v starters → (state_in (set o x k) v ≢ absent) ⊎ In v starters
          up (inl e) = inl (let z = grows v e in omega arith)
          up (inr j) = inr j

          go : Was u → (state_in (set o x k) v ≢ absent) ⊎ In v starters
          go (inl w) = absurd (f (inl w.0))
          go (inr w) = up (i.sealed u (let z = w.1 in omega arith) (λ q. f (inr q)) v j)

  finishes : (path : List ℕ) (x : ℕ) (o : List ℕ) → Inv g starters k (x ∷ path) o → Distinct (x ∷ path) → Came (successors g) r path x
      → ((y : ℕ) → In y (successors g x) → Dealt starters r (x ∷ path) y o) → Outcome (Inv g starters k path) (Dealt starters r path x) Le o o
  finishes path x o i n c d = record {
    holds = record { taken = i.taken; on_path = λ y j. i.on_path y (inr j); sealed = sealed };
    dealt = inl (let e = i.on_path x (inl refl) in omega arith);
    grows = λ y e. refl;
  }
    where
      weak : (v : ℕ) → Dealt starters r (x ∷ path) v o → (state_in o v ≢ absent) ⊎ In v starters
      weak v (inl e) = inl e
      weak v (inr j) = inr j.0

      out : (u : ℕ) → (u ≢ x) → (In u path → ⊥) → (u ≡ x) ⊎ In u path → ⊥
      out u p f (inl q) = p q
      out u p f (inr j) = f j

      sealed : (u : ℕ) → state_in o u ≢ absent → (In u path → ⊥) → (v : ℕ) → In v (successors g u) → (state_in o v ≢ absent) ⊎ In v starters
      sealed u e f v j = go (compared u x)
        where
          go : Compared u x → (state_in o v ≢ absent) ⊎ In v starters
          go (same h p) = weak v (d v (subst (λ z. In v (successors g z)) p j))
          go (other h p) = i.sealed u e (out u p f) v j

  law : Law (populating starters r k) (successors g) r (length g.blocks) (Inv g starters k) (Dealt starters r) Le
  law = record {
    le_refl = λ s x e. refl;
    le_trans = λ s t u p q x e. q x (let z = p x e in omega arith) ∙ p x e;
    stays = λ path x s t l d. stays x s t l d;
    small = λ path x s i c. reached_below a (came_inv path x s i c);
    skipped = skipped;
    new = new;
    entered = entered;
    finished = λ path x s₀ s h. finishes path x s;
  }
    where
      stays : (x : ℕ) (s t : List ℕ) → Le s t → (state_in s x ≢ absent) ⊎ (In x starters × (x ≢ r)) → (state_in t x ≢ absent) ⊎ (In x starters × (x ≢ r))
      stays x s t l (inl e) = inl (let z = l x e in omega arith)
      stays x s t l (inr d) = inr d

-- population with any fuel
abbrev pub populate_with : ℕ → CFG → List ℕ → ℕ → List ℕ → List ℕ → List ℕ
populate_with n g starters k [] states = states
populate_with n g starters k (r ∷ rs) states = populate_with n g starters (suc k) rs (visit (populating starters r k) (successors g) n [] r states)

-- the population of all, one after another
abbrev Sealed : CFG → List ℕ → List ℕ → Type 0
Sealed g starters states = (u : ℕ) → state_in states u ≢ absent → (v : ℕ) → In v (successors g u) → (state_in states v ≢ absent) ⊎ In v starters

module _ (g : CFG) (a : Closed g) (starters : List ℕ) (distinct : Distinct starters) (known : (x : ℕ) → In x starters → Reached g x) where
  few : length starters ≤ max_blocks
  few = let r = distinct_below (length g.blocks) starters distinct (λ x i. reached_below a (known x i)) in let f = a.few_blocks_lem in omega arith

  pub record Partly (front states : List ℕ) : Type 0 where
    taken : Taken g starters states
    sealed : Sealed g starters states
    front_taken : (x : ℕ) → In x front → state_in states x ≢ absent

  law_at : (k : ℕ) (front rs : List ℕ) (r : ℕ) → starters ≡ front ++ (r ∷ rs) → length front ≡ k
      → Law (populating starters r k) (successors g) r (length g.blocks) (Inv g starters k) (Dealt starters r) Le
  law_at k front rs r e q = law g a starters r k (omega (arith, few, k_in)) k_in k_at (known r r_in)
    where
      k_in : k < length starters
      k_in = let z = length-append front (r ∷ rs) in let y = ap length e in omega arith

      k_at : get_or starters k absent ≡ r
      k_at = rw (e, ← q) (get_or-append_seam front r rs absent)

      r_in : In r starters
      r_in = rw e (in_right r front (r ∷ rs) (inl refl))

  begun : (k : ℕ) (front o : List ℕ) → Partly front o → Inv g starters k [] o
  begun k front o f = record { taken = f.taken; on_path = λ x i. absurd i; sealed = λ u z w v j. f.sealed u z v j }

  populate_one : (k : ℕ) (front rs : List ℕ) (r : ℕ) (o : List ℕ) → starters ≡ front ++ (r ∷ rs) → length front ≡ k → Partly front o
      → Partly (front ++ (r ∷ [])) (visit_from (populating starters r k) g r o)
  populate_one k front rs r o e q f = go (whole_visit g (law_at k front rs r e q) o (begun k front o f))
    where
      go : {o' : List ℕ} → Outcome (Inv g starters k []) (Dealt starters r [] r) Le o o' → Partly (front ++ (r ∷ [])) o'
      go {o'} l = record { taken = l.holds.taken; sealed = λ u e v j. l.holds.sealed u e (λ z. z) v j; front_taken = λ x i. done x (in_append x front (r ∷ []) i) }
        where
          root : Dealt starters r [] r o' → state_in o' r ≢ absent
          root (inl e) = e
          root (inr d) = absurd (d.1 refl)

          done : (x : ℕ) → In x front ⊎ ((x ≡ r) ⊎ ⊥) → state_in o' x ≢ absent
          done x (inl i) = let z = f.front_taken x i in let w = l.grows x z in omega arith
          done x (inr (inl p)) = rw p (root l.dealt)
          done x (inr (inr z)) = absurd z

  from_outcome : (k : ℕ) (front rs o : List ℕ) → starters ≡ front ++ rs → length front ≡ k → Partly front o → Partly starters (populate_from g starters k rs o)
  unfolding populate_from
  from_outcome k front [] o e q f = subst (λ l. Partly l o) (sym (append-nil front) ∙ sym e) f
  from_outcome k front (r ∷ rs) o e q f = from_outcome (suc k) (front ++ (r ∷ [])) rs (visit_from (populating starters r k) g r o)
      (rw append_assoc e) (rw length-append (omega arith)) (populate_one k front rs r o e q f)

  untaken : (n x : ℕ) → state_in (replicate n absent) x ≡ absent
  untaken zero x = refl
  untaken (suc n) zero = refl
  untaken (suc n) (suc x) = untaken n x

  nothing : Partly [] (replicate (length g.blocks) absent)
  nothing = record {
    taken = record {
      size = length-replicate (length g.blocks) absent;
      rooted = λ u e. absurd (e (untaken (length g.blocks) u));
      home = λ u i e. absurd (e (untaken (length g.blocks) u));
      reach = λ u e. absurd (e (untaken (length g.blocks) u));
      low = λ u e. absurd (e (untaken (length g.blocks) u));
    };
    sealed = λ u e. absurd (e (untaken (length g.blocks) u));
    front_taken = λ x i. absurd i;
  }

  populate_outcome : Partly starters (populate g starters)
  unfolding populate
  populate_outcome = from_outcome 0 [] starters (replicate (length g.blocks) absent) refl refl nothing

  -- more fuel changes nothing
  from_fuel : (n : ℕ) → length g.blocks < n → (k : ℕ) (front rs o : List ℕ) → starters ≡ front ++ rs → length front ≡ k → Partly front o
      → populate_with n g starters k rs o ≡ populate_from g starters k rs o
  unfolding populate_from
  from_fuel n h k front [] o e q f = refl
  from_fuel n h k front (r ∷ rs) o e q f =
      ap (populate_with n g starters (suc k) rs) (whole_fuel g (law_at k front rs r e q) n h o (begun k front o f))
      ∙ from_fuel n h (suc k) (front ++ (r ∷ [])) rs (visit_from (populating starters r k) g r o) (rw append_assoc e) (rw length-append (omega arith)) (populate_one k front rs r o e q f)

  pub populate_fuel : (n : ℕ) → length g.blocks < n → populate_with n g starters 0 starters (replicate (length g.blocks) absent) ≡ populate g starters
  unfolding populate
  populate_fuel n h = from_fuel n h 0 [] starters (replicate (length g.blocks) absent) refl refl nothing

-- what population gives
pub record Populated (g : CFG) (starters states : List ℕ) : Type 0 where
  pub taken : Taken g starters states
  pub starter : (k : ℕ) → k < length starters → state_in states (get_or starters k absent) ≡ k
  pub all : (x : ℕ) → Reached g x → state_in states x ≢ absent

pub populated : (g : CFG) → Closed g → (starters : List ℕ) → Distinct starters → ((x : ℕ) → In x starters → Reached g x) → In 0 starters → Populated g starters (populate g starters)
populated g a starters distinct known zero_in = record { taken = f.taken; starter = starter; all = all }
  where
    f : Partly g a starters distinct known starters (populate g starters)
    f = populate_outcome g a starters distinct known

    starter : (k : ℕ) → k < length starters → state_in (populate g starters) (get_or starters k absent) ≡ k
    starter k h =
        let i = get_or-in starters k absent h in
        let e = f.front_taken (get_or starters k absent) i in
        distinct_at starters (state_in (populate g starters) (get_or starters k absent)) k absent distinct (f.taken.low (get_or starters k absent) e) h (f.taken.home (get_or starters k absent) i e)

    step : (v : ℕ) → (state_in (populate g starters) v ≢ absent) ⊎ In v starters → state_in (populate g starters) v ≢ absent
    step v (inl e) = e
    step v (inr i) = f.front_taken v i

    all : (x : ℕ) → Reached g x → state_in (populate g starters) x ≢ absent
    all x entry = f.front_taken 0 zero_in
    all x (along {u = u} {v = v} r i) = step v (f.sealed u (all u r) v i)
