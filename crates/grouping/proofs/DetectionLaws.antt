-- Detection: what it means that it finds no illegal edge, and what it finds otherwise. Assumes nothing.
use Prim.Native.Nat.{ℕ, ◌<◌}
use mathlib.Core.Bool.{true, false, not, false≢true, true≢false}
use mathlib.Core.Logic.{◌⊎◌, inl, inr, ◌≢◌}
use mathlib.Core.Path.{◌≡◌, refl, sym, subst}
use mathlib.Core.List.{List, [], ◌∷◌}
use native.Mathlib.Omega.{arith}
use lib.ListN.{length}
use lib.Dec.{eqb}
use borrow.Author.Tests.{not-true, not-false, eqb-true, eqb-false}
use Rattle.runs.specs.Lists.{mem}
use Rattle.runs.proofs.Tests.{true_or_false, or_false, and_true, and_false, Compared, same, other, compared}
use Rattle.runs.proofs.Sets.{In, Distinct, Subset, mem→In, mem→Out}
use Rattle.cfg.specs.Graph.{CFG, successors}
use Rattle.grouping.specs.Visit.{visit}
use Rattle.grouping.specs.Grouping.{illegal, Detection, visited, illegal_to, detect_skip, detecting, detect}
use Rattle.grouping.proofs.Reach.{Closed, Reached, entry, along}
use Rattle.grouping.proofs.VisitLaws.{Came, came_reached, Outcome, Law, whole_visit, whole_fuel}
use Rattle.grouping.proofs.PopulationLaws.{state_in}

-- an edge inside a state, or to a starter
abbrev pub Legal : List ℕ → List ℕ → ℕ → ℕ → Type 0
Legal starters states u v = (state_in states u ≡ state_in states v) ⊎ In v starters

-- an edge of a reached block that leaves its state and leads to no starter
pub record IllegalEdge (g : CFG) (starters states : List ℕ) (v : ℕ) : Type 0 where
  pub source : ℕ
  pub reached : Reached g source
  pub edge : In v (successors g source)
  pub leaves : state_in states source ≢ state_in states v
  pub fresh : In v starters → ⊥

abbrev From : List ℕ → List ℕ → List ℕ → ℕ → Type 0
From starters states [] x = Unit {0}
From starters states (p ∷ path) x = Legal starters states p x

record Clean (g : CFG) (starters states path seen : List ℕ) : Type 0 where
  on_path : Subset path seen
  reach : (u : ℕ) → In u seen → Reached g u
  legal : (u : ℕ) → In u seen → (In u path → ⊥) → (v : ℕ) → In v (successors g u) → In v seen × Legal starters states u v

abbrev Inv : CFG → List ℕ → List ℕ → List ℕ → Detection → Type 0
Inv g starters states path (visited seen) = Clean g starters states path seen
Inv g starters states path (illegal_to z) = IllegalEdge g starters states z

abbrev Dealt : List ℕ → List ℕ → List ℕ → ℕ → Detection → Type 0
Dealt starters states path x (visited seen) = In x seen × From starters states path x
Dealt starters states path x (illegal_to z) = Unit {0}

abbrev Le : Detection → Detection → Type 0
Le (visited s) (visited t) = Subset s t
Le (visited s) (illegal_to y) = Unit {0}
Le (illegal_to z) (visited t) = ⊥
Le (illegal_to z) (illegal_to y) = Unit {0}

module _ (g : CFG) (a : Closed g) (starters states : List ℕ) where
  le_refl : (h : Detection) → Le h h
  le_refl (visited s) = λ x i. i
  le_refl (illegal_to z) = tt

  le_trans : (h i j : Detection) → Le h i → Le i j → Le h j
  le_trans (visited s) (visited t) (visited u) p q = λ x i. q x (p x i)
  le_trans (visited s) (visited t) (illegal_to z) p q = tt
  le_trans (visited s) (illegal_to y) (visited u) p q = absurd q
  le_trans (visited s) (illegal_to y) (illegal_to z) p q = tt
  le_trans (illegal_to s) (visited t) j p q = absurd p
  le_trans (illegal_to s) (illegal_to t) (visited u) p q = absurd q
  le_trans (illegal_to s) (illegal_to t) (illegal_to u) p q = tt

  stays : (path : List ℕ) (x : ℕ) (h i : Detection) → Le h i → Dealt starters states path x h → Dealt starters states path x i
  stays path x (visited s) (visited t) l d = (l x d.0, d.1)
  stays path x (visited s) (illegal_to y) l d = tt
  stays path x (illegal_to z) (visited t) l d = absurd l
  stays path x (illegal_to z) (illegal_to y) l d = tt

  small : (path : List ℕ) (x : ℕ) → Came (successors g) 0 path x → x < length g.blocks
  small [] x c = let b = a.some_block in omega arith
  small (p ∷ path) x c = a.inside p x c

  come : (path : List ℕ) (x : ℕ) (seen : List ℕ) → Clean g starters states path seen → Came (successors g) 0 path x → Reached g x
  come path x seen i c = came_reached g entry path x (λ y j. i.reach y (i.on_path y j)) c

  -- the test of an edge, both ways
  passes : (path : List ℕ) (x : ℕ) → illegal starters states path x ≡ false → From starters states path x
  passes [] x e = tt
  passes (p ∷ path) x e = go (and_false (not (eqb (state_in states p) (state_in states x))) (not (mem x starters)) e)
    where
      go : (not (eqb (state_in states p) (state_in states x)) ≡ false) ⊎ (not (mem x starters) ≡ false) → Legal starters states p x
      go (inl e) = inl (eqb-true (state_in states p) (state_in states x) (not-false (eqb (state_in states p) (state_in states x)) e))
      go (inr e) = inr (mem→In x starters (not-false (mem x starters) e))

  fails : (path : List ℕ) (x : ℕ) (seen : List ℕ) → Clean g starters states path seen → Came (successors g) 0 path x → illegal starters states path x ≡ true
      → IllegalEdge g starters states x
  fails [] x seen i c e = absurd (false≢true e)
  fails (p ∷ path) x seen i c e =
      let b = and_true (not (eqb (state_in states p) (state_in states x))) (not (mem x starters)) e in
      record {
        source = p;
        reached = i.reach p (i.on_path p (inl refl));
        edge = c;
        leaves = eqb-false (state_in states p) (state_in states x) (not-true (eqb (state_in states p) (state_in states x)) b.0);
        fresh = mem→Out x starters (not-true (mem x starters) b.1);
      }

  skipped : (path : List ℕ) (x : ℕ) (h : Detection) → Inv g starters states path h → Came (successors g) 0 path x → (detecting starters states).stop path x h ≡ true
      → Outcome (Inv g starters states path) (Dealt starters states path x) Le h ((detecting starters states).skip path x h)
  skipped path x (illegal_to z) i c e = record { holds = i; dealt = tt; grows = tt }
  skipped path x (visited seen) i c e = go (true_or_false (illegal starters states path x))
    where
      go : (illegal starters states path x ≡ true) ⊎ (illegal starters states path x ≡ false)
          → Outcome (Inv g starters states path) (Dealt starters states path x) Le (visited seen) (detect_skip starters states path x (visited seen))
      go (inl f) = rw (f, detect_skip) (record { holds = fails path x seen i c f; dealt = tt; grows = tt })
      go (inr f) = rw (f, detect_skip) (record { holds = i; dealt = (mem→In x seen (rw f at e), passes path x f); grows = λ y j. j })

  new : (path : List ℕ) (x : ℕ) (h : Detection) → Inv g starters states path h → (detecting starters states).stop path x h ≡ false → In x path → ⊥
  new path x (illegal_to z) i e j = true≢false e
  new path x (visited seen) i e j = mem→Out x seen (or_false (illegal starters states path x) (mem x seen) e).1 (i.on_path x j)

  entered : (path : List ℕ) (x : ℕ) (h : Detection) → Inv g starters states path h → Came (successors g) 0 path x → (detecting starters states).stop path x h ≡ false
      → Inv g starters states (x ∷ path) ((detecting starters states).enter x h) × Le h ((detecting starters states).enter x h)
  entered path x (illegal_to z) i c e = absurd (true≢false e)
  entered path x (visited seen) i c e = (record { on_path = on_path; reach = reach; legal = legal }, λ y j. inr j)
    where
      on_path : (y : ℕ) → (y ≡ x) ⊎ In y path → (y ≡ x) ⊎ In y seen
      on_path y (inl p) = inl p
      on_path y (inr j) = inr (i.on_path y j)

      reach : (u : ℕ) → (u ≡ x) ⊎ In u seen → Reached g u
      reach u (inl p) = subst (Reached g) (sym p) (come path x seen i c)
      reach u (inr j) = i.reach u j

      legal : (u : ℕ) → (u ≡ x) ⊎ In u seen → ((u ≡ x) ⊎ In u path → ⊥) → (v : ℕ) → In v (successors g u) → ((v ≡ x) ⊎ In v seen) × Legal starters states u v
      legal u (inl p) f v j = absurd (f (inl p))
      legal u (inr k) f v j = let l = i.legal u k (λ q. f (inr q)) v j in (inr l.0, l.1)

  finishes : (path : List ℕ) (x : ℕ) (h₀ h : Detection) → (detecting starters states).stop path x h₀ ≡ false → Inv g starters states (x ∷ path) h → Distinct (x ∷ path) → Came (successors g) 0 path x
      → ((y : ℕ) → In y (successors g x) → Dealt starters states (x ∷ path) y h) → Outcome (Inv g starters states path) (Dealt starters states path x) Le h h
  finishes path x (illegal_to z) h e i o c d = absurd (true≢false e)
  finishes path x (visited s₀) (illegal_to z) e i o c d = record { holds = i; dealt = tt; grows = tt }
  finishes path x (visited s₀) (visited seen) e i o c d = record {
    holds = record { on_path = λ y j. i.on_path y (inr j); reach = i.reach; legal = legal };
    dealt = (i.on_path x (inl refl), passes path x (or_false (illegal starters states path x) (mem x s₀) e).0);
    grows = λ y j. j;
  }
    where
      out : (u : ℕ) → (u ≢ x) → (In u path → ⊥) → (u ≡ x) ⊎ In u path → ⊥
      out u p f (inl q) = p q
      out u p f (inr j) = f j

      legal : (u : ℕ) → In u seen → (In u path → ⊥) → (v : ℕ) → In v (successors g u) → In v seen × Legal starters states u v
      legal u k f v j = go (compared u x)
        where
          go : Compared u x → In v seen × Legal starters states u v
          go (same h p) = rw p (d v (subst (λ z. In v (successors g z)) p j))
          go (other h p) = i.legal u k (out u p f) v j

  law : Law (detecting starters states) (successors g) 0 (length g.blocks) (Inv g starters states) (Dealt starters states) Le
  law = record {
    le_refl = le_refl;
    le_trans = le_trans;
    stays = stays;
    small = λ path x s i c. small path x c;
    skipped = skipped;
    new = new;
    entered = entered;
    finished = finishes;
  }

  begun : Clean g starters states [] []
  begun = record { on_path = λ x i. i; reach = λ x i. absurd i; legal = λ u i. absurd i }

  end : Outcome (Inv g starters states []) (Dealt starters states [] 0) Le (visited []) (detect g starters states)
  unfolding detect
  end = whole_visit g law (visited []) begun

  -- none found: every edge out of a reached block is legal
  pub detect_visited : (seen : List ℕ) → detect g starters states ≡ visited seen → (u v : ℕ) → Reached g u → In v (successors g u) → Legal starters states u v
  detect_visited seen e u v r j = (cl.legal u (all u r) (λ z. z) v j).1
    where
      cl : Clean g starters states [] seen
      cl = subst (Inv g starters states []) e end.holds

      d : In 0 seen × Unit {0}
      d = subst (Dealt starters states [] 0) e end.dealt

      all : (u : ℕ) → Reached g u → In u seen
      all u entry = d.0
      all u (along {u = w} {v = v} r i) = (cl.legal w (all w r) (λ z. z) v i).0

  -- one found: it leads to y
  pub detect_edge : (y : ℕ) → detect g starters states ≡ illegal_to y → IllegalEdge g starters states y
  detect_edge y e = subst (Inv g starters states []) e end.holds

  pub detect_illegal : (y : ℕ) → detect g starters states ≡ illegal_to y → Reached g y × (In y starters → ⊥)
  detect_illegal y e = let b = detect_edge y e in (along b.reached b.edge, b.fresh)

  -- more fuel changes nothing
  pub detect_fuel : (n : ℕ) → length g.blocks < n → visit (detecting starters states) (successors g) n [] 0 (visited []) ≡ detect g starters states
  unfolding detect
  detect_fuel n h = whole_fuel g law n h (visited []) begun
