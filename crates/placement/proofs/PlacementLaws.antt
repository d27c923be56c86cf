-- The order of placement: every block of a state once, the starter first, each before its successors inside the state. Assumes nothing.
use Prim.Native.Nat.{ℕ, zero, suc, ◌+◌, ◌≤◌, ◌<◌}
use mathlib.Core.Bool.{true, false, not, ◌||◌, ◌&&◌, false≢true}
use mathlib.Core.Logic.{◌⊎◌, inl, inr, ◌≢◌}
use mathlib.Core.Path.{◌≡◌, refl, sym, ◌∙◌, ap, subst}
use mathlib.Core.List.{List, [], ◌∷◌, ◌++◌, nil≢cons, head-eq_of_cons-eq, tail-eq_of_cons-eq}
use Rattle.std.specs.Prelude.{Option, Some, None}
use native.Mathlib.Omega.{arith}
use lib.ListN.{length, get_or}
use lib.Dec.{eqb}
use borrow.Author.Tests.{eqb-true, eq-eqb, not-true}
use Rattle.runs.specs.Lists.{up_from, mem, every, first}
use Rattle.runs.proofs.Tests.{or_true, or_right, and_true}
use Rattle.runs.proofs.Sets.{In, Distinct, Subset, found, Found, there, missing, mem→In, mem→Out, Out→mem, In→mem, pigeonhole, in-get_or, get_or-any, in_right}
use Rattle.runs.proofs.MembershipLaws.{only_in, in_only, up_from_in, every_in, in_every, first_some, first_none}
use Rattle.cfg.specs.Graph.{CFG, successors}
use Rattle.fsmd.specs.Layout.{absent}
use Rattle.grouping.specs.Grouping.{Groups}
use Rattle.grouping.proofs.Reach.{Closed, Reached, reached_below}
use Rattle.grouping.proofs.PopulationLaws.{state_in}
use Rattle.grouping.proofs.GroupingLaws.{Grouped}
use Rattle.placement.specs.Placement.{members, ready, place_next, placed_from, order}

-- each successor of a block is a starter or stands later
abbrev pub Forward : CFG → List ℕ → List ℕ → Type 0
Forward g starters [] = Unit {0}
Forward g starters (x ∷ xs) = ((v : ℕ) → In v (successors g x) → In v starters ⊎ In v xs) × Forward g starters xs

-- the order of state k
pub record Placed (g : CFG) (s : Groups) (k : ℕ) : Type 0 where
  -- the state's blocks and no others, none twice
  pub mine : (x : ℕ) → In x (order g s k) → state_in s.states x ≡ k
  pub all : (x : ℕ) → state_in s.states x ≡ k → In x (order g s k)
  pub distinct : Distinct (order g s k)
  -- the starter first, and no other starter
  pub others : List ℕ
  pub starter_first : (d : ℕ) → order g s k ≡ get_or s.starters k d ∷ others
  pub no_starter : (x : ℕ) → In x others → In x s.starters → ⊥
  -- each edge of the state to a non-starter leads to a later place
  pub forward : Forward g s.starters (order g s k)
  pub later : (u v : ℕ) → state_in s.states u ≡ k → In v (successors g u) → (In v s.starters → ⊥)
      → (before after : List ℕ) → order g s k ≡ before ++ (v ∷ after) → In u before
  -- a non-starter has an edge from an earlier place
  pub entered : (x : ℕ) → (In x s.starters → ⊥) → (before after : List ℕ) → order g s k ≡ before ++ (x ∷ after)
      → (u : ℕ) × In u before × In x (successors g u)

-- ---- when a block is ready

abbrev Due : CFG → Groups → List ℕ → List ℕ → ℕ → Type 0
Due g s blocks placed x = In x s.starters ⊎ ((u : ℕ) → In u blocks → In x (successors g u) → In u placed)

module _ (g : CFG) (s : Groups) (blocks placed : List ℕ) (x : ℕ) where
  ready_due : ready g s blocks placed x ≡ true → Due g s blocks placed x
  ready_due e = go (or_true (mem x s.starters) (every (λ u. not (mem x (successors g u)) || mem u placed) blocks) e)
    where
      in_placed : (u : ℕ) → In x (successors g u) → (not (mem x (successors g u)) ≡ true) ⊎ (mem u placed ≡ true) → In u placed
      in_placed u j (inl e) = absurd (mem→Out x (successors g u) (not-true (mem x (successors g u)) e) j)
      in_placed u j (inr e) = mem→In u placed e

      go : (mem x s.starters ≡ true) ⊎ (every (λ u. not (mem x (successors g u)) || mem u placed) blocks ≡ true) → Due g s blocks placed x
      go (inl e) = inl (mem→In x s.starters e)
      go (inr e) = inr λ u i j. in_placed u j (or_true (not (mem x (successors g u))) (mem u placed) (every_in (λ u. not (mem x (successors g u)) || mem u placed) blocks e u i))

  due_ready : Due g s blocks placed x → ready g s blocks placed x ≡ true
  due_ready (inl i) = rw (In→mem x s.starters i) refl
  due_ready (inr h) =
      or_right (mem x s.starters) (every (λ u. not (mem x (successors g u)) || mem u placed) blocks)
      (in_every (λ u. not (mem x (successors g u)) || mem u placed) blocks (λ u i. go u i (found x (successors g u))))
    where
      go : (u : ℕ) → In u blocks → Found x (successors g u) → (not (mem x (successors g u)) || mem u placed) ≡ true
      go u i (there e j) = rw e (In→mem u placed (h u i j))
      go u i (missing e j) = rw e refl

-- the block that is placed next
abbrev choice : CFG → Groups → List ℕ → List ℕ → Option ℕ
choice g s blocks placed = first (λ x. not (mem x placed) && ready g s blocks placed x) blocks

module _ (g : CFG) (s : Groups) (blocks : List ℕ) (n : ℕ) (placed : List ℕ) where
  place_none : choice g s blocks placed ≡ None → placed_from g s blocks (suc n) placed ≡ []
  unfolding placed_from
  place_none e = ap (λ (o : Option ℕ). place_next o (λ x. placed_from g s blocks n (x ∷ placed))) e

  place_some : (x : ℕ) → choice g s blocks placed ≡ Some x → placed_from g s blocks (suc n) placed ≡ x ∷ placed_from g s blocks n (x ∷ placed)
  unfolding placed_from
  place_some x e = ap (λ (o : Option ℕ). place_next o (λ x. placed_from g s blocks n (x ∷ placed))) e

-- no more is placed than there are rounds
place_length : (g : CFG) (s : Groups) (blocks : List ℕ) (n : ℕ) (placed : List ℕ) → length (placed_from g s blocks n placed) ≤ n
unfolding placed_from
place_length g s blocks zero placed = omega arith
place_length g s blocks (suc n) placed = go (choice g s blocks placed) (place_length g s blocks n)
  where
    go : (o : Option ℕ) → ((q : List ℕ) → length (placed_from g s blocks n q) ≤ n) → length (place_next o (λ x. placed_from g s blocks n (x ∷ placed))) ≤ suc n
    go None ih = omega arith
    go (Some x) ih = let h = ih (x ∷ placed) in omega arith

pub order_length : (g : CFG) (s : Groups) (k : ℕ) → length (order g s k) ≤ length (members g s k)
unfolding order
order_length g s k = place_length g s (members g s k) (length (members g s k)) []

-- ---- each block is due where it stands

abbrev Sorted : CFG → Groups → List ℕ → List ℕ → List ℕ → Type 0
Sorted g s blocks placed [] = Unit {0}
Sorted g s blocks placed (x ∷ l) = Due g s blocks placed x × Sorted g s blocks (x ∷ placed) l

-- what is placed behind `placed`
record Outcome (g : CFG) (s : Groups) (blocks placed out : List ℕ) : Type 0 where
  fresh : (z : ℕ) → In z out → In z blocks × (In z placed → ⊥)
  distinct : Distinct out
  complete : (z : ℕ) → In z blocks → In z placed ⊎ In z out
  sorted : Sorted g s blocks placed out

-- a sorted list, cut at one of its blocks
sorted_cut : (g : CFG) (s : Groups) (blocks placed l : List ℕ) → Sorted g s blocks placed l → (u v : ℕ) → In u blocks → In v (successors g u) → (In v s.starters → ⊥)
    → (before after : List ℕ) → l ≡ before ++ (v ∷ after) → In u placed ⊎ In u before
sorted_cut g s blocks placed [] o u v i j f [] q e = absurd (nil≢cons e)
sorted_cut g s blocks placed [] o u v i j f (y ∷ p) q e = absurd (nil≢cons e)
sorted_cut g s blocks placed (z ∷ l) o u v i j f [] q e = go (subst (Due g s blocks placed) (head-eq_of_cons-eq e) o.0)
  where
    go : Due g s blocks placed v → In u placed ⊎ ⊥
    go (inl k) = absurd (f k)
    go (inr h) = inl (h u i j)
sorted_cut g s blocks placed (z ∷ l) o u v i j f (y ∷ p) q e =
    go (sorted_cut g s blocks (z ∷ placed) l o.1 u v i j f p q (tail-eq_of_cons-eq e))
  where
    go : ((u ≡ z) ⊎ In u placed) ⊎ In u p → In u placed ⊎ ((u ≡ y) ⊎ In u p)
    go (inl (inl c)) = inr (inl (c ∙ head-eq_of_cons-eq e))
    go (inl (inr c)) = inl c
    go (inr c) = inr (inr c)

-- a sorted list that has every block is in order
module _ (g : CFG) (s : Groups) (blocks : List ℕ) (closed : (u v : ℕ) → In u blocks → In v (successors g u) → (In v s.starters → ⊥) → In v blocks) where
  sorted_forward : (placed l : List ℕ) → Outcome g s blocks placed l
      → ((v : ℕ) → In v placed → (In v s.starters → ⊥) → (u : ℕ) → In u blocks → In v (successors g u) → In u placed) → Forward g s.starters l
  sorted_forward placed [] r h = tt
  sorted_forward placed (x ∷ l) r h = (λ v j. ahead v j (found v s.starters), sorted_forward (x ∷ placed) l rest next)
    where
      mine : In x blocks
      mine = (r.fresh x (inl refl)).0

      unplaced : In x placed → ⊥
      unplaced = (r.fresh x (inl refl)).1

      swapped : (z : ℕ) → In z placed ⊎ ((z ≡ x) ⊎ In z l) → ((z ≡ x) ⊎ In z placed) ⊎ In z l
      swapped z (inl i) = inl (inr i)
      swapped z (inr (inl p)) = inl (inl p)
      swapped z (inr (inr i)) = inr i

      apart : (z : ℕ) → In z l → (z ≡ x) ⊎ In z placed → ⊥
      apart z i (inl p) = r.distinct.0 (subst (λ w. In w l) p i)
      apart z i (inr k) = (r.fresh z (inr i)).1 k

      rest : Outcome g s blocks (x ∷ placed) l
      rest = record {
        fresh = λ z i. ((r.fresh z (inr i)).0, apart z i);
        distinct = r.distinct.1;
        complete = λ z i. swapped z (r.complete z i);
        sorted = r.sorted.1;
      }

      due : (In x s.starters → ⊥) → (u : ℕ) → In u blocks → In x (successors g u) → In u placed
      due f = go r.sorted.0
        where
          go : Due g s blocks placed x → (u : ℕ) → In u blocks → In x (successors g u) → In u placed
          go (inl k) = absurd (f k)
          go (inr d) = d

      next : (v : ℕ) → (v ≡ x) ⊎ In v placed → (In v s.starters → ⊥) → (u : ℕ) → In u blocks → In v (successors g u) → (u ≡ x) ⊎ In u placed
      next v (inl p) f u i j = inr (due (subst (λ z. In z s.starters → ⊥) p f) u i (subst (λ z. In z (successors g u)) p j))
      next v (inr k) f u i j = inr (h v k f u i j)

      ahead : (v : ℕ) → In v (successors g x) → Found v s.starters → In v s.starters ⊎ In v l
      ahead v j (there e k) = inl k
      ahead v j (missing e f) = inr (go (r.complete v (closed x v mine j f)))
        where
          go : In v placed ⊎ ((v ≡ x) ⊎ In v l) → In v l
          go (inl k) = absurd (unplaced (h v k f x mine j))
          go (inr (inl p)) = absurd (unplaced (due (subst (λ z. In z s.starters → ⊥) p f) x mine (subst (λ z. In z (successors g x)) p j)))
          go (inr (inr k)) = k

-- ---- placement never gets stuck

module _ (g : CFG) (a : Closed g) (s : Groups) (G : Grouped g s) (k : ℕ) (k_in : k < length s.starters) where
  k_some : k ≢ absent
  k_some e = let n = G.few_states_lem in let b = a.few_blocks_lem in omega arith

  pub member_state : (x : ℕ) → In x (members g s k) → state_in s.states x ≡ k
  unfolding members
  member_state x i = eqb-true (state_in s.states x) k (only_in (λ x. eqb (state_in s.states x) k) (up_from 0 (length g.blocks)) x i).1

  state_reached : (x : ℕ) → state_in s.states x ≡ k → Reached g x
  state_reached x e = G.state_reached x (λ f. k_some (sym e ∙ f))

  member_reached : (x : ℕ) → In x (members g s k) → Reached g x
  member_reached x i = state_reached x (member_state x i)

  pub state_member : (x : ℕ) → state_in s.states x ≡ k → In x (members g s k)
  unfolding members
  state_member x e =
      let h = reached_below a (state_reached x e) in
      in_only (λ x. eqb (state_in s.states x) k) (up_from 0 (length g.blocks)) x
      (up_from_in 0 (length g.blocks) x (omega arith) (omega arith)) (eq-eqb (state_in s.states x) k e)

  -- an edge to a non-starter stays in the state
  pub inside : (u v : ℕ) → In u (members g s k) → In v (successors g u) → (In v s.starters → ⊥) → In v (members g s k)
  inside u v i j f = go (G.edge u v (member_reached u i) j)
    where
      go : In v s.starters ⊎ (state_in s.states v ≡ state_in s.states u) → In v (members g s k)
      go (inl c) = absurd (f c)
      go (inr c) = state_member v (c ∙ member_state u i)

  -- along the falling rank: where no block is both unplaced and due, all are placed
  none_left : (placed : List ℕ) → ((x : ℕ) → In x (members g s k) → (In x placed → ⊥) → Due g s (members g s k) placed x → ⊥)
      → (n : ℕ) (x : ℕ) → In x (members g s k) → length g.blocks < G.rank_of x + n → In x placed
  none_left placed stuck zero x i h = absurd (let r = G.rank_bound x in omega arith)
  none_left placed stuck (suc n) x i h = go (found x placed) (found x s.starters) (none_left placed stuck n)
    where
      go : Found x placed → Found x s.starters → ((u : ℕ) → In u (members g s k) → length g.blocks < G.rank_of u + n → In u placed) → In x placed
      go (there e j) f ih = j
      go (missing e j) (there c f) ih = absurd (stuck x i j (inl f))
      go (missing e j) (missing c f) ih =
          absurd (stuck x i j (inr λ u m t. ih u m (let r = G.rank_down u x (member_reached u m) t f in omega arith)))

  -- as many placed as there are: all are placed
  full : (placed : List ℕ) → length placed ≡ length (members g s k) → Distinct placed → Subset placed (members g s k) → Subset (members g s k) placed
  full placed e d m x i = go (found x placed)
    where
      both : (y : ℕ) → (y ≡ x) ⊎ In y placed → In y (members g s k)
      both y (inl p) = rw p i
      both y (inr j) = m y j

      go : Found x placed → In x placed
      go (there h j) = j
      go (missing h j) = absurd (let p = pigeonhole (x ∷ placed) (members g s k) (j, d) both in omega arith)

  one_inside : (placed : List ℕ) (x : ℕ) → In x (members g s k) → Subset placed (members g s k) → (y : ℕ) → (y ≡ x) ⊎ In y placed → In y (members g s k)
  one_inside placed x i m y (inl p) = rw p i
  one_inside placed x i m y (inr j) = m y j

  -- what is chosen is a block of the state, not placed yet, and due
  chosen : (placed : List ℕ) (x : ℕ) → choice g s (members g s k) placed ≡ Some x → In x (members g s k) × (In x placed → ⊥) × Due g s (members g s k) placed x
  chosen placed x h =
      let f = first_some (λ x. not (mem x placed) && ready g s (members g s k) placed x) (members g s k) x h in
      let t = and_true (not (mem x placed)) (ready g s (members g s k) placed x) f.1 in
      (f.0, mem→Out x placed (not-true (mem x placed) t.0), ready_due g s (members g s k) placed x t.1)

  place_outcome : (n : ℕ) (placed : List ℕ) → n + length placed ≡ length (members g s k) → Distinct placed → Subset placed (members g s k)
      → Outcome g s (members g s k) placed (placed_from g s (members g s k) n placed)
  unfolding placed_from
  place_outcome zero placed e d m = record {
    fresh = λ z i. absurd i;
    distinct = tt;
    complete = λ x i. inl (full placed (omega arith) d m x i);
    sorted = tt;
  }
  place_outcome (suc n) placed e d m = go (choice g s (members g s k) placed) refl (place_outcome n)
    where
      stuck : choice g s (members g s k) placed ≡ None → (x : ℕ) → In x (members g s k) → (In x placed → ⊥) → Due g s (members g s k) placed x → ⊥
      stuck h x i f t =
          let c : (not (mem x placed) && ready g s (members g s k) placed x) ≡ false =
          first_none (λ x. not (mem x placed) && ready g s (members g s k) placed x) (members g s k) h x i in
          false≢true (sym (rw (Out→mem x placed f) at c) ∙ due_ready g s (members g s k) placed x t)

      one_more : (x : ℕ) → In x (members g s k) → (In x placed → ⊥) → Due g s (members g s k) placed x → (out : List ℕ)
          → Outcome g s (members g s k) (x ∷ placed) out → Outcome g s (members g s k) placed (x ∷ out)
      one_more x i f t out r = record {
        fresh = λ z j. fresh z j;
        distinct = (λ j. (r.fresh x j).1 (inl refl), r.distinct);
        complete = λ z j. swapped z (r.complete z j);
        sorted = (t, r.sorted);
      }
        where
          fresh : (z : ℕ) → (z ≡ x) ⊎ In z out → In z (members g s k) × (In z placed → ⊥)
          fresh z (inl p) = rw p (i, f)
          fresh z (inr j) = ((r.fresh z j).0, λ c. (r.fresh z j).1 (inr c))

          swapped : (z : ℕ) → ((z ≡ x) ⊎ In z placed) ⊎ In z out → In z placed ⊎ ((z ≡ x) ⊎ In z out)
          swapped z (inl (inl p)) = inr (inl p)
          swapped z (inl (inr c)) = inl c
          swapped z (inr c) = inr (inr c)

      go : (o : Option ℕ) → choice g s (members g s k) placed ≡ o
          → ((q : List ℕ) → n + length q ≡ length (members g s k) → Distinct q → Subset q (members g s k) → Outcome g s (members g s k) q (placed_from g s (members g s k) n q))
          → Outcome g s (members g s k) placed (placed_from g s (members g s k) (suc n) placed)
      go None h ih = rw (place_none g s (members g s k) n placed h) (record {
        fresh = λ z i. absurd i;
        distinct = tt;
        complete = λ x i. inl (none_left placed (stuck h) (suc (length g.blocks)) x i (omega arith));
        sorted = tt;
      })
      go (Some x) h ih =
          let c = chosen placed x h in
          rw (place_some g s (members g s k) n placed x h)
          (one_more x c.0 c.1 c.2 (placed_from g s (members g s k) n (x ∷ placed))
          (ih (x ∷ placed) (omega arith) (c.1, d) (one_inside placed x c.0 m)))

  -- more rounds place no more
  place_alike : (n m : ℕ) (placed : List ℕ) → n ≤ m → n + length placed ≡ length (members g s k) → Distinct placed → Subset placed (members g s k)
      → placed_from g s (members g s k) m placed ≡ placed_from g s (members g s k) n placed
  unfolding placed_from
  place_alike zero zero placed l e d i = refl
  place_alike zero (suc m) placed l e d i = go (choice g s (members g s k) placed) refl
    where
      go : (o : Option ℕ) → choice g s (members g s k) placed ≡ o → placed_from g s (members g s k) (suc m) placed ≡ []
      go None h = place_none g s (members g s k) m placed h
      go (Some x) h = let c = chosen placed x h in absurd (c.1 (full placed (omega arith) d i x c.0))
  place_alike (suc n) zero placed l e d i = absurd (omega arith)
  place_alike (suc n) (suc m) placed l e d i = go (choice g s (members g s k) placed) refl (place_alike n m)
    where
      go : (o : Option ℕ) → choice g s (members g s k) placed ≡ o
          → ((q : List ℕ) → n ≤ m → n + length q ≡ length (members g s k) → Distinct q → Subset q (members g s k) → placed_from g s (members g s k) m q ≡ placed_from g s (members g s k) n q)
          → placed_from g s (members g s k) (suc m) placed ≡ placed_from g s (members g s k) (suc n) placed
      go None h ih = place_none g s (members g s k) m placed h ∙ sym (place_none g s (members g s k) n placed h)
      go (Some x) h ih =
          let c = chosen placed x h in
          place_some g s (members g s k) m placed x h
          ∙ ap (λ (q : List ℕ). x ∷ q) (ih (x ∷ placed) (omega arith) (omega arith) (c.1, d) (one_inside placed x c.0 i))
          ∙ sym (place_some g s (members g s k) n placed x h)

  order_outcome : Outcome g s (members g s k) [] (order g s k)
  unfolding order
  order_outcome = place_outcome (length (members g s k)) [] (omega arith) tt (λ x i. absurd i)

  -- a starter of the state is its starter
  own_starter : (x : ℕ) → In x s.starters → state_in s.states x ≡ k → x ≡ get_or s.starters k absent
  own_starter x i e =
      let r = in-get_or x s.starters absent i in
      let h : r.0 ≡ k = sym (G.starter_home r.0 absent r.1) ∙ ap (state_in s.states) r.2 ∙ e in
      sym r.2 ∙ ap (λ (n : ℕ). get_or s.starters n absent) h

  -- the first placed is the starter: any other block has one of the state before it
  head_is : (l : List ℕ) → Outcome g s (members g s k) [] l → (rest : List ℕ) × (l ≡ get_or s.starters k absent ∷ rest)
  head_is [] r = absurd (go (r.complete (get_or s.starters k absent) (state_member (get_or s.starters k absent) (G.starter_home k absent k_in))))
    where
      go : ⊥ ⊎ ⊥ → ⊥
      go (inl z) = z
      go (inr z) = z
  head_is (x ∷ l) r = (l, ap (λ (z : ℕ). z ∷ l) (go (found x s.starters) r.sorted.0))
    where
      x_in : In x (members g s k)
      x_in = (r.fresh x (inl refl)).0

      go : Found x s.starters → Due g s (members g s k) [] x → x ≡ get_or s.starters k absent
      go (there e i) d = own_starter x i (member_state x x_in)
      go (missing e f) (inl i) = absurd (f i)
      go (missing e f) (inr h) =
          let p = G.predecessor x (member_reached x x_in) f in
          absurd (h p.0 (state_member p.0 (p.1 ∙ member_state x x_in)) p.2)

  pub placed : Placed g s k
  placed = record {
    mine = λ x i. member_state x (o.fresh x i).0;
    all = λ x e. there_is x (o.complete x (state_member x e));
    distinct = o.distinct;
    others = h.0;
    starter_first = λ d. h.1 ∙ ap (λ (z : ℕ). z ∷ h.0) (get_or-any s.starters k absent d k_in);
    no_starter = lone;
    forward = sorted_forward g s (members g s k) inside [] (order g s k) o (λ v i. absurd i);
    later = later;
    entered = entered;
  }
    where
      o : Outcome g s (members g s k) [] (order g s k)
      o = order_outcome

      h : (rest : List ℕ) × (order g s k ≡ get_or s.starters k absent ∷ rest)
      h = head_is (order g s k) o

      there_is : (x : ℕ) → ⊥ ⊎ In x (order g s k) → In x (order g s k)
      there_is x (inl z) = absurd z
      there_is x (inr i) = i

      lone : (x : ℕ) → In x h.0 → In x s.starters → ⊥
      lone x i j =
          let d : Distinct (get_or s.starters k absent ∷ h.0) = rw h.1 at o.distinct in
          let m : In x (order g s k) = rw h.1 (inr i) in
          d.0 (subst (λ z. In z h.0) (own_starter x j (member_state x (o.fresh x m).0)) i)

      later : (u v : ℕ) → state_in s.states u ≡ k → In v (successors g u) → (In v s.starters → ⊥)
          → (before after : List ℕ) → order g s k ≡ before ++ (v ∷ after) → In u before
      later u v e j f p q c = go (sorted_cut g s (members g s k) [] (order g s k) o.sorted u v (state_member u e) j f p q c)
        where
          go : ⊥ ⊎ In u p → In u p
          go (inl z) = absurd z
          go (inr i) = i

      entered : (x : ℕ) → (In x s.starters → ⊥) → (before after : List ℕ) → order g s k ≡ before ++ (x ∷ after) → (u : ℕ) × In u before × In x (successors g u)
      entered x f p q c =
          let m : In x (order g s k) = rw c (in_right x p (x ∷ q) (inl refl)) in
          let e = member_state x (o.fresh x m).0 in
          let b = G.predecessor x (state_reached x e) f in
          (b.0, later b.0 x (b.1 ∙ e) b.2 f p q c, b.2)

-- any number of rounds from the state's blocks up gives the same
pub order_rounds : (g : CFG) → Closed g → (s : Groups) → Grouped g s → (k : ℕ) → k < length s.starters → (n : ℕ) → length (members g s k) ≤ n
    → placed_from g s (members g s k) n [] ≡ order g s k
unfolding order
order_rounds g a s G k h n l = place_alike g a s G k h (length (members g s k)) n [] l (omega arith) tt (λ x i. absurd i)
