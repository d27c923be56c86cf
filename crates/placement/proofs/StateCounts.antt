-- Placing a state by counts: each count is exact, the order is the same, and each in-state edge lowers a count exactly once. Assumes nothing.
use Prim.Native.Nat.{ℕ, zero, suc, ◌+◌, ◌<◌}
use native.Mathlib.Omega.{arith}
use mathlib.Core.Bool.{Bool, true, false, not, ◌&&◌, ◌||◌}
use mathlib.Core.Path.{◌≡◌, refl, sym, ◌∙◌, ap, subst, fun_ext}
use mathlib.Core.List.{List, [], ◌∷◌, ◌++◌, map}
use lib.ListN.{length, get_or}
use lib.Dec.{eqb, ltb}
use borrow.Author.Tests.{eq-eqb, ne_eqb, lt-ltb, le-ltb, ltb-true, not-true}
use Rattle.word.specs.Word.{choose}
use Rattle.runs.specs.Lists.{up_from, mem, only, keep, concat_map}
use Rattle.runs.proofs.Tests.{Compared, same, other, compared}
use Rattle.runs.proofs.ListLaws.{same_test}
use Rattle.runs.proofs.Sets.{In, Distinct, mem→In, In→mem, mem→Out, Out→mem}
use Rattle.runs.proofs.MembershipLaws.{only_in, distinct_only, distinct_up_from}
use Rattle.cfg.specs.Graph.{CFG, successors}
use Rattle.cfg.specs.Table.{admitted_graph, graph_of}
use Rattle.fsmd.specs.Layout.{absent}
use Rattle.grouping.specs.Grouping.{Groups, groups}
use Rattle.grouping.proofs.Reach.{Closed, admitted_closed}
use Rattle.grouping.proofs.GroupingLaws.{Grouped, grouped}
use Rattle.placement.specs.Placement.{members, placed_from, order}
use Rattle.placement.specs.Counts.{Choice, blocks_of, run, Exact, Each, BlockEdge, edges_to, edges_out, in_state_targets, choices_of, edges_of, lowerings, is_edge, times_in, is_in_state, PlacedByCounts}
use Rattle.placement.proofs.PlacementLaws.{Placed, placed, member_state, state_member, inside}
use Rattle.placement.proofs.CountLaws.{targets_of, number, number_cons, number_alike, run_exact, run_places}

-- ---- the edges of one block

ltb_suc : (a b : ℕ) → ltb (suc a) (suc b) ≡ ltb a b
ltb_suc a b =
    same_test (ltb (suc a) (suc b)) (ltb a b) (λ e. lt-ltb a b (omega (arith, ltb-true (suc a) (suc b) e))) (λ e. lt-ltb (suc a) (suc b) (omega (arith, ltb-true a b e)))

module _ (starter : ℕ → Bool) where
  abbrev inner : BlockEdge → Bool
  inner e = not (starter e.target)

  targets_are : (u way : ℕ) (l : List ℕ) → map (λ (e : BlockEdge). e.target) (only inner (edges_to u way l)) ≡ only (λ t. not (starter t)) l
  targets_are u way [] = refl
  targets_are u way (t ∷ l) = go (not (starter t)) (targets_are u (suc way) l)
    where
      go : (b : Bool) → map (λ (e : BlockEdge). e.target) (only inner (edges_to u (suc way) l)) ≡ only (λ t. not (starter t)) l
          → map (λ (e : BlockEdge). e.target) (keep b (record { source = u; way = way; target = t }) (only inner (edges_to u (suc way) l))) ≡ keep b t (only (λ t. not (starter t)) l)
      go true ih = ap (λ m. t ∷ m) ih
      go false ih = ih

  module _ (u way : ℕ) where
    -- one more edge: how often the edge looked for stands there
    one_more : (e : BlockEdge) (l : List BlockEdge) (n : ℕ) → is_edge u way e ≡ false → times_in l u way ≡ n → (b : Bool) → times_in (keep b e l) u way ≡ n
    one_more e l n h ih true = rw h ih
    one_more e l n h ih false = ih

    other_block : (y : ℕ) → (y ≡ u → ⊥) → (i : ℕ) (l : List ℕ) → times_in (only inner (edges_to y i l)) u way ≡ 0
    other_block y f i [] = refl
    other_block y f i (t ∷ l) =
        one_more (record { source = y; way = i; target = t }) (only inner (edges_to y (suc i) l)) 0 (rw (ne_eqb y u f) refl) (other_block y f (suc i) l) (not (starter t))

    -- those after it
    later_edges : (i : ℕ) → way < i → (l : List ℕ) → times_in (only inner (edges_to u i l)) u way ≡ 0
    later_edges i h [] = refl
    later_edges i h (t ∷ l) =
        one_more (record { source = u; way = i; target = t }) (only inner (edges_to u (suc i) l)) 0
        (rw (eq-eqb u u refl, ne_eqb i way (λ (q : i ≡ way). omega arith)) refl) (later_edges (suc i) (omega arith) l) (not (starter t))

    own_edge : (i d : ℕ) → way ≡ i + d → (l : List ℕ) → times_in (only inner (edges_to u i l)) u way ≡ choose (ltb d (length l) && not (starter (get_or l d absent))) 1 0
    own_edge i d e [] = rw (le-ltb d 0 (omega arith)) refl
    own_edge i zero e (t ∷ l) = rw (lt-ltb 0 (suc (length l)) (omega arith)) (go (not (starter t)))
      where
        go : (b : Bool) → times_in (keep b (record { source = u; way = i; target = t }) (only inner (edges_to u (suc i) l))) u way ≡ choose b 1 0
        go true = rw (eq-eqb u u refl, eq-eqb i way (omega arith), later_edges (suc i) (omega arith) l) refl
        go false = later_edges (suc i) (omega arith) l
    own_edge i (suc d) e (t ∷ l) = rw (ltb_suc d (length l)) (
        one_more (record { source = u; way = i; target = t }) (only inner (edges_to u (suc i) l)) (choose (ltb d (length l) && not (starter (get_or l d absent))) 1 0)
        (rw (eq-eqb u u refl, ne_eqb i way (λ (q : i ≡ way). omega arith)) refl) (own_edge (suc i) d (omega arith) l) (not (starter t)))

-- ---- the blocks of a state

concat_map_lem : {A B : Type 0} (f : ℕ → List A) (h : B → ℕ) (l : List B) → concat_map f (map h l) ≡ concat_map (λ (c : B). f (h c)) l
unfolding concat_map
concat_map_lem f h [] = refl
concat_map_lem f h (c ∷ l) = ap (λ m. f (h c) ++ m) (concat_map_lem f h l)

module _ (g : CFG) (s : Groups) (k : ℕ) where
  abbrev starter : ℕ → Bool
  starter t = mem t s.starters

  in_state : in_state_targets g s ≡ targets_of (successors g) starter
  in_state = fun_ext λ u. targets_are starter u 0 (successors g u)

  members_distinct : Distinct (members g s k)
  unfolding members
  members_distinct = distinct_only (λ x. eqb (get_or s.states x absent) k) (up_from 0 (length g.blocks)) (distinct_up_from 0 (length g.blocks))

  -- before each choice every block's count is the number of its in-state edges from unplaced blocks
  pub counts_exact : Each (Exact (in_state_targets g s)) (choices_of g s k)
  unfolding choices_of
  counts_exact = run_exact (in_state_targets g s) (length (members g s k)) (members g s k) members_distinct

  -- the placement is the same, block for block
  pub order_by_counts : blocks_of (choices_of g s k) ≡ order g s k
  unfolding choices_of order placed_from
  order_by_counts =
      ap (λ (f : ℕ → List ℕ). blocks_of (run f (length (members g s k)) (members g s k))) in_state
      ∙ run_places (successors g) starter (members g s k) members_distinct (placed_from g s (members g s k)) (λ placed. refl) (λ n placed. refl) (length (members g s k))

  -- the edges of one placed block after another
  pub lowerings_in_order : lowerings g s k ≡ concat_map (edges_out g s) (order g s k)
  unfolding lowerings
  lowerings_in_order = sym (concat_map_lem (edges_out g s) (λ (c : Choice). c.block) (choices_of g s k)) ∙ ap (concat_map (edges_out g s)) order_by_counts

  -- each in-state edge of the state stands once in the list of them, and no other edge does
  pub edges_once : (u way : ℕ) → times_in (edges_of g s k) u way ≡ choose (is_in_state g s k u way) 1 0
  unfolding edges_of concat_map
  edges_once u way = go (members g s k) members_distinct
    where
      c : Bool
      c = ltb way (length (successors g u)) && not (starter (get_or (successors g u) way absent))

      none_there : (l : List ℕ) → (In u l → ⊥) → ◌≡◌ {A = ℕ} (choose (mem u l && c) 1 0) 0
      none_there l f = rw (Out→mem u l f) refl

      go : (l : List ℕ) → Distinct l → number (is_edge u way) (edges_out g s) l ≡ choose (mem u l && c) 1 0
      go [] d = refl
      go (y ∷ l) d = number_cons (is_edge u way) (edges_out g s) y l ∙ at (compared u y) (go l d.1)
        where
          at : Compared u y → number (is_edge u way) (edges_out g s) l ≡ choose (mem u l && c) 1 0
              → length (only (is_edge u way) (edges_out g s y)) + number (is_edge u way) (edges_out g s) l ≡ choose ((eqb u y || mem u l) && c) 1 0
          at (same e q) ih =
              let n : number (is_edge u way) (edges_out g s) l ≡ 0 = ih ∙ none_there l (subst (λ z. In z l → ⊥) (sym q) d.0) in
              rw (e, ← q) (omega (arith, n, own_edge starter u way 0 way (omega arith) (successors g u)))
          at (other e q) ih = rw e (omega (arith, ih, other_block starter u way y (λ z. q (sym z)) 0 (successors g y)))

-- ---- every state of any finished grouping

module _ (g : CFG) (a : Closed g) (s : Groups) (G : Grouped g s) (k : ℕ) (h : k < length s.starters) where
  edges_inside : (u t : ℕ) → mem u (members g s k) ≡ true → mem t (in_state_targets g s u) ≡ true → mem t (members g s k) ≡ true
  edges_inside u t i j =
      let o = only_in (λ t. not (mem t s.starters)) (successors g u) t (mem→In t (targets_of (successors g) (λ t. mem t s.starters) u) (subst (λ f. mem t (f u) ≡ true) (in_state g s k) j)) in
      In→mem t (members g s k)
      (inside g a s G k h u t (mem→In u (members g s k) i) o.0 (mem→Out t s.starters (not-true (mem t s.starters) o.1)))

  lowerings_alike : (p : BlockEdge → Bool) → length (only p (lowerings g s k)) ≡ length (only p (edges_of g s k))
  unfolding edges_of
  lowerings_alike p =
      ap (λ l. length (only p l)) (lowerings_in_order g s k)
      ∙ number_alike p (edges_out g s) (order g s k) (members g s k) o.distinct (members_distinct g s k)
      (λ x i. state_member g a s G k h x (o.mine x i)) (λ x i. o.all x (member_state g a s G k h x i))
    where
      o : Placed g s k
      o = placed g a s G k h

  pub placed_by_counts : PlacedByCounts g s k
  placed_by_counts = record {
    same_order = order_by_counts g s k;
    exact = counts_exact g s k;
    once = λ u way. lowerings_alike (is_edge u way) ∙ edges_once g s k u way;
    alike = lowerings_alike;
    inside = edges_inside;
  }

-- and of the grouping of paper 01, every state of every admitted graph
pub table_placed_by_counts : (words : List ℕ) → admitted_graph words ≡ true → (k : ℕ) → k < length (groups (graph_of words)).starters → PlacedByCounts (graph_of words) (groups (graph_of words)) k
table_placed_by_counts words e =
    let a = admitted_closed words e in
    placed_by_counts (graph_of words) a (groups (graph_of words)) (grouped (graph_of words) a)
