-- The steps of the placement code: one more edge counted, one more block passed or placed. Assumes nothing.
use Prim.Native.Nat.{ℕ, zero, suc, ◌+◌, ◌-◌, ◌≤◌, ◌<◌}
use native.Mathlib.Numerals.{add-one}
use native.Mathlib.Omega.{arith}
use native.Mathlib.Decide.{dec_lt}
use mathlib.Core.Bool.{Bool, true, false, not}
use mathlib.Core.Path.{◌≡◌, refl, sym, ◌∙◌, ap, subst}
use mathlib.Core.List.{List, [], ◌∷◌, ◌++◌, append-nil}
use Rattle.std.specs.Prelude.{Some, None, position}
use Rattle.std.specs.List.{position_or_len, refill}
use Rattle.std.proofs.lemmas.Option.{none-some}
use Rattle.std.proofs.lemmas.List.Quantifiers.{position-Some}
use Rattle.std.proofs.lemmas.List.Sums.{fails_before_first}
use mathlib.Core.Logic.{◌⊎◌, inl, inr}
use lib.Dec.{eqb, ltb}
use lib.ListN.{length, get_or, take, drop, set, get_or-eq_default, drop_of_length-le, length-append, length-drop, length-set}
use lib.Seq.{append_snoc, drop-cons, get_or_at, length-take-le, take_at, take_all, drop_at}
use borrow.Author.Tests.{eq-eqb, ne_eqb, ltb-false}
use borrow.Rule.Slice.PartMut.{post_of}
use Rattle.runs.specs.Lists.{up_from, only, keep, first}
use Rattle.runs.proofs.Tests.{true_or_false}
use Rattle.runs.proofs.ListLaws.{up_from_cons, copied_more}
use Rattle.runs.proofs.Sets.{In, Distinct, get_or-any, get_or-in, in_right}
use Rattle.runs.proofs.MembershipLaws.{only_in, in_up_from, distinct_only, distinct_up_from}
use Rattle.fsmd.specs.Layout.{max_blocks, absent}
use Rattle.grouping.specs.Bytes.{edges_in}
use Rattle.placement.specs.Counts.{waiting, lowered, without, blocks_of, run}
use Rattle.placement.specs.PlacementBytes.{marked, of_state, members_from, members_in, placed_in, targets_in, counts_in, is_ready}
use Rattle.placement.proofs.CountLaws.{without_at, waits, waits_on, enough, choice, run_stops, run_on, run_places}
use Rattle.placement.proofs.PlacedOrder.{only_more}
use Rattle.placement.proofs.FreeBlocks.{comes, none_waits, placed_from_blocks}

-- ---- the blocks of a state, one after another

pub record Members (states blocks : List ℕ) (k x : ℕ) : Type 0 where
  pub within : x ≤ length states
  pub few : length blocks ≤ x
  pub rest : members_in states k ≡ blocks ++ members_from states k x (max_blocks - x)

module _ {states blocks : List ℕ} {k x : ℕ} (m : Members states blocks k x) where
  -- the block at x comes next, or not
  members_next : x < max_blocks → members_in states k ≡ blocks ++ keep (of_state states k x) x (members_from states k (x + 1) (max_blocks - (x + 1)))
  members_next l = m.rest ∙ ap (λ (u : List ℕ). blocks ++ only (of_state states k) u) (up_from_cons x max_blocks l)

  module _ (h : x < length states) (l : x < max_blocks) where
    pub members_one : get_or states x 0 ≡ k → Members states (blocks ++ (x ∷ [])) k (x + 1)
    members_one e = record {
      within = omega arith;
      few = omega (arith, m.few, length-append blocks (x ∷ []));
      rest = members_next l ∙ rw (get_or-any states x absent 0 h, eq-eqb (get_or states x 0) k e) (sym (append_snoc blocks x (members_from states k (x + 1) (max_blocks - (x + 1)))));
    }

    pub members_other : (get_or states x 0 ≡ k → ⊥) → Members states blocks k (x + 1)
    members_other f = record {
      within = omega arith;
      few = omega (arith, m.few);
      rest = members_next l ∙ rw (get_or-any states x absent 0 h, ne_eqb (get_or states x 0) k f) refl;
    }

  pub members_all : length states ≤ x → k < max_blocks → blocks ≡ members_in states k
  members_all h l = sym (m.rest ∙ ap (λ (u : List ℕ). blocks ++ u) none_left ∙ append-nil blocks)
    where
      outside : (y : ℕ) → x + 0 ≤ y → of_state states k y ≡ false
      outside y g =
          let e : get_or states y absent ≡ absent = get_or-eq_default states absent {n = y} (omega arith) in
          rw (e, ne_eqb absent k (λ (f : absent ≡ k). absurd (omega arith))) refl

      none_left : members_from states k x (max_blocks - x) ≡ []
      none_left = let e : max_blocks - x ≡ 0 + (max_blocks - x) = omega arith in rw e (only_more (of_state states k) x 0 (max_blocks - x) outside)

-- they are blocks
pub members_low : (states : List ℕ) (k x : ℕ) → In x (members_in states k) → x < max_blocks
members_low states k x i = omega (arith, (in_up_from 0 max_blocks x (only_in (of_state states k) (up_from 0 max_blocks) x i).0).1)

-- ---- the first block that waits for no edge

pub first_at : (p : ℕ → Bool) (l : List ℕ) (i : ℕ) → position p l ≡ Some i → (i < length l) × (first p l ≡ Some (get_or l i 0))
first_at p l i e = let q = position-Some p l i 0 e in (q.0, go l i q.0 q.1 q.2)
  where
    go : (l : List ℕ) (i : ℕ) → i < length l → p (get_or l i 0) ≡ true → ((k : ℕ) → k < i → p (get_or l k 0) ≡ false) → first p l ≡ Some (get_or l i 0)
    go [] i h t f = absurd (omega arith)
    go (x ∷ l) zero h t f = rw t refl
    go (x ∷ l) (suc i) h t f = rw (f 0 (omega arith)) (go l i (omega arith) t (λ k g. f (suc k) (omega arith)))

pub first_nowhere : (p : ℕ → Bool) (l : List ℕ) → position p l ≡ None → first p l ≡ None
first_nowhere p l e = go (true_or_false (ltb (position_or_len p l) (length l)))
  where
    none : (l : List ℕ) → ((k : ℕ) → k < length l → p (get_or l k 0) ≡ false) → first p l ≡ None
    none [] f = refl
    none (x ∷ l) f = rw (f 0 (omega arith)) (none l (λ k h. f (suc k) (omega arith)))

    go : (ltb (position_or_len p l) (length l) ≡ true) ⊎ (ltb (position_or_len p l) (length l) ≡ false) → first p l ≡ None
    go (inl t) = absurd (none-some (position_or_len p l) (sym e ∙ rw t refl))
    go (inr t) = let h = ltb-false (position_or_len p l) (length l) t in none l (λ k g. fails_before_first p l k 0 (omega arith))

-- ---- a block comes to the front

-- the places passed hold the block and then those before them
pub record Moving (old : List ℕ) (i : ℕ) (left : List ℕ) (carried j : ℕ) : Type 0 where
  pub size : length left ≡ length old
  pub within : j ≤ i + 1
  pub moved : left ≡ take j (get_or old i 0 ∷ old) ++ drop j old
  pub next : carried ≡ get_or (get_or old i 0 ∷ old) j 0

pub moving_begins : (old : List ℕ) (i : ℕ) → Moving old i old (get_or old i 0) 0
moving_begins old i = record { size = refl; within = omega arith; moved = refl; next = refl }

module _ {old : List ℕ} {i : ℕ} {left : List ℕ} {carried j : ℕ} (m : Moving old i left carried j) where
  pub moving_on : i < length old → j ≤ i → Moving old i (set left j carried) (get_or left j 0) (j + 1)
  moving_on h l = record {
    size = length-set left j carried ∙ m.size;
    within = omega arith;
    moved = ap (set left j) m.next ∙ ap (λ v. set v j (get_or new j 0)) m.moved ∙ copied_more old new j (omega arith) (omega arith);
    next = ap (λ v. get_or v j 0) (m.moved ∙ ap (λ v. take j new ++ v) (drop-cons old j 0 (omega arith)))
        ∙ (get_or_at (take j new) (get_or old j 0) (drop (suc j) old) 0 j (length-take-le j new (omega arith)) ∙ rw add-one refl);
  }
    where
      new : List ℕ
      new = get_or old i 0 ∷ old

  pub moving_done : i < j → left ≡ get_or old i 0 ∷ (take i old ++ drop (i + 1) old)
  moving_done l = let e : j ≡ suc i = omega (arith, m.within) in m.moved ∙ rw (e, add-one) refl

-- ---- one more block placed

-- what is placed so far and what the counts choose of those left are the whole
pub record Placing (targets : ℕ → List ℕ) (whole front left counts : List ℕ) (rounds : ℕ) : Type 0 where
  pub distinct : Distinct left
  pub exact : counts_in counts ≡ waits targets left
  pub rest : whole ≡ front ++ blocks_of (run targets rounds left)

module _ {targets : ℕ → List ℕ} {whole front left counts : List ℕ} {rounds : ℕ} (p : Placing targets whole front left counts rounds) where
  choice_is : first (is_ready counts) left ≡ choice targets left
  choice_is = ap (λ (f : ℕ → ℕ). first (λ x. eqb (f x) 0) left) p.exact

  pub placing_stops : first (is_ready counts) left ≡ None → front ≡ whole
  placing_stops e =
      sym (p.rest ∙ ap (λ l. front ++ blocks_of l) (run_stops targets rounds left (sym choice_is ∙ e)) ∙ append-nil front)

  module _ (i : ℕ) (h : i < length left) where
    -- the counts are high enough for the block's edges to lower them
    pub placing_enough : (x : ℕ) → waiting (targets (get_or left i 0)) x ≤ counts_in counts x
    placing_enough x = omega (arith, ap (λ f. f x) p.exact, enough targets (get_or left i 0) left p.distinct (get_or-in left i 0 h) x)

    pub placing_on : first (is_ready counts) left ≡ Some (get_or left i 0) → (lower : List ℕ) → counts_in lower ≡ lowered (targets (get_or left i 0)) (counts_in counts)
        → (m : ℕ) → rounds ≡ suc m → Placing targets whole (front ++ (get_or left i 0 ∷ [])) (take i left ++ drop (i + 1) left) lower m
    placing_on e lower w m t = rw (← others) (record {
      distinct = distinct_only (λ y. not (eqb y (get_or left i 0))) left p.distinct;
      exact = w ∙ ap (lowered (targets (get_or left i 0))) p.exact ∙ waits_on targets (get_or left i 0) left p.distinct (get_or-in left i 0 h);
      rest = p.rest ∙ rw (t, run_on targets m left (get_or left i 0) p.distinct (sym choice_is ∙ e)) (sym (append_snoc front (get_or left i 0) (blocks_of (run targets m (without (get_or left i 0) left)))));
    })
      where
        others : without (get_or left i 0) left ≡ take i left ++ drop (i + 1) left
        others = rw add-one (without_at left i p.distinct h)

-- the same, where they stand in one list, and the first `count` are placed
pub record PlacingIn (edges : List (List ℕ)) (starts : List Bool) (states : List ℕ) (k : ℕ) (blocks counts : List ℕ) (count : ℕ) : Type 0 where
  pub few : length blocks ≤ max_blocks
  pub within : count ≤ length blocks
  pub placing : Placing (targets_in edges starts) (placed_in edges starts (members_in states k) max_blocks []) (take count blocks) (drop count blocks) counts (max_blocks - count)

pub placing_begins : (edges : List (List ℕ)) (starts : List Bool) (states : List ℕ) (k : ℕ) (blocks counts : List ℕ) → length blocks ≤ max_blocks → blocks ≡ members_in states k
    → counts_in counts ≡ waits (targets_in edges starts) blocks → PlacingIn edges starts states k blocks counts 0
unfolding placed_in
placing_begins edges starts states k blocks counts f e w = record {
  few = f;
  within = omega arith;
  placing = record {
    distinct = rw e distinct;
    exact = w;
    rest = rw e (sym (run_places (edges_in edges) (marked starts) (members_in states k) distinct (placed_in edges starts (members_in states k)) (λ placed. refl) (λ n placed. refl) max_blocks));
  };
}
  where
    distinct : Distinct (members_in states k)
    distinct = distinct_only (of_state states k) (up_from 0 max_blocks) (distinct_up_from 0 max_blocks)

module _ {edges : List (List ℕ)} {starts : List Bool} {states : List ℕ} {k : ℕ} {blocks counts : List ℕ} {count : ℕ} (p : PlacingIn edges starts states k blocks counts count) where
  -- no block left is ready
  pub stops_in : position (is_ready counts) (drop count blocks) ≡ None → take count blocks ≡ placed_in edges starts (members_in states k) max_blocks []
  stops_in e = placing_stops p.placing (first_nowhere (is_ready counts) (drop count blocks) e)

  -- each block left is low
  pub left_low : (x : ℕ) → In x (drop count blocks) → x < max_blocks
  left_low x i = go (dec_lt x max_blocks)
    where
      go : Dec (x < max_blocks) → x < max_blocks
      go (yes h) = h
      go (no h) = members_low states k x (placed_from_blocks edges starts (members_in states k) max_blocks [] x placed)
        where
          chosen : In x (blocks_of (run (targets_in edges starts) (max_blocks - count) (drop count blocks)))
          chosen = comes (targets_in edges starts) x (none_waits edges starts x (omega arith)) (max_blocks - count) (drop count blocks) p.placing.distinct (omega (arith, length-drop count blocks, p.few)) i

          placed : In x (placed_in edges starts (members_in states k) max_blocks [])
          placed = subst (In x) (sym p.placing.rest) (in_right x (take count blocks) (blocks_of (run (targets_in edges starts) (max_blocks - count) (drop count blocks))) chosen)

  -- the block at i of those left is chosen, and brought to their front
  module _ (i : ℕ) (chosen : position (is_ready counts) (drop count blocks) ≡ Some i) {part : List ℕ}
      (moved : part ≡ get_or (drop count blocks) i 0 ∷ (take i (drop count blocks) ++ drop (i + 1) (drop count blocks))) where
    abbrev old : List ℕ
    old = drop count blocks

    abbrev others : List ℕ
    others = take i old ++ drop (i + 1) old

    at : (i < length old) × (first (is_ready counts) old ≡ Some (get_or old i 0))
    at = first_at (is_ready counts) old i chosen

    pub chosen_low : get_or part 0 0 < max_blocks
    chosen_low = rw moved (left_low (get_or old i 0) (get_or-in old i 0 at.0))

    pub enough_in : (x : ℕ) → waiting (targets_in edges starts (get_or part 0 0)) x ≤ counts_in counts x
    enough_in = rw moved (placing_enough p.placing i at.0)

    others_length : length others + 1 ≡ length old
    others_length = omega (arith, length-append (take i old) (drop (i + 1) old), length-take-le i old (omega (arith, at.0)), length-drop (i + 1) old, at.0)

    front_length : length (take count blocks) ≡ count
    front_length = length-take-le count blocks p.within

    pub on_in : (new : List ℕ) → new ≡ take count blocks ++ part → (lower : List ℕ) → counts_in lower ≡ lowered (targets_in edges starts (get_or part 0 0)) (counts_in counts)
        → PlacingIn edges starts states k new lower (count + 1)
    on_in new is lower w = record {
      few = omega (arith, new_length, p.few);
      within = omega (arith, new_length, length-drop count blocks, at.0);
      placing = rw (new_front, new_left) (placing_on p.placing i at.0 at.1 lower (rw moved at w) (max_blocks - (count + 1)) (omega (arith, length-drop count blocks, p.few, at.0)));
    }
      where
        front : List ℕ
        front = take count blocks ++ (get_or old i 0 ∷ [])

        front_is : length front ≡ count + 1
        front_is = length-append (take count blocks) (get_or old i 0 ∷ []) ∙ rw front_length refl

        split : new ≡ front ++ others
        split = is ∙ ap (λ (l : List ℕ). take count blocks ++ l) moved ∙ sym (append_snoc (take count blocks) (get_or old i 0) others)

        new_length : length new ≡ length blocks
        new_length = omega (arith, ap length split, length-append front others, front_is, others_length, length-drop count blocks, p.within)

        new_front : take (count + 1) new ≡ front
        new_front = ap (take (count + 1)) split ∙ take_at front others (count + 1) front_is

        new_left : drop (count + 1) new ≡ others
        new_left = ap (drop (count + 1)) split ∙ drop_at front others (count + 1) front_is

-- what a write of the elements from `count` on leaves
pub written : (blocks lent part : List ℕ) (count : ℕ) → lent ≡ blocks → count ≤ length blocks → length part ≡ length blocks - count
    → refill (length blocks) blocks (take count lent ++ (part ++ post_of count (length lent - count) lent)) ≡ take count blocks ++ part
written blocks lent part count e h n =
    rw (e, none) (ap (λ (l : List ℕ). refill (length blocks) blocks (take count blocks ++ l)) (append-nil part) ∙ take_at (take count blocks ++ part) (drop (length (take count blocks ++ part)) blocks) (length blocks) whole)
  where
    none : post_of count (length blocks - count) blocks ≡ []
    none = drop_of_length-le (drop count blocks) (omega (arith, length-drop count blocks))

    whole : length (take count blocks ++ part) ≡ length blocks
    whole = omega (arith, length-append (take count blocks) part, length-take-le count blocks h, n)

-- the elements from `count` on
pub tail_of : (lent blocks : List ℕ) (count : ℕ) → lent ≡ blocks → take (length lent - count) (drop count lent) ≡ drop count blocks
tail_of lent blocks count e = rw e (take_all (length blocks - count) (drop count blocks) (omega (arith, length-drop count blocks)))
