-- Placing by counts, for any targets: each count is the number of edges still waiting, and the order is that of readiness. Assumes nothing.
use Prim.Native.Nat.{ℕ, zero, suc, ◌+◌, ◌-◌, ◌≤◌, ◌<◌}
use native.Mathlib.Omega.{arith}
use mathlib.Core.Bool.{Bool, true, false, not, ◌&&◌, ◌||◌, false≢true}
use mathlib.Core.Logic.{◌⊎◌, inl, inr}
use mathlib.Core.Path.{◌≡◌, refl, sym, ◌∙◌, ap, subst, fun_ext}
use mathlib.Core.List.{List, [], ◌∷◌, ◌++◌}
use Rattle.std.specs.Prelude.{Option, Some, None}
use lib.ListN.{length, get_or, take, drop, length-append}
use lib.Dec.{eqb}
use borrow.Author.Tests.{eq-eqb, ne_eqb}
use Rattle.runs.specs.Lists.{mem, only, keep, or_else, every, first, concat_map}
use Rattle.runs.proofs.Tests.{Compared, same, other, compared}
use Rattle.runs.proofs.ListLaws.{only_append}
use Rattle.runs.proofs.Sets.{In, Distinct, Subset, get_or-in}
use Rattle.runs.proofs.MembershipLaws.{only_in, in_only, distinct_only, first_some}
use Rattle.word.specs.Word.{choose}
use Rattle.placement.specs.Placement.{place_next}
use Rattle.placement.specs.Counts.{waiting, lowered, without, Choice, blocks_of, choose_next, choices, run, Exact, Each}

-- ---- one block less

without_other : (x : ℕ) (l : List ℕ) → (In x l → ⊥) → without x l ≡ l
without_other x [] f = refl
without_other x (y ∷ l) f =
    rw (ne_eqb y x (λ (e : y ≡ x). f (inl (sym e))), without_other x l (λ i. f (inr i))) refl

module _ {A : Type 0} (p : A → Bool) where
  pub number_append : (xs ys : List A) → length (only p (xs ++ ys)) ≡ length (only p xs) + length (only p ys)
  number_append xs ys = ap length (only_append p xs ys) ∙ length-append (only p xs) (only p ys)

-- the block at i taken out
pub without_at : (l : List ℕ) (i : ℕ) → Distinct l → i < length l → without (get_or l i 0) l ≡ take i l ++ drop (suc i) l
without_at [] i d h = absurd (omega arith)
without_at (y ∷ l) zero d h = rw (eq-eqb y y refl) (without_other y l d.0)
without_at (y ∷ l) (suc i) d h =
    rw (ne_eqb y (get_or l i 0) (λ (e : y ≡ get_or l i 0). d.0 (subst (λ z. In z l) (sym e) (get_or-in l i 0 (omega arith))))) (ap (λ m. y ∷ m) (without_at l i d.1 (omega arith)))

-- how many pass a test, of all that the blocks of a list have
module _ {A : Type 0} (p : A → Bool) (f : ℕ → List A) where
  abbrev pub number : List ℕ → ℕ
  number l = length (only p (concat_map f l))

  pub number_cons : (x : ℕ) (l : List ℕ) → number (x ∷ l) ≡ length (only p (f x)) + number l
  unfolding concat_map
  number_cons x l = number_append p (f x) (concat_map f l)

  pub number_without : (x : ℕ) (l : List ℕ) → Distinct l → In x l → number l ≡ length (only p (f x)) + number (without x l)
  number_without x [] d i = absurd i
  number_without x (y ∷ l) d i = go (compared y x) i (number_without x l d.1)
    where
      go : Compared y x → (x ≡ y) ⊎ In x l → (In x l → number l ≡ length (only p (f x)) + number (without x l))
          → number (y ∷ l) ≡ length (only p (f x)) + number (without x (y ∷ l))
      go (same e q) i ih = rw (e, without_other x l (subst (λ z. In z l → ⊥) q d.0), q) (number_cons x l)
      go (other e q) (inl r) ih = absurd (q (sym r))
      go (other e q) (inr j) ih = rw e (omega (arith, ih j, number_cons y l, number_cons y (without x l)))

  -- two lists of the same blocks, none twice
  pub number_alike : (l m : List ℕ) → Distinct l → Distinct m → Subset l m → Subset m l → number l ≡ number m
  number_alike [] [] d e i j = refl
  number_alike [] (y ∷ m) d e i j = absurd (j y (inl refl))
  number_alike (x ∷ l) m d e i j =
      number_cons x l ∙ ap (λ n. length (only p (f x)) + n) (number_alike l (without x m) d.1 (distinct_only (λ y. not (eqb y x)) m e) into back)
      ∙ sym (number_without x m e (i x (inl refl)))
    where
      into : Subset l (without x m)
      into z a =
          in_only (λ y. not (eqb y x)) m z (i z (inr a)) (ap not (ne_eqb z x (λ (q : z ≡ x). d.0 (subst (λ w. In w l) q a))))

      back : Subset (without x m) l
      back z a = go (j z o.0)
        where
          o : In z m × (not (eqb z x) ≡ true)
          o = only_in (λ y. not (eqb y x)) m z a

          go : (z ≡ x) ⊎ In z l → In z l
          go (inr b) = b
          go (inl q) = absurd (false≢true (sym (ap not (eq-eqb z x q)) ∙ o.1))

-- ---- the counts are the edges still waiting

pub lowered_is : (l : List ℕ) (counts : ℕ → ℕ) (x : ℕ) → lowered l counts x ≡ counts x - waiting l x
unfolding lowered
lowered_is [] counts x = omega arith
lowered_is (t ∷ l) counts x = lowered_is l (λ y. choose (eqb y t) (counts y - 1) (counts y)) x ∙ go (eqb x t)
  where
    go : (b : Bool) → choose b (counts x - 1) (counts x) - waiting l x ≡ counts x - length (keep b t (only (eqb x) l))
    go true = omega arith
    go false = refl

pub lowered_append : (l m : List ℕ) (counts : ℕ → ℕ) → lowered (l ++ m) counts ≡ lowered m (lowered l counts)
unfolding lowered
lowered_append [] m counts = refl
lowered_append (t ∷ l) m counts = lowered_append l m (λ y. choose (eqb y t) (counts y - 1) (counts y))

module _ (targets : ℕ → List ℕ) where
  -- the edges from the blocks of a list
  abbrev pub waits : List ℕ → ℕ → ℕ
  waits l = waiting (concat_map targets l)

  pub waits_on : (x : ℕ) (l : List ℕ) → Distinct l → In x l → lowered (targets x) (waits l) ≡ waits (without x l)
  waits_on x l d i = fun_ext λ y. omega (arith, lowered_is (targets x) (waits l) y, number_without (eqb y) targets x l d i)

  pub enough : (x : ℕ) (l : List ℕ) → Distinct l → In x l → (y : ℕ) → waiting (targets x) y ≤ waits l y
  enough x l d i y = omega (arith, number_without (eqb y) targets x l d i)

  -- the block that is chosen next
  abbrev pub choice : List ℕ → Option ℕ
  choice l = first (λ x. eqb (waits l x) 0) l

  chosen_in : (l : List ℕ) (x : ℕ) → choice l ≡ Some x → In x l
  chosen_in l x e = (first_some (λ x. eqb (waits l x) 0) l x e).0

  run_ends : (l : List ℕ) → run targets zero l ≡ []
  unfolding run choices
  run_ends l = refl

  -- the choice of a block, and those after it
  abbrev then : ℕ → List ℕ → ℕ → List Choice
  then n l x = record { unplaced = l; counts = waits l; block = x } ∷ choices targets n (without x l) (lowered (targets x) (waits l))

  pub run_stops : (n : ℕ) (l : List ℕ) → choice l ≡ None → run targets n l ≡ []
  unfolding run choices
  run_stops zero l e = refl
  run_stops (suc n) l e = ap (λ (o : Option ℕ). choose_next o (then n l)) e

  pub run_on : (n : ℕ) (l : List ℕ) (x : ℕ) → Distinct l → choice l ≡ Some x
      → run targets (suc n) l ≡ record { unplaced = l; counts = waits l; block = x } ∷ run targets n (without x l)
  unfolding run choices
  run_on n l x d e =
      ap (λ (o : Option ℕ). choose_next o (then n l)) e
      ∙ ap (λ c. record { unplaced = l; counts = waits l; block = x } ∷ choices targets n (without x l) c) (waits_on x l d (chosen_in l x e))

  pub run_exact : (n : ℕ) (l : List ℕ) → Distinct l → Each (Exact targets) (run targets n l)
  run_exact zero l d = rw (run_ends l) tt
  run_exact (suc n) l d = go (choice l) refl (run_exact n)
    where
      go : (o : Option ℕ) → choice l ≡ o → ((m : List ℕ) → Distinct m → Each (Exact targets) (run targets n m)) → Each (Exact targets) (run targets (suc n) l)
      go None e ih = rw (run_stops (suc n) l e) tt
      go (Some x) e ih =
          rw (run_on n l x d e)
          (record { number = λ y. refl; enough = enough x l d (chosen_in l x e) }, ih (without x l) (distinct_only (λ y. not (eqb y x)) l d))

-- ---- a count of 0, and readiness

sum_zero : (a b : ℕ) → eqb (a + b) 0 ≡ eqb a 0 && eqb b 0
sum_zero a b = go (compared a 0) (compared b 0)
  where
    go : Compared a 0 → Compared b 0 → eqb (a + b) 0 ≡ eqb a 0 && eqb b 0
    go (same e p) (same f q) = rw (e, f) (eq-eqb (a + b) 0 (omega arith))
    go (same e p) (other f q) = rw (e, f) (ne_eqb (a + b) 0 (λ (h : a + b ≡ 0). q (omega arith)))
    go (other e p) c = rw e (ne_eqb (a + b) 0 (λ (h : a + b ≡ 0). p (omega arith)))

-- ---- those still to place

abbrev unplaced : List ℕ → List ℕ → List ℕ
unplaced blocks placed = only (λ x. not (mem x placed)) blocks

pub only_only : (p q r : ℕ → Bool) → ((y : ℕ) → q y && p y ≡ r y) → (l : List ℕ) → only p (only q l) ≡ only r l
only_only p q r h [] = refl
only_only p q r h (y ∷ l) = rw (← (h y), ← (only_only p q r h l)) (go (q y))
  where
    go : (b : Bool) → only p (keep b y (only q l)) ≡ keep (b && p y) y (only p (only q l))
    go true = refl
    go false = refl

first_only : (q p f : ℕ → Bool) → ((u : ℕ) → f u ≡ q u && p u) → (l : List ℕ) → first f l ≡ first p (only q l)
first_only q p f h [] = refl
first_only q p f h (u ∷ l) = rw (h u, first_only q p f h l) (go (q u))
  where
    go : (a : Bool) → or_else (a && p u) u (first p (only q l)) ≡ first p (keep a u (only q l))
    go true = refl
    go false = refl

module _ (blocks placed : List ℕ) where
  unplaced_on : (x : ℕ) → without x (unplaced blocks placed) ≡ unplaced blocks (x ∷ placed)
  unplaced_on x =
      only_only (λ y. not (eqb y x)) (λ y. not (mem y placed)) (λ y. not (mem y (x ∷ placed))) (λ y. go (mem y placed) (eqb y x)) blocks
    where
      go : (a b : Bool) → not a && not b ≡ not (b || a)
      go true true = refl
      go true false = refl
      go false true = refl
      go false false = refl

unplaced_all : (blocks : List ℕ) → unplaced blocks [] ≡ blocks
unplaced_all [] = refl
unplaced_all (x ∷ blocks) = ap (λ l. x ∷ l) (unplaced_all blocks)

every_unplaced : (m : ℕ → Bool) (placed blocks : List ℕ) → every (λ u. not (m u)) (unplaced blocks placed) ≡ every (λ u. not (m u) || mem u placed) blocks
every_unplaced m placed [] = refl
every_unplaced m placed (u ∷ blocks) = rw (← (every_unplaced m placed blocks)) (go (mem u placed))
  where
    rest : Bool
    rest = every (λ u. not (m u)) (unplaced blocks placed)

    gone : (b : Bool) → rest ≡ (b || true) && rest
    gone true = refl
    gone false = refl

    left : (b : Bool) → b && rest ≡ (b || false) && rest
    left true = refl
    left false = refl

    go : (a : Bool) → every (λ u. not (m u)) (keep (not a) u (unplaced blocks placed)) ≡ (not (m u) || a) && rest
    go true = gone (not (m u))
    go false = left (not (m u))

-- the successors of a block that are no starters
abbrev pub targets_of : (ℕ → List ℕ) → (ℕ → Bool) → ℕ → List ℕ
targets_of to starter u = only (λ t. not (starter t)) (to u)

module _ (to : ℕ → List ℕ) (starter : ℕ → Bool) where
  no_edge : (x : ℕ) (l : List ℕ) → eqb (waiting (only (λ t. not (starter t)) l) x) 0 ≡ starter x || not (mem x l)
  no_edge x [] = go (starter x)
    where
      go : (b : Bool) → true ≡ b || true
      go true = refl
      go false = refl
  no_edge x (t ∷ l) = go (compared x t) (starter t) refl (no_edge x l)
    where
      go : Compared x t → (b : Bool) → starter t ≡ b → eqb (waiting (only (λ t. not (starter t)) l) x) 0 ≡ starter x || not (mem x l)
          → eqb (waiting (keep (not b) t (only (λ t. not (starter t)) l)) x) 0 ≡ starter x || not (eqb x t || mem x l)
      go (same e p) true h ih = let s : starter x ≡ true = ap starter p ∙ h in ih ∙ rw s refl
      go (same e p) false h ih = let s : starter x ≡ false = ap starter p ∙ h in rw (e, s) (ne_eqb (suc (waiting (only (λ t. not (starter t)) l) x)) 0 (λ (z : suc (waiting (only (λ t. not (starter t)) l) x) ≡ 0). omega arith))
      go (other e p) true h ih = rw e ih
      go (other e p) false h ih = rw e ih

  no_edges : (x : ℕ) (l : List ℕ) → eqb (waits (targets_of to starter) l x) 0 ≡ starter x || every (λ u. not (mem x (to u))) l
  unfolding concat_map
  no_edges x [] = no_edge x []
  no_edges x (u ∷ l) =
      ap (λ n. eqb n 0) (number_append (eqb x) (targets_of to starter u) (concat_map (targets_of to starter) l))
      ∙ sum_zero (waiting (targets_of to starter u) x) (waits (targets_of to starter) l x)
      ∙ rw (no_edge x (to u), no_edges x l) (go (starter x) (mem x (to u)) (every (λ u. not (mem x (to u))) l))
    where
      go : (a b c : Bool) → (a || not b) && (a || c) ≡ a || (not b && c)
      go true b c = refl
      go false b c = refl

  -- a placement that always takes the first block that is ready takes the blocks that the counts choose
  module _ (blocks : List ℕ) (d : Distinct blocks) (whole : ℕ → List ℕ → List ℕ) (stop : (placed : List ℕ) → whole zero placed ≡ [])
      (round : (n : ℕ) (placed : List ℕ) → whole (suc n) placed ≡ place_next (first (λ x. not (mem x placed) && (starter x || every (λ u. not (mem x (to u)) || mem u placed) blocks)) blocks) (λ x. whole n (x ∷ placed))) where
    same_choice : (placed : List ℕ)
        → first (λ x. not (mem x placed) && (starter x || every (λ u. not (mem x (to u)) || mem u placed) blocks)) blocks ≡ choice (targets_of to starter) (unplaced blocks placed)
    same_choice placed =
        first_only (λ x. not (mem x placed)) (λ x. eqb (waits (targets_of to starter) (unplaced blocks placed) x) 0)
        (λ x. not (mem x placed) && (starter x || every (λ u. not (mem x (to u)) || mem u placed) blocks)) ready blocks
      where
        ready : (x : ℕ) → (not (mem x placed) && (starter x || every (λ u. not (mem x (to u)) || mem u placed) blocks)) ≡ (not (mem x placed) && eqb (waits (targets_of to starter) (unplaced blocks placed) x) 0)
        ready x = rw (no_edges x (unplaced blocks placed), every_unplaced (λ u. mem x (to u)) placed blocks) refl

    by_counts : (n : ℕ) (placed : List ℕ) → blocks_of (run (targets_of to starter) n (unplaced blocks placed)) ≡ whole n placed
    by_counts zero placed = ap blocks_of (run_ends (targets_of to starter) (unplaced blocks placed)) ∙ sym (stop placed)
    by_counts (suc n) placed = go (choice (targets_of to starter) (unplaced blocks placed)) refl (by_counts n)
      where
        go : (o : Option ℕ) → choice (targets_of to starter) (unplaced blocks placed) ≡ o
            → ((q : List ℕ) → blocks_of (run (targets_of to starter) n (unplaced blocks q)) ≡ whole n q)
            → blocks_of (run (targets_of to starter) (suc n) (unplaced blocks placed)) ≡ whole (suc n) placed
        go None e ih = rw (run_stops (targets_of to starter) (suc n) (unplaced blocks placed) e, round n placed, same_choice placed, e) refl
        go (Some x) e ih =
            rw (run_on (targets_of to starter) n (unplaced blocks placed) x (distinct_only (λ x. not (mem x placed)) blocks d) e, round n placed, same_choice placed, e, unplaced_on blocks placed x, ih (x ∷ placed)) refl

    pub run_places : (n : ℕ) → blocks_of (run (targets_of to starter) n blocks) ≡ whole n []
    run_places n = ap (λ (l : List ℕ). blocks_of (run (targets_of to starter) n l)) (sym (unplaced_all blocks)) ∙ by_counts n []
