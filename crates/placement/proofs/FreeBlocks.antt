-- A block that no edge leads to is placed, as one past the last would be. Assumes nothing.
use Prim.Native.Nat.{ℕ, zero, suc, ◌≤◌}
use native.Mathlib.Omega.{arith}
use mathlib.Core.Bool.{Bool, true, false, not, true≢false, false≢true}
use mathlib.Core.Logic.{◌⊎◌, inl, inr}
use mathlib.Core.Path.{◌≡◌, refl, sym, ◌∙◌, ap, subst}
use mathlib.Core.List.{List, [], ◌∷◌}
use Rattle.std.specs.Prelude.{Option, Some, None}
use lib.Dec.{eqb}
use lib.ListN.{length, get_or}
use borrow.Author.Tests.{eq-eqb, ne_eqb}
use Rattle.runs.specs.Lists.{mem, keep, first, concat_map}
use Rattle.runs.proofs.Tests.{Compared, same, other, compared}
use Rattle.runs.proofs.Sets.{In, Distinct, pigeonhole}
use Rattle.runs.proofs.MembershipLaws.{only_in, in_only, distinct_only, first_some, first_none}
use Rattle.fsmd.specs.Layout.{max_blocks}
use Rattle.grouping.specs.Bytes.{row}
use Rattle.placement.specs.Placement.{place_next}
use Rattle.placement.specs.Counts.{waiting, without, blocks_of, run}
use Rattle.placement.specs.PlacementBytes.{next_in, placed_in, awaited, target_in, targets_in}
use Rattle.placement.proofs.CountLaws.{number_append, number_cons, waits, choice, run_on}
use Rattle.placement.proofs.CountSteps.{targets_two, awaited_below}

-- a block that no edge leads to is chosen, where there are rounds for all
module _ (targets : ℕ → List ℕ) (x : ℕ) (free : (l : List ℕ) → waits targets l x ≡ 0) where
  pub comes : (n : ℕ) (l : List ℕ) → Distinct l → length l ≤ n → In x l → In x (blocks_of (run targets n l))
  comes n [] d h i = absurd i
  comes zero (y ∷ l) d h i = absurd (omega arith)
  comes (suc n) (y ∷ l) d h i = go (choice targets (y ∷ l)) refl (comes n)
    where
      go : (o : Option ℕ) → choice targets (y ∷ l) ≡ o → ((m : List ℕ) → Distinct m → length m ≤ n → In x m → In x (blocks_of (run targets n m))) → In x (blocks_of (run targets (suc n) (y ∷ l)))
      go None e ih = absurd (true≢false (sym (eq-eqb (waits targets (y ∷ l) x) 0 (free (y ∷ l))) ∙ first_none (λ z. eqb (waits targets (y ∷ l) z) 0) (y ∷ l) e x i))
      go (Some z) e ih = rw (run_on targets n (y ∷ l) z d e) (by (compared x z))
        where
          less : List ℕ
          less = without z (y ∷ l)

          out : In z less → ⊥
          out j = false≢true (rw (eq-eqb z z refl) at (only_in (λ w. not (eqb w z)) (y ∷ l) z j).1)

          fewer : length (z ∷ less) ≤ length (y ∷ l)
          fewer = pigeonhole (z ∷ less) (y ∷ l) (out, distinct_only (λ w. not (eqb w z)) (y ∷ l) d) sub
            where
              sub : (w : ℕ) → (w ≡ z) ⊎ In w less → In w (y ∷ l)
              sub w (inl q) = subst (λ v. In v (y ∷ l)) (sym q) (first_some (λ v. eqb (waits targets (y ∷ l) v) 0) (y ∷ l) z e).0
              sub w (inr j) = (only_in (λ v. not (eqb v z)) (y ∷ l) w j).0

          by : Compared x z → (x ≡ z) ⊎ In x (blocks_of (run targets n (without z (y ∷ l))))
          by (same f q) = inl q
          by (other f q) = inr (ih less (distinct_only (λ w. not (eqb w z)) (y ∷ l) d) (omega (arith, fewer, h)) (in_only (λ w. not (eqb w z)) (y ∷ l) x i (rw f refl)))

-- no edge leads to a block past the last
module _ (edges : List (List ℕ)) (starts : List Bool) (x : ℕ) (high : max_blocks ≤ x) where
  none_to : (t : ℕ) → waiting (target_in starts t) x ≡ 0
  none_to t = go (awaited starts t) refl
    where
      go : (b : Bool) → awaited starts t ≡ b → waiting (keep b t []) x ≡ 0
      go true e = rw (ne_eqb x t (λ (q : x ≡ t). omega (arith, awaited_below starts t e))) refl
      go false e = refl

  pub none_waits : (l : List ℕ) → waits (targets_in edges starts) l x ≡ 0
  unfolding concat_map
  none_waits [] = refl
  none_waits (u ∷ l) = omega (
    arith,
    number_cons (eqb x) (targets_in edges starts) u l,
    none_waits l,
    ap (λ (m : List ℕ). waiting m x) (targets_two edges starts u),
    number_append (eqb x) (target_in starts (get_or (row edges u) 0 0)) (target_in starts (get_or (row edges u) 1 0)),
    none_to (get_or (row edges u) 0 0),
    none_to (get_or (row edges u) 1 0),
  )

-- what is placed is one of the blocks
pub placed_from_blocks : (edges : List (List ℕ)) (starts : List Bool) (blocks : List ℕ) (n : ℕ) (placed : List ℕ) (x : ℕ) → In x (placed_in edges starts blocks n placed) → In x blocks
unfolding placed_in
placed_from_blocks edges starts blocks zero placed x i = absurd i
placed_from_blocks edges starts blocks (suc n) placed x i = go (first (next_in edges starts blocks (λ y. mem y placed)) blocks) refl i (λ y. placed_from_blocks edges starts blocks n (y ∷ placed) x)
  where
    go : (o : Option ℕ) → first (next_in edges starts blocks (λ y. mem y placed)) blocks ≡ o → In x (place_next o (λ y. placed_in edges starts blocks n (y ∷ placed)))
        → ((y : ℕ) → In x (placed_in edges starts blocks n (y ∷ placed)) → In x blocks) → In x blocks
    go None e i more = absurd i
    go (Some y) e (inl f) more = subst (λ z. In z blocks) (sym f) (first_some (next_in edges starts blocks (λ y. mem y placed)) blocks y e).0
    go (Some y) e (inr i) more = more y i
