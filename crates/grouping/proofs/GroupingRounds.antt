-- The rounds of grouping: what holds at the head of each, and what the last one answers. Assumes nothing.
use Prim.Native.Nat.{ℕ, zero, suc, ◌+◌, ◌≤◌, ◌<◌}
use mathlib.Core.Logic.{◌⊎◌, inl, inr}
use mathlib.Core.Path.{◌≡◌, refl, sym, ◌∙◌, ap, subst}
use mathlib.Core.List.{List, [], ◌∷◌, ◌++◌}
use native.Mathlib.Omega.{arith}
use lib.ListN.{length, length-append}
use Rattle.std.specs.Prelude.{Some, None}
use Rattle.std.proofs.lemmas.Option.{none-some, same_Some}
use Rattle.runs.specs.Lists.{padded}
use Rattle.runs.proofs.Sets.{In, Distinct, Out→mem, in_left, in_append, distinct_snoc, distinct_below}
use Rattle.cfg.specs.Layout.{max_blocks}
use Rattle.cfg.specs.Graph.{CFG, successors}
use Rattle.fsmd.specs.Layout.{absent}
use Rattle.grouping.specs.Grouping.{loops, populate, Detection, visited, illegal_to, detect, Groups, regroup, groups}
use Rattle.grouping.specs.Bytes.{edges_in, with_starter, loop_starters, population, detected_of, detection}
use Rattle.grouping.specs.Answer.{answer_of}
use Rattle.grouping.specs.declared.Grouping.{Grouping}
use Rattle.grouping.proofs.Reach.{Closed, Reached, reached_below}
use Rattle.grouping.proofs.LoopLaws.{looped}
use Rattle.grouping.proofs.PopulationLaws.{populated}
use Rattle.grouping.proofs.DetectionLaws.{detect_illegal}
use Rattle.grouping.proofs.GraphSearches.{loops_bytes, population_bytes, detection_bytes}

found_illegal : (d : Detection) (y : ℕ) → detected_of d ≡ Some y → d ≡ illegal_to y
found_illegal (visited seen) y e = absurd (none-some y e)
found_illegal (illegal_to x) y e = ap illegal_to (same_Some x y e)

found_legal : (d : Detection) → detected_of d ≡ None → (seen : List ℕ) × (d ≡ visited seen)
found_legal (visited seen) e = (seen, refl)
found_legal (illegal_to x) e = absurd (none-some x (sym e))

alike : {l l' s s' : List ℕ} → l ≡ l' → s ≡ s' → ◌≡◌ {A = Grouping} (record { starters = l; states = s }) (record { starters = l'; states = s' })
alike p q = cc

-- at the head of a round: the starters so far, and the rounds left, which suffice and lead to the grouping z
pub record Round (g : CFG) (z : Groups) (s : List ℕ) : Type 0 where
  pub distinct : Distinct s
  pub known : (x : ℕ) → In x s → Reached g x
  pub entry : In 0 s
  pub rounds : ℕ
  pub enough : length g.blocks < rounds + length s
  pub left : regroup g rounds s ≡ z

pub round_few : {g : CFG} {z : Groups} {s : List ℕ} → Closed g → Round g z s → length s ≤ max_blocks
round_few {g} {z} {s} a i =
    omega (arith, distinct_below (length g.blocks) s i.distinct (λ x j. reached_below a (i.known x j)), a.few_blocks_lem)

module _ (g : CFG) (a : Closed g) (bytes : List (List ℕ)) (edges : (n : ℕ) → edges_in bytes n ≡ successors g n) where
  pub round_first : (s : List ℕ) → s ≡ loop_starters bytes → Round g (groups g) s
  unfolding groups
  round_first s e =
      let q : s ≡ (loops g).starters = e ∙ loops_bytes g a bytes edges in
      let i = looped g a in
      record {
        distinct = rw q i.distinct;
        known = rw q i.known;
        entry = rw (q, i.headed.1) (inl refl);
        rounds = length g.blocks;
        enough = rw (q, i.headed.1) (omega arith);
        left = rw q refl;
      }

  module _ (z : Groups) (s : List ℕ) (i : Round g z s) (states : List ℕ) (fresh : states ≡ population bytes s) where
    padded_states : states ≡ padded max_blocks absent (populate g s)
    padded_states = fresh ∙ population_bytes g a bytes edges s i.distinct i.known

    size : length (populate g s) ≡ length g.blocks
    size = (populated g a s i.distinct i.known i.entry).taken.size

    detected : detection bytes s states ≡ detected_of (detect g s (populate g s))
    detected =
        ap (detection bytes s) padded_states
        ∙ detection_bytes g a bytes edges s (populate g s) (omega (arith, size, a.few_blocks_lem))

    few : length s ≤ length g.blocks
    few = distinct_below (length g.blocks) s i.distinct (λ x j. reached_below a (i.known x j))

    -- an illegal edge to y
    module _ (y : ℕ) (e : detection bytes s states ≡ Some y) where
      is : detect g s (populate g s) ≡ illegal_to y
      is = found_illegal (detect g s (populate g s)) y (sym detected ∙ e)

      new : Reached g y × (In y s → ⊥)
      new = detect_illegal g a s (populate g s) y is

      pub illegal_low : y < max_blocks
      illegal_low = let h = reached_below a new.0 in omega (arith, a.few_blocks_lem)

      pub round_on : (r : List ℕ) → r ≡ with_starter y s → Round g z r × (length s < length r)
      unfolding regroup
      round_on r q = go i.rounds i.enough i.left
        where
          more : r ≡ s ++ (y ∷ [])
          more = q ∙ rw (Out→mem y s new.1, with_starter) refl

          longer : length r ≡ length s + 1
          longer = ap length more ∙ length-append s (y ∷ [])

          known : (x : ℕ) → In x s ⊎ ((x ≡ y) ⊎ ⊥) → Reached g x
          known x (inl j) = i.known x j
          known x (inr (inl p)) = subst (Reached g) (sym p) new.0
          known x (inr (inr n)) = absurd n

          go : (n : ℕ) → length g.blocks < n + length s → regroup g n s ≡ z → Round g z r × (length s < length r)
          go zero h k = absurd (omega (arith, few))
          go (suc n) h k = (
            record {
              distinct = rw more (distinct_snoc s y i.distinct new.1);
              known = λ x j. known x (in_append x s (y ∷ []) (rw more at j));
              entry = rw more (in_left 0 s (y ∷ []) i.entry);
              rounds = n;
              enough = omega (arith, longer);
              left = rw more (rw (is, regroup) at k);
            },
            omega (arith, longer),
          )

    -- no illegal edge: the grouping is finished
    pub round_last : detection bytes s states ≡ None → ◌≡◌ {A = Grouping} (record { starters = s; states = states }) (answer_of z)
    unfolding regroup
    round_last e = go i.rounds i.enough i.left (found_legal (detect g s (populate g s)) (sym detected ∙ e))
      where
        go : (k : ℕ) → length g.blocks < k + length s → regroup g k s ≡ z → (seen : List ℕ) × (detect g s (populate g s) ≡ visited seen)
            → ◌≡◌ {A = Grouping} (record { starters = s; states = states }) (answer_of z)
        go zero h k d = absurd (omega (arith, few))
        go (suc k) h l d = rw (← (rw (d.1, regroup) at l)) (alike refl padded_states)
