-- The steps of counting: one more edge counted or lowered, one more block's edges. Assumes nothing.
use Prim.Native.Nat.{ℕ, ◌+◌, ◌-◌, ◌*◌, ◌≤◌, ◌<◌}
use native.Mathlib.Numerals.{add-one}
use native.Mathlib.Omega.{arith}
use native.Mathlib.Decide.{dec_lt}
use mathlib.Core.Bool.{Bool, true, false, not}
use mathlib.Core.Path.{◌≡◌, refl, sym, ◌∙◌, ap, fun_ext}
use mathlib.Core.List.{List, [], ◌∷◌, ◌++◌}
use lib.Dec.{eqb, ltb}
use lib.ListN.{length, get_or, take, set, replicate, get_or-replicate, get_or-eq_default}
use lib.Seq.{get_or-set_same, get_or-set_other, take-suc}
use borrow.Author.Tests.{ltb-true}
use Rattle.word.specs.Word.{choose}
use Rattle.runs.specs.Lists.{only, keep, concat_map}
use Rattle.runs.proofs.Tests.{Compared, same, other, compared, and_true}
use Rattle.runs.proofs.ListLaws.{length_only, concat_one}
use Rattle.fsmd.specs.Layout.{max_blocks}
use Rattle.grouping.specs.Bytes.{row, edges_from}
use Rattle.placement.specs.Counts.{waiting, lowered}
use Rattle.placement.specs.PlacementBytes.{marked, awaited, target_in, targets_in, counts_in}
use Rattle.placement.proofs.CountLaws.{only_only, number_append, lowered_is, lowered_append}

-- ---- the edges of a block

pub targets_two : (edges : List (List ℕ)) (starts : List Bool) (u : ℕ) → targets_in edges starts u ≡ target_in starts (get_or (row edges u) 0 0) ++ target_in starts (get_or (row edges u) 1 0)
unfolding edges_from
targets_two edges starts u = go (get_or (row edges u) 0 0) (get_or (row edges u) 1 0)
  where
    go : (a b : ℕ) → only (λ t. not (marked starts t)) (only (λ t. ltb t max_blocks) (a ∷ b ∷ [])) ≡ target_in starts a ++ target_in starts b
    go a b = only_only (λ t. not (marked starts t)) (λ t. ltb t max_blocks) (awaited starts) (λ t. refl) (a ∷ b ∷ []) ∙ two (awaited starts a)
      where
        two : (c : Bool) → keep c a (target_in starts b) ≡ keep c a [] ++ target_in starts b
        two true = refl
        two false = refl

pub awaited_below : (starts : List Bool) (t : ℕ) → awaited starts t ≡ true → t < max_blocks
awaited_below starts t e = ltb-true t max_blocks (and_true (ltb t max_blocks) (not (marked starts t)) e).0

-- ---- one edge counted

module _ (starts : List Bool) (waits : List ℕ) (t : ℕ) where
  pub lower_none : awaited starts t ≡ false → counts_in waits ≡ lowered (target_in starts t) (counts_in waits)
  unfolding lowered
  lower_none e = rw e refl

  module _ (e : awaited starts t ≡ true) where
    module _ (size : length waits ≡ max_blocks) where
      inside : t < length waits
      inside = omega (arith, size, awaited_below starts t e)

      pub lower_one : counts_in (set waits t (counts_in waits t - 1)) ≡ lowered (target_in starts t) (counts_in waits)
      unfolding lowered
      lower_one = rw e (fun_ext (λ x. go x (compared x t)))
        where
          go : (x : ℕ) → Compared x t → counts_in (set waits t (counts_in waits t - 1)) x ≡ choose (eqb x t) (counts_in waits x - 1) (counts_in waits x)
          go x (same f p) = rw (f, p, get_or-set_same waits t (counts_in waits t - 1) 0 inside) refl
          go x (other f p) = rw (f, get_or-set_other waits t x (counts_in waits t - 1) 0 p) refl

-- ---- the two edges of a block lower the counts

module _ (edges : List (List ℕ)) (starts : List Bool) (waits : List ℕ) (u : ℕ) where
  abbrev pub true_target : List ℕ
  true_target = target_in starts (get_or (row edges u) 0 0)

  abbrev pub false_target : List ℕ
  false_target = target_in starts (get_or (row edges u) 1 0)

  module _ (enough : (x : ℕ) → waiting (targets_in edges starts u) x ≤ counts_in waits x) where
    both : (x : ℕ) → waiting true_target x + waiting false_target x ≤ counts_in waits x
    both x = omega (arith, enough x, ap (λ l. waiting l x) (targets_two edges starts u), number_append (eqb x) true_target false_target)

    pub lower_first : (x : ℕ) → waiting true_target x ≤ counts_in waits x
    lower_first x = omega (arith, both x)

    module _ (more : List ℕ) (e : counts_in more ≡ lowered true_target (counts_in waits)) where
      pub lower_second : (x : ℕ) → waiting false_target x ≤ counts_in more x
      lower_second x = omega (arith, both x, ap (λ f. f x) e, lowered_is true_target (counts_in waits) x)

      pub lower_both : lowered false_target (counts_in more) ≡ lowered (targets_in edges starts u) (counts_in waits)
      lower_both = ap (lowered false_target) e ∙ sym (lowered_append true_target false_target (counts_in waits)) ∙ ap (λ l. lowered l (counts_in waits)) (sym (targets_two edges starts u))

-- the same of the row that the code reads
module _ (edges : List (List ℕ)) (starts : List Bool) (waits : List ℕ) (u : ℕ) (read : List ℕ) (is : read ≡ row edges u)
    (enough : (x : ℕ) → waiting (targets_in edges starts u) x ≤ counts_in waits x) where
  pub pass_both : (more : List ℕ) → counts_in more ≡ lowered (target_in starts (get_or read 0 0)) (counts_in waits)
      → (last : List ℕ) → counts_in last ≡ lowered (target_in starts (get_or read 1 0)) (counts_in more) → counts_in last ≡ lowered (targets_in edges starts u) (counts_in waits)
  pass_both more e last f = (rw is at f) ∙ lower_both edges starts waits u enough more (rw is at e)

-- ---- the edges of one block after another

pub zeros : (x : ℕ) → counts_in (replicate max_blocks 0) x ≡ 0
zeros x = go (dec_lt x max_blocks)
  where
    go : Dec (x < max_blocks) → counts_in (replicate max_blocks 0) x ≡ 0
    go (yes h) = get_or-replicate {A = ℕ} max_blocks x 0 0 h
    go (no h) = get_or-eq_default {A = ℕ} (replicate max_blocks 0) 0 {n = x} (omega arith)

pub record Counting (edges : List (List ℕ)) (starts : List Bool) (blocks waits : List ℕ) (i : ℕ) : Type 0 where
  pub within : i ≤ length blocks
  pub low : (x : ℕ) → counts_in waits x ≤ 2 * i
  pub counted : counts_in waits ≡ waiting (concat_map (targets_in edges starts) (take i blocks))

pub counting_begins : (edges : List (List ℕ)) (starts : List Bool) (blocks : List ℕ) → Counting edges starts blocks (replicate max_blocks 0) 0
unfolding concat_map
counting_begins edges starts blocks = record { within = omega arith; low = λ x. omega (arith, zeros x); counted = fun_ext zeros }

pub one_at_most : (starts : List Bool) (t x : ℕ) → waiting (target_in starts t) x ≤ 1
one_at_most starts t x = go (awaited starts t)
  where
    go : (b : Bool) → waiting (keep b t []) x ≤ 1
    go true = length_only (eqb x) (t ∷ [])
    go false = omega arith

module _ {edges : List (List ℕ)} {starts : List Bool} {blocks waits : List ℕ} {i : ℕ} (c : Counting edges starts blocks waits i) where
  pub counting_on : i < length blocks → (more : List ℕ)
      → ((x : ℕ) → counts_in more x ≡ waiting (target_in starts (get_or (row edges (get_or blocks i 0)) 1 0)) x + (waiting (target_in starts (get_or (row edges (get_or blocks i 0)) 0 0)) x + counts_in waits x))
      → Counting edges starts blocks more (i + 1)
  counting_on h more e = record {
    within = omega arith;
    low = λ x. omega (arith, e x, c.low x, one_at_most starts b x, one_at_most starts a x);
    counted = fun_ext λ x. omega (
      arith,
      e x,
      ap (λ f. f x) c.counted,
      ap (λ l. waiting l x) grown,
      number_append (eqb x) (concat_map (targets_in edges starts) (take i blocks)) (target_in starts a ++ target_in starts b),
      number_append (eqb x) (target_in starts a) (target_in starts b),
    );
  }
    where
      u : ℕ
      u = get_or blocks i 0

      a : ℕ
      a = get_or (row edges u) 0 0

      b : ℕ
      b = get_or (row edges u) 1 0

      grown : concat_map (targets_in edges starts) (take (i + 1) blocks) ≡ concat_map (targets_in edges starts) (take i blocks) ++ (target_in starts a ++ target_in starts b)
      grown =
          ap (λ n. concat_map (targets_in edges starts) (take n blocks)) (add-one i) ∙ ap (concat_map (targets_in edges starts)) (take-suc blocks i 0 h)
          ∙ concat_one (targets_in edges starts) (take i blocks) u
          ∙ ap (λ l. concat_map (targets_in edges starts) (take i blocks) ++ l) (targets_two edges starts u)
