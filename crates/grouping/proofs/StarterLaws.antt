-- The starters and their marks: block 0 alone, and one more. Assumes nothing.
use Prim.Native.Nat.{ℕ, zero, suc, ◌+◌, ◌-◌, ◌≤◌, ◌<◌}
use mathlib.Core.Path.{◌≡◌, refl, sym, ap, subst, ◌∙◌}
use mathlib.Core.Bool.{Bool, true, false, not, ◌||◌, or-true, or-false}
use mathlib.Core.Logic.{◌⊎◌, inl, inr}
use mathlib.Core.List.{List, [], ◌∷◌, ◌++◌}
use native.Mathlib.Omega.{arith}
use lib.Dec.{eqb}
use lib.ListN.{length, get_or, take, set, replicate, length-set, length-append, get_or-replicate}
use lib.Seq.{get_or-set_same, get_or-set_other}
use borrow.Author.Tests.{eqb-true}
use Rattle.cfg.specs.Layout.{max_blocks}
use Rattle.runs.specs.Lists.{mem, padded}
use Rattle.runs.proofs.Tests.{Compared, same, other, compared, or_true}
use Rattle.grouping.specs.Marks.{blanks, Marking}
use Rattle.grouping.specs.Listed.{Listed, count_back}
use Rattle.grouping.specs.Bytes.{with_starter}
use Rattle.grouping.proofs.Blanks.{blanks_set}

pub entry_marking : Marking (0 ∷ []) (set (replicate max_blocks false) 0 true)
unfolding blanks
entry_marking = record { marks_64 = refl; counted = refl; marked = marked; blocks = blocks }
  where
    marked : (x : ℕ) → x < max_blocks → mem x (0 ∷ []) ≡ get_or (set (replicate max_blocks false) 0 true) x false
    marked zero h = refl
    marked (suc x) h = go (compared (suc x) 0)
      where
        go : Compared (suc x) 0 → (eqb (suc x) 0 || false) ≡ get_or (replicate (max_blocks - 1) false) x false
        go (same e p) = absurd (omega arith)
        go (other e p) = rw (e, get_or-replicate (max_blocks - 1) x false false (omega arith)) refl

    blocks : (x : ℕ) → mem x (0 ∷ []) ≡ true → x < max_blocks
    blocks x e = go (compared x 0) e
      where
        go : Compared x 0 → (eqb x 0 || false) ≡ true → x < max_blocks
        go (same e p) h = omega arith
        go (other e p) h = let z : false ≡ true = rw e at h in cc

pub mem_snoc : (x y : ℕ) (l : List ℕ) → mem x (l ++ (y ∷ [])) ≡ mem x l || eqb x y
mem_snoc x y [] = or-false (eqb x y)
mem_snoc x y (z ∷ l) = ap (λ (b : Bool). eqb x z || b) (mem_snoc x y l) ∙ assoc (eqb x z) (mem x l) (eqb x y)
  where
    assoc : (a b c : Bool) → a || (b || c) ≡ (a || b) || c
    assoc true b c = refl
    assoc false b c = refl

module _ (l : List ℕ) (marks : List Bool) (i : Marking l marks) (t : ℕ) (low : t < max_blocks) (new : get_or marks t false ≡ false) where
  filled : suc (blanks not (set marks t true)) ≡ blanks not marks
  filled = blanks_set not marks t false true (omega (arith, i.marks_64)) (ap not new) refl

  pub add_room : length l < max_blocks
  add_room = omega (arith, filled, i.counted)

  pub add_marking : Marking (l ++ (t ∷ [])) (set marks t true)
  add_marking =
      record {
        marks_64 = length-set marks t true ∙ i.marks_64;
        counted = omega (arith, filled, i.counted, length-append l (t ∷ []));
        marked = λ x h. mem_snoc x t l ∙ marked x h (compared x t);
        blocks = λ x e. blocks x (or_true (mem x l) (eqb x t) (sym (mem_snoc x t l) ∙ e));
      }
    where
      marked : (x : ℕ) → x < max_blocks → Compared x t → (mem x l || eqb x t) ≡ get_or (set marks t true) x false
      marked x h (same e p) = rw (e, p, get_or-set_same marks t true false (omega (arith, i.marks_64))) (or-true (mem t l))
      marked x h (other e p) = rw (e, get_or-set_other marks t x true false p) (or-false (mem x l) ∙ i.marked x h)

      blocks : (x : ℕ) → (mem x l ≡ true) ⊎ (eqb x t ≡ true) → x < max_blocks
      blocks x (inl e) = i.blocks x e
      blocks x (inr e) = let p : x ≡ t = eqb-true x t e in omega arith

-- ---- the starters in an array, 0 behind them

padded_set : (n : ℕ) (l : List ℕ) (t : ℕ) → length l < n → set (padded n 0 l) (length l) t ≡ padded n 0 (l ++ (t ∷ []))
padded_set zero l t h = absurd (omega arith)
padded_set (suc n) [] t h = refl
padded_set (suc n) (x ∷ l) t h = ap (λ (m : List ℕ). x ∷ m) (padded_set n l t (omega arith))

take_padded : (n : ℕ) (l : List ℕ) → length l ≤ n → take (length l) (padded n 0 l) ≡ l
take_padded n [] h = refl
take_padded zero (x ∷ l) h = absurd (omega arith)
take_padded (suc n) (x ∷ l) h = ap (λ (m : List ℕ). x ∷ m) (take_padded n l (omega arith))

module _ (l : List ℕ) (marks : List Bool) (i : Marking l marks) where
  room : length l ≤ max_blocks
  room = omega (arith, i.counted)

  listed_made : Listed (padded max_blocks 0 l) (length l) marks
  listed_made =
      let e = take_padded max_blocks l room in
      record { few = room; blank = ap (padded max_blocks 0) (sym e); marking = rw e i }

pub entry_listed : Listed (replicate max_blocks 0) 1 (set (replicate max_blocks false) 0 true)
entry_listed = listed_made (0 ∷ []) (set (replicate max_blocks false) 0 true) entry_marking

module _ {list : List ℕ} {count : ℕ} {marks : List Bool} (i : Listed list count marks) where
  module _ (t : ℕ) (low : t < max_blocks) (new : get_or marks t false ≡ false) where
    pub add_below : count < max_blocks
    add_below = omega (arith, add_room (take count list) marks i.marking t low new, count_back i)

    added : set list count t ≡ padded max_blocks 0 (take count list ++ (t ∷ []))
    added =
        ap (λ (l : List ℕ). set l count t) i.blank ∙ ap (λ (n : ℕ). set (padded max_blocks 0 (take count list)) n t) (sym (count_back i))
        ∙ padded_set max_blocks (take count list) t (add_room (take count list) marks i.marking t low new)

    more : count + 1 ≡ length (take count list ++ (t ∷ []))
    more = omega (arith, count_back i, length-append (take count list) (t ∷ []))

    after : Marking (take count list ++ (t ∷ [])) (set marks t true)
    after = add_marking (take count list) marks i.marking t low new

    pub add_listed : Listed (set list count t) (count + 1) (set marks t true)
    add_listed = rw (added, more) (listed_made (take count list ++ (t ∷ [])) (set marks t true) after)

    new_starter : mem t (take count list) ≡ false
    new_starter = i.marking.marked t low ∙ new

    taken : take (count + 1) (set list count t) ≡ take count list ++ (t ∷ [])
    taken = rw (added, more) (take_padded max_blocks (take count list ++ (t ∷ [])) (room (take count list ++ (t ∷ [])) (set marks t true) after))

    with_new : take (count + 1) (set list count t) ≡ with_starter t (take count list)
    with_new = rw (new_starter, with_starter) taken

    pub add_taken : (starters : List ℕ) → take count list ≡ starters → take (count + 1) (set list count t) ≡ with_starter t starters
    add_taken starters e = subst (λ (l : List ℕ). take (count + 1) (set list count t) ≡ with_starter t l) e with_new
