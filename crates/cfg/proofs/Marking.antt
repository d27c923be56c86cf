-- Marks at the starters of a run with words, and starters that do not fit. Assumes nothing.
use Prim.Native.Nat.{ℕ, suc, ◌+◌, ◌≤◌, ◌<◌}
use native.Mathlib.Omega.{arith}
use mathlib.Core.Bool.{Bool, true, false, ◌&&◌, ◌||◌, or-true}
use mathlib.Core.List.{List, [], ◌∷◌}
use mathlib.Core.Path.{◌≡◌, refl, ap, fun_ext}
use lib.Dec.{eqb, ltb}
use lib.ListN.{length, get_or, set, drop, replicate, length-replicate, get_or-replicate, get_or-eq_default}
use lib.Seq.{drop-cons, get_or-set_same, get_or-set_other}
use borrow.Author.Tests.{lt-ltb, ltb-true, ltb-false, eqb-true, eqb-false, eq-eqb}
use native.Mathlib.Numerals.{add-one}
use Rattle.std.specs.List.{list_all}
use Rattle.runs.specs.Lists.{mem, every}
use Rattle.runs.proofs.ListLaws.{every_at, every_all}
use Rattle.cfg.specs.Layout.{max_blocks}
use Rattle.cfg.specs.Graph.{CFG, block_of, run_block, graph_runner}
use Rattle.cfg.specs.Steps.{marked_runner, Marks}

-- a run by the marks is one by the starters
pub marked_runner_lem : (starters : List ℕ) (marks : List Bool) → Marks starters marks → (g : CFG) → marked_runner g marks ≡ graph_runner g starters
marked_runner_lem starters marks m g =
    ap (λ (f : ℕ → Bool). record { unit = λ sampled n rs. run_block sampled (block_of g n) rs; arrives = f }) (fun_ext m)

-- no block is a starter
pub unmarked_marks : Marks [] (replicate max_blocks false)
unmarked_marks b = go (ltb b max_blocks) refl
  where
    go : (t : Bool) → ltb b max_blocks ≡ t → get_or (replicate max_blocks false) b false ≡ false
    go true e = get_or-replicate max_blocks b false false (ltb-true b max_blocks e)
    go false e = get_or-eq_default (replicate max_blocks false) false {n = b} (rw (length-replicate {A = Bool} max_blocks false) (ltb-false b max_blocks e))

-- starters below the number of blocks have room among the marks
pub below_more : (n m : ℕ) (l : List ℕ) → n ≤ m → every (λ s. ltb s n) l ≡ true → every (λ s. ltb s m) l ≡ true
below_more n m l h e =
    every_all (λ s. ltb s m) l 0 (λ i k. lt-ltb (get_or l i 0) m (omega (arith, ltb-true (get_or l i 0) n (every_at (λ s. ltb s n) l e i 0 k))))

-- std's word for a test of all
pub every_is : {A : Type 0} (p : A → Bool) (l : List A) → list_all p l ≡ every p l
every_is p [] = refl
every_is p (x ∷ l) = ap (λ (b : Bool). p x && b) (every_is p l)

-- ---- marks so far: a block is marked, or among the starters that are left

pub none_marked : (starters : List ℕ) (b : ℕ) → (get_or (replicate max_blocks false) b false || mem b (drop 0 starters)) ≡ mem b starters
none_marked starters b = rw (unmarked_marks b)

pub marked_next : (marks : List Bool) (starters : List ℕ) (i : ℕ) → i < length starters → get_or starters i 0 < length marks → (b : ℕ)
    → (get_or (set marks (get_or starters i 0) true) b false || mem b (drop (i + 1) starters)) ≡ (get_or marks b false || mem b (drop i starters))
marked_next marks starters i l m b = rw (drop-cons starters i 0 l, add-one) (go (eqb b (get_or starters i 0)) refl)
  where
    go : (t : Bool) → eqb b (get_or starters i 0) ≡ t
        → (get_or (set marks (get_or starters i 0) true) b false || mem b (drop (suc i) starters)) ≡ (get_or marks b false || (eqb b (get_or starters i 0) || mem b (drop (suc i) starters)))
    go true e = rw (eqb-true b (get_or starters i 0) e, get_or-set_same marks (get_or starters i 0) true false m, eq-eqb (get_or starters i 0) (get_or starters i 0) refl, or-true (get_or marks (get_or starters i 0) false))
    go false e = rw (get_or-set_other marks (get_or starters i 0) b true false (eqb-false b (get_or starters i 0) e), e)
