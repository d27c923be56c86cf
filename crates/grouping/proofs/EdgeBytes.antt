-- A graph's successors as bytes, block after block. Assumes nothing.
use Prim.Native.Nat.{ℕ, zero, suc, ◌+◌, ◌≤◌, ◌<◌}
use mathlib.Core.Path.{◌≡◌, refl, sym, ap, ◌∙◌}
use mathlib.Core.Bool.{true, false}
use mathlib.Core.Logic.{◌⊎◌, inl, inr}
use mathlib.Core.List.{List, [], ◌∷◌}
use native.Mathlib.Omega.{arith}
use lib.Dec.{ltb}
use lib.ListN.{length, get_or, set, replicate, length-set, length-replicate}
use lib.Seq.{get_or-set_same, get_or-set_other}
use borrow.Author.Tests.{lt-ltb, ltb-true, ltb-false}
use Rattle.runs.proofs.Tests.{true_or_false, Compared, same, other, compared}
use Rattle.cfg.specs.declared.Condition.{Condition}
use Rattle.cfg.specs.declared.Ending.{Ending}
use Rattle.cfg.specs.declared.Ending.TheVariants.{Goto, Ite, Halt}
use Rattle.cfg.specs.Layout.{max_blocks}
use Rattle.cfg.specs.Graph.{successors, targets}
use Rattle.cfg.specs.Table.{block_at, graph_of}
use Rattle.cfg.proofs.Admitted.{block_below, no_successors, ValidEnding, Admitted}
use Rattle.fsmd.specs.Layout.{absent}
use Rattle.grouping.specs.Bytes.{row, edges_from, edges_in}

-- the bytes of an ending's targets
abbrev pub ending_bytes : Ending → List ℕ
ending_bytes (Goto x) = x ∷ absent ∷ []
ending_bytes (Ite o x y) = x ∷ y ∷ []
ending_bytes Halt = absent ∷ absent ∷ []

-- by the two bytes of a block
edges_of_row : (bytes : List (List ℕ)) (n b r : ℕ) (e : Ending) → b ≤ max_blocks → ValidEnding b r e → row bytes n ≡ ending_bytes e → edges_in bytes n ≡ targets e
unfolding edges_from
edges_of_row bytes n b r (Goto x) few v is = rw (is, lt-ltb x max_blocks (omega (arith, v))) refl
edges_of_row bytes n b r (Ite o x y) few v is = rw (is, lt-ltb x max_blocks (omega (arith, v.holds)), lt-ltb y max_blocks (omega (arith, v.fails))) refl
edges_of_row bytes n b r Halt few v is = rw is refl

edges_same : (a b : List (List ℕ)) (n : ℕ) → row a n ≡ row b n → edges_in a n ≡ edges_in b n
unfolding edges_from
edges_same a b n e = rw e refl

-- the first n blocks' successors are there, and no others'
pub record Copied (t : List ℕ) (bytes : List (List ℕ)) (n : ℕ) : Type 0 where
  pub size : length bytes ≡ max_blocks
  pub done : (m : ℕ) → m < n → edges_in bytes m ≡ successors (graph_of t) m
  pub free : (m : ℕ) → n ≤ m → row bytes m ≡ ending_bytes Halt

blank : (n m : ℕ) → row (replicate n (ending_bytes Halt)) m ≡ ending_bytes Halt
blank zero m = refl
blank (suc n) zero = refl
blank (suc n) (suc m) = blank n m

pub copied_none : (t : List ℕ) → Copied t (replicate max_blocks (absent ∷ absent ∷ [])) 0
copied_none t = record { size = length-replicate max_blocks (ending_bytes Halt); done = λ m h. absurd (omega arith); free = λ m h. blank max_blocks m }

module _ {t : List ℕ} {bytes : List (List ℕ)} {n : ℕ} (c : Copied t bytes n) where
  pub copied_all : Admitted t → get_or t 0 0 ≤ n → (m : ℕ) → edges_in bytes m ≡ successors (graph_of t) m
  unfolding edges_from
  copied_all a h m = go (true_or_false (ltb m n))
    where
      go : (ltb m n ≡ true) ⊎ (ltb m n ≡ false) → edges_in bytes m ≡ successors (graph_of t) m
      go (inl e) = c.done m (ltb-true m n e)
      go (inr e) =
          let l = ltb-false m n e in
          rw (c.free m l) (sym (no_successors t m (omega arith)))

  module _ (a : Admitted t) (l : n < get_or t 0 0) (e : Ending) (is : e ≡ (block_at t n).ending) where
    next : successors (graph_of t) n ≡ targets e
    next = rw (block_below t n l) (ap targets (sym is))

    pub valid : ValidEnding (get_or t 0 0) (get_or t 1 0) e
    valid = rw (← is) at (a.block n l).ended

    -- the bytes of block n are stored
    pub copied_more : Copied t (set bytes n (ending_bytes e)) (n + 1)
    copied_more =
        record {
          size = length-set bytes n (ending_bytes e) ∙ c.size;
          done = λ m h. done m h (compared m n);
          free = λ m h. get_or-set_other bytes n m (ending_bytes e) (absent ∷ absent ∷ []) (λ q. omega arith) ∙ c.free m (omega arith);
        }
      where
        here : row (set bytes n (ending_bytes e)) n ≡ ending_bytes e
        here = get_or-set_same bytes n (ending_bytes e) (absent ∷ absent ∷ []) (omega (arith, a.few_blocks, c.size))

        done : (m : ℕ) → m < n + 1 → Compared m n → edges_in (set bytes n (ending_bytes e)) m ≡ successors (graph_of t) m
        done m h (same q p) =
            rw p (edges_of_row (set bytes n (ending_bytes e)) n (get_or t 0 0) (get_or t 1 0) e a.few_blocks valid here ∙ sym next)
        done m h (other q p) =
            edges_same (set bytes n (ending_bytes e)) bytes m (get_or-set_other bytes n m (ending_bytes e) (absent ∷ absent ∷ []) p) ∙ c.done m (omega arith)

  module _ (a : Admitted t) (l : n < get_or t 0 0) where
    pub goto_low : (x : ℕ) → Goto x ≡ (block_at t n).ending → x < max_blocks
    goto_low x is = omega (arith, valid a l (Goto x) is, a.few_blocks)

    pub ite_low : (o : Condition) (x y : ℕ) → Ite o x y ≡ (block_at t n).ending → (x < max_blocks) × (y < max_blocks)
    ite_low o x y is = let h = valid a l (Ite o x y) is in (omega (arith, h.holds, a.few_blocks), omega (arith, h.fails, a.few_blocks))
