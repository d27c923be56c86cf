-- Laws of counting up. Assumes nothing.
use Prim.Native.Nat.{ℕ, zero, suc, ◌+◌, ◌≤◌, ◌<◌}
use native.Mathlib.Nat.{add-zero, add-suc, suc-add}
use mathlib.Core.Path.{◌≡◌, refl, sym, ap, ◌∙◌}
use mathlib.Core.List.{List, [], ◌∷◌, ◌++◌, append-nil}
use native.Mathlib.Omega.{arith}
use lib.ListN.{length, get_or, set, take, drop, drop_of_length-le}
use lib.Seq.{drop-cons, set_at, append_snoc}
use Rattle.runs.specs.Lists.{up_from}
use Rattle.runs.proofs.ListLaws.{length-up_from}

-- one more at the end
pub up_from_more : (k n : ℕ) → up_from k (suc n) ≡ up_from k n ++ ((k + n) ∷ [])
up_from_more k zero = rw (add-zero k)
up_from_more k (suc n) =
    ap (λ (r : List ℕ). k ∷ r) (up_from_more (suc k) n)
    ∙ ap (λ (m : ℕ). k ∷ (up_from (suc k) n ++ (m ∷ []))) (suc-add k n ∙ sym (add-suc k n))

-- a list filled from the front by numbers that count up
pub counted_more : (k r : ℕ) (vs : List ℕ) → r < length vs → set (up_from k r ++ drop r vs) r (k + r) ≡ up_from k (suc r) ++ drop (suc r) vs
counted_more k r vs h =
    ap (λ (l : List ℕ). set (up_from k r ++ l) r (k + r)) (drop-cons vs r 0 h)
    ∙ set_at (up_from k r) (get_or vs r 0) (drop (suc r) vs) (k + r) r (length-up_from k r)
    ∙ sym (append_snoc (up_from k r) (k + r) (drop (suc r) vs))
    ∙ ap (λ (l : List ℕ). l ++ drop (suc r) vs) (sym (up_from_more k r))

pub counted_all : (k r : ℕ) (vs : List ℕ) → length vs ≤ r → up_from k r ++ drop r vs ≡ up_from k r
counted_all k r vs h = ap (λ (l : List ℕ). up_from k r ++ l) (drop_of_length-le vs h) ∙ append-nil (up_from k r)

pub take-up_from : (k m c : ℕ) → c ≤ m → take c (up_from k m) ≡ up_from k c
take-up_from k m zero h = refl
take-up_from k zero (suc c) h = absurd (omega arith)
take-up_from k (suc m) (suc c) h = ap (λ (r : List ℕ). k ∷ r) (take-up_from (suc k) m c (omega arith))
