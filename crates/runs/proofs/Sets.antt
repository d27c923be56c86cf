-- Lists of numbers as sets: membership, no repeats, and that a list with no repeats inside another is no longer. Assumes nothing.
use Prim.Native.Nat.{ℕ, zero, suc, ◌≤◌, ◌<◌}
use mathlib.Core.Bool.{true, false, ◌||◌, true≢false, false≢true}
use mathlib.Core.Logic.{◌⊎◌, inl, inr, ◌≢◌}
use mathlib.Core.Path.{◌≡◌, refl, sym, ◌∙◌, ap, subst}
use mathlib.Core.List.{List, [], ◌∷◌, ◌++◌}
use native.Mathlib.Omega.{arith}
use lib.ListN.{length, get_or}
use lib.Dec.{eqb}
use Rattle.runs.specs.Lists.{mem}
use Rattle.runs.proofs.Tests.{true_or_false, Compared, same, other, compared}

abbrev pub In : ℕ → List ℕ → Type 0
In x [] = ⊥
In x (y ∷ ys) = (x ≡ y) ⊎ In x ys

pub mem→In : (x : ℕ) (l : List ℕ) → mem x l ≡ true → In x l
mem→In x [] e = absurd (false≢true e)
mem→In x (y ∷ ys) e = go (compared x y) (mem→In x ys)
  where
    go : Compared x y → (mem x ys ≡ true → In x ys) → (x ≡ y) ⊎ In x ys
    go (same h p) ih = inl p
    go (other h p) ih = inr (ih (rw h at e))

pub In→mem : (x : ℕ) (l : List ℕ) → In x l → mem x l ≡ true
In→mem x [] i = absurd i
In→mem x (y ∷ ys) i = go (compared x y) i (In→mem x ys)
  where
    go : Compared x y → (x ≡ y) ⊎ In x ys → (In x ys → mem x ys ≡ true) → (eqb x y || mem x ys) ≡ true
    go (same h p) i ih = rw h refl
    go (other h p) (inl q) ih = absurd (p q)
    go (other h p) (inr i) ih = rw h (ih i)

pub mem→Out : (x : ℕ) (l : List ℕ) → mem x l ≡ false → In x l → ⊥
mem→Out x l e i = true≢false (sym (In→mem x l i) ∙ e)

pub Out→mem : (x : ℕ) (l : List ℕ) → (In x l → ⊥) → mem x l ≡ false
Out→mem x l f = go (true_or_false (mem x l))
  where
    go : (mem x l ≡ true) ⊎ (mem x l ≡ false) → mem x l ≡ false
    go (inl e) = absurd (f (mem→In x l e))
    go (inr e) = e

pub data Found (x : ℕ) (l : List ℕ) : Type 0 where
  there : mem x l ≡ true → In x l → Found x l
  missing : mem x l ≡ false → (In x l → ⊥) → Found x l

pub found : (x : ℕ) (l : List ℕ) → Found x l
found x l = go (true_or_false (mem x l))
  where
    go : (mem x l ≡ true) ⊎ (mem x l ≡ false) → Found x l
    go (inl e) = there e (mem→In x l e)
    go (inr e) = missing e (mem→Out x l e)

-- membership and ++
pub in_left : (x : ℕ) (s t : List ℕ) → In x s → In x (s ++ t)
in_left x [] t i = absurd i
in_left x (y ∷ s) t (inl p) = inl p
in_left x (y ∷ s) t (inr i) = inr (in_left x s t i)

pub in_right : (x : ℕ) (s t : List ℕ) → In x t → In x (s ++ t)
in_right x [] t i = i
in_right x (y ∷ s) t i = inr (in_right x s t i)

pub in_append : (x : ℕ) (s t : List ℕ) → In x (s ++ t) → In x s ⊎ In x t
in_append x [] t i = inr i
in_append x (y ∷ s) t (inl p) = inl (inl p)
in_append x (y ∷ s) t (inr i) = go (in_append x s t i)
  where
    go : In x s ⊎ In x t → ((x ≡ y) ⊎ In x s) ⊎ In x t
    go (inl i) = inl (inr i)
    go (inr i) = inr i

-- no repeats
abbrev pub Distinct : List ℕ → Type 0
Distinct [] = Unit {0}
Distinct (x ∷ xs) = (In x xs → ⊥) × Distinct xs

abbrev pub Subset : List ℕ → List ℕ → Type 0
Subset l m = (x : ℕ) → In x l → In x m

pub distinct_snoc : (l : List ℕ) (x : ℕ) → Distinct l → (In x l → ⊥) → Distinct (l ++ (x ∷ []))
distinct_snoc [] x o f = (λ i. i, tt)
distinct_snoc (y ∷ l) x o f = (λ i. go (in_append y l (x ∷ []) i), distinct_snoc l x o.1 (λ i. f (inr i)))
  where
    go : In y l ⊎ ((y ≡ x) ⊎ ⊥) → ⊥
    go (inl i) = o.0 i
    go (inr (inl p)) = f (inl (sym p))
    go (inr (inr z)) = z

-- a list without (the first) x
abbrev without : ℕ → List ℕ → List ℕ
without x [] = []
without x (y ∷ ys) = elim (eqb x y) [ true ↦ ys | false ↦ y ∷ without x ys ]

without_length : (x : ℕ) (l : List ℕ) → In x l → suc (length (without x l)) ≡ length l
without_length x [] i = absurd i
without_length x (y ∷ ys) i = go (compared x y) i (without_length x ys)
  where
    go : Compared x y → (x ≡ y) ⊎ In x ys → (In x ys → suc (length (without x ys)) ≡ length ys) → suc (length (without x (y ∷ ys))) ≡ suc (length ys)
    go (same h p) i ih = rw (h, length) refl
    go (other h p) (inl q) ih = absurd (p q)
    go (other h p) (inr i) ih = rw (h, length) (ap suc (ih i))

without_keeps : (x z : ℕ) (l : List ℕ) → z ≢ x → In z l → In z (without x l)
without_keeps x z [] f i = absurd i
without_keeps x z (y ∷ ys) f i = go (compared x y) i (without_keeps x z ys f)
  where
    go : Compared x y → (z ≡ y) ⊎ In z ys → (In z ys → In z (without x ys)) → In z (without x (y ∷ ys))
    go (same h p) (inl q) ih = absurd (f (q ∙ sym p))
    go (same h p) (inr i) ih = rw (h, In) i
    go (other h p) (inl q) ih = rw (h, In) (inl q)
    go (other h p) (inr i) ih = rw (h, In) (inr (ih i))

pub pigeonhole : (l m : List ℕ) → Distinct l → Subset l m → length l ≤ length m
pigeonhole [] m o s = omega arith
pigeonhole (x ∷ l) m o s =
    let h : length l ≤ length (without x m) = pigeonhole l (without x m) o.1 (λ z i. without_keeps x z m (λ p. o.0 (subst (λ w. In w l) p i)) (s z (inr i))) in
    let e : suc (length (without x m)) ≡ length m = without_length x m (s x (inl refl)) in
    omega arith

-- the numbers below n
abbrev below : ℕ → List ℕ
below zero = []
below (suc n) = n ∷ below n

below_length : (n : ℕ) → length (below n) ≡ n
below_length zero = refl
below_length (suc n) = ap suc (below_length n)

in_below : (n x : ℕ) → x < n → In x (below n)
in_below zero x h = absurd (omega arith)
in_below (suc n) x h = go (compared x n) (in_below n x)
  where
    go : Compared x n → (x < n → In x (below n)) → (x ≡ n) ⊎ In x (below n)
    go (same e p) ih = inl p
    go (other e p) ih = inr (ih (omega arith))

pub distinct_below : (n : ℕ) (l : List ℕ) → Distinct l → ((x : ℕ) → In x l → x < n) → length l ≤ n
distinct_below n l o b = subst (λ k. length l ≤ k) (below_length n) (pigeonhole l (below n) o (λ x i. in_below n x (b x i)))

-- an element by its place
pub get_or-in : (l : List ℕ) (k d : ℕ) → k < length l → In (get_or l k d) l
get_or-in [] k d h = absurd (omega arith)
get_or-in (x ∷ l) zero d h = inl refl
get_or-in (x ∷ l) (suc k) d h = inr (get_or-in l k d (omega arith))

pub get_or-any : (l : List ℕ) (k d e : ℕ) → k < length l → get_or l k d ≡ get_or l k e
get_or-any [] k d e h = absurd (omega arith)
get_or-any (x ∷ l) zero d e h = refl
get_or-any (x ∷ l) (suc k) d e h = get_or-any l k d e (omega arith)

pub in-get_or : (x : ℕ) (l : List ℕ) (d : ℕ) → In x l → (k : ℕ) × (k < length l) × (get_or l k d ≡ x)
in-get_or x [] d i = absurd i
in-get_or x (y ∷ l) d (inl p) = (0, omega arith, sym p)
in-get_or x (y ∷ l) d (inr i) = let r = in-get_or x l d i in (suc r.0, let h = r.1 in omega arith, r.2)

pub distinct_at : (l : List ℕ) (i j d : ℕ) → Distinct l → i < length l → j < length l → get_or l i d ≡ get_or l j d → i ≡ j
distinct_at [] i j d o p q e = absurd (omega arith)
distinct_at (x ∷ l) zero zero d o p q e = refl
distinct_at (x ∷ l) zero (suc j) d o p q e = absurd (o.0 (subst (λ z. In z l) (sym e) (get_or-in l j d (omega arith))))
distinct_at (x ∷ l) (suc i) zero d o p q e = absurd (o.0 (subst (λ z. In z l) e (get_or-in l i d (omega arith))))
distinct_at (x ∷ l) (suc i) (suc j) d o p q e = ap suc (distinct_at l i j d o.1 (omega arith) (omega arith) e)
