-- What counting up, selecting, testing all and finding the first come to. Assumes nothing.
use Prim.Native.Nat.{ℕ, zero, suc, ◌+◌, ◌≤◌, ◌<◌}
use mathlib.Core.Bool.{Bool, true, false, false≢true}
use mathlib.Core.Logic.{◌⊎◌, inl, inr}
use mathlib.Core.Path.{◌≡◌, refl, sym, ◌∙◌, ap, ap₂}
use mathlib.Core.List.{List, [], ◌∷◌, map}
use Rattle.std.specs.Prelude.{None, Some}
use Rattle.std.proofs.Common.{rules}
use native.Mathlib.Omega.{arith}
use lib.ListN.{length}
use Rattle.runs.specs.Lists.{up_from, keep, only, every, first}
use Rattle.runs.proofs.Tests.{true_or_false, and_true, Compared, same, other, compared}
use Rattle.runs.proofs.Sets.{In, Distinct, Subset, pigeonhole}

pub only_in : (p : ℕ → Bool) (l : List ℕ) (x : ℕ) → In x (only p l) → In x l × (p x ≡ true)
only_in p [] x i = absurd i
only_in p (y ∷ l) x i = go (true_or_false (p y)) (only_in p l x)
  where
    pick : In x (y ∷ only p l) → (In x (only p l) → In x l × (p x ≡ true)) → p y ≡ true → ((x ≡ y) ⊎ In x l) × (p x ≡ true)
    pick (inl q) ih e = (inl q, ap p q ∙ e)
    pick (inr j) ih e = let r = ih j in (inr r.0, r.1)

    go : (p y ≡ true) ⊎ (p y ≡ false) → (In x (only p l) → In x l × (p x ≡ true)) → ((x ≡ y) ⊎ In x l) × (p x ≡ true)
    go (inl e) ih = pick (rw (e, In) at i) ih e
    go (inr e) ih = let r = ih (rw (e, In) at i) in (inr r.0, r.1)

pub in_only : (p : ℕ → Bool) (l : List ℕ) (x : ℕ) → In x l → p x ≡ true → In x (only p l)
in_only p [] x i h = absurd i
in_only p (y ∷ l) x i h = go (true_or_false (p y)) i (λ j. in_only p l x j h)
  where
    go : (p y ≡ true) ⊎ (p y ≡ false) → (x ≡ y) ⊎ In x l → (In x l → In x (only p l)) → In x (only p (y ∷ l))
    go (inl e) (inl q) ih = rw (e, In) (inl q)
    go (inl e) (inr j) ih = rw (e, In) (inr (ih j))
    go (inr e) (inl q) ih = absurd (false≢true (sym e ∙ ap p (sym q) ∙ h))
    go (inr e) (inr j) ih = rw (e, In) (ih j)

pub distinct_only : (p : ℕ → Bool) (l : List ℕ) → Distinct l → Distinct (only p l)
distinct_only p [] o = tt
distinct_only p (y ∷ l) o = go (true_or_false (p y)) (distinct_only p l o.1)
  where
    go : (p y ≡ true) ⊎ (p y ≡ false) → Distinct (only p l) → Distinct (only p (y ∷ l))
    go (inl e) ih = rw (e, Distinct) (λ i. o.0 (only_in p l y i).0, ih)
    go (inr e) ih = rw (e, Distinct) ih

-- tests that agree on a list select the same of it
pub only_same : (p q : ℕ → Bool) (l : List ℕ) → ((x : ℕ) → In x l → p x ≡ q x) → only p l ≡ only q l
only_same p q [] h = refl
only_same p q (y ∷ l) h = ap₂ {C = List ℕ} (λ (b : Bool) (m : List ℕ). keep b y m) (h y (inl refl)) (only_same p q l (λ x i. h x (inr i)))

-- functions that agree on a list give the same of it
pub map_in {ℓ} : {B : Type ℓ} (f g : ℕ → B) (l : List ℕ) → ((x : ℕ) → In x l → f x ≡ g x) → map f l ≡ map g l
map_in f g [] h = refl
map_in {B = B} f g (y ∷ l) h = ap₂ {C = List B} (λ (b : B) (m : List B). b ∷ m) (h y (inl refl)) (map_in f g l (λ x i. h x (inr i)))

-- of two lists without repeats that have the same members equally many pass a test
pub equally_many : (p : ℕ → Bool) (l m : List ℕ) → Distinct l → Distinct m → Subset l m → Subset m l → length (only p l) ≡ length (only p m)
equally_many p l m d e to from =
    let a = pigeonhole (only p l) (only p m) (distinct_only p l d) (λ x i. let h = only_in p l x i in in_only p m x (to x h.0) h.1) in
    let b = pigeonhole (only p m) (only p l) (distinct_only p m e) (λ x i. let h = only_in p m x i in in_only p l x (from x h.0) h.1) in
    omega arith

pub in_up_from : (n k x : ℕ) → In x (up_from n k) → (n ≤ x) × (x < n + k)
in_up_from n zero x i = absurd i
in_up_from n (suc k) x (inl p) = (omega arith, omega arith)
in_up_from n (suc k) x (inr i) = let r = in_up_from (suc n) k x i in (omega arith, omega arith)

pub up_from_in : (n k x : ℕ) → n ≤ x → x < n + k → In x (up_from n k)
up_from_in n zero x a b = absurd (omega arith)
up_from_in n (suc k) x a b = go (compared x n) (up_from_in (suc n) k x)
  where
    go : Compared x n → (suc n ≤ x → x < suc n + k → In x (up_from (suc n) k)) → (x ≡ n) ⊎ In x (up_from (suc n) k)
    go (same e p) ih = inl p
    go (other e p) ih = inr (ih (omega arith) (omega arith))

pub distinct_up_from : (n k : ℕ) → Distinct (up_from n k)
distinct_up_from n zero = tt
distinct_up_from n (suc k) = (λ i. let r = in_up_from (suc n) k n i in omega arith, distinct_up_from (suc n) k)

pub every_in : (p : ℕ → Bool) (l : List ℕ) → every p l ≡ true → (x : ℕ) → In x l → p x ≡ true
every_in p [] e x i = absurd i
every_in p (y ∷ l) e x (inl q) = ap p q ∙ (and_true (p y) (every p l) e).0
every_in p (y ∷ l) e x (inr i) = every_in p l (and_true (p y) (every p l) e).1 x i

pub in_every : (p : ℕ → Bool) (l : List ℕ) → ((x : ℕ) → In x l → p x ≡ true) → every p l ≡ true
in_every p [] h = refl
in_every p (y ∷ l) h = rw (h y (inl refl)) (in_every p l (λ x i. h x (inr i)))

pub first_some : (p : ℕ → Bool) (l : List ℕ) (x : ℕ) → first p l ≡ Some x → In x l × (p x ≡ true)
first_some p [] x e = absurd (search (e, rules))
first_some p (y ∷ l) x e = go (true_or_false (p y)) (first_some p l x)
  where
    go : (p y ≡ true) ⊎ (p y ≡ false) → (first p l ≡ Some x → In x l × (p x ≡ true)) → ((x ≡ y) ⊎ In x l) × (p x ≡ true)
    go (inl h) ih = let q : Some y ≡ Some x = rw (h, first) at e in let r : x ≡ y = search (q, rules) in (inl r, ap p r ∙ h)
    go (inr h) ih = let r = ih (rw (h, first) at e) in (inr r.0, r.1)

pub first_none : (p : ℕ → Bool) (l : List ℕ) → first p l ≡ None → (x : ℕ) → In x l → p x ≡ false
first_none p [] e x i = absurd i
first_none p (y ∷ l) e x i = go (true_or_false (p y)) i (λ e j. first_none p l e x j)
  where
    go : (p y ≡ true) ⊎ (p y ≡ false) → (x ≡ y) ⊎ In x l → (first p l ≡ None → In x l → p x ≡ false) → p x ≡ false
    go (inl h) i ih = let q : Some y ≡ None = rw (h, first) at e in absurd (search (q, rules))
    go (inr h) (inl q) ih = ap p q ∙ h
    go (inr h) (inr j) ih = ih (rw (h, first) at e) j
