-- Laws of the lists' definitions: tests, selecting, counting up, joining, padding. Assumes nothing.
use Prim.Native.Nat.{ℕ, zero, suc, ◌+◌, ◌-◌, ◌≤◌, ◌<◌}
use native.Mathlib.Nat.{add-zero}
use native.Mathlib.Numerals.{add-one}
use native.Mathlib.Omega.{arith}
use mathlib.Core.Path.{◌≡◌, refl, sym, ap, ap₂, ◌∙◌}
use mathlib.Core.Bool.{Bool, true, false, ◌&&◌, and_assoc}
use mathlib.Core.List.{List, [], ◌∷◌, ◌++◌, map, append_assoc, append-nil}
use lib.Dec.{eqb}
use lib.ListN.{length, get_or, take, drop, set, replicate}
use lib.Seq.{drop-cons, set_at, take-suc, append_snoc, length-take-le}
use borrow.Author.Tests.{eqb-true, eq-eqb}
use Rattle.runs.specs.Lists.{up_from, same, keep, only, every, padded, concat_map}

-- ---- conjunctions of tests

pub and_left : (a b : Bool) → a && b ≡ true → a ≡ true
and_left true b h = refl
and_left false b h = h

pub and_right : (a b : Bool) → a && b ≡ true → b ≡ true
and_right true b h = h
and_right false b h = absurd (let z : ◌≡◌ {A = ℕ} 0 1 = cc in omega arith)

pub and_both : (a b : Bool) → a ≡ true → b ≡ true → a && b ≡ true
and_both true b h k = k
and_both false b h k = h

swap : (a b c d : Bool) → (a && b) && (c && d) ≡ (a && c) && (b && d)
swap true true c d = refl
swap true false true d = refl
swap true false false d = refl
swap false b c d = refl

-- two tests that hold together are the same
pub same_test : (a b : Bool) → (a ≡ true → b ≡ true) → (b ≡ true → a ≡ true) → a ≡ b
same_test true b f g = sym (f refl)
same_test false true f g = g refl
same_test false false f g = refl

-- ---- lists of numbers

pub eqb_sym : (x y : ℕ) → eqb x y ≡ eqb y x
eqb_sym x y =
    same_test (eqb x y) (eqb y x) (λ h. eq-eqb y x (sym (eqb-true x y h))) (λ h. eq-eqb x y (sym (eqb-true y x h)))

pub same_eq : (xs ys : List ℕ) → same xs ys ≡ true → xs ≡ ys
same_eq [] [] h = refl
same_eq [] (y ∷ ys) h = absurd (let z : ◌≡◌ {A = ℕ} 0 1 = cc in omega arith)
same_eq (x ∷ xs) [] h = absurd (let z : ◌≡◌ {A = ℕ} 0 1 = cc in omega arith)
same_eq (x ∷ xs) (y ∷ ys) h =
    let e = eqb-true x y (and_left (eqb x y) (same xs ys) h) in
    let k = same_eq xs ys (and_right (eqb x y) (same xs ys) h) in
    cc

pub same_refl : (xs : List ℕ) → same xs xs ≡ true
same_refl [] = refl
same_refl (x ∷ xs) = and_both (eqb x x) (same xs xs) (eq-eqb x x refl) (same_refl xs)

-- a common front does not matter
pub same_front : (xs ys zs : List ℕ) → same (xs ++ ys) (xs ++ zs) ≡ same ys zs
same_front [] ys zs = refl
same_front (x ∷ xs) ys zs = rw (eq-eqb x x refl) (same_front xs ys zs)

pub same_append : (xs ys us vs : List ℕ) → length xs ≡ length us → same (xs ++ ys) (us ++ vs) ≡ same xs us && same ys vs
same_append [] ys [] vs h = refl
same_append [] ys (u ∷ us) vs h = absurd (omega arith)
same_append (x ∷ xs) ys [] vs h = absurd (omega arith)
same_append (x ∷ xs) ys (u ∷ us) vs h =
    ap (λ (b : Bool). eqb x u && b) (same_append xs ys us vs (omega arith)) ∙ sym (and_assoc (eqb x u) (same xs us) (same ys vs))

pub same_zeros : (m : ℕ) (l : List ℕ) → length l ≡ m → same (replicate m 0) l ≡ every (λ (x : ℕ). eqb x 0) l
same_zeros zero [] h = refl
same_zeros zero (x ∷ l) h = absurd (omega arith)
same_zeros (suc m) [] h = absurd (omega arith)
same_zeros (suc m) (x ∷ l) h = rw (eqb_sym 0 x, same_zeros m l (omega arith))

pub length-up_from : (k n : ℕ) → length (up_from k n) ≡ n
length-up_from k zero = refl
length-up_from k (suc n) = ap suc (length-up_from (suc k) n)

pub get_or-up_from : (k n i d : ℕ) → i < n → get_or (up_from k n) i d ≡ k + i
get_or-up_from k zero i d h = absurd (omega arith)
get_or-up_from k (suc n) zero d h = sym (add-zero k)
get_or-up_from k (suc n) (suc i) d h =
    let e = get_or-up_from (suc k) n i d (omega arith) in
    e ∙ omega arith

-- one more number, from the front
pub up_from_cons : (i n : ℕ) → i < n → up_from i (n - i) ≡ i ∷ up_from (i + 1) (n - (i + 1))
up_from_cons i n h =
    let e : n - i ≡ suc (n - (i + 1)) = omega arith in
    rw (e, add-one)

pub up_from_done : (i n : ℕ) → n ≤ i → up_from i (n - i) ≡ []
up_from_done i n h =
    let e : n - i ≡ 0 = omega arith in
    rw e

module _ {A : Type 0} where
  -- ---- every

  pub every_at : (p : A → Bool) (l : List A) → every p l ≡ true → (i : ℕ) (d : A) → i < length l → p (get_or l i d) ≡ true
  every_at p [] h i d k = absurd (omega arith)
  every_at p (x ∷ l) h zero d k = and_left (p x) (every p l) h
  every_at p (x ∷ l) h (suc i) d k = every_at p l (and_right (p x) (every p l) h) i d (omega arith)

  pub every_all : (p : A → Bool) (l : List A) (d : A) → ((i : ℕ) → i < length l → p (get_or l i d) ≡ true) → every p l ≡ true
  every_all p [] d f = refl
  every_all p (x ∷ l) d f =
      and_both (p x) (every p l) (f 0 (omega arith)) (every_all p l d (λ i h. f (suc i) (omega arith)))

  pub every_append : (p : A → Bool) (xs ys : List A) → every p (xs ++ ys) ≡ every p xs && every p ys
  every_append p [] ys = refl
  every_append p (x ∷ xs) ys =
      ap (λ (b : Bool). p x && b) (every_append p xs ys) ∙ sym (and_assoc (p x) (every p xs) (every p ys))

  pub every_and : (p q : A → Bool) (l : List A) → every p l && every q l ≡ every (λ (x : A). p x && q x) l
  every_and p q [] = refl
  every_and p q (x ∷ l) = swap (p x) (every p l) (q x) (every q l) ∙ ap (λ (b : Bool). (p x && q x) && b) (every_and p q l)

  pub every_map : {B : Type 0} (f : B → A) (p : A → Bool) (l : List B) → every p (map f l) ≡ every (λ (x : B). p (f x)) l
  every_map f p [] = refl
  every_map f p (x ∷ l) = ap (λ (b : Bool). p (f x) && b) (every_map f p l)

  pub every_other : (p q : A → Bool) → ((x : A) → p x ≡ true → q x ≡ true) → (l : List A) → every p l ≡ true → every q l ≡ true
  every_other p q e [] h = refl
  every_other p q e (x ∷ l) h =
      and_both (q x) (every q l) (e x (and_left (p x) (every p l) h)) (every_other p q e l (and_right (p x) (every p l) h))

  -- two functions agree on a list of which every member has what makes them agree
  pub map_every : {B : Type 0} (p : A → Bool) (f g : A → B) → ((x : A) → p x ≡ true → f x ≡ g x) → (l : List A) → every p l ≡ true → map f l ≡ map g l
  map_every p f g e [] h = refl
  map_every p f g e (x ∷ l) h =
      ap₂ (λ y ys. y ∷ ys) (e x (and_left (p x) (every p l) h)) (map_every p f g e l (and_right (p x) (every p l) h))

  pub every_snoc : (p : A → Bool) (l : List A) (x : A) → every p l ≡ true → p x ≡ true → every p (l ++ (x ∷ [])) ≡ true
  every_snoc p l x h k = every_append p l (x ∷ []) ∙ and_both (every p l) (every p (x ∷ [])) h (and_both (p x) true k refl)

  -- ---- only

  keep_append : (b : Bool) (x : A) (l m : List A) → keep b x (l ++ m) ≡ keep b x l ++ m
  keep_append true x l m = refl
  keep_append false x l m = refl

  pub only_append : (p : A → Bool) (l m : List A) → only p (l ++ m) ≡ only p l ++ only p m
  only_append p [] m = refl
  only_append p (x ∷ l) m = ap (keep (p x) x) (only_append p l m) ∙ keep_append (p x) x (only p l) (only p m)

  pub length_only : (p : A → Bool) (l : List A) → length (only p l) ≤ length l
  length_only p [] = omega arith
  length_only p (x ∷ l) = go (p x) (length_only p l)
    where
      go : (b : Bool) → length (only p l) ≤ length l → length (keep b x (only p l)) ≤ suc (length l)
      go true h = omega arith
      go false h = omega arith

  pub length_only_map : {B : Type 0} (p : A → Bool) (f : B → A) (l : List B) → length (only p (map f l)) ≡ length (only (λ (x : B). p (f x)) l)
  length_only_map p f [] = refl
  length_only_map {B = B} p f (x ∷ l) = go (p (f x)) (length_only_map p f l)
    where
      go : (b : Bool) → length (only p (map f l)) ≡ length (only (λ (x : B). p (f x)) l)
          → length (keep b (f x) (only p (map f l))) ≡ length (keep b x (only (λ (x : B). p (f x)) l))
      go true e = ap suc e
      go false e = e

  -- ---- concat_map

  module _ {B : Type 0} (f : B → List A) where
    pub concat_append : (xs ys : List B) → concat_map f (xs ++ ys) ≡ concat_map f xs ++ concat_map f ys
    unfolding concat_map
    concat_append [] ys = refl
    concat_append (x ∷ xs) ys = rw (concat_append xs ys) (sym (append_assoc (f x) (concat_map f xs) (concat_map f ys)))

    pub concat_one : (xs : List B) (y : B) → concat_map f (xs ++ (y ∷ [])) ≡ concat_map f xs ++ f y
    unfolding concat_map
    concat_one xs y = concat_append xs (y ∷ []) ∙ ap (λ (l : List A). concat_map f xs ++ l) (append-nil (f y))

  -- ---- padded

  pub padded_none : (n : ℕ) (d : A) → padded n d [] ≡ replicate n d
  padded_none zero d = refl
  padded_none (suc n) d = ap (λ (l : List A). d ∷ l) (padded_none n d)

  pub padded_append : (n : ℕ) (d : A) (l : List A) → length l ≤ n → padded n d l ≡ l ++ replicate (n - length l) d
  padded_append zero d [] h = refl
  padded_append zero d (x ∷ l) h = absurd (omega arith)
  padded_append (suc n) d [] h = let e : suc n - 0 ≡ suc n = omega arith in rw e (padded_none (suc n) d)
  padded_append (suc n) d (x ∷ l) h =
      let e : suc n - suc (length l) ≡ n - length l = omega arith in
      rw e (ap (λ (m : List A). x ∷ m) (padded_append n d l (omega arith)))

  pub length_padded : (n : ℕ) (d : A) (l : List A) → length (padded n d l) ≡ n
  length_padded zero d l = refl
  length_padded (suc n) d [] = ap suc (length_padded n d [])
  length_padded (suc n) d (x ∷ l) = ap suc (length_padded n d l)

  -- the list's elements, and d from its end
  pub get_or-padded : (n : ℕ) (d : A) (l : List A) (i : ℕ) → i < n → get_or (padded n d l) i d ≡ get_or l i d
  get_or-padded zero d l i h = absurd (omega arith)
  get_or-padded (suc n) d [] zero h = refl
  get_or-padded (suc n) d [] (suc i) h = get_or-padded n d [] i (omega arith)
  get_or-padded (suc n) d (x ∷ l) zero h = refl
  get_or-padded (suc n) d (x ∷ l) (suc i) h = get_or-padded n d l i (omega arith)

  -- what is padded from an index on, one element after another
  pub padded_drop : (n : ℕ) (d : A) (i : ℕ) (l : List A) → padded (suc n) d (drop i l) ≡ get_or l i d ∷ padded n d (drop (suc i) l)
  padded_drop n d zero [] = refl
  padded_drop n d (suc i) [] = refl
  padded_drop n d zero (x ∷ l) = refl
  padded_drop n d (suc i) (x ∷ l) = padded_drop n d i l

-- f of the elements
pub get_or-map {ℓ ℓ'} : {A : Type ℓ} {B : Type ℓ'} (f : A → B) (l : List A) (i : ℕ) (d : A) (e : B) → i < length l → get_or (map f l) i e ≡ f (get_or l i d)
get_or-map f [] i d e h = absurd (omega arith)
get_or-map f (x ∷ l) zero d e h = refl
get_or-map f (x ∷ l) (suc i) d e h = get_or-map f l i d e (omega arith)

-- f of a number, at its place of those counted up
pub get_or-map-up_from {ℓ} : {B : Type ℓ} (f : ℕ → B) (n i : ℕ) (e : B) → i < n → get_or (map f (up_from 0 n)) i e ≡ f i
get_or-map-up_from f n i e h =
    get_or-map f (up_from 0 n) i 0 e (rw length-up_from h) ∙ ap f (get_or-up_from 0 n i 0 h ∙ omega arith)

pub take-map-up_from {ℓ} : {B : Type ℓ} (f : ℕ → B) (k m c : ℕ) → c ≤ m → take c (map f (up_from k m)) ≡ map f (up_from k c)
take-map-up_from f k m zero h = refl
take-map-up_from f k zero (suc c) h = absurd (omega arith)
take-map-up_from {B = B} f k (suc m) (suc c) h = ap (λ (l : List B). f k ∷ l) (take-map-up_from f (suc k) m c (omega arith))

pub drop-map-up_from {ℓ} : {B : Type ℓ} (f : ℕ → B) (k m c : ℕ) → c ≤ m → drop c (map f (up_from k m)) ≡ map f (up_from (k + c) (m - c))
drop-map-up_from f k m zero h =
    let e : m - 0 ≡ m = omega arith in
    rw (add-zero, e)
drop-map-up_from f k zero (suc c) h = absurd (omega arith)
drop-map-up_from f k (suc m) (suc c) h =
    let e : k + suc c ≡ suc k + c = omega arith in
    let d : suc m - suc c ≡ m - c = omega arith in
    rw (e, d) (drop-map-up_from f (suc k) m c (omega arith))

-- one more element copied to the front
pub copied_more : (d s : List ℕ) (j : ℕ) → j < length d → j < length s → set (take j s ++ drop j d) j (get_or s j 0) ≡ take (j + 1) s ++ drop (j + 1) d
copied_more d s j h k =
    rw (add-one, drop-cons d j 0 h, set_at (take j s) (get_or d j 0) (drop (suc j) d) (get_or s j 0) j (length-take-le j s (omega arith)), take-suc s j 0 k, append_snoc (take j s) (get_or s j 0) (drop (suc j) d))
