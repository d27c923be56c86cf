-- Parts of a list of bytes that a byte parts: split, and put together again, both ways. Assumes nothing.
use Rattle.std.proofs.Common.{◌≡◌, ℕ, suc, Bool, true, false, not, eqb, List, [], ◌∷◌, ◌++◌, length, drop, sym, refl, ap, ◌∙◌, append-nil, arith, eq-eqb, eqb-true}
use borrow.Author.Tests.{not-true}
use Rattle.word.specs.Word.{choose}
use Rattle.runs.proofs.Tests.{and_true as both}
use Rattle.runs.specs.Lists.{every}
use Rattle.runs.proofs.ListLaws.{and_left, and_right, and_both, every_append}
use Rattle.delimited.specs.Parts.{split_at, onto, parted}

-- the byte c stands nowhere in the list
abbrev pub apart : ℕ → List ℕ → Bool
apart c = every (λ x. not (eqb x c))

-- a split has a first part
pub record Parts (c : ℕ) (s : List ℕ) : Type 0 where
  pub one : List ℕ
  pub others : List (List ℕ)
  pub split : split_at c s ≡ one ∷ others

pub parts : (c : ℕ) (s : List ℕ) → Parts c s
unfolding split_at
parts c [] = record { one = []; others = []; split = refl }
parts c (x ∷ xs) = go (eqb x c) refl (parts c xs)
  where
    go : (t : Bool) → eqb x c ≡ t → Parts c xs → Parts c (x ∷ xs)
    go true q p = record { one = []; others = split_at c xs; split = rw q }
    go false q p = record { one = x ∷ p.one; others = p.others; split = rw (q, p.split) }

-- bytes without c in front join the first part
pub split_front :
    (c : ℕ) (g s : List ℕ) {l : List ℕ} {ls : List (List ℕ)}
    → apart c g ≡ true → split_at c s ≡ l ∷ ls → split_at c (g ++ s) ≡ (g ++ l) ∷ ls
unfolding split_at
split_front c [] s h e = e
split_front c (x ∷ g) s h e =
    let b = both (not (eqb x c)) (apart c g) h in
    rw (not-true (eqb x c) b.0, split_front c g s b.1 e)

-- c itself ends a part
pub split_here : (c : ℕ) (s : List ℕ) → split_at c (c ∷ s) ≡ [] ∷ split_at c s
unfolding split_at
split_here c s = rw (eq-eqb c c refl)

pub split_part : (c : ℕ) (g s : List ℕ) → apart c g ≡ true → split_at c (g ++ (c ∷ s)) ≡ g ∷ split_at c s
split_part c g s h = split_front c g (c ∷ s) h (split_here c s) ∙ ap (λ (l : List ℕ). l ∷ split_at c s) (append-nil g)

pub split_last : (c : ℕ) (g : List ℕ) → apart c g ≡ true → split_at c g ≡ g ∷ []
unfolding split_at
split_last c [] h = refl
split_last c (x ∷ g) h =
    let b = both (not (eqb x c)) (apart c g) h in
    rw (not-true (eqb x c) b.0, split_last c g b.1)

module _ (c : ℕ) where
  no_parts : (s : List ℕ) → split_at c s ≡ [] → ⊥
  no_parts s e =
      let p = parts c s in
      let z : ◌≡◌ {A = List (List ℕ)} (p.one ∷ p.others) [] = sym p.split ∙ e in
      let w : ◌≡◌ {A = ℕ} 0 1 = cc in
      omega arith

  -- what stands behind the first part
  pub split_rest : (s : List ℕ) {l m : List ℕ} {ms : List (List ℕ)} → split_at c s ≡ l ∷ m ∷ ms → split_at c (drop (suc (length l)) s) ≡ m ∷ ms
  unfolding split_at
  split_rest [] e =
      let z : ◌≡◌ {A = ℕ} 0 1 = cc in
      absurd (omega arith)
  split_rest (x ∷ xs) {l} {m} {ms} e = go (eqb x c) refl e (λ one. split_rest xs {l = one} {m = m} {ms = ms}) (parts c xs)
    where
      go :
          (t : Bool) → eqb x c ≡ t
          → choose t ([] ∷ split_at c xs) (onto x (split_at c xs)) ≡ l ∷ m ∷ ms
          → ((one : List ℕ) → split_at c xs ≡ one ∷ m ∷ ms → split_at c (drop (suc (length one)) xs) ≡ m ∷ ms)
          → Parts c xs
          → split_at c (drop (suc (length l)) (x ∷ xs)) ≡ m ∷ ms
      go true q h r p =
          let a : l ≡ [] = cc in
          let b : split_at c xs ≡ m ∷ ms = cc in
          ap (λ (y : List ℕ). split_at c (drop (suc (length y)) (x ∷ xs))) a ∙ b
      go false q h r p =
          let i : (x ∷ p.one) ∷ p.others ≡ l ∷ m ∷ ms = ap (onto x) (sym p.split) ∙ h in
          let a : l ≡ x ∷ p.one = cc in
          let b : p.others ≡ m ∷ ms = cc in
          ap (λ (y : List ℕ). split_at c (drop (suc (length y)) (x ∷ xs))) a
          ∙ r p.one (p.split ∙ ap (λ (y : List (List ℕ)). p.one ∷ y) b)

  -- a part alone is the whole
  pub split_alone : (s : List ℕ) {l : List ℕ} → split_at c s ≡ l ∷ [] → l ≡ s
  unfolding split_at
  split_alone [] e = cc
  split_alone (x ∷ xs) {l} e = go (eqb x c) refl e (λ one. split_alone xs {l = one}) (parts c xs)
    where
      go :
          (t : Bool) → eqb x c ≡ t
          → choose t ([] ∷ split_at c xs) (onto x (split_at c xs)) ≡ l ∷ []
          → ((one : List ℕ) → split_at c xs ≡ one ∷ [] → one ≡ xs)
          → Parts c xs
          → l ≡ x ∷ xs
      go true q h r p =
          let b : split_at c xs ≡ [] = cc in
          absurd (no_parts xs b)
      go false q h r p =
          let i : (x ∷ p.one) ∷ p.others ≡ l ∷ [] = ap (onto x) (sym p.split) ∙ h in
          let a : x ∷ p.one ≡ l = cc in
          let b : p.others ≡ [] = cc in
          sym a ∙ ap (λ (y : List ℕ). x ∷ y) (r p.one (p.split ∙ ap (λ (y : List (List ℕ)). p.one ∷ y) b))

-- ---- put together

pub split_parted : (c : ℕ) (f : List ℕ) (fs : List (List ℕ)) → every (apart c) (f ∷ fs) ≡ true → split_at c (parted c (f ∷ fs)) ≡ f ∷ fs
unfolding parted
split_parted c f [] h = split_last c f (and_left (apart c f) true h)
split_parted c f (g ∷ fs) h =
    split_part c f (parted c (g ∷ fs)) (and_left (apart c f) (every (apart c) (g ∷ fs)) h)
    ∙ ap (λ (l : List (List ℕ)). f ∷ l) (split_parted c g fs (and_right (apart c f) (every (apart c) (g ∷ fs)) h))

-- ---- put together what was split

parted_onto : (c x : ℕ) (fs : List (List ℕ)) → parted c (onto x fs) ≡ x ∷ parted c fs
unfolding parted
parted_onto c x [] = refl
parted_onto c x (f ∷ []) = refl
parted_onto c x (f ∷ g ∷ fs) = refl

parted_empty : (c : ℕ) (s : List ℕ) → parted c ([] ∷ split_at c s) ≡ c ∷ parted c (split_at c s)
unfolding parted
parted_empty c s = let p = parts c s in rw p.split

pub parted_split : (c : ℕ) (s : List ℕ) → parted c (split_at c s) ≡ s
unfolding parted split_at
parted_split c [] = refl
parted_split c (x ∷ xs) = go (eqb x c) refl (parted_split c xs)
  where
    go : (t : Bool) → eqb x c ≡ t → parted c (split_at c xs) ≡ xs → parted c (choose t ([] ∷ split_at c xs) (onto x (split_at c xs))) ≡ x ∷ xs
    go true e i = let q = eqb-true x c e in parted_empty c xs ∙ cc
    go false e i = parted_onto c x (split_at c xs) ∙ ap (λ (l : List ℕ). x ∷ l) i

pub same_split : (c : ℕ) (s t : List ℕ) → split_at c s ≡ split_at c t → s ≡ t
same_split c s t e = sym (parted_split c s) ∙ ap (parted c) e ∙ parted_split c t

-- ---- one part in front

pub parted_more : (c : ℕ) (f : List ℕ) (fs : List (List ℕ)) (g : List ℕ) → parted c (f ∷ (fs ++ (g ∷ []))) ≡ f ++ (c ∷ parted c (fs ++ (g ∷ [])))
unfolding parted
parted_more c f [] g = refl
parted_more c f (h ∷ fs) g = refl

pub apart_parted : (c d : ℕ) (fs : List (List ℕ)) → not (eqb d c) ≡ true → every (apart c) fs ≡ true → apart c (parted d fs) ≡ true
unfolding parted
apart_parted c d [] n h = refl
apart_parted c d (f ∷ []) n h = and_left (apart c f) true h
apart_parted c d (f ∷ g ∷ fs) n h =
    every_append (λ (x : ℕ). not (eqb x c)) f (d ∷ parted d (g ∷ fs))
    ∙ and_both (apart c f) (apart c (d ∷ parted d (g ∷ fs))) (and_left (apart c f) (every (apart c) (g ∷ fs)) h)
    (and_both (not (eqb d c)) (apart c (parted d (g ∷ fs))) n
    (apart_parted c d (g ∷ fs) n (and_right (apart c f) (every (apart c) (g ∷ fs)) h)))
