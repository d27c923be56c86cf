-- The edges of a state in the code's list: one more, those used up, those that lead somewhere. Assumes nothing.
use Prim.Native.Nat.{ℕ, zero, suc, ◌+◌, ◌≤◌, ◌<◌}
use native.Mathlib.Numerals.{add-one, one-add}
use native.Mathlib.Omega.{arith}
use mathlib.Core.Path.{◌≡◌, refl, sym, ap, ap₂, ◌∙◌}
use mathlib.Core.Bool.{Bool, true, false, not}
use mathlib.Core.List.{List, [], ◌∷◌, ◌++◌, map}
use lib.ListN.{length, get_or, set, take, drop}
use lib.Dec.{eqb, ltb}
use borrow.Author.Tests.{ltb-true, ltb-false}
use Rattle.std.specs.Prelude.{Some, None, cond}
use Rattle.std.specs.List.{position_or_len, position}
use Rattle.std.proofs.Common.{rules}
use Rattle.std.proofs.lemmas.List.{length-take}
use Rattle.word.specs.Word.{choose}
use Rattle.runs.specs.Lists.{keep, only}
use Rattle.runs.specs.Runs.{Place, standing, halted}
use Rattle.runs.proofs.ListLaws.{only_append}
use Rattle.state.specs.declared.edges.Target.{Target}
use Rattle.state.specs.declared.edges.Target.TheVariants.{Block, Halt, Used}
use Rattle.state.specs.declared.edges.EdgeEntry.{EdgeEntry}
use Rattle.state.specs.declared.edges.Edges.{Edges}
use Rattle.state.specs.Wires.{Edge, leads_to, towards}
use Rattle.state.specs.EdgeList.{is_live, edge_of, entries, passes, leading, pending}

map-append : {A B : Type 0} (f : A → B) (l m : List A) → map f (l ++ m) ≡ map f l ++ map f m
map-append f [] m = refl
map-append {B = B} f (x ∷ l) m = ap (λ (r : List B). f x ∷ r) (map-append f l m)

-- ---- one more

take_more : {A : Type 0} (l : List A) (n : ℕ) (x : A) → n < length l → take (suc n) (set l n x) ≡ take n l ++ (x ∷ [])
take_more [] n x h = absurd (omega arith)
take_more (y ∷ l) zero x h = refl
take_more {A = A} (y ∷ l) (suc n) x h = ap (λ (r : List A). y ∷ r) (take_more l n x (omega arith))

live : (e : EdgeEntry) → (e.target ≡ Used → ⊥) → is_live e.target ≡ true
live e ne = go e.target refl
  where
    go : (t : Target) → e.target ≡ t → is_live t ≡ true
    go (Block y) h = refl
    go Halt h = refl
    go Used h = absurd (ne h)

pub pending_added : (r : ℕ) (a b : Edges) (e : EdgeEntry) → b.list ≡ set a.list a.count e → b.count ≡ a.count + 1 → a.count < length a.list → (e.target ≡ Used → ⊥)
    → pending r b ≡ pending r a ++ (edge_of r e ∷ [])
unfolding pending
pending_added r a b e el ec lt ne =
    let p : EdgeEntry → Bool = λ x. is_live x.target in
    let es : entries b ≡ entries a ++ (e ∷ []) =
    ap (λ (n : ℕ). take n b.list) ec ∙ ap (take (a.count + 1)) el ∙ ap (λ (n : ℕ). take n (set a.list a.count e)) (add-one a.count) ∙ take_more a.list a.count e lt in
    ap (λ (l : List EdgeEntry). map (edge_of r) (only p l)) es
    ∙ ap (map (edge_of r)) (only_append p (entries a) (e ∷ []) ∙ ap (λ (b : Bool). only p (entries a) ++ keep b e []) (live e ne))
    ∙ map-append (edge_of r) (only p (entries a)) (e ∷ [])

-- ---- those used up

-- a function of each element, as far as number i
abbrev pub partly : {A : Type 0} → (A → A) → ℕ → List A → List A
partly f i l = map f (take i l) ++ drop i l

partly_set : {A : Type 0} (f : A → A) (l : List A) (i : ℕ) (d : A) → i < length l → set (partly f i l) i (f (get_or l i d)) ≡ partly f (suc i) l
partly_set f [] i d h = absurd (omega arith)
partly_set f (x ∷ l) zero d h = refl
partly_set {A = A} f (x ∷ l) (suc i) d h = ap (λ (r : List A). f x ∷ r) (partly_set f l i d (omega arith))

pub partly_at : {A : Type 0} (f : A → A) (l : List A) (i : ℕ) (d : A) → get_or (partly f i l) i d ≡ get_or l i d
partly_at f [] zero d = refl
partly_at f [] (suc i) d = refl
partly_at f (x ∷ l) zero d = refl
partly_at f (x ∷ l) (suc i) d = partly_at f l i d

partly_all : {A : Type 0} (f : A → A) (l : List A) (n : ℕ) → take n (partly f n l) ≡ map f (take n l)
partly_all f [] zero = refl
partly_all f [] (suc n) = refl
partly_all f (x ∷ l) zero = refl
partly_all {A = A} f (x ∷ l) (suc n) = ap (λ (r : List A). f x ∷ r) (partly_all f l n)

-- before the first that passes a test nothing changes, where f changes only what passes
partly_front : {A : Type 0} (p : A → Bool) (f : A → A) → ((x : A) → p x ≡ false → f x ≡ x) → (l : List A) (i : ℕ) → i ≤ position_or_len p l → partly f i l ≡ l
partly_front p f keeps [] zero h = refl
partly_front p f keeps [] (suc i) h = refl
partly_front p f keeps (x ∷ l) zero h = refl
partly_front {A = A} p f keeps (x ∷ l) (suc i) h = go (partly_front p f keeps l i) (p x) refl h
  where
    go : (i ≤ position_or_len p l → partly f i l ≡ l) → (b : Bool) → p x ≡ b → suc i ≤ position_or_len p (x ∷ l) → partly f (suc i) (x ∷ l) ≡ x ∷ l
    go ih true e k = absurd (let q = rw e at k in omega arith)
    go ih false e k = ap₂ (λ (y : A) (m : List A). y ∷ m) (keeps x e) (ih (let q = rw e at k in omega arith))

position_front : {A : Type 0} (p : A → Bool) (l : List A) (c : ℕ) → position_or_len p (take c l) ≤ position_or_len p l
position_front p [] zero = omega arith
position_front p [] (suc c) = omega arith
position_front p (x ∷ l) zero = omega arith
position_front p (x ∷ l) (suc c) = go (position_front p l c) (p x) refl
  where
    go : position_or_len p (take c l) ≤ position_or_len p l → (b : Bool) → p x ≡ b → position_or_len p (take (suc c) (x ∷ l)) ≤ position_or_len p (x ∷ l)
    go ih true e = rw e (omega arith)
    go ih false e = rw e (omega arith)

-- an entry once block x is placed
abbrev pub used_where : ℕ → EdgeEntry → EdgeEntry
used_where x e = record e { target = choose (passes (leads_to x) e) Used e.target }

pub used_more : (x : ℕ) (l m : List EdgeEntry) (i : ℕ) (d : EdgeEntry) (t : Target) → m ≡ partly (used_where x) i l → i < length l
    → t ≡ choose (passes (leads_to x) (get_or m i d)) Used (get_or m i d).target → set m i (record (get_or m i d) { target = t }) ≡ partly (used_where x) (i + 1) l
used_more x l m i d t h lt e =
    let its : get_or m i d ≡ get_or l i d = ap (λ (k : List EdgeEntry). get_or k i d) h ∙ partly_at (used_where x) l i d in
    ap (λ (y : Target). set m i (record (get_or m i d) { target = y })) e
    ∙ ap (λ (y : EdgeEntry). set m i (used_where x y)) its
    ∙ ap (λ (k : List EdgeEntry). set k i (used_where x (get_or l i d))) h
    ∙ partly_set (used_where x) l i d lt
    ∙ ap (λ (n : ℕ). partly (used_where x) n l) (sym (add-one i))

module _ (r x : ℕ) where
  abbrev live_only : List EdgeEntry → List EdgeEntry
  live_only = only (λ e. is_live e.target)

  abbrev others : List Edge → List Edge
  others = towards (λ p. not (leads_to x p))

  used_cons : (taken : ℕ) (values : List ℕ) (t : Target) (es : List EdgeEntry) → map (edge_of r) (live_only (map (used_where x) es)) ≡ others (map (edge_of r) (live_only es))
      → map (edge_of r) (live_only (map (used_where x) (record { target = t; taken = taken; values = values } ∷ es)))
      ≡ others (map (edge_of r) (live_only (record { target = t; taken = taken; values = values } ∷ es)))
  used_cons taken values (Block y) es h = go (eqb y x) refl
    where
      go : (b : Bool) → eqb y x ≡ b
          → map (edge_of r) (live_only (map (used_where x) (record { target = Block y; taken = taken; values = values } ∷ es)))
          ≡ others (map (edge_of r) (live_only (record { target = Block y; taken = taken; values = values } ∷ es)))
      go true e = rw e h
      go false e = rw e (ap (λ (l : List Edge). record { target = standing y; taken = taken; values = take r values } ∷ l) h)
  used_cons taken values Halt es h = ap (λ (l : List Edge). record { target = halted; taken = taken; values = take r values } ∷ l) h
  used_cons taken values Used es h = h

  used_all : (es : List EdgeEntry) → map (edge_of r) (live_only (map (used_where x) es)) ≡ others (map (edge_of r) (live_only es))
  used_all [] = refl
  used_all (e ∷ es) = used_cons e.taken e.values e.target es (used_all es)

  pub pending_used_up : (a b : Edges) → b.count ≡ a.count → b.list ≡ partly (used_where x) a.count a.list → pending r b ≡ others (pending r a)
  unfolding pending
  pending_used_up a b ec el =
      ap (λ (l : List EdgeEntry). map (edge_of r) (live_only l))
      (ap (λ (n : ℕ). take n b.list) ec ∙ ap (take a.count) el ∙ partly_all (used_where x) a.list a.count)
      ∙ used_all (entries a)

-- ---- those that lead somewhere

module _ (r : ℕ) (p : Place → Bool) where
  leading_cons : (taken : ℕ) (values : List ℕ) (t : Target) (es : List EdgeEntry) → towards p (map (edge_of r) (only (λ e. is_live e.target) es)) ≡ map (edge_of r) (only (passes p) es)
      → towards p (map (edge_of r) (only (λ e. is_live e.target) (record { target = t; taken = taken; values = values } ∷ es)))
      ≡ map (edge_of r) (only (passes p) (record { target = t; taken = taken; values = values } ∷ es))
  leading_cons taken values (Block y) es h = go (p (standing y)) refl
    where
      go : (b : Bool) → p (standing y) ≡ b
          → towards p (map (edge_of r) (only (λ e. is_live e.target) (record { target = Block y; taken = taken; values = values } ∷ es)))
          ≡ map (edge_of r) (only (passes p) (record { target = Block y; taken = taken; values = values } ∷ es))
      go true e = rw e (ap (λ (l : List Edge). record { target = standing y; taken = taken; values = take r values } ∷ l) h)
      go false e = rw e h
  leading_cons taken values Halt es h = go (p halted) refl
    where
      go : (b : Bool) → p halted ≡ b
          → towards p (map (edge_of r) (only (λ e. is_live e.target) (record { target = Halt; taken = taken; values = values } ∷ es)))
          ≡ map (edge_of r) (only (passes p) (record { target = Halt; taken = taken; values = values } ∷ es))
      go true e = rw e (ap (λ (l : List Edge). record { target = halted; taken = taken; values = take r values } ∷ l) h)
      go false e = rw e h
  leading_cons taken values Used es h = h

  towards_entries : (es : List EdgeEntry) → towards p (map (edge_of r) (only (λ e. is_live e.target) es)) ≡ map (edge_of r) (only (passes p) es)
  towards_entries [] = refl
  towards_entries (e ∷ es) = leading_cons e.taken e.values e.target es (towards_entries es)

  -- the pending edges that pass are those of the entries that pass
  pub towards_pending : (es : Edges) → towards p (pending r es) ≡ leading r p (entries es)
  unfolding pending leading
  towards_pending es = towards_entries (entries es)

  pub leading_next : (e : EdgeEntry) (es : List EdgeEntry) → passes p e ≡ true → leading r p (e ∷ es) ≡ edge_of r e ∷ leading r p es
  unfolding leading
  leading_next e es h = rw h refl

  pub leading_passed : (e : EdgeEntry) (es : List EdgeEntry) → passes p e ≡ false → leading r p (e ∷ es) ≡ leading r p es
  unfolding leading
  leading_passed e es h = rw h refl

  pub leading_none : leading r p [] ≡ []
  unfolding leading
  leading_none = refl

-- ---- the first of a list that passes

module _ {A : Type 0} (p : A → Bool) where
  first_only : (xs : List A) (d : A) → position_or_len p xs < length xs
      → only p xs ≡ get_or xs (position_or_len p xs) d ∷ only p (drop (suc (position_or_len p xs)) xs)
  first_only [] d h = absurd (omega arith)
  first_only (x ∷ xs) d h = go (first_only xs d) (p x) refl h
    where
      go : (position_or_len p xs < length xs → only p xs ≡ get_or xs (position_or_len p xs) d ∷ only p (drop (suc (position_or_len p xs)) xs)) → (b : Bool) → p x ≡ b → position_or_len p (x ∷ xs) < length (x ∷ xs)
          → only p (x ∷ xs) ≡ get_or (x ∷ xs) (position_or_len p (x ∷ xs)) d ∷ only p (drop (suc (position_or_len p (x ∷ xs))) (x ∷ xs))
      go ih true e k = rw e refl
      go ih false e k = rw (e, one-add) (ih (let q = rw e at k in omega arith))

  none_only : (xs : List A) → length xs ≤ position_or_len p xs → only p xs ≡ []
  none_only [] h = refl
  none_only (x ∷ xs) h = go (none_only xs) (p x) refl h
    where
      go : (length xs ≤ position_or_len p xs → only p xs ≡ []) → (b : Bool) → p x ≡ b → length (x ∷ xs) ≤ position_or_len p (x ∷ xs) → only p (x ∷ xs) ≡ []
      go ih true e k = absurd (let q = rw e at k in omega arith)
      go ih false e k = rw e (ih (let q = rw e at k in omega arith))

  pub found_at : (xs : List A) (i : ℕ) (d : A) → Some i ≡ position p xs → (i < length xs) × (only p xs ≡ get_or xs i d ∷ only p (drop (suc i) xs))
  found_at xs i d h = go (ltb (position_or_len p xs) (length xs)) refl h
    where
      go : (b : Bool) → ltb (position_or_len p xs) (length xs) ≡ b → Some i ≡ cond b (Some (position_or_len p xs)) None → (i < length xs) × (only p xs ≡ get_or xs i d ∷ only p (drop (suc i) xs))
      go true e k =
          let j : i ≡ position_or_len p xs = cc in
          let lt = ltb-true (position_or_len p xs) (length xs) e in
          (omega arith, rw j (first_only xs d lt))
      go false e k = absurd (search (k, rules))

  pub found_none : (xs : List A) → None ≡ position p xs → only p xs ≡ []
  found_none xs h = go (ltb (position_or_len p xs) (length xs)) refl h
    where
      go : (b : Bool) → ltb (position_or_len p xs) (length xs) ≡ b → None ≡ cond b (Some (position_or_len p xs)) None → only p xs ≡ []
      go true e k = absurd (search (k, rules))
      go false e k = none_only xs (ltb-false (position_or_len p xs) (length xs) e)

-- the edges that pass, from the first on
pub leading_found : (r : ℕ) (p : Place → Bool) (es : List EdgeEntry) (i : ℕ) (d : EdgeEntry) → Some i ≡ position (passes p) es
    → (i < length es) × (leading r p es ≡ edge_of r (get_or es i d) ∷ leading r p (drop (i + 1) es))
unfolding leading
leading_found r p es i d h =
    let f = found_at (passes p) es i d h in
    (f.0, ap (map (edge_of r)) f.1 ∙ ap (λ (n : ℕ). edge_of r (get_or es i d) ∷ map (edge_of r) (only (passes p) (drop n es))) (sym (add-one i)))

pub leading_not_found : (r : ℕ) (p : Place → Bool) (es : List EdgeEntry) → None ≡ position (passes p) es → leading r p es ≡ []
unfolding leading
leading_not_found r p es h = ap (map (edge_of r)) (found_none (passes p) es h)

-- ---- used up from the first on

found_is : {A : Type 0} (p : A → Bool) (xs : List A) (i : ℕ) → Some i ≡ position p xs → (i < length xs) × (i ≡ position_or_len p xs)
found_is p xs i h = go (ltb (position_or_len p xs) (length xs)) refl h
  where
    go : (b : Bool) → ltb (position_or_len p xs) (length xs) ≡ b → Some i ≡ cond b (Some (position_or_len p xs)) None → (i < length xs) × (i ≡ position_or_len p xs)
    go true e k =
        let j : i ≡ position_or_len p xs = cc in
        let lt = ltb-true (position_or_len p xs) (length xs) e in
        (omega arith, j)
    go false e k = absurd (search (k, rules))

module _ (x : ℕ) (a : Edges) (i : ℕ) (h : Some i ≡ position (passes (leads_to x)) (entries a)) where
  pub first_within : i ≤ a.count
  first_within = omega (arith, (found_is (passes (leads_to x)) (entries a) i h).0, length-take a.count a.list)

  pub used_front : a.list ≡ partly (used_where x) i a.list
  used_front =
      let f = found_is (passes (leads_to x)) (entries a) i h in
      let keeps : (e : EdgeEntry) → passes (leads_to x) e ≡ false → used_where x e ≡ e = λ e k. ap (λ (b : Bool). record e { target = choose b Used e.target }) k in
      sym (partly_front (passes (leads_to x)) (used_where x) keeps a.list i (omega (arith, f.1, position_front (passes (leads_to x)) a.list a.count)))

all_kept : {A : Type 0} (p : A → Bool) (xs : List A) → only p xs ≡ [] → only (λ x. not (p x)) xs ≡ xs
all_kept p [] h = refl
all_kept {A = A} p (x ∷ xs) h = go (all_kept p xs) (p x) refl h
  where
    go : (only p xs ≡ [] → only (λ y. not (p y)) xs ≡ xs) → (b : Bool) → p x ≡ b → only p (x ∷ xs) ≡ [] → only (λ y. not (p y)) (x ∷ xs) ≡ x ∷ xs
    go ih true e k = absurd (let q : x ∷ only p xs ≡ [] = rw e at k in search (q, rules))
    go ih false e k = rw e (ap (λ (m : List A). x ∷ m) (ih (rw e at k)))

-- no edge leads to block x
pub none_used : (r x : ℕ) (a : Edges) → None ≡ position (passes (leads_to x)) (entries a) → pending r a ≡ towards (λ p. not (leads_to x p)) (pending r a)
none_used r x a h = sym (all_kept (λ (e : Edge). leads_to x e.target) (pending r a) (towards_pending r (leads_to x) a ∙ leading_not_found r (leads_to x) (entries a) h))
