-- The field at the front of a text: where it ends, and what a step that took it says of the text. Assumes nothing.
use Rattle.std.proofs.Common.{◌≡◌, ℕ, ◌+◌, Bool, true, false, not, ◌||◌, eqb, List, [], ◌∷◌, ◌++◌, length, drop, sym, refl, ap, ◌∙◌, arith, drop-drop, ne_eqb, eqb-true}
use mathlib.Core.Bool.{false≢true}
use Rattle.std.specs.Prelude.{Option, None, Some}
use lib.Seq.{drop-append-add}
use borrow.Author.Tests.{not-true}
use Rattle.word.specs.Word.{choose}
use Rattle.runs.proofs.Tests.{and_true as both}
use Rattle.runs.specs.Lists.{every}
use Rattle.std.proofs.lemmas.Option.{none-some, same_Some}
use Rattle.delimited.specs.declared.Field.{Field}
use Rattle.delimited.specs.Cursor.{stops, front_field, stop_of, found, valued, field_at}
use Rattle.delimited.proofs.Split.{apart}

-- no byte of the list ends a field
abbrev pub whole : List ℕ → Bool
whole = every (λ x. not (stops x))

neither : (x : ℕ) → not (stops x) ≡ true → (not (eqb x 44) ≡ true) × (not (eqb x 10) ≡ true)
neither x h = go (eqb x 44) (eqb x 10) h
  where
    go : (s t : Bool) → not (s || t) ≡ true → (not s ≡ true) × (not t ≡ true)
    go true t h = absurd (false≢true h)
    go false t h = (refl, h)

pub no_comma : (f : List ℕ) → whole f ≡ true → apart 44 f ≡ true
no_comma [] h = refl
no_comma (x ∷ f) h =
    let b = both (not (stops x)) (whole f) h in
    rw ((neither x b.0).0, no_comma f b.1)

pub no_feed : (f : List ℕ) → whole f ≡ true → apart 10 f ≡ true
no_feed [] h = refl
no_feed (x ∷ f) h =
    let b = both (not (stops x)) (whole f) h in
    rw ((neither x b.0).1, no_feed f b.1)

-- what stands at the front of a text
pub data Front (s : List ℕ) : Type 0 where
  comma : (f t : List ℕ) → whole f ≡ true → s ≡ f ++ (44 ∷ t) → Front s
  feed : (f t : List ℕ) → whole f ≡ true → s ≡ f ++ (10 ∷ t) → Front s
  unended : whole s ≡ true → Front s

pub front : (s : List ℕ) → Front s
front [] = unended refl
front (x ∷ s) = go (eqb x 44) refl (eqb x 10) refl (front s)
  where
    go : (p : Bool) → eqb x 44 ≡ p → (q : Bool) → eqb x 10 ≡ q → Front s → Front (x ∷ s)
    go true a q b r = comma [] s refl (ap (λ (y : ℕ). y ∷ s) (eqb-true x 44 a))
    go false a true b r = feed [] s refl (ap (λ (y : ℕ). y ∷ s) (eqb-true x 10 b))
    go false a false b (comma f t w e) = comma (x ∷ f) t (rw (a, b) w) (ap (λ (l : List ℕ). x ∷ l) e)
    go false a false b (feed f t w e) = feed (x ∷ f) t (rw (a, b) w) (ap (λ (l : List ℕ). x ∷ l) e)
    go false a false b (unended w) = unended (rw (a, b) w)

-- ---- the field that `front_field` and `stop_of` give

pub up_to : (f : List ℕ) (b : ℕ) (t : List ℕ) → whole f ≡ true → stops b ≡ true → front_field (f ++ (b ∷ t)) ≡ f
unfolding front_field
up_to [] b t h e = rw e
up_to (x ∷ f) b t h e =
    let p = both (not (stops x)) (whole f) h in
    rw (not-true (stops x) p.0, up_to f b t p.1 e)

pub stop_of_lem : (f : List ℕ) (b : ℕ) (t : List ℕ) → whole f ≡ true → stops b ≡ true → stop_of (f ++ (b ∷ t)) ≡ b
unfolding stop_of
stop_of_lem [] b t h e = rw e
stop_of_lem (x ∷ f) b t h e =
    let p = both (not (stops x)) (whole f) h in
    rw (not-true (stops x) p.0, stop_of_lem f b t p.1 e)

pub stop_none : (f : List ℕ) → whole f ≡ true → stop_of f ≡ 0
unfolding stop_of
stop_none [] h = refl
stop_none (x ∷ f) h =
    let p = both (not (stops x)) (whole f) h in
    rw (not-true (stops x) p.0, stop_none f p.1)

module _ (read : List ℕ → Option ℕ) (f : List ℕ) (b : ℕ) (t : List ℕ) (w : whole f ≡ true) (e : stops b ≡ true) (at : ℕ) where
  pub field_at_lem : (end : ℕ) → field_at read end at (f ++ (b ∷ t)) ≡ choose (eqb b end) (valued (read f) (at + length f + 1)) None
  unfolding field_at
  field_at_lem end = rw (up_to f b t w e, stop_of_lem f b t w e)

stop_positive : (b : ℕ) → stops b ≡ true → eqb 0 b ≡ false
stop_positive b h = ne_eqb 0 b (λ e. positive (sym e))
  where
    positive : b ≡ 0 → ⊥
    positive e = false≢true (sym (ap stops e) ∙ h)

pub field_none : (read : List ℕ → Option ℕ) (s : List ℕ) → whole s ≡ true → (b at : ℕ) → stops b ≡ true → field_at read b at s ≡ None
unfolding field_at
field_none read s w b at h = rw (stop_none s w, stop_positive b h)

-- ---- what was taken

-- what a step that found a value says of the text
pub record Taken (read : List ℕ → Option ℕ) (b at v next : ℕ) (s : List ℕ) : Type 0 where
  pub f : List ℕ
  pub t : List ℕ
  pub clean : whole f ≡ true
  pub front_is : s ≡ f ++ (b ∷ t)
  pub value : read f ≡ Some v
  pub next_is : next ≡ at + length f + 1

value_of : (o : Option ℕ) (m v n : ℕ) → valued o m ≡ found v n → (o ≡ Some v) × (n ≡ m)
value_of None m v n e = absurd (none-some _ e)
value_of (Some w) m v n e =
    let f = same_Some _ _ e in
    (ap (λ (x : Field). Some x.value) f, sym (ap (λ (x : Field). x.next) f))

pub bad_of : (o : Option ℕ) (m : ℕ) → valued o m ≡ None → o ≡ None
bad_of None m e = refl
bad_of (Some w) m e = absurd (none-some _ (sym e))

module _ (read : List ℕ → Option ℕ) (at : ℕ) (s : List ℕ) where
  pub taken : (b v n : ℕ) → stops b ≡ true → field_at read b at s ≡ found v n → Taken read b at v n s
  taken b v n sb h = go (front s)
    where
      at_stop : (c : ℕ) (f t : List ℕ) → stops c ≡ true → whole f ≡ true → s ≡ f ++ (c ∷ t) → Taken read b at v n s
      at_stop c f t sc w e = by (eqb c b) refl (sym (field_at_lem read f c t w sc at b) ∙ ap (field_at read b at) (sym e) ∙ h)
        where
          by :
              (q : Bool) → eqb c b ≡ q
              → choose (eqb c b) (valued (read f) (at + length f + 1)) None ≡ found v n
              → Taken read b at v n s
          by true q g =
              let r = value_of (read f) (at + length f + 1) v n (rw q at g) in
              record { f = f; t = t; clean = w; front_is = e ∙ ap (λ (x : ℕ). f ++ (x ∷ t)) (eqb-true c b q); value = r.0; next_is = r.1 }
          by false q g = absurd (none-some _ (rw q at g))

      go : Front s → Taken read b at v n s
      go (comma f t w e) = at_stop 44 f t refl w e
      go (feed f t w e) = at_stop 10 f t refl w e
      go (unended w) = absurd (none-some _ (sym (field_none read s w b at sb) ∙ h))

-- what stands behind a field that was taken
pub behind : (text f t : List ℕ) (b at : ℕ) → drop at text ≡ f ++ (b ∷ t) → drop (at + length f + 1) text ≡ t
behind text f t b at e =
    let a : at + length f + 1 ≡ at + (length f + 1) = omega arith in
    ap (λ (n : ℕ). drop n text) a
    ∙ sym (drop-drop (length f + 1) at text)
    ∙ ap (drop (length f + 1)) e
    ∙ drop-append-add f (b ∷ t) 1
