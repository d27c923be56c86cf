-- The line at the front of a text, field by field, for any form. Assumes nothing.
use Rattle.std.proofs.Common.{◌≡◌, ℕ, ◌+◌, true, List, [], ◌∷◌, ◌++◌, length, drop, sym, refl, ap, ◌∙◌, arith, length-append, eq-eqb}
use mathlib.Core.Path.{fun_ext}
use Rattle.std.specs.Prelude.{Option, None, Some}
use Rattle.delimited.specs.Parts.{Fields, split_at}
use Rattle.delimited.specs.Cursor.{stops, found, field_at, first_line, front_line}
use Rattle.delimited.proofs.Split.{apart, parts, split_front, split_part, split_last}
use Rattle.delimited.proofs.Cursors.{whole, no_comma, no_feed, Front, comma, feed, unended, front, field_at_lem, bad_of, Taken, taken, behind}

module _ {X : Type 0} (bad : X) (form : Fields → ℕ → X) (at : ℕ) where
  pub line_open : (s : List ℕ) → apart 10 s ≡ true → front_line bad form at s ≡ bad
  unfolding front_line
  line_open s w = rw (split_last 10 s w)

  pub line_feed : (l t : List ℕ) → apart 10 l ≡ true → front_line bad form at (l ++ (10 ∷ t)) ≡ form (split_at 44 l) (at + length l + 1)
  unfolding front_line
  line_feed l t w = let p = parts 10 t in rw (split_part 10 l t w, p.split)

  pub field_feed : (f t : List ℕ) → whole f ≡ true → front_line bad form at (f ++ (10 ∷ t)) ≡ form (f ∷ []) (at + length f + 1)
  field_feed f t w = line_feed f t (no_feed f w) ∙ rw (split_last 44 f (no_comma f w))

  pub field_comma : (f t : List ℕ) → whole f ≡ true
      → front_line bad form at (f ++ (44 ∷ t)) ≡ front_line bad (λ fs. form (f ∷ fs)) (at + length f + 1) t
  unfolding front_line
  field_comma f t w =
      let p = parts 10 t in
      rw (split_front 10 f (44 ∷ t) (no_feed f w) (split_front 10 (44 ∷ []) t refl p.split), p.split) (go p.one p.others)
    where
      go :
          (l : List ℕ) (ls : List (List ℕ))
          → first_line bad form at ((f ++ (44 ∷ l)) ∷ ls) ≡ first_line bad (λ fs. form (f ∷ fs)) (at + length f + 1) (l ∷ ls)
      go l [] = refl
      go l (m ∷ ms) =
          let e : at + length (f ++ (44 ∷ l)) + 1 ≡ at + length f + 1 + length l + 1 = rw length-append (omega arith) in
          rw (split_part 44 f l (no_comma f w), e)

  -- a form that takes no line
  pub line_none : (s : List ℕ) → ((f : List ℕ) (fs : Fields) (n : ℕ) → form (f ∷ fs) n ≡ bad) → front_line bad form at s ≡ bad
  unfolding front_line
  line_none s h = go (split_at 10 s)
    where
      go : (ps : List (List ℕ)) → first_line bad form at ps ≡ bad
      go [] = refl
      go (l ∷ []) = refl
      go (l ∷ m ∷ ms) = let p = parts 44 l in rw (p.split, h p.one p.others)

-- ---- one field of a form: where the code's step took it, and where it did not

module _ {X : Type 0} (bad : X) (form : Fields → ℕ → X) (read : List ℕ → Option ℕ) where
  module _ (text : List ℕ) (at : ℕ) {v n : ℕ} where
    -- with a comma behind it: on with the form `next`
    pub on : (next : Fields → ℕ → X) → ((f : List ℕ) (fs : Fields) (m : ℕ) → read f ≡ Some v → form (f ∷ fs) m ≡ next fs m)
        → field_at read 44 at (drop at text) ≡ found v n
        → front_line bad form at (drop at text) ≡ front_line bad next n (drop n text)
    on next h e = go (taken read at (drop at text) 44 v n refl e)
      where
        go : Taken read 44 at v n (drop at text) → front_line bad form at (drop at text) ≡ front_line bad next n (drop n text)
        go d =
            ap (front_line bad form at) d.front_is
            ∙ field_comma bad form at d.f d.t d.clean
            ∙ ap (λ (k : Fields → ℕ → X). front_line bad k (at + length d.f + 1) d.t) (fun_ext (λ fs. fun_ext (λ m. h d.f fs m d.value)))
            ∙ rw (d.next_is, behind text d.f d.t 44 at d.front_is)

    -- with the line feed behind it
    pub last : (x : ℕ → X) → ((f : List ℕ) (m : ℕ) → read f ≡ Some v → form (f ∷ []) m ≡ x m)
        → field_at read 10 at (drop at text) ≡ found v n
        → front_line bad form at (drop at text) ≡ x n
    last x h e = go (taken read at (drop at text) 10 v n refl e)
      where
        go : Taken read 10 at v n (drop at text) → front_line bad form at (drop at text) ≡ x n
        go d =
            ap (front_line bad form at) d.front_is
            ∙ field_feed bad form at d.f d.t d.clean
            ∙ h d.f (at + length d.f + 1) d.value
            ∙ rw d.next_is

  module _ (at : ℕ) (s : List ℕ) (unread : (f : List ℕ) (fs : Fields) (m : ℕ) → read f ≡ None → form (f ∷ fs) m ≡ bad) where
    none_at : (b : ℕ) (f t : List ℕ) → stops b ≡ true → whole f ≡ true → s ≡ f ++ (b ∷ t) → field_at read b at s ≡ None → read f ≡ None
    none_at b f t sb w e h =
        bad_of (read f) (at + length f + 1)
        (rw (eq-eqb b b refl) at (sym (field_at_lem read f b t w sb at b) ∙ ap (field_at read b at) (sym e) ∙ h))

    -- none with a comma behind it, where the form wants more
    pub not_on : ((f : List ℕ) (m : ℕ) → form (f ∷ []) m ≡ bad) → field_at read 44 at s ≡ None → front_line bad form at s ≡ bad
    not_on more h = go (front s)
      where
        go : Front s → front_line bad form at s ≡ bad
        go (comma f t w e) =
            ap (front_line bad form at) e
            ∙ field_comma bad form at f t w
            ∙ line_none bad (λ fs. form (f ∷ fs)) (at + length f + 1) t (λ g gs n. unread f (g ∷ gs) n (none_at 44 f t refl w e h))
        go (feed f t w e) = ap (front_line bad form at) e ∙ field_feed bad form at f t w ∙ more f (at + length f + 1)
        go (unended w) = line_open bad form at s (no_feed s w)

    -- none with the line feed behind it, where the form wants no more
    pub not_last : ((f g : List ℕ) (fs : Fields) (m : ℕ) → form (f ∷ g ∷ fs) m ≡ bad) → field_at read 10 at s ≡ None → front_line bad form at s ≡ bad
    not_last over h = go (front s)
      where
        go : Front s → front_line bad form at s ≡ bad
        go (comma f t w e) =
            ap (front_line bad form at) e
            ∙ field_comma bad form at f t w
            ∙ line_none bad (λ fs. form (f ∷ fs)) (at + length f + 1) t (λ g gs n. over f g gs n)
        go (feed f t w e) =
            ap (front_line bad form at) e
            ∙ field_feed bad form at f t w
            ∙ unread f [] (at + length f + 1) (none_at 10 f t refl w e h)
        go (unended w) = line_open bad form at s (no_feed s w)
