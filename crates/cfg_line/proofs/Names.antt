-- The name at the front of a line. Assumes nothing.
use mathlib.Core.Path.{◌≡◌, ◌∙◌, refl, sym, ap}
use mathlib.Core.List.{List, [], ◌∷◌, ◌++◌}
use mathlib.Core.Bool.{Bool, true, false}
use Rattle.std.specs.Prelude.{Option, Some, None, option_map, option_and_then}
use mathlib.Core.Logic.{◌⊎◌, inl, inr, ⊎_elim}
use Prim.Native.Nat.{ℕ, suc, ◌+◌, ◌≤◌, ◌<◌, ◌^◌}
use native.Mathlib.Omega.{arith}
use lib.ListN.{length, drop, get_or}
use lib.Seq.{get_or-drop}
use lib.Dec.{ltb}
use borrow.Author.Tests.{ltb-true, ltb-false, lt-ltb}
use Rattle.word.specs.Word.{choose, comparison_at}
use Rattle.word.specs.declared.Comparison.{Comparison}
use Rattle.runs.proofs.Tests.{and_true as both}
use Rattle.runs.specs.Lists.{every, same}
use Rattle.cfg_line.specs.declared.Name.{Name}
use Rattle.cfg_line.specs.declared.Comparing.{Comparing}
use Rattle.cfg_line.specs.declared.Keyword.{Keyword}
use Rattle.delimited.specs.Parts.{bytes}
use Rattle.delimited.specs.Cursor.{stops, field_at, valued}
use Rattle.delimited.proofs.Cursors.{whole, Front, comma, feed, unended, front, up_to, stop_of_lem, stop_none, field_at_lem, field_none, behind}
use Rattle.cfg_line.specs.Name.{comparison_of, comparison_names, keyword_of, instruction_names, code_in}
use Rattle.cfg_line.specs.Form.{form_of, by_name}
use Rattle.cfg_line.specs.Cursor.{byte, packed, name_at, compared, comparing_at, parsed, parsed_at}
use Rattle.cfg_line.proofs.Forms.{form_comma, form_feed, form_open, form_none}
use Rattle.cfg_line.proofs.Packing.{other}

-- ---- the bytes of a text are bytes

all_bytes : (s : List ℕ) → ((i : ℕ) → get_or s i 0 < 256) → every byte s ≡ true
all_bytes [] h = refl
all_bytes (x ∷ s) h = rw (lt-ltb x 256 (h 0)) (all_bytes s (λ i. h (suc i)))

part_bytes : (f t : List ℕ) → every byte (f ++ t) ≡ true → every byte f ≡ true
part_bytes [] t h = refl
part_bytes (x ∷ f) t h =
    let b = both (byte x) (every byte (f ++ t)) h in
    rw b.0 (part_bytes f t b.1)

pub field_bytes : (text : List ℕ) (at : ℕ) (f t : List ℕ) → ((i : ℕ) → get_or text i 0 < 256) → drop at text ≡ f ++ t → every byte f ≡ true
field_bytes text at f t h e =
    part_bytes f t (ap (every byte) (sym e) ∙ all_bytes (drop at text) (λ i. rw (get_or-drop at text i 0) (h (at + i))))

-- ---- what a name that was packed says of the text

pub record Named (at : ℕ) (n : Name) (s : List ℕ) : Type 0 where
  pub f : List ℕ
  pub t : List ℕ
  pub clean : whole f ≡ true
  pub stops_it : (n.stop ≡ 44) ⊎ (n.stop ≡ 10)
  pub front_is : s ≡ f ++ (n.stop ∷ t)
  pub key_is : n.key ≡ packed 1 f
  pub next_is : n.next ≡ at + length f + 1

name_of :
    (f : List ℕ) (b : ℕ) (t : List ℕ) (at : ℕ) → whole f ≡ true → stops b ≡ true
    → name_at at (f ++ (b ∷ t)) ≡ choose (ltb (packed 1 f) (2 ^ 48)) (Some record { key = packed 1 f; next = at + length f + 1; stop = b }) None
unfolding name_at
name_of f b t at w h = rw (up_to f b t w h, stop_of_lem f b t w h, h)

name_open : (s : List ℕ) (at : ℕ) → whole s ≡ true → name_at at s ≡ None
unfolding name_at
name_open s at w = rw (stop_none s w)

pub named : (at : ℕ) (s : List ℕ) {n : Name} → name_at at s ≡ Some n → Named at n s
named at s {n} h = go (front s)
  where
    short :
        (b : ℕ) (f t : List ℕ) → whole f ≡ true → (b ≡ 44) ⊎ (b ≡ 10) → s ≡ f ++ (b ∷ t) → (q : Bool)
        → choose q (Some record { key = packed 1 f; next = at + length f + 1; stop = b }) None ≡ Some n
        → Named at n s
    short b f t w o e true g =
        let m : record { key = packed 1 f; next = at + length f + 1; stop = b } ≡ n = cc in
        let kb : n.stop ≡ b = sym (ap (λ (x : Name). x.stop) m) in
        record {
          f = f;
          t = t;
          clean = w;
          stops_it = ⊎_elim (λ z. inl (kb ∙ z)) (λ z. inr (kb ∙ z)) o;
          front_is = e ∙ ap (λ (x : ℕ). f ++ (x ∷ t)) (sym kb);
          key_is = sym (ap (λ (x : Name). x.key) m);
          next_is = sym (ap (λ (x : Name). x.next) m);
        }
    short b f t w o e false g = absurd (cc)

    go : Front s → Named at n s
    go (comma f t w e) = short 44 f t w (inl refl) e (ltb (packed 1 f) (2 ^ 48)) (sym (name_of f 44 t at w refl) ∙ ap (name_at at) (sym e) ∙ h)
    go (feed f t w e) = short 10 f t w (inr refl) e (ltb (packed 1 f) (2 ^ 48)) (sym (name_of f 10 t at w refl) ∙ ap (name_at at) (sym e) ∙ h)
    go (unended w) = let z = sym (name_open s at w) ∙ h in absurd (cc)

-- ---- a name too long to be packed names nothing

long : (f : List ℕ) (n : Name) (q : Bool) → ltb (packed 1 f) (2 ^ 48) ≡ q → choose q (Some n) None ≡ None → 2 ^ 48 ≤ packed 1 f
long f n true q e = absurd (cc)
long f n false q e = ltb-false (packed 1 f) (2 ^ 48) q

module _ (f : List ℕ) (h : 2 ^ 48 ≤ packed 1 f) where
  too_long : (w : List ℕ) → packed 1 w < 2 ^ 48 → same f w ≡ false
  too_long w l = other f w refl (λ e. omega arith)

  none_in : (k : ℕ) (ns : List (List ℕ)) → every (λ w. ltb (packed 1 w) (2 ^ 48)) ns ≡ true → code_in k ns f ≡ None
  none_in k [] l = refl
  none_in k (w ∷ ns) l =
      let b = both (ltb (packed 1 w) (2 ^ 48)) (every (λ w. ltb (packed 1 w) (2 ^ 48)) ns) l in
      rw (too_long w (ltb-true (packed 1 w) (2 ^ 48) b.0), none_in (suc k) ns b.1)

  no_comparison : comparison_of f ≡ None
  unfolding comparison_of comparison_names packed
  no_comparison = none_in 12 comparison_names refl

  no_keyword : keyword_of f ≡ None
  unfolding keyword_of instruction_names packed
  no_keyword =
      rw (
        too_long (bytes "graph") (omega arith),
        too_long (bytes "block") (omega arith),
        too_long (bytes "goto") (omega arith),
        too_long (bytes "ite") (omega arith),
        too_long (bytes "halt") (omega arith),
        too_long (bytes "in") (omega arith),
        none_in 1 instruction_names refl,
      )

module _ (at : ℕ) (s : List ℕ) (h : name_at at s ≡ None) where
  is_long : (b : ℕ) (f t : List ℕ) → stops b ≡ true → whole f ≡ true → s ≡ f ++ (b ∷ t) → 2 ^ 48 ≤ packed 1 f
  is_long b f t sb w e =
      long f (record { key = packed 1 f; next = at + length f + 1; stop = b }) (ltb (packed 1 f) (2 ^ 48)) refl (sym (name_of f b t at w sb) ∙ ap (name_at at) (sym e) ∙ h)

  -- then there is no comparison
  pub unnamed_comparison : None ≡ comparing_at at s
  unfolding comparing_at
  unnamed_comparison = sym (ap compared (go (front s)))
    where
      go : Front s → field_at comparison_of 44 at s ≡ None
      go (comma f t w e) =
          ap (field_at comparison_of 44 at) e
          ∙ field_at_lem comparison_of f 44 t w refl at 44
          ∙ rw (no_comparison f (is_long 44 f t refl w e))
      go (feed f t w e) = ap (field_at comparison_of 44 at) e ∙ field_at_lem comparison_of f 10 t w refl at 44
      go (unended w) = field_none comparison_of s w 44 at refl

  -- nor a form
  pub unnamed_line : None ≡ parsed_at by_name at s
  unfolding by_name form_of
  unnamed_line = sym (go (front s))
    where
      go : Front s → parsed_at by_name at s ≡ None
      go (comma f t w e) =
          ap (parsed_at by_name at) e
          ∙ form_comma by_name at f t w
          ∙ form_none (λ fs. by_name (f ∷ fs)) (at + length f + 1) t (λ g gs. rw (no_keyword f (is_long 44 f t refl w e)))
      go (feed f t w e) =
          ap (parsed_at by_name at) e
          ∙ form_feed by_name at f t w
          ∙ rw (no_keyword f (is_long 10 f t refl w e))
      go (unended w) = form_open by_name at s w

-- ---- a line, and a comparison, by a name that was packed

abbrev compared_to : ℕ → Option Comparison → Option Comparing
compared_to n o = option_map (λ (c : Comparison). record { comparison = c; next = n }) o

compared_valued : (o : Option ℕ) (n : ℕ) → compared (valued o n) ≡ compared_to n (option_map comparison_at o)
compared_valued None n = refl
compared_valued (Some k) n = refl

module _ (text : List ℕ) (at : ℕ) (all_byte : (i : ℕ) → get_or text i 0 < 256) (n : Name) (e : name_at at (drop at text) ≡ Some n) where
  d : Named at n (drop at text)
  d = named at (drop at text) e

  d_bytes : every byte d.f ≡ true
  d_bytes = field_bytes text at d.f (n.stop ∷ d.t) all_byte d.front_is

  before : {b : ℕ} → n.stop ≡ b → drop at text ≡ d.f ++ (b ∷ d.t)
  before h = d.front_is ∙ ap (λ (x : ℕ). d.f ++ (x ∷ d.t)) h

  with_comma : n.stop ≡ 44 → parsed_at by_name at (drop at text) ≡ parsed_at (λ fs. option_and_then (λ k. form_of k fs) (keyword_of d.f)) n.next (drop n.next text)
  unfolding by_name
  with_comma h =
      ap (parsed_at by_name at) (before h)
      ∙ form_comma by_name at d.f d.t d.clean
      ∙ ap (parsed_at (λ fs. by_name (d.f ∷ fs)) (at + length d.f + 1)) (sym (behind text d.f d.t 44 at (before h)))
      ∙ ap (λ (m : ℕ). parsed_at (λ fs. by_name (d.f ∷ fs)) m (drop m text)) (sym d.next_is)

  with_feed : n.stop ≡ 10 → parsed_at by_name at (drop at text) ≡ parsed (option_and_then (λ k. form_of k []) (keyword_of d.f)) n.next
  unfolding by_name
  with_feed h = ap (parsed_at by_name at) (before h) ∙ form_feed by_name at d.f d.t d.clean ∙ ap (parsed (by_name (d.f ∷ []))) (sym d.next_is)

  module _ (word : Option Keyword) (h : (f : List ℕ) → every byte f ≡ true → n.key ≡ packed 1 f → word ≡ keyword_of f) where
    word_is : {o : Option Keyword} → word ≡ o → keyword_of d.f ≡ o
    word_is w = sym (h d.f d_bytes d.key_is) ∙ w

    pub no_word : word ≡ None → None ≡ parsed_at by_name at (drop at text)
    no_word w =
        sym (⊎_elim
        (λ s. with_comma s ∙ form_none (λ fs. option_and_then (λ k. form_of k fs) (keyword_of d.f)) n.next (drop n.next text) (λ f fs. rw (word_is w)))
        (λ s. with_feed s ∙ rw (word_is w))
        d.stops_it)

    module _ {k : Keyword} (w : word ≡ Some k) where
      pub more_fields : n.stop ≡ 44 → parsed_at (form_of k) n.next (drop n.next text) ≡ parsed_at by_name at (drop at text)
      more_fields s = sym (with_comma s ∙ rw (word_is w))

      pub name_alone : (n.stop ≡ 44 → ⊥) → parsed (form_of k []) n.next ≡ parsed_at by_name at (drop at text)
      name_alone o = sym (⊎_elim (λ s. absurd (o s)) (λ s. with_feed s ∙ rw (word_is w)) d.stops_it)

  pub feed_behind : (n.stop ≡ 44 → ⊥) → None ≡ comparing_at at (drop at text)
  unfolding comparing_at
  feed_behind o =
      sym (⊎_elim
      (λ s. absurd (o s))
      (λ s. ap (λ (l : List ℕ). compared (field_at comparison_of 44 at l)) (before s) ∙ rw (field_at_lem comparison_of d.f 10 d.t d.clean refl at 44))
      d.stops_it)

  module _ (c : Option Comparison) (h : (f : List ℕ) → every byte f ≡ true → n.key ≡ packed 1 f → c ≡ option_map comparison_at (comparison_of f)) where
    pub comma_behind : {o : Option Comparison} → c ≡ o → n.stop ≡ 44 → compared_to n.next o ≡ comparing_at at (drop at text)
    unfolding comparing_at
    comma_behind {o} w s =
        sym
        (ap (λ (l : List ℕ). compared (field_at comparison_of 44 at l)) (before s)
        ∙ ap compared (field_at_lem comparison_of d.f 44 d.t d.clean refl at 44)
        ∙ compared_valued (comparison_of d.f) (at + length d.f + 1)
        ∙ ap (λ (m : ℕ). compared_to m (option_map comparison_at (comparison_of d.f))) (sym d.next_is)
        ∙ ap (compared_to n.next) (sym (h d.f d_bytes d.key_is) ∙ w))
