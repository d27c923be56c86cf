-- A name is known by its packed bytes. Assumes nothing.
use mathlib.Core.Path.{◌≡◌, ◌∙◌, refl, sym, ap}
use mathlib.Core.List.{List, [], ◌∷◌}
use mathlib.Core.Bool.{Bool, true, false, ◌&&◌, and-false, false≢true}
use Prim.Native.Nat.{ℕ, suc, ◌+◌, ◌*◌, ◌≤◌, ◌<◌, ◌^◌}
use native.Mathlib.Omega.{arith}
use lib.ListN.{length, get_or, drop, drop_of_length-le}
use Rattle.delimited.proofs.Numbers.{drop_more}
use lib.Dec.{eqb, ltb}
use borrow.Author.Tests.{eq-eqb, ne_eqb, ltb-true, lt-ltb, le-ltb}
use Rattle.word.specs.Word.{choose, arity, comparison_at}
use Rattle.runs.proofs.ListLaws.{same_eq, same_refl}
use Rattle.runs.proofs.Tests.{and_true as both}
use Rattle.runs.specs.Lists.{every, same, or_else}
use Rattle.cfg_line.specs.declared.Name.{Name}
use Rattle.std.specs.Prelude.{Option, Some, None, option_map}
use Rattle.delimited.specs.Cursor.{stops, front_field, stop_of}
use Rattle.cfg_line.specs.Cursor.{byte, packed, name_at}
use Rattle.word.specs.declared.Comparison.{Comparison}
use Rattle.word.specs.declared.Comparison.TheVariants.{Eq, Ne, Lt, Ge, Ltu, Geu}
use Rattle.cfg_line.specs.declared.Keyword.{Keyword}
use Rattle.cfg_line.specs.declared.Keyword.TheVariants.{Graph, Block, Goto, Ite, Halt, Set, In, Unary, Binary}
use Rattle.delimited.specs.Parts.{bytes}
use Rattle.cfg_line.specs.Name.{comparison_names, comparison_of, instruction_names, keyword_of}

pub packed_grows : (k : ℕ) (f : List ℕ) → k ≤ packed k f
unfolding packed
packed_grows k [] = omega arith
packed_grows k (b ∷ bs) =
    let h = packed_grows (k * 256 + b) bs in
    omega arith

-- bytes are known by the number that they are packed into
same_packed :
    (j k : ℕ) (f g : List ℕ) → every byte f ≡ true → every byte g ≡ true → j < 2 * k → k < 2 * j
    → packed j f ≡ packed k g → (j ≡ k) × (f ≡ g)
unfolding packed
same_packed j k [] [] p q l r e = (e, refl)
same_packed j k [] (c ∷ g) p q l r e =
    let h = packed_grows (k * 256 + c) g in
    absurd (omega arith)
same_packed j k (b ∷ f) [] p q l r e =
    let h = packed_grows (j * 256 + b) f in
    absurd (omega arith)
same_packed j k (b ∷ f) (c ∷ g) p q l r e =
    let pb = both (byte b) (every byte f) p in
    let qb = both (byte c) (every byte g) q in
    let lb = ltb-true b 256 pb.0 in
    let lc = ltb-true c 256 qb.0 in
    let h = same_packed (j * 256 + b) (k * 256 + c) f g pb.1 qb.1 (omega arith) (omega arith) e in
    let h0 = h.0 in
    let eb : b ≡ c = omega arith in
    (omega arith, (λ i. eb i ∷ h.1 i))

pub unpacked : (f g : List ℕ) → every byte f ≡ true → every byte g ≡ true → packed 1 f ≡ packed 1 g → f ≡ g
unpacked f g p q e = (same_packed 1 1 f g p q (omega arith) (omega arith) e).1

-- a field of which the packed number is not the name's is not the name
pub other : (f w : List ℕ) {k : ℕ} → k ≡ packed 1 f → (k ≡ packed 1 w → ⊥) → same f w ≡ false
other f w e n = go (same f w) refl
  where
    go : (t : Bool) → same f w ≡ t → t ≡ false
    go true q = absurd (n (e ∙ ap (packed 1) (same_eq f w q)))
    go false q = refl

-- ---- what a field names, by its packed number

-- a field is a name where the packed numbers are the same
same_is : (f w : List ℕ) {key : ℕ} → every byte f ≡ true → every byte w ≡ true → key ≡ packed 1 f → same f w ≡ eqb key (packed 1 w)
same_is f w {key} bf bw e = go (same f w) refl
  where
    go : (t : Bool) → same f w ≡ t → t ≡ eqb key (packed 1 w)
    go true q = sym (eq-eqb key (packed 1 w) (e ∙ ap (packed 1) (same_eq f w q)))
    go false q = sym (ne_eqb key (packed 1 w) (λ k. absurd (false≢true (sym q ∙ rw (unpacked f w bf bw (sym e ∙ k)) (same_refl w)))))

map_first : {A B : Type 0} (g : A → B) (t : Bool) (x : A) (o : Option A) → option_map g (or_else t x o) ≡ or_else t (g x) (option_map g o)
map_first g true x o = refl
map_first g false x o = refl

abbrev pub keyword_at : ℕ → Option Keyword
keyword_at key =
    or_else (eqb key 1543812247656) Graph
    (or_else (eqb key 1522237662059) Block
    (or_else (eqb key 6030324847) Goto
    (or_else (eqb key 23688293) Ite
    (or_else (eqb key 6046182516) Halt
    (or_else (eqb key 92526) In
    (or_else (eqb key 24339828) Set
    (or_else (eqb key 5963214969) (Unary 2)
    (or_else (eqb key 23159908) (Binary 3)
    (or_else (eqb key 24343906) (Binary 4)
    (or_else (eqb key 23162468) (Binary 5)
    (or_else (eqb key 94066) (Binary 6)
    (or_else (eqb key 24670066) (Binary 7)
    (or_else (eqb key 24340588) (Binary 8)
    (or_else (eqb key 24340594) (Binary 9)
    (or_else (eqb key 24338802) (Binary 10)
    (or_else (eqb key 95096) (Unary 11) None))))))))))))))))

pub keyword_is : (f : List ℕ) {key : ℕ} → every byte f ≡ true → key ≡ packed 1 f → keyword_of f ≡ keyword_at key
unfolding keyword_of instruction_names arity packed
keyword_is f b e =
    simp (
      same_is f (bytes "graph") b refl e,
      same_is f (bytes "block") b refl e,
      same_is f (bytes "goto") b refl e,
      same_is f (bytes "ite") b refl e,
      same_is f (bytes "halt") b refl e,
      same_is f (bytes "in") b refl e,
      same_is f (bytes "set") b refl e,
      same_is f (bytes "copy") b refl e,
      same_is f (bytes "add") b refl e,
      same_is f (bytes "sub") b refl e,
      same_is f (bytes "and") b refl e,
      same_is f (bytes "or") b refl e,
      same_is f (bytes "xor") b refl e,
      same_is f (bytes "shl") b refl e,
      same_is f (bytes "shr") b refl e,
      same_is f (bytes "sar") b refl e,
      same_is f (bytes "sx") b refl e,
      map_first,
    )

abbrev pub comparison_by : ℕ → Option Comparison
comparison_by key =
    or_else (eqb key 91505) Eq
    (or_else (eqb key 93797) Ne
    (or_else (eqb key 93300) Lt
    (or_else (eqb key 92005) Ge
    (or_else (eqb key 23884917) Ltu
    (or_else (eqb key 23553397) Geu None)))))

pub comparison_is : (f : List ℕ) {key : ℕ} → every byte f ≡ true → key ≡ packed 1 f → option_map comparison_at (comparison_of f) ≡ comparison_by key
unfolding comparison_of comparison_names packed
comparison_is f b e =
    simp (
      same_is f (bytes "eq") b refl e,
      same_is f (bytes "ne") b refl e,
      same_is f (bytes "lt") b refl e,
      same_is f (bytes "ge") b refl e,
      same_is f (bytes "ltu") b refl e,
      same_is f (bytes "geu") b refl e,
      map_first,
    )

-- ---- one more byte of a name, behind what is packed already

abbrev pub name_from : ℕ → ℕ → List ℕ → Option Name
name_from k at s =
    choose (stops (stop_of s) && ltb (packed k (front_field s)) (2 ^ 48))
    (Some record { key = packed k (front_field s); next = at + length (front_field s) + 1; stop = stop_of s })
    None

pub name_from_one : (at : ℕ) (s : List ℕ) → name_from 1 at s ≡ name_at at s
unfolding name_at
name_from_one at s = refl

pub none_stops : (b : ℕ) → (b ≡ 44 → ⊥) → (b ≡ 10 → ⊥) → stops b ≡ false
none_stops b m n = rw (ne_eqb b 44 m, ne_eqb b 10 n)

module _ (k at : ℕ) (s : List ℕ) where
  name_end : (b : ℕ) → stops b ≡ true → k < 2 ^ 48 → name_from k at (b ∷ s) ≡ Some record { key = k; next = at + 1; stop = b }
  unfolding front_field stop_of packed
  name_end b h l =
      let z : at + 0 + 1 ≡ at + 1 = omega arith in
      rw (h, h, lt-ltb k (2 ^ 48) l, z)

  name_more : (b : ℕ) → stops b ≡ false → name_from k at (b ∷ s) ≡ name_from (k * 256 + b) (at + 1) s
  unfolding front_field stop_of packed
  name_more b h =
      let z : at + suc (length (front_field s)) + 1 ≡ at + 1 + length (front_field s) + 1 = omega arith in
      rw (h, z)

  name_long : (b : ℕ) → stops b ≡ false → 2 ^ 40 ≤ k → name_from k at (b ∷ s) ≡ None
  unfolding front_field stop_of packed
  name_long b h l =
      let g = packed_grows (k * 256 + b) (front_field s) in
      rw (h, le-ltb (packed (k * 256 + b) (front_field s)) (2 ^ 48) (omega arith), and-false)

  name_none : name_from k at [] ≡ None
  unfolding front_field stop_of packed
  name_none = refl

-- ---- a name in a text, by the byte that stands at `at`

module _ (k at : ℕ) (t : List ℕ) where
  pub none_at : length t ≤ at → None ≡ name_from k at (drop at t)
  none_at h = sym (ap (name_from k at) (drop_of_length-le t h) ∙ name_none k at [])

  module _ (h : at < length t) where
    byte_at : {r : Option Name} → name_from k at (get_or t at 0 ∷ drop (at + 1) t) ≡ r → r ≡ name_from k at (drop at t)
    byte_at e = sym (ap (name_from k at) (drop_more t at h) ∙ e)

    pub end_at : stops (get_or t at 0) ≡ true → k < 2 ^ 48 → Some record { key = k; next = at + 1; stop = get_or t at 0 } ≡ name_from k at (drop at t)
    end_at s l = byte_at (name_end k at (drop (at + 1) t) (get_or t at 0) s l)

    module _ (n : stops (get_or t at 0) ≡ false) where
      pub long_at : 2 ^ 40 ≤ k → None ≡ name_from k at (drop at t)
      long_at l = byte_at (name_long k at (drop (at + 1) t) (get_or t at 0) n l)

      pub more_at : name_from (k * 256 + get_or t at 0) (at + 1) (drop (at + 1) t) ≡ name_from k at (drop at t)
      more_at = byte_at (name_more k at (drop (at + 1) t) (get_or t at 0) n)
