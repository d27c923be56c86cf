-- Names in a line: a name is found at its code, and what names a code is that name. Assumes nothing.
use Prim.Native.Nat.{ℕ, zero, suc, ◌+◌, ◌-◌, ◌≤◌, ◌<◌}
use native.Mathlib.Omega.{arith}
use mathlib.Core.Path.{◌≡◌, refl, sym, ap, ◌∙◌}
use mathlib.Core.Bool.{Bool, true, false}
use mathlib.Core.List.{List, [], ◌∷◌}
use Rattle.std.specs.Prelude.{Option, Some, None, option_map, IfSome}
use mathlib.Core.Logic.{◌⊎◌, inl, inr}
use lib.Dec.{eqb}
use lib.ListN.{length, get_or, get_or-eq_default}
use borrow.Author.Tests.{eqb-true, eqb-false, ne_eqb}
use Rattle.word.specs.declared.Comparison.{Comparison}
use Rattle.word.specs.declared.Comparison.TheVariants.{Eq, Ne, Lt, Ge, Ltu, Geu}
use Rattle.word.specs.Word.{choose, arity, comparison_at, comparison_code}
use Rattle.runs.specs.Lists.{same, every, or_else}
use Rattle.runs.proofs.ListLaws.{same_eq, every_at}
use Rattle.cfg_line.specs.declared.Keyword.{Keyword}
use Rattle.cfg_line.specs.declared.Keyword.TheVariants.{Graph, Block, Goto, Ite, Halt, Set, In, Unary, Binary}
use Rattle.delimited.specs.Parts.{bytes}
use Rattle.cfg_line.specs.Name.{instruction_names, comparison_names, code_in, comparison_of, operation, keyword_of}
use Rattle.cfg_write.specs.Write.{instruction_name, comparison_name}

-- what is known of a field that names code j, the first name being that of code k
record InNames (k : ℕ) (ns : List (List ℕ)) (f : List ℕ) (j : ℕ) : Type 0 where
  named : f ≡ get_or ns (j - k) []
  low : k ≤ j
  high : j < k + length ns

in_names : (k : ℕ) (ns : List (List ℕ)) (f : List ℕ) (j : ℕ) → code_in k ns f ≡ Some j → InNames k ns f j
in_names k [] f j h = absurd (cc)
in_names k (n ∷ ns) f j h = go (same f n) refl (in_names (suc k) ns f j) h
  where
    go : (t : Bool) → same f n ≡ t → (code_in (suc k) ns f ≡ Some j → InNames (suc k) ns f j) → or_else t k (code_in (suc k) ns f) ≡ Some j → InNames k (n ∷ ns) f j
    go true e ih h =
        let q : k ≡ j = cc in
        let z : j - k ≡ 0 = omega arith in
        record { named = rw z (same_eq f n e); low = omega arith; high = omega arith }
    go false e ih h =
        let i = ih h in
        let l = i.low in
        let u = i.high in
        let z : j - k ≡ suc (j - suc k) = omega arith in
        record { named = rw z i.named; low = omega arith; high = omega arith }

-- ---- instructions

abbrev pub KnownCode : ℕ → Type 0
KnownCode k = ((1 ≤ k) × (k ≤ 11)) ⊎ (k ≡ 20)

-- f is the name of code k
pub record Code (f : List ℕ) (k : ℕ) : Type 0 where
  pub name : f ≡ instruction_name k
  pub known : KnownCode k

-- how the name of code k is read, and what stands behind it and d: a literal, nothing, one operand, two
pub data Shape (k : ℕ) : Type 0 where
  literal : eqb k 1 ≡ true → arity k ≡ 1 → keyword_of (instruction_name k) ≡ Some Set → Shape k
  nothing : k ≡ 20 → arity k ≡ 0 → keyword_of (instruction_name k) ≡ Some In → Shape k
  one : eqb k 1 ≡ false → arity k ≡ 1 → keyword_of (instruction_name k) ≡ Some (Unary k) → Shape k
  two : eqb k 1 ≡ false → arity k ≡ 2 → keyword_of (instruction_name k) ≡ Some (Binary k) → Shape k

low_shape : (k : ℕ) → 1 ≤ k → k ≤ 11 → Shape k
unfolding keyword_of instruction_name arity
low_shape zero l h = absurd (omega arith)
low_shape (suc zero) l h = literal refl refl refl
low_shape (suc (suc zero)) l h = one refl refl refl
low_shape (suc (suc (suc zero))) l h = two refl refl refl
low_shape (suc (suc (suc (suc zero)))) l h = two refl refl refl
low_shape (suc (suc (suc (suc (suc zero))))) l h = two refl refl refl
low_shape (suc (suc (suc (suc (suc (suc zero)))))) l h = two refl refl refl
low_shape (suc (suc (suc (suc (suc (suc (suc zero))))))) l h = two refl refl refl
low_shape (suc (suc (suc (suc (suc (suc (suc (suc zero)))))))) l h = two refl refl refl
low_shape (suc (suc (suc (suc (suc (suc (suc (suc (suc zero))))))))) l h = two refl refl refl
low_shape (suc (suc (suc (suc (suc (suc (suc (suc (suc (suc zero)))))))))) l h = two refl refl refl
low_shape (suc (suc (suc (suc (suc (suc (suc (suc (suc (suc (suc zero))))))))))) l h = one refl refl refl
low_shape (suc (suc (suc (suc (suc (suc (suc (suc (suc (suc (suc (suc k)))))))))))) l h = absurd (omega arith)

in_shape : Shape 20
unfolding keyword_of instruction_name arity
in_shape = nothing refl refl refl

pub shape : (k : ℕ) → KnownCode k → Shape k
shape k (inl h) = low_shape k h.0 h.1
shape k (inr e) = rw e in_shape

pub not_one : (k : ℕ) → k ≡ 20 → eqb k 1 ≡ false
not_one k e = rw e

-- a low code that reads other than one operand reads two
two_read : (k : ℕ) → k ≤ 11 → Shape k → eqb (arity k) 1 ≡ false → arity k ≡ 2
two_read k h (literal e o r) q = absurd (eqb-false (arity k) 1 q o)
two_read k h (nothing e o r) q = absurd (omega arith)
two_read k h (one e o r) q = absurd (eqb-false (arity k) 1 q o)
two_read k h (two e o r) q = o

low_name : (k : ℕ) → k ≤ 11 → instruction_name k ≡ get_or ([] ∷ instruction_names) k []
unfolding instruction_name
low_name k h = rw (ne_eqb k 20 (λ e. omega arith))

-- what a keyword says of the field
abbrev pub Named : List ℕ → Keyword → Type 0
Named f Graph = f ≡ bytes "graph"
Named f Block = f ≡ bytes "block"
Named f Goto = f ≡ bytes "goto"
Named f Ite = f ≡ bytes "ite"
Named f Halt = f ≡ bytes "halt"
Named f Set = Code f 1
Named f In = Code f 20
Named f (Unary k) = Code f k × (eqb k 1 ≡ false) × (arity k ≡ 1)
Named f (Binary k) = Code f k × (eqb k 1 ≡ false) × (arity k ≡ 2)

pick : (f : List ℕ) (t : Bool) (k rest : Keyword) → (t ≡ true → Named f k) → (t ≡ false → Named f rest) → Named f (choose t k rest)
pick f true k rest a b = a refl
pick f false k rest a b = b refl

-- the first that the field names, else the rest
found : (f : List ℕ) (t : Bool) (k : Keyword) (rest : Option Keyword) → (t ≡ true → Named f k) → (t ≡ false → IfSome rest (Named f)) → IfSome (or_else t k rest) (Named f)
found f true k rest a b = a refl
found f false k rest a b = b refl

operation_named : (f : List ℕ) (o : Option ℕ) → code_in 1 instruction_names f ≡ o → IfSome (option_map operation o) (Named f)
unfolding instruction_names
operation_named f None e = tt
operation_named f (Some k) e =
    let i = in_names 1 instruction_names f k e in
    let l = i.low in
    let u = i.high in
    let z : k ≡ suc (k - 1) = omega arith in
    let h : k ≤ 11 = omega arith in
    let c : Code f k = record { name = i.named ∙ ap (λ (n : ℕ). get_or ([] ∷ instruction_names) n []) (sym z) ∙ sym (low_name k h); known = inl (l, h) } in
    pick f (eqb k 1) Set (choose (eqb (arity k) 1) (Unary k) (Binary k))
    (λ q. rw (eqb-true k 1 q) at c)
    (λ q. pick f (eqb (arity k) 1) (Unary k) (Binary k) (λ a. (c, q, eqb-true (arity k) 1 a)) (λ a. (c, q, two_read k h (low_shape k l h) a)))

in_named : (f : List ℕ) → f ≡ bytes "in" → Code f 20
unfolding instruction_name
in_named f e = record { name = e; known = inr refl }

pub keyword_named : (f : List ℕ) → IfSome (keyword_of f) (Named f)
unfolding keyword_of
keyword_named f =
    found f (same f (bytes "graph")) Graph _ (same_eq f (bytes "graph"))
    (λ e₁. found f (same f (bytes "block")) Block _ (same_eq f (bytes "block"))
    (λ e₂. found f (same f (bytes "goto")) Goto _ (same_eq f (bytes "goto"))
    (λ e₃. found f (same f (bytes "ite")) Ite _ (same_eq f (bytes "ite"))
    (λ e₄. found f (same f (bytes "halt")) Halt _ (same_eq f (bytes "halt"))
    (λ e₅. found f (same f (bytes "in")) In _ (λ q. in_named f (same_eq f (bytes "in") q))
    (λ e₆. operation_named f (code_in 1 instruction_names f) refl))))))

-- a test that holds of every name
pub name_test : (p : List ℕ → Bool) → every p instruction_names ≡ true → p (bytes "in") ≡ true → (k : ℕ) → KnownCode k → p (instruction_name k) ≡ true
unfolding instruction_name instruction_names
name_test p h n k (inl g) =
    let l = g.0 in
    let u = g.1 in
    let e : k ≡ suc (k - 1) = omega arith in
    ap p (low_name k u)
    ∙ ap (λ (n : ℕ). p (get_or ([] ∷ instruction_names) n [])) e
    ∙ every_at p instruction_names h (k - 1) [] (omega arith)
name_test p h n k (inr e) = rw e n

-- a code that is none, as a `match` on the codes says it, has no name
pub no_name : (k : ℕ) → (1 ≤ k → k ≤ 11 → ⊥) → (k ≡ 20 → ⊥) → instruction_name k ≡ []
unfolding instruction_name instruction_names
no_name zero h n = refl
no_name (suc k) h n =
    rw (ne_eqb (suc k) 20 n) (get_or-eq_default instruction_names [] {n = k} (omega arith))

-- ---- comparisons

pub comparison_read : (c : Comparison) → comparison_of (comparison_name c) ≡ Some (comparison_code c)
unfolding comparison_of comparison_name
comparison_read Eq = refl
comparison_read Ne = refl
comparison_read Lt = refl
comparison_read Ge = refl
comparison_read Ltu = refl
comparison_read Geu = refl

pub comparison_test : (p : List ℕ → Bool) → every p comparison_names ≡ true → (c : Comparison) → p (comparison_name c) ≡ true
unfolding comparison_name comparison_names
comparison_test p h Eq = every_at p comparison_names h 0 [] (omega arith)
comparison_test p h Ne = every_at p comparison_names h 1 [] (omega arith)
comparison_test p h Lt = every_at p comparison_names h 2 [] (omega arith)
comparison_test p h Ge = every_at p comparison_names h 3 [] (omega arith)
comparison_test p h Ltu = every_at p comparison_names h 4 [] (omega arith)
comparison_test p h Geu = every_at p comparison_names h 5 [] (omega arith)

-- place m of the names is that of the comparison there
at_place : (f : List ℕ) (m : ℕ) → m < 6 → f ≡ get_or comparison_names m [] → f ≡ comparison_name (get_or (Eq ∷ Ne ∷ Lt ∷ Ge ∷ Ltu ∷ Geu ∷ []) m Eq)
unfolding comparison_name comparison_names
at_place f zero h e = e
at_place f (suc zero) h e = e
at_place f (suc (suc zero)) h e = e
at_place f (suc (suc (suc zero))) h e = e
at_place f (suc (suc (suc (suc zero)))) h e = e
at_place f (suc (suc (suc (suc (suc zero))))) h e = e
at_place f (suc (suc (suc (suc (suc (suc m)))))) h e = absurd (omega arith)

pub comparison_written : (f : List ℕ) (k : ℕ) → comparison_of f ≡ Some k → f ≡ comparison_name (comparison_at k)
unfolding comparison_of comparison_names
comparison_written f k h =
    let i = in_names 12 comparison_names f k h in
    let l = i.low in
    let u = i.high in
    at_place f (k - 12) (omega arith) i.named
