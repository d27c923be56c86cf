-- A line's form: what is written of a form is read as it, and what is read as a form was so written. Assumes nothing.
use Prim.Native.Nat.{ℕ, ◌^◌, ◌≤◌, ◌<◌}
use native.Mathlib.Omega.{arith}
use mathlib.Core.Path.{◌≡◌, refl, sym, ap, ap₂, ◌∙◌}
use mathlib.Core.Bool.{Bool, true, false, ◌&&◌}
use mathlib.Core.List.{List, [], ◌∷◌}
use Rattle.std.specs.Prelude.{Option, Some, None, option_and_then, IfSome}
use lib.Dec.{eqb, leb}
use lib.Seq.{take_all}
use borrow.Author.Tests.{leb-true, eqb-true, eqb-false, le-leb}
use Rattle.word.specs.Word.{choose, arity, comparison_at}
use Rattle.word.proofs.Laws.{comparison_code_lem}
use Rattle.runs.proofs.ListLaws.{and_left, and_right}
use Rattle.decimal.specs.Decimal.{decimal_of}
use Rattle.cfg.specs.Layout.{max_blocks, max_registers}
use Rattle.cfg.proofs.Admitted.{ValidInstruction}
use Rattle.cfg.specs.declared.Instruction.{Instruction}
use Rattle.cfg.specs.declared.Condition.{Condition}
use Rattle.cfg_line.specs.declared.Keyword.{Keyword}
use Rattle.cfg_line.specs.declared.Keyword.TheVariants as keyword
use Rattle.cfg_line.specs.declared.Line.{Line}
use Rattle.cfg_line.specs.declared.Line.TheVariants as line
use Rattle.delimited.specs.Parts.{bytes, Fields}
use Rattle.delimited.proofs.Written.{number_read, number_written}
use Rattle.cfg_line.specs.Name.{comparison_of, keyword_of}
use Rattle.cfg_line.specs.Number.{small_number, literal_of}
use Rattle.cfg_line.specs.Form.{field, number, end, graph_line, instruction, ite_line, form_of, by_name}
use Rattle.cfg_write.specs.Write.{instruction_name, comparison_name, literal_text, operands_of, fields_of}
use Rattle.cfg_write.proofs.LiteralLaws.{literal_read, literal_written}
use Rattle.cfg_write.proofs.NameLaws.{Code, Named, Shape, literal, nothing, one, two, shape, not_one, keyword_named, comparison_read, comparison_written}

-- ---- the numbers that a line can hold

-- registers have any number of a field
pub record FormedInstruction (i : Instruction) : Type 0 where
  pub fits : ValidInstruction 256 i
  pub literal : eqb i.code 1 ≡ true → i.a < 2 ^ 32

pub record FormedGraph (b r : ℕ) : Type 0 where
  pub some_block : 1 ≤ b
  pub few_blocks : b ≤ max_blocks
  pub some_register : 1 ≤ r
  pub few_registers : r ≤ max_registers

pub record FormedIte (c : Condition) (t f : ℕ) : Type 0 where
  pub first : c.a ≤ 255
  pub second : c.b ≤ 255
  pub holds : t ≤ 255
  pub fails : f ≤ 255

abbrev pub Formed : Line → Type 0
Formed (line.Graph b r) = FormedGraph b r
Formed (line.Block n) = n ≤ 255
Formed (line.Instruction i) = FormedInstruction i
Formed (line.Goto t) = t ≤ 255
Formed (line.Ite c t f) = FormedIte c t f
Formed line.Halt = Unit {0}

-- ---- what is written is read

module _ (read : List ℕ → Option ℕ) (k : ℕ → Fields → Option Line) where
  field_is : (f : List ℕ) (v : ℕ) (fs : Fields) → read f ≡ Some v → field read k (f ∷ fs) ≡ k v fs
  field_is f v fs e = rw e

number_is : (k : ℕ → Fields → Option Line) (n : ℕ) (fs : Fields) → n ≤ 255 → number k (decimal_of n ∷ fs) ≡ k n fs
number_is k n fs h = field_is small_number k (decimal_of n) n fs (number_read 255 n h)

module _ (i : Instruction) where
  pub operands_set : eqb i.code 1 ≡ true → operands_of i ≡ literal_text i.a ∷ []
  unfolding operands_of
  operands_set e = rw e

  pub operands_none : eqb i.code 1 ≡ false → arity i.code ≡ 0 → operands_of i ≡ []
  unfolding operands_of
  operands_none e w = rw (e, w)

  pub operands_one : eqb i.code 1 ≡ false → arity i.code ≡ 1 → operands_of i ≡ decimal_of i.a ∷ []
  unfolding operands_of
  operands_one e w = rw (e, w)

  pub operands_two : eqb i.code 1 ≡ false → 2 ≤ arity i.code → operands_of i ≡ decimal_of i.a ∷ decimal_of i.b ∷ []
  unfolding operands_of
  operands_two e w = rw e (take_all (arity i.code) (decimal_of i.a ∷ decimal_of i.b ∷ []) w)

module _ (i : Instruction) (h : FormedInstruction i) where
  d_read : small_number (decimal_of i.d) ≡ Some i.d
  d_read = let w = h.fits.written in number_read 255 i.d (omega arith)

  pub first_small : eqb i.code 1 ≡ false → 0 < arity i.code → i.a ≤ 255
  first_small e o = let w = h.fits.first o (eqb-false i.code 1 e) in omega arith

  pub second_small : arity i.code ≡ 2 → i.b ≤ 255
  second_small o = let w = h.fits.second o in omega arith

  no_second_lem : arity i.code < 2 → i.b ≡ 0
  no_second_lem o = h.fits.no_second (λ t. omega arith)

  -- the fields behind the name
  behind_name : Shape i.code → option_and_then (λ k. form_of k (decimal_of i.d ∷ operands_of i)) (keyword_of (instruction_name i.code)) ≡ Some (line.Instruction i)
  unfolding form_of
  behind_name (literal e o k) =
      rw (k, operands_set i e, d_read, literal_read i.a (h.literal e))
      (ap₂ (λ (k b : ℕ). Some (instruction k i.d i.a b)) (sym (eqb-true i.code 1 e)) (sym (no_second_lem (omega arith))))
  behind_name (nothing e o k) =
      let z = h.fits.no_first o in
      rw (k, operands_none i (not_one i.code e) o, d_read)
      (ap₂ (λ (k a : ℕ). Some (instruction k i.d a 0)) (sym e) (sym z) ∙ ap (λ (b : ℕ). Some (instruction i.code i.d i.a b)) (sym (no_second_lem (omega arith))))
  behind_name (one e o k) =
      rw (k, operands_one i e o, d_read, number_read 255 i.a (first_small e (omega arith)))
      (ap (λ (b : ℕ). Some (instruction i.code i.d i.a b)) (sym (no_second_lem (omega arith))))
  behind_name (two e o k) =
      rw (k, operands_two i e (omega arith), d_read, number_read 255 i.a (first_small e (omega arith)), number_read 255 i.b (second_small o))

  instruction_read : by_name (fields_of (line.Instruction i)) ≡ Some (line.Instruction i)
  unfolding by_name fields_of
  instruction_read = behind_name (shape i.code h.fits.known)

pub fields_read : (l : Line) → Formed l → by_name (fields_of l) ≡ Some l
unfolding by_name fields_of form_of keyword_of
fields_read (line.Graph b r) h =
    let p = h.few_blocks in
    let q = h.few_registers in
    number_is (λ b. number (λ r. end (graph_line b r))) b (decimal_of r ∷ []) (omega arith)
    ∙ (number_is (λ r. end (graph_line b r)) r [] (omega arith)
    ∙ rw (le-leb 1 b h.some_block, le-leb b max_blocks p, le-leb 1 r h.some_register, le-leb r max_registers q))
fields_read (line.Block n) h = number_is (λ n. end (Some (line.Block n))) n [] h
fields_read (line.Instruction i) h = instruction_read i h
fields_read (line.Goto t) h = number_is (λ n. end (Some (line.Goto n))) t [] h
fields_read (line.Ite c t f) h =
    rw (comparison_read c.comparison, number_read 255 c.a h.first, number_read 255 c.b h.second, number_read 255 t h.holds, number_read 255 f h.fails, comparison_code_lem c.comparison)
fields_read line.Halt h = refl

-- ---- what is read was so written

-- the fields are those of the form
pub record Fielded (fs : Fields) (l : Line) : Type 0 where
  pub fields : fs ≡ fields_of l
  pub formed : Formed l

abbrev Back : Fields → Option Line → Type 0
Back fs o = IfSome o (Fielded fs)

back : (fs : Fields) (l : Line) → fs ≡ fields_of l → Formed l → Back fs (Some l)
back fs l e h = record { fields = e; formed = h }

-- `front` is what stands before the fields
module _ (front : Fields → Fields) where
  end_back : (o : Option Line) → Back (front []) o → (fs : Fields) → Back (front fs) (end o fs)
  end_back o b [] = b
  end_back o b (f ∷ fs) = tt

  field_back :
      (read : List ℕ → Option ℕ) (k : ℕ → Fields → Option Line)
      → ((f : List ℕ) (v : ℕ) → read f ≡ Some v → (fs : Fields) → Back (front (f ∷ fs)) (k v fs))
      → (fs : Fields) → Back (front fs) (field read k fs)
  field_back read k b [] = tt
  field_back read k b (f ∷ fs) = go (read f) refl
    where
      go : (o : Option ℕ) → read f ≡ o → Back (front (f ∷ fs)) (option_and_then (λ v. k v fs) o)
      go None e = tt
      go (Some v) e = b f v e fs

  number_back :
      (k : ℕ → Fields → Option Line)
      → ((v : ℕ) → v ≤ 255 → (fs : Fields) → Back (front (decimal_of v ∷ fs)) (k v fs))
      → (fs : Fields) → Back (front fs) (number k fs)
  number_back k b =
      field_back small_number k (λ f v e fs. let w = number_written 255 v f e in rw w.field (b v w.small fs))

graph_back : (b r : ℕ) → Back (bytes "graph" ∷ decimal_of b ∷ decimal_of r ∷ []) (graph_line b r)
unfolding fields_of
graph_back b r = go (leb 1 b && leb b max_blocks && leb 1 r && leb r max_registers) refl
  where
    fields : Fields
    fields = bytes "graph" ∷ decimal_of b ∷ decimal_of r ∷ []

    go : (t : Bool) → leb 1 b && leb b max_blocks && leb 1 r && leb r max_registers ≡ t → Back fields (choose t (Some (line.Graph b r)) None)
    go true e =
        let h₂ = and_left (leb 1 b && leb b max_blocks && leb 1 r) (leb r max_registers) e in
        let h₁ = and_left (leb 1 b && leb b max_blocks) (leb 1 r) h₂ in
        back fields (line.Graph b r) refl
        record {
          some_block = leb-true 1 b (and_left (leb 1 b) (leb b max_blocks) h₁);
          few_blocks = leb-true b max_blocks (and_right (leb 1 b) (leb b max_blocks) h₁);
          some_register = leb-true 1 r (and_right (leb 1 b && leb b max_blocks) (leb 1 r) h₂);
          few_registers = leb-true r max_registers (and_right (leb 1 b && leb b max_blocks && leb 1 r) (leb r max_registers) e);
        }
    go false e = tt

-- an instruction's fields
module _ (i : Instruction) (f : List ℕ) (c : Code f i.code) (h : i.d ≤ 255) where
  operands_back : (fs : Fields) → operands_of i ≡ fs → FormedInstruction i → Back (f ∷ decimal_of i.d ∷ fs) (Some (line.Instruction i))
  unfolding fields_of
  operands_back fs e w = back (f ∷ decimal_of i.d ∷ fs) (line.Instruction i) (rw (e, c.name)) w

  set_back : eqb i.code 1 ≡ true → arity i.code ≡ 1 → i.a < 2 ^ 32 → i.b ≡ 0 → Back (f ∷ decimal_of i.d ∷ literal_text i.a ∷ []) (Some (line.Instruction i))
  set_back e o w z =
      operands_back (literal_text i.a ∷ []) (operands_set i e)
      record {
        fits =
            record {
              known = c.known;
              written = omega arith;
              first = λ _ n. absurd (n (eqb-true i.code 1 e));
              no_first = λ q. absurd (omega arith);
              second = λ q. absurd (omega arith);
              no_second = λ _. z;
            };
        literal = λ _. w;
      }

  none_back : eqb i.code 1 ≡ false → arity i.code ≡ 0 → i.a ≡ 0 → i.b ≡ 0 → Back (f ∷ decimal_of i.d ∷ []) (Some (line.Instruction i))
  none_back e o y z =
      operands_back [] (operands_none i e o)
      record {
        fits =
            record {
              known = c.known;
              written = omega arith;
              first = λ q _. absurd (omega arith);
              no_first = λ _. y;
              second = λ q. absurd (omega arith);
              no_second = λ _. z;
            };
        literal = λ q. omega arith;
      }

  one_back : eqb i.code 1 ≡ false → arity i.code ≡ 1 → i.a ≤ 255 → i.b ≡ 0 → Back (f ∷ decimal_of i.d ∷ decimal_of i.a ∷ []) (Some (line.Instruction i))
  one_back e o w z =
      operands_back (decimal_of i.a ∷ []) (operands_one i e o)
      record {
        fits =
            record {
              known = c.known;
              written = omega arith;
              first = λ _ _. omega arith;
              no_first = λ q. absurd (omega arith);
              second = λ q. absurd (omega arith);
              no_second = λ _. z;
            };
        literal = λ q. omega arith;
      }

  two_back : eqb i.code 1 ≡ false → arity i.code ≡ 2 → i.a ≤ 255 → i.b ≤ 255 → Back (f ∷ decimal_of i.d ∷ decimal_of i.a ∷ decimal_of i.b ∷ []) (Some (line.Instruction i))
  two_back e o w v =
      operands_back (decimal_of i.a ∷ decimal_of i.b ∷ []) (operands_two i e (omega arith))
      record {
        fits =
            record {
              known = c.known;
              written = omega arith;
              first = λ _ _. omega arith;
              no_first = λ q. absurd (omega arith);
              second = λ _. omega arith;
              no_second = λ q. absurd (q o);
            };
        literal = λ q. omega arith;
      }

form_back : (k : Keyword) (name : List ℕ) → Named name k → (fs : Fields) → Back (name ∷ fs) (form_of k fs)
unfolding form_of fields_of arity
form_back keyword.Graph name e fs =
    rw e
    (number_back (λ fs. bytes "graph" ∷ fs) (λ b. number (λ r. end (graph_line b r)))
    (λ b h. number_back (λ fs. bytes "graph" ∷ decimal_of b ∷ fs) (λ r. end (graph_line b r))
    (λ r k. end_back (λ fs. bytes "graph" ∷ decimal_of b ∷ decimal_of r ∷ fs) (graph_line b r) (graph_back b r)))
    fs)
form_back keyword.Block name e fs =
    rw e
    (number_back (λ fs. bytes "block" ∷ fs) (λ n. end (Some (line.Block n)))
    (λ n h. end_back (λ fs. bytes "block" ∷ decimal_of n ∷ fs) (Some (line.Block n)) (back (bytes "block" ∷ decimal_of n ∷ []) (line.Block n) refl h))
    fs)
form_back keyword.Goto name e fs =
    rw e
    (number_back (λ fs. bytes "goto" ∷ fs) (λ t. end (Some (line.Goto t)))
    (λ t h. end_back (λ fs. bytes "goto" ∷ decimal_of t ∷ fs) (Some (line.Goto t)) (back (bytes "goto" ∷ decimal_of t ∷ []) (line.Goto t) refl h))
    fs)
form_back keyword.Ite name e fs =
    rw e
    (field_back (λ fs. bytes "ite" ∷ fs) comparison_of (λ c. number (λ a. number (λ b. number (λ t. number (λ f. end (Some (ite_line c a b t f)))))))
    (λ n c w. rw (comparison_written n c w)
    (number_back (λ fs. bytes "ite" ∷ comparison_name (comparison_at c) ∷ fs) (λ a. number (λ b. number (λ t. number (λ f. end (Some (ite_line c a b t f))))))
    (λ a h₁. number_back (λ fs. bytes "ite" ∷ comparison_name (comparison_at c) ∷ decimal_of a ∷ fs) (λ b. number (λ t. number (λ f. end (Some (ite_line c a b t f)))))
    (λ b h₂. number_back (λ fs. bytes "ite" ∷ comparison_name (comparison_at c) ∷ decimal_of a ∷ decimal_of b ∷ fs) (λ t. number (λ f. end (Some (ite_line c a b t f))))
    (λ t h₃. number_back (λ fs. bytes "ite" ∷ comparison_name (comparison_at c) ∷ decimal_of a ∷ decimal_of b ∷ decimal_of t ∷ fs) (λ f. end (Some (ite_line c a b t f)))
    (λ f h₄. end_back (λ fs. bytes "ite" ∷ comparison_name (comparison_at c) ∷ decimal_of a ∷ decimal_of b ∷ decimal_of t ∷ decimal_of f ∷ fs) (Some (ite_line c a b t f))
    (back (fields_of (ite_line c a b t f)) (ite_line c a b t f) refl (record { first = h₁; second = h₂; holds = h₃; fails = h₄ }))))))))
    fs)
form_back keyword.Halt name e fs =
    rw e (end_back (λ fs. bytes "halt" ∷ fs) (Some line.Halt) (back (bytes "halt" ∷ []) line.Halt refl tt) fs)
form_back keyword.Set name c fs =
    number_back (λ fs. name ∷ fs) (λ d. field literal_of (λ a. end (Some (instruction 1 d a 0))))
    (λ d h. field_back (λ fs. name ∷ decimal_of d ∷ fs) literal_of (λ a. end (Some (instruction 1 d a 0)))
    (λ f a e. let w = literal_written a f e in
    rw w.field (end_back (λ fs. name ∷ decimal_of d ∷ literal_text a ∷ fs) (Some (instruction 1 d a 0)) (set_back (record { code = 1; d = d; a = a; b = 0 }) name c h refl refl w.word refl))))
    fs
form_back keyword.In name c fs =
    number_back (λ fs. name ∷ fs) (λ d. end (Some (instruction 20 d 0 0)))
    (λ d h. end_back (λ fs. name ∷ decimal_of d ∷ fs) (Some (instruction 20 d 0 0)) (none_back (record { code = 20; d = d; a = 0; b = 0 }) name c h refl refl refl refl))
    fs
form_back (keyword.Unary k) name c fs =
    number_back (λ fs. name ∷ fs) (λ d. number (λ a. end (Some (instruction k d a 0))))
    (λ d h. number_back (λ fs. name ∷ decimal_of d ∷ fs) (λ a. end (Some (instruction k d a 0)))
    (λ a w. end_back (λ fs. name ∷ decimal_of d ∷ decimal_of a ∷ fs) (Some (instruction k d a 0)) (one_back (record { code = k; d = d; a = a; b = 0 }) name c.0 h c.1 c.2 w refl)))
    fs
form_back (keyword.Binary k) name c fs =
    number_back (λ fs. name ∷ fs) (λ d. number (λ a. number (λ b. end (Some (instruction k d a b)))))
    (λ d h. number_back (λ fs. name ∷ decimal_of d ∷ fs) (λ a. number (λ b. end (Some (instruction k d a b))))
    (λ a w. number_back (λ fs. name ∷ decimal_of d ∷ decimal_of a ∷ fs) (λ b. end (Some (instruction k d a b)))
    (λ b v. end_back (λ fs. name ∷ decimal_of d ∷ decimal_of a ∷ decimal_of b ∷ fs) (Some (instruction k d a b)) (two_back (record { code = k; d = d; a = a; b = b }) name c.0 h c.1 c.2 w v))))
    fs

pub fields_back : (fs : Fields) → IfSome (by_name fs) (Fielded fs)
unfolding by_name
fields_back [] = tt
fields_back (name ∷ fs) = go (keyword_of name) (keyword_named name)
  where
    go : (o : Option Keyword) → IfSome o (Named name) → Back (name ∷ fs) (option_and_then (λ k. form_of k fs) o)
    go None n = tt
    go (Some k) n = form_back k name n fs
