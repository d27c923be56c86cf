-- Bytes stored one after another. Assumes nothing.
use Prim.Native.Nat.{ℕ, ◌+◌, ◌-◌, ◌≤◌, ◌<◌, ◌^◌}
use native.Mathlib.Omega.{arith}
use mathlib.Core.Path.{◌≡◌, refl, sym, ap, ◌∙◌}
use mathlib.Core.List.{List, [], ◌∷◌, ◌++◌, append_assoc, append-nil}
use lib.ListN.{length, length-append}
use borrow.Author.Tests.{eq-eqb, ne_eqb, lt-ltb, le-ltb}
use Rattle.word.specs.Word.{arity}
use Rattle.cfg.specs.declared.Instruction.{Instruction}
use lib.Seq.{sets, length-sets}
use Rattle.buffers.proofs.Copies.{sets_append}
use Rattle.runs.specs.Lists.{concat_map}
use Rattle.decimal.specs.Decimal.{decimal_of}
use Rattle.decimal.proofs.Laws.{decimal_word}
use Rattle.cfg.specs.declared.Condition.{Condition}
use Rattle.delimited.specs.Parts.{bytes, parted}
use Rattle.cfg_line.specs.declared.Line.{Line}
use Rattle.cfg_line.specs.declared.Line.TheVariants as line
use Rattle.cfg_write.specs.Write.{instruction_name, comparison_name, literal_text, operands_of, fields_of, line_text}
use Rattle.cfg_write.specs.declared.line.Writer.{Writer}
use Rattle.cfg_write.specs.Put.{Put, Wrote, commas, numbered}
use Rattle.cfg_write.proofs.LineLaws.{operands_set, operands_none, operands_one, operands_two}

pub put_none : (l : List ℕ) (at : ℕ) → Put 0 l l at [] at
put_none l at = record { stored = refl; place = omega arith; near = omega arith }

-- what a stored number comes to
pub put_digits : (l m : List ℕ) (at n r : ℕ) → n < 2 ^ 32 → (m ≡ sets l at (decimal_of n)) × (r ≡ at + length (decimal_of n)) → Put 10 l m at (decimal_of n) r
put_digits l m at n r h e =
    let w = decimal_word n h in
    let p = e.1 in
    record { stored = e.0; place = p; near = omega arith }

module _ {m n at : ℕ} {a b c : List ℕ} {s t : List ℕ} {p q : ℕ} where
  pub put_then : Put m a b at s p → Put n b c p t q → Put (m + n) a c at (s ++ t) q
  put_then u v =
      let e = length-append s t in
      let up = u.place in
      let vp = v.place in
      let un = u.near in
      let vn = v.near in
      record {
        stored = v.stored ∙ rw (u.stored, up) (sets_append a at s t);
        place = omega arith;
        near = omega arith;
      }

-- more room, other words for the same bytes
pub put_as : {m at : ℕ} {a b : List ℕ} {s : List ℕ} {p : ℕ} (n : ℕ) (t : List ℕ) → m ≤ n → s ≡ t → Put m a b at s p → Put n a b at t p
put_as n t h e u =
    let near = u.near in
    record { stored = rw (← e) u.stored; place = rw (← e) u.place; near = omega arith }

pub put_length : {m at : ℕ} {a b : List ℕ} {s : List ℕ} {p : ℕ} → Put m a b at s p → length b ≡ length a
put_length {at = at} {a = a} {s = s} u = ap length u.stored ∙ length-sets a at s

-- ---- by a writer

module _ {a b c : Writer} {s t : List ℕ} {m n : ℕ} where
  pub wrote_then : Wrote m a b s → Wrote n b c t → Wrote (m + n) a c (s ++ t)
  wrote_then u v = record { same_buffer = v.same_buffer ∙ u.same_buffer; put = put_then u.put v.put }

pub wrote_as : {m : ℕ} {a b : Writer} {s : List ℕ} (n : ℕ) (t : List ℕ) → m ≤ n → s ≡ t → Wrote m a b s → Wrote n a b t
wrote_as n t h e u = record { same_buffer = u.same_buffer; put = put_as n t h e u.put }

pub wrote_none : (a : Writer) → Wrote 0 a a []
wrote_none a = record { same_buffer = refl; put = put_none a.out.now a.at }

-- ---- lines by their fields

parted_commas : (f : List ℕ) (fs : List (List ℕ)) → parted 44 (f ∷ fs) ≡ f ++ commas fs
unfolding parted commas concat_map
parted_commas f [] = sym (append-nil f)
parted_commas f (g ∷ fs) = ap (λ (l : List ℕ). f ++ (44 ∷ l)) (parted_commas g fs)

-- a line: its name, its other fields with a comma before each, and a line feed
line_is : (l : Line) (f : List ℕ) (fs : List (List ℕ)) → fields_of l ≡ f ∷ fs → line_text l ≡ f ++ (commas fs ++ (10 ∷ []))
unfolding line_text
line_is l f fs e = rw (e, parted_commas f fs) (append_assoc f (commas fs) (10 ∷ []))

commas_none : commas [] ≡ []
unfolding commas concat_map
commas_none = refl

commas_one : (f : List ℕ) → commas (f ∷ []) ≡ 44 ∷ f
unfolding commas concat_map
commas_one f = ap (λ (l : List ℕ). 44 ∷ l) (append-nil f)

commas_two : (f g : List ℕ) → commas (f ∷ g ∷ []) ≡ 44 ∷ (f ++ (44 ∷ g))
unfolding commas concat_map
commas_two f g = ap (λ (l : List ℕ). 44 ∷ (f ++ (44 ∷ l))) (append-nil g)

-- with bytes behind the fields
commas_then : (f : List ℕ) (fs : List (List ℕ)) (s : List ℕ) → commas (f ∷ fs) ++ s ≡ 44 ∷ (f ++ (commas fs ++ s))
unfolding commas concat_map
commas_then f fs s = ap (λ (l : List ℕ). 44 ∷ l) (append_assoc f (commas fs) s)

-- ---- literals and operands

module _ (w : ℕ) where
  pub literal_low : w < 2 ^ 31 → literal_text w ≡ decimal_of w
  unfolding literal_text
  literal_low h = rw (lt-ltb w (2 ^ 31) h)

  pub literal_high : 2 ^ 31 ≤ w → (n : ℕ) → n ≡ 2 ^ 32 - w → literal_text w ≡ 45 ∷ decimal_of n
  unfolding literal_text
  literal_high h n e = rw (le-ltb w (2 ^ 31) h, e)

module _ (i : Instruction) where
  pub set_text : i.code ≡ 1 → 44 ∷ literal_text i.a ≡ commas (operands_of i)
  set_text e = rw (operands_set i (eq-eqb i.code 1 e), commas_one (literal_text i.a))

  pub none_text : (i.code ≡ 1 → ⊥) → arity i.code ≡ 0 → [] ≡ commas (operands_of i)
  none_text a b = rw (operands_none i (ne_eqb i.code 1 a) b, commas_none)

  pub one_text : (i.code ≡ 1 → ⊥) → arity i.code ≡ 1 → 44 ∷ decimal_of i.a ≡ commas (operands_of i)
  one_text a b = rw (operands_one i (ne_eqb i.code 1 a) b, commas_one (decimal_of i.a))

  pub two_text :
      (i.code ≡ 1 → ⊥) → (arity i.code ≡ 0 → ⊥) → (arity i.code ≡ 1 → ⊥)
      → 44 ∷ (decimal_of i.a ++ (44 ∷ decimal_of i.b)) ≡ commas (operands_of i)
  two_text a z b =
      rw (operands_two i (ne_eqb i.code 1 a) (omega arith), commas_two (decimal_of i.a) (decimal_of i.b))

-- ---- each form of line

pub graph_text : (b r : ℕ) → bytes "graph" ++ ((44 ∷ decimal_of b) ++ ((44 ∷ decimal_of r) ++ (10 ∷ []))) ≡ line_text (line.Graph b r)
unfolding fields_of
graph_text b r =
    sym (line_is (line.Graph b r) (bytes "graph") (decimal_of b ∷ decimal_of r ∷ []) refl
    ∙ rw (commas_then (decimal_of b) (decimal_of r ∷ []) (10 ∷ []), commas_then (decimal_of r) [] (10 ∷ []), commas_none))

numbered_line : (l : Line) (name : List ℕ) (n : ℕ) → fields_of l ≡ name ∷ decimal_of n ∷ [] → numbered name n ≡ line_text l
unfolding numbered
numbered_line l name n e =
    sym (line_is l name (decimal_of n ∷ []) e ∙ rw (commas_then (decimal_of n) [] (10 ∷ []), commas_none))

pub block_text : (n : ℕ) → numbered (bytes "block") n ≡ line_text (line.Block n)
unfolding fields_of
block_text n = numbered_line (line.Block n) (bytes "block") n refl

pub goto_text : (t : ℕ) → numbered (bytes "goto") t ≡ line_text (line.Goto t)
unfolding fields_of
goto_text t = numbered_line (line.Goto t) (bytes "goto") t refl

pub halt_text : bytes "halt" ++ (10 ∷ []) ≡ line_text line.Halt
unfolding fields_of
halt_text = sym (line_is line.Halt (bytes "halt") [] refl ∙ rw commas_none)

pub instruction_text : (i : Instruction) → instruction_name i.code ++ ((44 ∷ decimal_of i.d) ++ (commas (operands_of i) ++ (10 ∷ []))) ≡ line_text (line.Instruction i)
unfolding fields_of
instruction_text i =
    sym (line_is (line.Instruction i) (instruction_name i.code) (decimal_of i.d ∷ operands_of i) refl
    ∙ rw (commas_then (decimal_of i.d) (operands_of i) (10 ∷ [])))

pub ite_text :
    (c : Condition) (t f : ℕ)
    → (bytes "ite" ++ (44 ∷ [])) ++ (comparison_name c.comparison ++ ((44 ∷ decimal_of c.a) ++ ((44 ∷ decimal_of c.b) ++ ((44 ∷ decimal_of t) ++ ((44 ∷ decimal_of f) ++ (10 ∷ []))))))
    ≡ line_text (line.Ite c t f)
unfolding fields_of
ite_text c t f =
    let name = comparison_name c.comparison in
    let a = decimal_of c.a in
    let b = decimal_of c.b in
    let x = decimal_of t in
    let y = decimal_of f in
    sym (line_is (line.Ite c t f) (bytes "ite") (name ∷ a ∷ b ∷ x ∷ y ∷ []) refl
    ∙ rw (commas_then name (a ∷ b ∷ x ∷ y ∷ []) (10 ∷ []), commas_then a (b ∷ x ∷ y ∷ []) (10 ∷ []), commas_then b (x ∷ y ∷ []) (10 ∷ []), commas_then x (y ∷ []) (10 ∷ []), commas_then y [] (10 ∷ []), commas_none))
