-- A text that is accepted: which lines led to where reading stands, that they were written of the graph, and that the graph is valid.
-- Assumes nothing.
use Prim.Native.Nat.{ℕ, zero, suc, ◌+◌, ◌^◌, ◌≤◌, ◌<◌}
use native.Mathlib.Omega.{arith}
use native.Mathlib.Nat.{add-zero}
use mathlib.Core.Path.{◌≡◌, refl, sym, ap, ap₂, ◌∙◌}
use mathlib.Core.Bool.{Bool, true, false, ◌&&◌, ◌||◌}
use mathlib.Core.List.{List, [], ◌∷◌, ◌++◌, map, append_assoc, append-nil, map-append}
use mathlib.Core.Logic.{inl, inr}
use lib.Dec.{eqb, leb, ltb}
use lib.ListN.{length, take, drop, length-append}
use borrow.Author.Tests.{ltb-true, eqb-true, eq-eqb, le-leb, lt-ltb}
use Rattle.word.specs.Word.{choose, arity}
use Rattle.runs.specs.Lists.{every, padded}
use Rattle.runs.proofs.ListLaws.{and_left, and_right, and_both, length_padded, every_snoc}
use Rattle.cfg.specs.Layout.{max_blocks, max_registers, max_instructions}
use Rattle.cfg.specs.Graph.{CFG, no_instruction, instructions_of, targets, instruction_code, valid_instruction, valid_ending, unused, valid_block, valid_graph}
use Rattle.cfg.specs.declared.Instruction.{Instruction}
use Rattle.cfg.specs.declared.Ending.{Ending}
use Rattle.cfg.specs.declared.Ending.TheVariants as ending
use Rattle.cfg.specs.declared.Block.{Block}
use Rattle.cfg_line.specs.declared.Line.{Line}
use Rattle.cfg_line.specs.declared.Line.TheVariants as line
use Rattle.cfg_line.specs.Form.{line_form}
use Rattle.cfg_text.proofs.LineSteps.{chosen}
use Rattle.std.specs.Prelude.{Option, Some, None, Ok, Err}
use Rattle.refusal.specs.declared.Refusal.{Refusal}
use Rattle.refusal.specs.declared.Refusal.TheVariants.{NoForm, NotDue, NoRegister, NoTarget}
use Rattle.cfg_text.specs.declared.ReadError.{ReadError}
use Rattle.cfg_text.specs.Walk.{Progress, start, between, inside, Next, Reading, refused, all_below, instruction_registers, ending_registers, opened, joined, block_with, closed, next, finish, formed, proceed, walk}
use Rattle.cfg_write.specs.Write.{ending_line, block_lines, lines_from, lines_of}
use Rattle.cfg_write.proofs.NameLaws.{KnownCode, Shape, literal, nothing, one, two, shape}
use Rattle.cfg_write.proofs.LineLaws.{Formed, FormedInstruction, FormedGraph, first_small}
use Rattle.cfg_write.proofs.TextLaws.{line_bytes, line_written}
use Rattle.cfg_write.proofs.Whole.{proper}

-- ---- refusals lead nowhere

refuse_go : {Y : Type 0} {k : Refusal} {q : Progress} → ◌≡◌ {A = Next} (Err k) (Ok q) → Y
refuse_go e = absurd (cc)

refused_read : {Y : Type 0} {e : ReadError} {g : CFG} → ◌≡◌ {A = Reading} (Err e) (Ok g) → Y
refused_read e = absurd (cc)

-- ---- the lines that led to where reading stands, and what is known there

abbrev so_far : Progress → List Line
so_far start = []
so_far (between b r bs) = line.Graph b r ∷ lines_from 0 bs
so_far (inside b r bs is) = line.Graph b r ∷ (lines_from 0 bs ++ (line.Block (length bs) ∷ map line.Instruction is))

abbrev word : Instruction → Bool
word i = ltb i.a (2 ^ 32)

record Between (b r : ℕ) (bs : List Block) : Type 0 where
  head : FormedGraph b r
  few : length bs ≤ b
  valid : every (valid_block b r) bs ≡ true
  properly : every proper bs ≡ true

record Inside (b r : ℕ) (bs : List Block) (is : List Instruction) : Type 0 where
  outer : Between b r bs
  room : length bs < b
  few : length is ≤ max_instructions
  valid : every (valid_instruction r) is ≡ true
  words : every word is ≡ true

abbrev Known : Progress → Type 0
Known start = Unit {0}
Known (between b r bs) = Between b r bs
Known (inside b r bs is) = Inside b r bs is

-- ---- an instruction that joined

known_code : (k : ℕ) → KnownCode k → instruction_code k ≡ true
known_code k (inl h) = rw (le-leb 1 k h.0, le-leb k 11 h.1)
known_code k (inr e) = rw e

module _ (r : ℕ) (i : Instruction) (f : FormedInstruction i) where
  no_second_lem : arity i.code < 2 → eqb i.b 0 ≡ true
  no_second_lem o = eq-eqb i.b 0 (f.fits.no_second (λ t. omega arith))

  operands_below :
      Shape i.code → all_below r (choose (eqb i.code 1) [] (take (arity i.code) (i.a ∷ i.b ∷ []))) ≡ true
      → (choose (eqb (arity i.code) 0) (eqb i.a 0) (eqb i.code 1 || ltb i.a r) ≡ true)
      × (choose (eqb (arity i.code) 2) (ltb i.b r) (eqb i.b 0) ≡ true)
  operands_below (literal e o k) h = (rw (o, e), rw o (no_second_lem (omega arith)))
  operands_below (nothing e o k) h = (rw o (eq-eqb i.a 0 (f.fits.no_first o)), rw o (no_second_lem (omega arith)))
  operands_below (one e o k) h =
      let g = rw (e, o) at h in
      (rw (o, e) (and_left (ltb i.a r) true g), rw o (no_second_lem (omega arith)))
  operands_below (two e o k) h =
      let g = rw (e, o) at h in
      (rw (o, e) (and_left (ltb i.a r) (ltb i.b r && true) g), rw o (and_left (ltb i.b r) true (and_right (ltb i.a r) (ltb i.b r && true) g)))

  valid_from : all_below r (instruction_registers i) ≡ true → valid_instruction r i ≡ true
  unfolding valid_instruction
  valid_from h =
      let k = i.code in
      let d = ltb i.d r in
      let rest = choose (eqb k 1) [] (take (arity k) (i.a ∷ i.b ∷ [])) in
      let ab = operands_below (shape k f.fits.known) (and_right d (all_below r rest) h) in
      rw (known_code k f.fits.known, and_left d (all_below r rest) h, ab.0, ab.1)

  word_from : Shape i.code → word i ≡ true
  word_from (literal e o k) = lt-ltb i.a (2 ^ 32) (f.literal e)
  word_from (nothing e o k) = let a = f.fits.no_first o in lt-ltb i.a (2 ^ 32) (omega arith)
  word_from (one e o k) = let a = first_small i f e (omega arith) in lt-ltb i.a (2 ^ 32) (omega arith)
  word_from (two e o k) = let a = first_small i f e (omega arith) in lt-ltb i.a (2 ^ 32) (omega arith)

-- ---- a block that was closed

module _ {A : Type 0} (d : A) where
  take_padded : (n : ℕ) (l : List A) → length l ≤ n → take (length l) (padded n d l) ≡ l
  take_padded n [] h = refl
  take_padded zero (x ∷ l) h = absurd (omega arith)
  take_padded (suc n) (x ∷ l) h = ap (λ (m : List A). x ∷ m) (take_padded n l (omega arith))

  -- what pads passes a test that d passes
  drop_padded : (p : A → Bool) → p d ≡ true → (n : ℕ) (l : List A) → every p (drop (length l) (padded n d l)) ≡ true
  drop_padded p h zero [] = refl
  drop_padded p h (suc n) [] = and_both (p d) (every p (padded n d [])) h (drop_padded p h n [])
  drop_padded p h zero (x ∷ l) = refl
  drop_padded p h (suc n) (x ∷ l) = drop_padded p h n l

ending_from : (b r : ℕ) (e : Ending) → all_below r (ending_registers e) ≡ true → all_below b (targets e) ≡ true → valid_ending b r e ≡ true
unfolding valid_ending
ending_from b r (ending.Goto t) h k = and_left (ltb t b) true k
ending_from b r (ending.Ite c t f) h k =
    let p = ltb c.a r in
    let q = ltb c.b r in
    and_both (p && q && ltb t b) (ltb f b)
    (and_both (p && q) (ltb t b)
    (and_both p q (and_left p (q && true) h) (and_left q true (and_right p (q && true) h)))
    (and_left (ltb t b) (ltb f b && true) k))
    (and_left (ltb f b) true (and_right (ltb t b) (ltb f b && true) k))
ending_from b r ending.Halt h k = refl

module _ (is : List Instruction) (e : Ending) (few : length is ≤ max_instructions) where
  code_back : instructions_of (block_with is e) ≡ is
  code_back = take_padded no_instruction max_instructions is few

  block_from :
      (b r : ℕ) → every (valid_instruction r) is ≡ true → all_below r (ending_registers e) ≡ true → all_below b (targets e) ≡ true
      → valid_block b r (block_with is e) ≡ true
  unfolding valid_block
  block_from b r v h k =
      let k₁ = leb (length is) max_instructions in
      let k₂ = every (valid_instruction r) (instructions_of (block_with is e)) in
      let k₃ = every unused (drop (length is) (padded max_instructions no_instruction is)) in
      and_both (k₁ && k₂ && k₃) (valid_ending b r e)
      (and_both (k₁ && k₂) k₃
      (and_both k₁ k₂ (le-leb (length is) max_instructions few) (rw code_back v))
      (drop_padded no_instruction unused refl max_instructions is))
      (ending_from b r e h k)

  proper_from : every word is ≡ true → proper (block_with is e) ≡ true
  proper_from w =
      and_both (eqb (length (block_with is e).instructions) max_instructions) (every word (instructions_of (block_with is e)))
      (eq-eqb (length (block_with is e).instructions) max_instructions (length_padded max_instructions no_instruction is))
      (rw code_back w)

lines_snoc : (n : ℕ) (bs : List Block) (k : Block) → lines_from n (bs ++ (k ∷ [])) ≡ lines_from n bs ++ block_lines (n + length bs) k
unfolding lines_from
lines_snoc n [] k = rw (append-nil (block_lines n k), add-zero n)
lines_snoc n (b ∷ bs) k =
    let e : suc n + length bs ≡ n + suc (length bs) = omega arith in
    ap (λ (ls : List Line). block_lines n b ++ ls) (lines_snoc (suc n) bs k)
    ∙ (sym (append_assoc (block_lines n b) (lines_from (suc n) bs) (block_lines (suc n + length bs) k))
    ∙ ap (λ (m : ℕ). (block_lines n b ++ lines_from (suc n) bs) ++ block_lines m k) e)

-- ---- one line on

record Step (p : Progress) (l : Line) (q : Progress) : Type 0 where
  lines : so_far q ≡ so_far p ++ (l ∷ [])
  known : Known q

went : (p q : Progress) → ◌≡◌ {A = Next} (Ok p) (Ok q) → p ≡ q
went p q e = cc

step_to : (p m q : Progress) (l : Line) → ◌≡◌ {A = Next} (Ok m) (Ok q) → Step p l m → Step p l q
step_to p m q l e s = rw (went m q e) at s

-- a block's ending
module _ (e : Ending) (b r : ℕ) (bs : List Block) (is : List Instruction) (h : Inside b r bs is) where
  closed_lines : so_far (between b r (bs ++ (block_with is e ∷ []))) ≡ so_far (inside b r bs is) ++ (ending_line e ∷ [])
  closed_lines =
      let z : 0 + length bs ≡ length bs = omega arith in
      let code = code_back is e h.few in
      ap (λ (ls : List Line). line.Graph b r ∷ ls)
      (lines_snoc 0 bs (block_with is e)
      ∙ rw (z, code, append_assoc (lines_from 0 bs) (line.Block (length bs) ∷ map line.Instruction is) (ending_line e ∷ [])))

  closed_known : all_below r (ending_registers e) ≡ true → all_below b (targets e) ≡ true → Between b r (bs ++ (block_with is e ∷ []))
  closed_known v w =
      let room = h.room in
      let n = length-append bs (block_with is e ∷ []) in
      record {
        head = h.outer.head;
        few = omega arith;
        valid = every_snoc (valid_block b r) bs (block_with is e) h.outer.valid (block_from is e h.few b r h.valid v w);
        properly = every_snoc proper bs (block_with is e) h.outer.properly (proper_from is e h.few h.words);
      }

  close_back : (q : Progress) → closed e b r bs is ≡ Ok q → Step (inside b r bs is) (ending_line e) q
  close_back q g =
      let after : Next = Ok (between b r (bs ++ (block_with is e ∷ []))) in
      let c = chosen (all_below r (ending_registers e)) (choose (all_below b (targets e)) after (Err NoTarget)) NoRegister q g in
      let d = chosen (all_below b (targets e)) after NoTarget q c.1 in
      step_to (inside b r bs is) (between b r (bs ++ (block_with is e ∷ []))) q (ending_line e) d.1
      (record { lines = closed_lines; known = closed_known c.0 d.0 })

-- a block line
open_back : (n b r : ℕ) (bs : List Block) (q : Progress) → Between b r bs → opened n b r bs ≡ Ok q → Step (between b r bs) (line.Block n) q
open_back n b r bs q h g =
    let c = chosen (eqb n (length bs) && ltb n b) (Ok (inside b r bs [])) NotDue q g in
    let e = eqb-true n (length bs) (and_left (eqb n (length bs)) (ltb n b) c.0) in
    let l = ltb-true n b (and_right (eqb n (length bs)) (ltb n b) c.0) in
    step_to (between b r bs) (inside b r bs []) q (line.Block n) c.1
    (record { lines = rw e refl; known = record { outer = h; room = omega arith; few = omega arith; valid = refl; words = refl } })

-- an instruction's line
join_back :
    (i : Instruction) (b r : ℕ) (bs : List Block) (is : List Instruction) (q : Progress) → FormedInstruction i → Inside b r bs is
    → joined i b r bs is ≡ Ok q → Step (inside b r bs is) (line.Instruction i) q
join_back i b r bs is q f h g =
    let after : Next = Ok (inside b r bs (is ++ (i ∷ []))) in
    let c = chosen (ltb (length is) max_instructions) (choose (all_below r (instruction_registers i)) after (Err NoRegister)) NotDue q g in
    let d = chosen (all_below r (instruction_registers i)) after NoRegister q c.1 in
    let l = ltb-true (length is) max_instructions c.0 in
    let n = length-append is (i ∷ []) in
    step_to (inside b r bs is) (inside b r bs (is ++ (i ∷ []))) q (line.Instruction i) d.1
    record {
      lines =
          ap (λ (ls : List Line). line.Graph b r ∷ ls)
          (rw (map-append line.Instruction is (i ∷ []), append_assoc (lines_from 0 bs) (line.Block (length bs) ∷ map line.Instruction is) (line.Instruction i ∷ [])));
      known =
          record {
            outer = h.outer;
            room = h.room;
            few = omega arith;
            valid = every_snoc (valid_instruction r) is i h.valid (valid_from r i f d.0);
            words = every_snoc word is i h.words (word_from r i f (shape i.code f.fits.known));
          };
    }

step_back : (p : Progress) (l : Line) (q : Progress) → Formed l → Known p → next p l ≡ Ok q → Step p l q
unfolding next lines_from
step_back start (line.Graph b r) q f h g =
    step_to start (between b r []) q (line.Graph b r) g
    (record { lines = refl; known = record { head = f; few = omega arith; valid = refl; properly = refl } })
step_back (between b r bs) (line.Graph c s) q f h g = refuse_go g
step_back (inside b r bs is) (line.Graph c s) q f h g = refuse_go g
step_back start (line.Block n) q f h g = refuse_go g
step_back (between b r bs) (line.Block n) q f h g = open_back n b r bs q h g
step_back (inside b r bs is) (line.Block n) q f h g = refuse_go g
step_back start (line.Instruction i) q f h g = refuse_go g
step_back (between b r bs) (line.Instruction i) q f h g = refuse_go g
step_back (inside b r bs is) (line.Instruction i) q f h g = join_back i b r bs is q f h g
step_back start (line.Goto t) q f h g = refuse_go g
step_back (between b r bs) (line.Goto t) q f h g = refuse_go g
step_back (inside b r bs is) (line.Goto t) q f h g = close_back (ending.Goto t) b r bs is h q g
step_back start (line.Ite c t e) q f h g = refuse_go g
step_back (between b r bs) (line.Ite c t e) q f h g = refuse_go g
step_back (inside b r bs is) (line.Ite c t e) q f h g = close_back (ending.Ite c t e) b r bs is h q g
step_back start line.Halt q f h g = refuse_go g
step_back (between b r bs) line.Halt q f h g = refuse_go g
step_back (inside b r bs is) line.Halt q f h g = close_back ending.Halt b r bs is h q g

-- ---- the whole text

pub record Accepted (g : CFG) (before : List Line) (parts : List (List ℕ)) : Type 0 where
  pub rest : List Line
  pub text : parts ≡ map line_bytes rest ++ ([] ∷ [])
  pub lines : lines_of g ≡ before ++ rest
  pub valid : valid_graph g ≡ true
  pub properly : every proper g.blocks ≡ true

no_bytes : (l : List ℕ) → eqb (length l) 0 ≡ true → l ≡ []
no_bytes [] h = refl
no_bytes (x ∷ l) h = let e = eqb-true (suc (length l)) 0 h in absurd (omega arith)

graph_from : (b r : ℕ) (bs : List Block) → length bs ≡ b → Between b r bs → valid_graph (record { registers = r; blocks = bs }) ≡ true
unfolding valid_graph
graph_from b r bs e h =
    let n = length bs in
    let p = leb 1 n in
    let q = leb n max_blocks in
    let s = leb 1 r in
    let u = leb r max_registers in
    let v = every (valid_block n r) bs in
    let l₁ : 1 ≤ n = rw e h.head.some_block in
    let l₂ : n ≤ max_blocks = rw e h.head.few_blocks in
    and_both (p && q && s && u) v
    (and_both (p && q && s) u
    (and_both (p && q) s (and_both p q (le-leb 1 n l₁) (le-leb n max_blocks l₂)) (le-leb 1 r h.head.some_register))
    (le-leb r max_registers h.head.few_registers))
    (rw e h.valid)

finish_back : (p : Progress) (n : ℕ) (g : CFG) (l : List ℕ) → Known p → finish p n ≡ Ok g → l ≡ [] → Accepted g (so_far p) (l ∷ [])
finish_back start n g l h e z = refused_read e
finish_back (inside b r bs is) n g l h e z = refused_read e
finish_back (between b r bs) n g l h e z = by (eqb (length bs) b) refl e
  where
    here : CFG
    here = record { registers = r; blocks = bs }

    made : eqb (length bs) b ≡ true → here ≡ g → Accepted g (so_far (between b r bs)) (l ∷ [])
    made t q =
        let m = eqb-true (length bs) b t in
        let a : Accepted here (so_far (between b r bs)) (l ∷ []) =
        record {
          rest = [];
          text = rw z refl;
          lines = rw m (sym (append-nil (line.Graph b r ∷ lines_from 0 bs)));
          valid = graph_from b r bs m h;
          properly = h.properly;
        } in
        rw q at a

    by : (t : Bool) → eqb (length bs) b ≡ t → choose t (Ok here) (refused NotDue n) ≡ Ok g → Accepted g (so_far (between b r bs)) (l ∷ [])
    by true t x = made t (cc)
    by false t x = refused_read x

walk_back : (p : Progress) (n : ℕ) (parts : List (List ℕ)) (g : CFG) → Known p → walk p n parts ≡ Ok g → Accepted g (so_far p) parts
unfolding walk
walk_back p n [] g h e = refused_read e
walk_back p n (l ∷ []) g h e = by (eqb (length l) 0) refl e
  where
    by : (t : Bool) → eqb (length l) 0 ≡ t → choose t (finish p n) (refused NoForm n) ≡ Ok g → Accepted g (so_far p) (l ∷ [])
    by true t x = finish_back p n g l h x (no_bytes l t)
    by false t x = refused_read x
walk_back p n (l ∷ m ∷ ms) g h e = by (line_form l) refl (λ q. walk_back q (suc n) (m ∷ ms) g) e
  where
    on :
        (y : Line) → line_form l ≡ Some y → (x : Next) → next p y ≡ x
        → ((q : Progress) → Known q → walk q (suc n) (m ∷ ms) ≡ Ok g → Accepted g (so_far q) (m ∷ ms))
        → proceed x n (λ q. walk q (suc n) (m ∷ ms)) ≡ Ok g → Accepted g (so_far p) (l ∷ m ∷ ms)
    on y f (Err k) t ih x = refused_read x
    on y f (Ok q) t ih x =
        let w = line_written l f in
        let s = step_back p y q w.formed h t in
        let a = ih q s.known x in
        record {
          rest = y ∷ a.rest;
          text = ap₂ (λ (k : List ℕ) (ks : List (List ℕ)). k ∷ ks) w.text a.text;
          lines = a.lines ∙ (ap (λ (ls : List Line). ls ++ a.rest) s.lines ∙ append_assoc (so_far p) (y ∷ []) a.rest);
          valid = a.valid;
          properly = a.properly;
        }

    -- a line that led on has a form
    by :
        (o : Option Line) → line_form l ≡ o
        → ((q : Progress) → Known q → walk q (suc n) (m ∷ ms) ≡ Ok g → Accepted g (so_far q) (m ∷ ms))
        → proceed (formed o (next p)) n (λ q. walk q (suc n) (m ∷ ms)) ≡ Ok g → Accepted g (so_far p) (l ∷ m ∷ ms)
    by None f ih x = refused_read x
    by (Some y) f ih x = on y f (next p y) refl ih x

pub accepted : (n : ℕ) (parts : List (List ℕ)) (g : CFG) → walk start n parts ≡ Ok g → Accepted g [] parts
accepted n parts g e = walk_back start n parts g tt e
