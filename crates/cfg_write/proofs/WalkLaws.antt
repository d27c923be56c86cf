-- Reading's walk over lines: where the lines of a valid graph lead, and which lines led to where it stands. Assumes nothing.
use Prim.Native.Nat.{ℕ, suc, ◌+◌, ◌*◌, ◌^◌, ◌≤◌, ◌<◌}
use native.Mathlib.Omega.{arith}
use mathlib.Core.Path.{◌≡◌, refl, sym, ap₂, ◌∙◌}
use mathlib.Core.Bool.{true, false, ◌&&◌}
use mathlib.Core.List.{List, [], ◌∷◌, ◌++◌, map, append_assoc, append-nil}
use lib.Dec.{eqb, leb, ltb}
use lib.ListN.{length, get_or, drop, length-append, length-map, get_or-eq_default}
use lib.Seq.{length-take-le, get_or-take, ext_get_or}
use native.Mathlib.Decide.{dec_lt}
use borrow.Author.Tests.{ltb-true, eqb-true, eqb-false, eq-eqb, lt-ltb}
use Rattle.word.specs.Word.{arity}
use Rattle.runs.specs.Lists.{every, padded}
use Rattle.runs.proofs.ListLaws.{and_left, and_right, and_both, length_padded, get_or-padded}
use Rattle.cfg.specs.Layout.{max_blocks, max_registers, max_instructions}
use Rattle.cfg.specs.Graph.{CFG, no_instruction, instructions_of, valid_instruction, valid_ending, unused, valid_block}
use Rattle.cfg.proofs.Admitted.{ValidInstruction, ValidEnding, ValidBlock, valid_instruction_lem, valid_block_lem, targets_below}
use Rattle.cfg.specs.declared.Instruction.{Instruction}
use Rattle.cfg.specs.declared.Ending.{Ending}
use Rattle.cfg.specs.declared.Ending.TheVariants as ending
use Rattle.cfg.specs.declared.Block.{Block}
use Rattle.cfg_line.specs.declared.Line.{Line}
use Rattle.cfg_line.specs.declared.Line.TheVariants as line
use Rattle.cfg_line.specs.Form.{line_form}
use Rattle.std.specs.Prelude.{Ok}
use Rattle.cfg_text.specs.Walk.{Progress, between, inside, all_below, instruction_registers, ending_registers, block_with, closed, next, finish, formed, proceed, walk}
use Rattle.cfg_write.specs.Write.{ending_line, block_lines, lines_from}
use Rattle.cfg_write.proofs.Whole.{proper}
use Rattle.cfg_write.proofs.NameLaws.{Shape, literal, nothing, one, two, shape, not_one}
use Rattle.cfg_write.proofs.LineLaws.{Formed, FormedInstruction}
use Rattle.cfg_write.proofs.TextLaws.{line_bytes, AllFormed, line_read}

-- ---- one line after another

pub data Goes : Progress → List Line → Progress → Type 0 where
  stay : {p : Progress} → Goes p [] p
  step : {p m q : Progress} {l : Line} {ls : List Line} → next p l ≡ Ok m → Goes m ls q → Goes p (l ∷ ls) q

pub goes_on : {p m q : Progress} {ls ms : List Line} → Goes p ls m → Goes m ms q → Goes p (ls ++ ms) q
goes_on stay h = h
goes_on (step e g) h = step e (goes_on g h)

-- a line with more behind it
walk_more :
    (p : Progress) (n : ℕ) (l : List ℕ) (ms : List (List ℕ)) (m : List ℕ)
    → walk p n (l ∷ (ms ++ (m ∷ []))) ≡ proceed (formed (line_form l) (next p)) n (λ q. walk q (suc n) (ms ++ (m ∷ [])))
unfolding walk
walk_more p n l [] m = refl
walk_more p n l (k ∷ ms) m = refl

pub walk_goes :
    {p q : Progress} {ls : List Line} (g : CFG) → Goes p ls q → AllFormed ls → ((m : ℕ) → finish q m ≡ Ok g)
    → (n : ℕ) → walk p n (map line_bytes ls ++ ([] ∷ [])) ≡ Ok g
unfolding walk
walk_goes g stay h f n = f n
walk_goes {p} g (step {m = m} {l = l} {ls = ls} e k) h f n =
    walk_more p n (line_bytes l) (map line_bytes ls) []
    ∙ rw (line_read l h.0, e) (walk_goes g k h.1 f (suc n))

-- ---- the lines of a valid graph

module _ (r : ℕ) (i : Instruction) (v : ValidInstruction r i) where
  below_first : eqb i.code 1 ≡ false → 0 < arity i.code → ltb i.a r ≡ true
  below_first e o = lt-ltb i.a r (v.first o (eqb-false i.code 1 e))

  pub registers_below : all_below r (instruction_registers i) ≡ true
  registers_below = by (shape i.code v.known)
    where
      by : Shape i.code → all_below r (instruction_registers i) ≡ true
      by (literal e o k) = rw (lt-ltb i.d r v.written, e)
      by (nothing e o k) = rw (lt-ltb i.d r v.written, not_one i.code e, o)
      by (one e o k) = rw (lt-ltb i.d r v.written, e, o, below_first e (omega arith))
      by (two e o k) = rw (lt-ltb i.d r v.written, e, o, below_first e (omega arith), lt-ltb i.b r (v.second o))

  formed_instruction : r ≤ max_registers → ltb i.a (2 ^ 32) ≡ true → FormedInstruction i
  formed_instruction h w =
      let d = v.written in
      record {
        fits =
            record {
              known = v.known;
              written = omega arith;
              first = λ o e. let a = v.first o e in omega arith;
              no_first = v.no_first;
              second = λ e. let b = v.second e in omega arith;
              no_second = v.no_second;
            };
        literal = λ e. ltb-true i.a (2 ^ 32) w;
      }

-- ---- a block's lines

module _ (b r : ℕ) (bs : List Block) where
  joined_goes :
      (is : List Instruction) (i : Instruction) → length is < max_instructions → ValidInstruction r i
      → next (inside b r bs is) (line.Instruction i) ≡ Ok (inside b r bs (is ++ (i ∷ [])))
  unfolding next
  joined_goes is i h v = rw (lt-ltb (length is) 8 h, registers_below r i v)

  code_goes :
      (is js : List Instruction) → every (valid_instruction r) js ≡ true → length is + length js ≤ max_instructions
      → Goes (inside b r bs is) (map line.Instruction js) (inside b r bs (is ++ js))
  code_goes is [] h l = rw (append-nil is) stay
  code_goes is (j ∷ js) h l =
      let e = length-append is (j ∷ []) in
      let g = code_goes (is ++ (j ∷ [])) js (and_right (valid_instruction r j) (every (valid_instruction r) js) h) (omega arith) in
      step (joined_goes is j (omega arith) (valid_instruction_lem r j (and_left (valid_instruction r j) (every (valid_instruction r) js) h)))
      (rw (append_assoc is (j ∷ []) js) at g)

  next_ending : (is : List Instruction) (e : Ending) → next (inside b r bs is) (ending_line e) ≡ closed e b r bs is
  unfolding next
  next_ending is (ending.Goto t) = refl
  next_ending is (ending.Ite c t f) = refl
  next_ending is ending.Halt = refl

  ending_registers_lem : (e : Ending) → ValidEnding b r e → all_below r (ending_registers e) ≡ true
  ending_registers_lem (ending.Goto t) v = refl
  ending_registers_lem (ending.Ite c t f) v =
      and_both (ltb c.a r) (ltb c.b r && true) (lt-ltb c.a r v.first)
      (and_both (ltb c.b r) true (lt-ltb c.b r v.second) refl)
  ending_registers_lem ending.Halt v = refl

  ending_goes :
      (is : List Instruction) (e : Ending) → ValidEnding b r e
      → next (inside b r bs is) (ending_line e) ≡ Ok (between b r (bs ++ (block_with is e ∷ [])))
  ending_goes is e v = next_ending is e ∙ rw (ending_registers_lem e v, targets_below b r e v)

  opened_goes : (n : ℕ) → n ≡ length bs → n < b → next (between b r bs) (line.Block n) ≡ Ok (inside b r bs [])
  unfolding next
  opened_goes n e h = rw (eq-eqb n (length bs) e, lt-ltb n b h)

-- a block of eight instructions is what its lines make
module _ (b r : ℕ) (k : Block) (v : ValidBlock b r k) (eight : length k.instructions ≡ max_instructions) where
  code_length : length (instructions_of k) ≡ k.count
  code_length = let h = v.few in length-take-le k.count k.instructions (omega arith)

  pub made_of_lines : block_with (instructions_of k) k.ending ≡ k
  made_of_lines = ap₂ (λ (n : ℕ) (is : List Instruction). block n is) code_length instructions
    where
      block : ℕ → List Instruction → Block
      block n is = record { count = n; instructions = is; ending = k.ending }

      at : (i : ℕ) → i < max_instructions → Dec (i < k.count) → get_or (instructions_of k) i no_instruction ≡ get_or k.instructions i no_instruction
      at i h (yes l) = get_or-take k.count k.instructions i no_instruction l
      at i h (no l) =
          get_or-eq_default (instructions_of k) no_instruction {n = i} (rw code_length (omega arith))
          ∙ sym (v.unused_at i (omega arith) (omega arith))

      instructions : padded max_instructions no_instruction (instructions_of k) ≡ k.instructions
      instructions =
          ext_get_or no_instruction (padded max_instructions no_instruction (instructions_of k)) k.instructions
          (length_padded max_instructions no_instruction (instructions_of k) ∙ sym eight)
          (λ i h. let n : i < max_instructions = rw length_padded at h in get_or-padded max_instructions no_instruction (instructions_of k) i n ∙ at i n (dec_lt i k.count))

valid_code : (b r : ℕ) (k : Block) → valid_block b r k ≡ true → every (valid_instruction r) (instructions_of k) ≡ true
unfolding valid_block
valid_code b r k h =
    let few = leb k.count max_instructions in
    let code = every (valid_instruction r) (instructions_of k) in
    let rest = every unused (drop k.count k.instructions) in
    and_right few code (and_left (few && code) rest (and_left (few && code && rest) (valid_ending b r k.ending) h))

pub proper_eight : (k : Block) → proper k ≡ true → length k.instructions ≡ max_instructions
proper_eight k h =
    eqb-true (length k.instructions) max_instructions
    (and_left (eqb (length k.instructions) max_instructions) (every (λ (i : Instruction). ltb i.a (2 ^ 32)) (instructions_of k)) h)

proper_words : (k : Block) → proper k ≡ true → every (λ (i : Instruction). ltb i.a (2 ^ 32)) (instructions_of k) ≡ true
proper_words k h = and_right (eqb (length k.instructions) max_instructions) (every (λ (i : Instruction). ltb i.a (2 ^ 32)) (instructions_of k)) h

block_goes :
    (b r : ℕ) (bs : List Block) (k : Block) → valid_block b r k ≡ true → proper k ≡ true → length bs < b
    → Goes (between b r bs) (block_lines (length bs) k) (between b r (bs ++ (k ∷ [])))
block_goes b r bs k h p l =
    let v = valid_block_lem b r k h in
    let eight = proper_eight k p in
    let n = code_length b r k v eight in
    let few = v.few in
    let e = ending_goes b r bs (instructions_of k) k.ending v.ended in
    step (opened_goes b r bs (length bs) refl l)
    (goes_on (code_goes b r bs [] (instructions_of k) (valid_code b r k h) (omega arith))
    (step (rw (made_of_lines b r k v eight) at e) stay))

-- ---- all blocks' lines

pub blocks_go :
    (b r : ℕ) (done bs : List Block) → every (valid_block b r) bs ≡ true → every proper bs ≡ true → length done + length bs ≤ b
    → Goes (between b r done) (lines_from (length done) bs) (between b r (done ++ bs))
unfolding lines_from
blocks_go b r done [] h p l = rw (append-nil done) stay
blocks_go b r done (k ∷ bs) h p l =
    let n : length (done ++ (k ∷ [])) ≡ suc (length done) = rw length-append (omega arith) in
    let g = blocks_go b r (done ++ (k ∷ [])) bs (and_right (valid_block b r k) (every (valid_block b r) bs) h) (and_right (proper k) (every proper bs) p) (omega arith) in
    goes_on
    (block_goes b r done k (and_left (valid_block b r k) (every (valid_block b r) bs) h) (and_left (proper k) (every proper bs) p) (omega arith))
    (rw (n, append_assoc done (k ∷ []) bs) at g)

-- ---- and they can be written

formed_append : (ls ms : List Line) → AllFormed ls → AllFormed ms → AllFormed (ls ++ ms)
formed_append [] ms h k = k
formed_append (l ∷ ls) ms h k = (h.0, formed_append ls ms h.1 k)

formed_code :
    (r : ℕ) (is : List Instruction) → r ≤ max_registers → every (valid_instruction r) is ≡ true
    → every (λ (i : Instruction). ltb i.a (2 ^ 32)) is ≡ true → AllFormed (map line.Instruction is)
formed_code r [] l h w = tt
formed_code r (i ∷ is) l h w =
    let words = every (λ (i : Instruction). ltb i.a (2 ^ 32)) is in
    (formed_instruction r i (valid_instruction_lem r i (and_left (valid_instruction r i) (every (valid_instruction r) is) h)) l (and_left (ltb i.a (2 ^ 32)) words w), formed_code r is l (and_right (valid_instruction r i) (every (valid_instruction r) is) h) (and_right (ltb i.a (2 ^ 32)) words w))

formed_ending : (b r : ℕ) (e : Ending) → b ≤ max_blocks → r ≤ max_registers → ValidEnding b r e → Formed (ending_line e)
formed_ending b r (ending.Goto t) l m v = omega arith
formed_ending b r (ending.Ite c t f) l m v =
    let x = v.first in
    let y = v.second in
    let z = v.holds in
    let w = v.fails in
    record { first = omega arith; second = omega arith; holds = omega arith; fails = omega arith }
formed_ending b r ending.Halt l m v = tt

pub formed_lines :
    (b r n : ℕ) (bs : List Block) → b ≤ max_blocks → r ≤ max_registers → every (valid_block b r) bs ≡ true → every proper bs ≡ true
    → n + length bs ≤ b → AllFormed (lines_from n bs)
unfolding lines_from
formed_lines b r n [] l m h p q = tt
formed_lines b r n (k ∷ bs) l m h p q =
    let hk = and_left (valid_block b r k) (every (valid_block b r) bs) h in
    let pk = and_left (proper k) (every proper bs) p in
    let code = formed_code r (instructions_of k) m (valid_code b r k hk) (proper_words k pk) in
    let end = formed_ending b r k.ending l m (valid_block_lem b r k hk).ended in
    formed_append (block_lines n k) (lines_from (suc n) bs)
    (omega arith, formed_append (map line.Instruction (instructions_of k)) (ending_line k.ending ∷ []) code (end, tt))
    (formed_lines b r (suc n) bs l m (and_right (valid_block b r k) (every (valid_block b r) bs) h) (and_right (proper k) (every proper bs) p) (omega arith))

-- ten lines a block are enough
pub lines_count :
    (b r n : ℕ) (bs : List Block) → every (valid_block b r) bs ≡ true → every proper bs ≡ true → length (lines_from n bs) ≤ 10 * length bs
unfolding lines_from
lines_count b r n [] h p = omega arith
lines_count b r n (k ∷ bs) h p =
    let hk = and_left (valid_block b r k) (every (valid_block b r) bs) h in
    let v = valid_block_lem b r k hk in
    let few = v.few in
    let code = code_length b r k v (proper_eight k (and_left (proper k) (every proper bs) p)) in
    let i = lines_count b r (suc n) bs (and_right (valid_block b r k) (every (valid_block b r) bs) h) (and_right (proper k) (every proper bs) p) in
    let e = length-append (block_lines n k) (lines_from (suc n) bs) in
    let f = length-append (map line.Instruction (instructions_of k)) (ending_line k.ending ∷ []) in
    let m = length-map (instructions_of k) line.Instruction in
    omega arith
