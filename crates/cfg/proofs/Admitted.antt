-- What is known of an admitted graph table, as facts of numbers. Assumes nothing.
use Prim.Native.Nat.{ℕ, ◌+◌, ◌-◌, ◌≤◌, ◌<◌}
use native.Mathlib.Omega.{arith}
use mathlib.Core.Path.{◌≡◌, refl, sym, ap, ◌∙◌}
use mathlib.Core.Logic.{◌⊎◌, inl, inr}
use mathlib.Core.Bool.{Bool, true, false, ◌&&◌, ◌||◌}
use mathlib.Core.List.{List, []}
use lib.Dec.{eqb, leb, ltb}
use lib.ListN.{length, get_or, take, drop, length-take, length-drop, length-map, get_or-eq_default}
use lib.Seq.{get_or-take, get_or-drop}
use borrow.Author.Tests.{leb-true, ltb-true, eqb-true, ne_eqb, eq-eqb, lt-ltb}
use Rattle.cfg.proofs.Lengths.{table_length}
use Rattle.word.specs.Word.{choose, arity}
use Rattle.runs.specs.Lists.{up_from, same, every}
use Rattle.runs.proofs.ListLaws.{and_left, and_right, and_both, every_at, same_eq, length-up_from, get_or-map-up_from}
use Rattle.cfg.specs.declared.Instruction.{Instruction}
use Rattle.cfg.specs.declared.Condition.{Condition}
use Rattle.cfg.specs.declared.Ending.{Ending}
use Rattle.cfg.specs.declared.Ending.TheVariants.{Goto, Ite, Halt}
use Rattle.cfg.specs.declared.Block.{Block}
use Rattle.cfg.specs.Layout.{max_blocks, max_registers, max_instructions, graph_words}
use Rattle.cfg.specs.Graph.{CFG, no_instruction, empty_block, block_of, instructions_of, targets, successors, instruction_code, valid_instruction, valid_ending, unused, valid_block, valid_graph}
use Rattle.cfg.specs.Table.{graph_table_of, block_at, graph_of, admitted_graph}

-- ---- the blocks of a table

pub blocks_length : (t : List ℕ) → length (graph_of t).blocks ≡ get_or t 0 0
unfolding graph_of
blocks_length t = length-map (up_from 0 (get_or t 0 0)) (block_at t) ∙ length-up_from 0 (get_or t 0 0)

pub registers_are : (t : List ℕ) → (graph_of t).registers ≡ get_or t 1 0
unfolding graph_of
registers_are t = refl

-- below B the decoded block, from B up the empty one
pub block_below : (t : List ℕ) (n : ℕ) → n < get_or t 0 0 → block_of (graph_of t) n ≡ block_at t n
unfolding graph_of
block_below t n h = get_or-map-up_from (block_at t) (get_or t 0 0) n empty_block h

pub block_past : (t : List ℕ) (n : ℕ) → get_or t 0 0 ≤ n → block_of (graph_of t) n ≡ empty_block
block_past t n h = get_or-eq_default (graph_of t).blocks empty_block {n = n} (rw blocks_length h)

pub no_successors : (t : List ℕ) (n : ℕ) → get_or t 0 0 ≤ n → successors (graph_of t) n ≡ []
unfolding empty_block
no_successors t n h = rw (block_past t n h)

-- ---- valid instructions, endings and blocks

pub record ValidInstruction (r : ℕ) (i : Instruction) : Type 0 where
  pub known : ((1 ≤ i.code) × (i.code ≤ 11)) ⊎ (i.code ≡ 20)
  pub written : i.d < r
  -- of a set the first operand is a literal
  pub first : 0 < arity i.code → (i.code ≡ 1 → ⊥) → i.a < r
  pub no_first : arity i.code ≡ 0 → i.a ≡ 0
  pub second : arity i.code ≡ 2 → i.b < r
  pub no_second : (arity i.code ≡ 2 → ⊥) → i.b ≡ 0

pub record ValidIte (b r : ℕ) (c : Condition) (t f : ℕ) : Type 0 where
  pub first : c.a < r
  pub second : c.b < r
  pub holds : t < b
  pub fails : f < b

abbrev pub ValidEnding : ℕ → ℕ → Ending → Type 0
ValidEnding b r (Goto t) = t < b
ValidEnding b r (Ite c t f) = ValidIte b r c t f
ValidEnding b r Halt = Unit {0}

pub record ValidBlock (b r : ℕ) (k : Block) : Type 0 where
  pub few : k.count ≤ max_instructions
  pub instruction : (i : ℕ) → i < k.count → i < length k.instructions → ValidInstruction r (get_or k.instructions i no_instruction)
  pub unused_at : (i : ℕ) → k.count ≤ i → i < length k.instructions → get_or k.instructions i no_instruction ≡ no_instruction
  pub ended : ValidEnding b r k.ending

either : (a b : Bool) → a || b ≡ true → a ≡ false → b ≡ true
either true b h e = absurd (let z : ◌≡◌ {A = ℕ} 0 1 = cc in omega arith)
either false b h e = h

choose_true : (c a b : Bool) → choose c a b ≡ true → c ≡ true → a ≡ true
choose_true true a b h e = h
choose_true false a b h e = absurd (let z : ◌≡◌ {A = ℕ} 0 1 = cc in omega arith)

choose_false : (c a b : Bool) → choose c a b ≡ true → c ≡ false → b ≡ true
choose_false true a b h e = absurd (let z : ◌≡◌ {A = ℕ} 0 1 = cc in omega arith)
choose_false false a b h e = h

known_code : (k : ℕ) → instruction_code k ≡ true → ((1 ≤ k) × (k ≤ 11)) ⊎ (k ≡ 20)
known_code k h = go (leb 1 k && leb k 11) refl
  where
    go : (b : Bool) → (leb 1 k && leb k 11) ≡ b → ((1 ≤ k) × (k ≤ 11)) ⊎ (k ≡ 20)
    go true e = inl (leb-true 1 k (and_left (leb 1 k) (leb k 11) e), leb-true k 11 (and_right (leb 1 k) (leb k 11) e))
    go false e = inr (eqb-true k 20 (either (leb 1 k && leb k 11) (eqb k 20) h e))

pub valid_instruction_lem : (r : ℕ) (i : Instruction) → valid_instruction r i ≡ true → ValidInstruction r i
unfolding valid_instruction
valid_instruction_lem r i h =
    let n = arity i.code in
    let k = instruction_code i.code in
    let d = ltb i.d r in
    let a' = eqb i.code 1 || ltb i.a r in
    let a = choose (eqb n 0) (eqb i.a 0) a' in
    let b = choose (eqb n 2) (ltb i.b r) (eqb i.b 0) in
    let h₂ = and_left (k && d && a) b h in
    let h₁ = and_left (k && d) a h₂ in
    let firsts = and_right (k && d) a h₂ in
    let seconds = and_right (k && d && a) b h in
    record {
      known = known_code i.code (and_left k d h₁);
      written = ltb-true i.d r (and_right k d h₁);
      first = λ o e. ltb-true i.a r (either (eqb i.code 1) (ltb i.a r) (choose_false (eqb n 0) (eqb i.a 0) a' firsts (ne_eqb n 0 (λ z. omega arith))) (ne_eqb i.code 1 e));
      no_first = λ e. eqb-true i.a 0 (choose_true (eqb n 0) (eqb i.a 0) a' firsts (eq-eqb n 0 e));
      second = λ e. ltb-true i.b r (choose_true (eqb n 2) (ltb i.b r) (eqb i.b 0) seconds (eq-eqb n 2 e));
      no_second = λ e. eqb-true i.b 0 (choose_false (eqb n 2) (ltb i.b r) (eqb i.b 0) seconds (ne_eqb n 2 e));
    }

pub valid_ending_lem : (b r : ℕ) (e : Ending) → valid_ending b r e ≡ true → ValidEnding b r e
unfolding valid_ending
valid_ending_lem b r (Goto t) h = ltb-true t b h
valid_ending_lem b r (Ite c t f) h =
    let p = ltb c.a r in
    let q = ltb c.b r in
    let h₂ = and_left (p && q && ltb t b) (ltb f b) h in
    let h₁ = and_left (p && q) (ltb t b) h₂ in
    record {
      first = ltb-true c.a r (and_left p q h₁);
      second = ltb-true c.b r (and_right p q h₁);
      holds = ltb-true t b (and_right (p && q) (ltb t b) h₂);
      fails = ltb-true f b (and_right (p && q && ltb t b) (ltb f b) h);
    }
valid_ending_lem b r Halt h = tt

four_zeros : (p q r s : ℕ) → p ≡ 0 → q ≡ 0 → r ≡ 0 → s ≡ 0 → ◌≡◌ {A = Instruction} (record { code = p; d = q; a = r; b = s }) no_instruction
four_zeros p q r s e₁ e₂ e₃ e₄ = cc

unused_is : (i : Instruction) → unused i ≡ true → i ≡ no_instruction
unused_is i h =
    let p = eqb i.code 0 in
    let q = eqb i.d 0 in
    let s = eqb i.a 0 in
    let h₂ = and_left (p && q && s) (eqb i.b 0) h in
    let h₁ = and_left (p && q) s h₂ in
    four_zeros i.code i.d i.a i.b
    (eqb-true i.code 0 (and_left p q h₁))
    (eqb-true i.d 0 (and_right p q h₁))
    (eqb-true i.a 0 (and_right (p && q) s h₂))
    (eqb-true i.b 0 (and_right (p && q && s) (eqb i.b 0) h))

pub valid_block_lem : (b r : ℕ) (k : Block) → valid_block b r k ≡ true → ValidBlock b r k
unfolding valid_block
valid_block_lem b r k h =
    let few = leb k.count max_instructions in
    let code = every (valid_instruction r) (instructions_of k) in
    let rest = every unused (drop k.count k.instructions) in
    let h₂ = and_left (few && code && rest) (valid_ending b r k.ending) h in
    let h₁ = and_left (few && code) rest h₂ in
    record {
      few = leb-true k.count max_instructions (and_left few code h₁);
      instruction = λ i l m.
          valid_instruction_lem r (get_or k.instructions i no_instruction)
          (rw (← get_or-take k.count k.instructions i no_instruction l)
          (every_at (valid_instruction r) (instructions_of k) (and_right few code h₁) i no_instruction (rw length-take (omega arith))));
      unused_at = λ i l m.
          unused_is (get_or k.instructions i no_instruction)
          (let e : k.count + (i - k.count) ≡ i = omega arith in
          let f = get_or-drop k.count k.instructions (i - k.count) no_instruction in
          let g = every_at unused (drop k.count k.instructions) (and_right (few && code) rest h₂) (i - k.count) no_instruction (rw length-drop (omega arith)) in
          rw (f, e) at g);
      ended = valid_ending_lem b r k.ending (and_right (few && code && rest) (valid_ending b r k.ending) h);
    }

-- ---- successors

pub targets_below : (b r : ℕ) (e : Ending) → ValidEnding b r e → every (λ (x : ℕ). ltb x b) (targets e) ≡ true
targets_below b r (Goto t) h = and_both (ltb t b) true (lt-ltb t b h) refl
targets_below b r (Ite c t f) h =
    and_both (ltb t b) (ltb f b && true) (lt-ltb t b h.holds) (and_both (ltb f b) true (lt-ltb f b h.fails) refl)
targets_below b r Halt h = refl

-- ---- valid graphs

pub record ValidGraph (g : CFG) : Type 0 where
  pub some_block : 1 ≤ length g.blocks
  pub few_blocks : length g.blocks ≤ max_blocks
  pub some_register : 1 ≤ g.registers
  pub few_registers : g.registers ≤ max_registers
  pub block : (n : ℕ) → n < length g.blocks → ValidBlock (length g.blocks) g.registers (block_of g n)

pub valid_graph_lem : (g : CFG) → valid_graph g ≡ true → ValidGraph g
unfolding valid_graph
valid_graph_lem g h =
    let n = length g.blocks in
    let p = leb 1 n in
    let q = leb n max_blocks in
    let s = leb 1 g.registers in
    let u = leb g.registers max_registers in
    let v = every (valid_block n g.registers) g.blocks in
    let h₃ = and_left (p && q && s && u) v h in
    let h₂ = and_left (p && q && s) u h₃ in
    let h₁ = and_left (p && q) s h₂ in
    record {
      some_block = leb-true 1 n (and_left p q h₁);
      few_blocks = leb-true n max_blocks (and_right p q h₁);
      some_register = leb-true 1 g.registers (and_right (p && q) s h₂);
      few_registers = leb-true g.registers max_registers (and_right (p && q && s) u h₃);
      block = λ m l.
          valid_block_lem n g.registers (block_of g m)
          (every_at (valid_block n g.registers) g.blocks (and_right (p && q && s && u) v h) m empty_block l);
    }

-- ---- admitted tables

pub record Admitted (t : List ℕ) : Type 0 where
  pub long : graph_words ≤ length t
  pub some_block : 1 ≤ get_or t 0 0
  pub few_blocks : get_or t 0 0 ≤ max_blocks
  pub some_register : 1 ≤ get_or t 1 0
  pub few_registers : get_or t 1 0 ≤ max_registers
  pub block : (n : ℕ) → n < get_or t 0 0 → ValidBlock (get_or t 0 0) (get_or t 1 0) (block_at t n)
  pub words : graph_table_of (graph_of t) ≡ take graph_words t

-- the two halves of the test
pub admitted_halves : (t : List ℕ) → admitted_graph t ≡ true → (valid_graph (graph_of t) ≡ true) × (graph_table_of (graph_of t) ≡ take graph_words t)
unfolding admitted_graph
admitted_halves t h =
    let v = valid_graph (graph_of t) in
    let s = same (graph_table_of (graph_of t)) (take graph_words t) in
    (and_left v s h, same_eq (graph_table_of (graph_of t)) (take graph_words t) (and_right v s h))

pub admitted_facts : (t : List ℕ) → admitted_graph t ≡ true → Admitted t
admitted_facts t h =
    let v = valid_graph_lem (graph_of t) (admitted_halves t h).0 in
    let w = (admitted_halves t h).1 in
    let l = sym (table_length (graph_of t)) ∙ ap length w ∙ length-take graph_words t in
    record {
      long = omega arith;
      some_block = rw blocks_length at v.some_block;
      few_blocks = rw blocks_length at v.few_blocks;
      some_register = rw registers_are at v.some_register;
      few_registers = rw registers_are at v.few_registers;
      block = λ m l. rw (blocks_length t, registers_are t, block_below t m l) at (v.block m (rw blocks_length l));
      words = w;
    }
