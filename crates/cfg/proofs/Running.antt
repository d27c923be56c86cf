-- Laws of a graph's run: instructions, blocks, steps, and the answers of "Run graph". Assumes nothing.
use Prim.Native.Nat.{ℕ, suc, ◌+◌, ◌%◌, ◌≤◌, ◌<◌}
use native.Mathlib.Numerals.{add-one}
use native.Mathlib.Omega.{arith}
use mathlib.Core.Path.{◌≡◌, refl, sym, ap, subst, ◌∙◌}
use mathlib.Core.Bool.{Bool, true, false, not, ◌||◌, or_assoc, or-false, or-true}
use mathlib.Core.List.{List, [], ◌∷◌}
use lib.Dec.{eqb, ltb}
use lib.ListN.{length, get_or, drop, set, drop_of_length-le}
use lib.Seq.{drop-cons, length-take-le}
use borrow.Author.Tests.{eqb-true, eqb-false, eq-eqb, lt-ltb, le-ltb}
use Rattle.std.specs.Prelude.{Option, Some, None}
use Rattle.std.proofs.Common.{rules}
use Rattle.refusal.specs.declared.Refusal.{Refusal}
use Rattle.refusal.specs.declared.Refusal.TheVariants.{ShortBuffer, BadGraph, NoWords, NoStart, BadStarters}
use Rattle.word.specs.Word.{choose, eval_of, over_of, arity}
use Rattle.word.proofs.OverLaws.{over_other}
use Rattle.runs.specs.Runs.{Place, standing, Contents, Configuration, stands_at, Supply, Runner, arrivals_at, moved, step}
use Rattle.runs.proofs.RunLaws.{goes_standing, step_going, Reached, reached_step}
use Rattle.cfg.specs.declared.Instruction.{Instruction}
use Rattle.cfg.specs.declared.Ending.{Ending}
use Rattle.cfg.specs.declared.Ending.TheVariants.{Goto, Ite, Halt}
use Rattle.cfg.specs.declared.Block.{Block}
use Rattle.cfg.specs.Layout.{max_registers, graph_words}
use Rattle.cfg.specs.Graph.{no_instruction, instructions_of, execute, execute_all, instruction_over, instructions_over, holds, leave, run_block, wordless_graph}
use Rattle.cfg.specs.Table.{block_at, graph_of, admitted_graph}
use Rattle.cfg.specs.Admission.{table_refusal, wordless_table_refusal}
use Rattle.cfg.specs.Run.{starters_fit, graph_refusal, graph_words_refusal}
use Rattle.cfg.specs.Steps.{Within, EndingWithin, BlockWithin, compared_of, leave_by, marked_runner}
use Rattle.cfg.proofs.Blocks.{instructions_length}
use Rattle.cfg.proofs.Admitted.{Admitted, ValidInstruction, ValidEnding, block_below}

-- ---- one instruction

module _ (s k a x y : ℕ) where
  -- a set's value is its literal
  pub value_set : k ≡ 1 → eval_of s k (choose (eqb k 1) a x) y 0 ≡ a
  unfolding eval_of
  value_set h =
      let first : choose (eqb k 1) a x ≡ a = rw (eq-eqb k 1 h) in
      ap (λ (z : ℕ). eval_of s k z y 0) first ∙ rw h

execute_opens : (s : ℕ) (i : Instruction) (rs : List ℕ)
    → execute s i rs ≡ set rs i.d (eval_of s i.code (choose (eqb i.code 1) i.a (get_or rs i.a 0)) (get_or rs i.b 0) 0)
unfolding execute
execute_opens s i rs = refl

-- only registers of the file are read, so their numbers may be taken modulo 16
pub execute_is : (s : ℕ) (i : Instruction) (rs : List ℕ) → Within i
    → execute s i rs ≡ set rs i.d (eval_of s i.code (choose (eqb i.code 1) i.a (get_or rs (i.a % max_registers) 0)) (get_or rs (i.b % max_registers) 0) 0)
execute_is s i rs w =
    let second : i.b % max_registers ≡ i.b = (let l = w.second in omega arith) in
    execute_opens s i rs ∙ rw second (ap (λ (z : ℕ). set rs i.d (eval_of s i.code z (get_or rs i.b 0) 0)) (first (eqb i.code 1) refl))
  where
    first : (t : Bool) → eqb i.code 1 ≡ t → choose t i.a (get_or rs i.a 0) ≡ choose t i.a (get_or rs (i.a % max_registers) 0)
    first true e = refl
    first false e =
        let l = w.first (eqb-false i.code 1 e) in
        let m : i.a % max_registers ≡ i.a = omega arith in
        rw m

-- so may they to tell whether it goes over: a set, whose a is a literal, never does
pub over_is : (i : Instruction) (rs : List ℕ) → Within i
    → over_of i.code (get_or rs (i.a % max_registers) 0) (get_or rs (i.b % max_registers) 0) ≡ instruction_over i rs
over_is i rs w = go (eqb i.code 1) refl
  where
    of_set : (a b : ℕ) → i.code ≡ 1 → over_of i.code a b ≡ false
    of_set a b e = over_other i.code a b (λ h. omega arith) (λ h. omega arith)

    go : (t : Bool) → eqb i.code 1 ≡ t → over_of i.code (get_or rs (i.a % max_registers) 0) (get_or rs (i.b % max_registers) 0) ≡ instruction_over i rs
    go true e =
        let h = eqb-true i.code 1 e in
        of_set (get_or rs (i.a % max_registers) 0) (get_or rs (i.b % max_registers) 0) h ∙ sym (of_set (get_or rs i.a 0) (get_or rs i.b 0) h)
    go false e =
        let l = w.first (eqb-false i.code 1 e) in
        let m = w.second in
        let first : i.a % max_registers ≡ i.a = omega arith in
        let second : i.b % max_registers ≡ i.b = omega arith in
        rw (first, second)

-- ---- a block's instructions, one after another

execute_nil : (s : ℕ) (rs : List ℕ) → execute_all s [] rs ≡ rs
unfolding execute_all
execute_nil s rs = refl

execute_cons : (s : ℕ) (i : Instruction) (is : List Instruction) (rs : List ℕ) → execute_all s (i ∷ is) rs ≡ execute_all s is (execute s i rs)
unfolding execute_all
execute_cons s i is rs = refl

over_nil : (s : ℕ) (rs : List ℕ) → instructions_over s [] rs ≡ false
unfolding instructions_over
over_nil s rs = refl

over_cons : (s : ℕ) (i : Instruction) (is : List Instruction) (rs : List ℕ)
    → instructions_over s (i ∷ is) rs ≡ (instruction_over i rs || instructions_over s is (execute s i rs))
unfolding instructions_over
over_cons s i is rs = refl

module _ (k : Block) (fits : k.count ≤ length k.instructions) where
  -- the instructions from one on: it, and those after it
  from_next : (i : ℕ) → i < k.count → drop i (instructions_of k) ≡ get_or (instructions_of k) i no_instruction ∷ drop (i + 1) (instructions_of k)
  from_next i h =
      let n = length-take-le k.count k.instructions fits in
      drop-cons (instructions_of k) i no_instruction (omega arith) ∙ rw add-one

  none_left : (i : ℕ) → k.count ≤ i → drop i (instructions_of k) ≡ []
  none_left i h =
      let n = length-take-le k.count k.instructions fits in
      drop_of_length-le (instructions_of k) {i = i} (omega arith)

module _ (s : ℕ) (k : Block) (fits : k.count ≤ length k.instructions) where
  pub code_next : (i : ℕ) (rs : List ℕ) → i < k.count
      → execute_all s (drop i (instructions_of k)) rs ≡ execute_all s (drop (i + 1) (instructions_of k)) (execute s (get_or (instructions_of k) i no_instruction) rs)
  code_next i rs h =
      ap (λ (l : List Instruction). execute_all s l rs) (from_next k fits i h)
      ∙ execute_cons s (get_or (instructions_of k) i no_instruction) (drop (i + 1) (instructions_of k)) rs

  pub code_done : (i : ℕ) (rs : List ℕ) → k.count ≤ i → execute_all s (drop i (instructions_of k)) rs ≡ rs
  code_done i rs h = ap (λ (l : List Instruction). execute_all s l rs) (none_left k fits i h) ∙ execute_nil s rs

  -- the flag that they leave, where it was f
  pub flag_next : (i : ℕ) (rs : List ℕ) (f : Bool) → i < k.count
      → (f || instructions_over s (drop i (instructions_of k)) rs)
      ≡ ((f || instruction_over (get_or (instructions_of k) i no_instruction) rs) || instructions_over s (drop (i + 1) (instructions_of k)) (execute s (get_or (instructions_of k) i no_instruction) rs))
  flag_next i rs f h =
      let j = get_or (instructions_of k) i no_instruction in
      let later = drop (i + 1) (instructions_of k) in
      ap (λ (l : List Instruction). f || instructions_over s l rs) (from_next k fits i h)
      ∙ ap (λ (b : Bool). f || b) (over_cons s j later rs)
      ∙ sym (or_assoc f (instruction_over j rs) (instructions_over s later (execute s j rs)))

  pub flag_done : (i : ℕ) (rs : List ℕ) (f : Bool) → k.count ≤ i → (f || instructions_over s (drop i (instructions_of k)) rs) ≡ f
  flag_done i rs f h =
      ap (λ (l : List Instruction). f || instructions_over s l rs) (none_left k fits i h)
      ∙ ap (λ (b : Bool). f || b) (over_nil s rs)
      ∙ or-false f

-- ---- what admission gives of a block that is run

nonzero : {n : ℕ} → (n ≡ 0 → ⊥) → 0 < n
nonzero {n} h = omega arith

within_valid : (r : ℕ) (i : Instruction) → 1 ≤ r → r ≤ max_registers → ValidInstruction r i → Within i
within_valid r i s h v = record {
  first = low (eqb (arity i.code) 0) refl;
  second = go (eqb (arity i.code) 2) refl;
}
  where
    low : (t : Bool) → eqb (arity i.code) 0 ≡ t → (i.code ≡ 1 → ⊥) → i.a < max_registers
    low true z e = let l = v.no_first (eqb-true (arity i.code) 0 z) in omega arith
    low false z e = let o = eqb-false (arity i.code) 0 z in let l = v.first (nonzero o) e in omega arith

    go : (t : Bool) → eqb (arity i.code) 2 ≡ t → i.b < max_registers
    go true e = let l = v.second (eqb-true (arity i.code) 2 e) in omega arith
    go false e = let l = v.no_second (eqb-false (arity i.code) 2 e) in omega arith

module _ (t : List ℕ) (a : Admitted t) (n : ℕ) (below : n < get_or t 0 0) where
  pub block_within : BlockWithin (block_at t n)
  block_within =
      let v = a.block n below in
      let l = instructions_length t n in
      let f = v.few in
      record {
        few = v.few;
        fits = omega arith;
        each = λ i h.
            within_valid (get_or t 1 0) (get_or (block_at t n).instructions i no_instruction) a.some_register a.few_registers (v.instruction i h (omega arith));
      }

  pub ending_within : EndingWithin (block_at t n).ending
  ending_within = go (block_at t n).ending (a.block n below).ended
    where
      go : (e : Ending) → ValidEnding (get_or t 0 0) (get_or t 1 0) e → EndingWithin e
      go (Goto m) v = tt
      go (Ite c m f) v =
          let r = a.few_registers in
          let p = v.first in
          let q = v.second in
          record { first = omega arith; second = omega arith }
      go Halt v = tt

-- where an ending leads goes by the words in the registers that it compares; their numbers may be taken modulo 16
pub leave_is : (e : Ending) (rs : List ℕ) → EndingWithin e
    → leave_by e (get_or rs ((compared_of e).a % max_registers) 0) (get_or rs ((compared_of e).b % max_registers) 0) ≡ leave e rs
unfolding leave
leave_is (Goto t) rs w = refl
leave_is (Ite c t f) rs w =
    let p = w.first in
    let q = w.second in
    let m : c.a % max_registers ≡ c.a = omega arith in
    let n : c.b % max_registers ≡ c.b = omega arith in
    rw (m, n)
leave_is Halt rs w = refl

leave_below : (b r : ℕ) (e : Ending) (rs : List ℕ) (m : ℕ) → ValidEnding b r e → leave e rs ≡ standing m → m < b
unfolding leave
leave_below b r (Goto t) rs m v h =
    let e : t ≡ m = cc in
    omega arith
leave_below b r (Ite c t f) rs m v h = go (holds c rs) h
  where
    go : (p : Bool) → standing (choose p t f) ≡ standing m → m < b
    go true e = let q : t ≡ m = cc in let l = v.holds in omega arith
    go false e = let q : f ≡ m = cc in let l = v.fails in omega arith
leave_below b r Halt rs m v h = absurd (let z : ◌≡◌ {A = ℕ} 0 1 = cc in omega arith)

pub next_below : (t : List ℕ) → Admitted t → (n : ℕ) → n < get_or t 0 0 → (rs : List ℕ) (m : ℕ) → leave (block_at t n).ending rs ≡ standing m → m < get_or t 0 0
next_below t a n l rs m h = leave_below (get_or t 0 0) (get_or t 1 0) (block_at t n).ending rs m (a.block n l).ended h

-- ---- one step

run_is : (w : ℕ) (k : Block) (rs : List ℕ)
    → run_block w k rs ≡ record { place = leave k.ending (execute_all w (instructions_of k) rs); registers = execute_all w (instructions_of k) rs; over = instructions_over w (instructions_of k) rs }
unfolding run_block
run_is w k rs = refl

-- a turn of the loop, from arrival k, for which there is a word
pub turn : (t : List ℕ) (marks : List Bool) (ws : Supply) (budget : ℕ) (c₀ : Configuration) (count k n : ℕ) (before after : Contents) (p : Place)
    → n < get_or t 0 0 → count < budget → ws.lasts k ≡ true
    → Reached (marked_runner (graph_of t) marks) ws budget c₀ count (stands_at k n before)
    → after.registers ≡ execute_all (ws.word k) (instructions_of (block_at t n)) before.registers
    → after.flag ≡ (before.flag || instructions_over (ws.word k) (instructions_of (block_at t n)) before.registers)
    → p ≡ leave (block_at t n).ending after.registers
    → Reached (marked_runner (graph_of t) marks) ws budget c₀ (count + 1) (record { place = p; contents = after; arrivals = arrivals_at (λ b. get_or marks b false) p k })
turn t marks ws budget c₀ count k n before after p l h w r e f q =
    let g = marked_runner (graph_of t) marks in
    let c = stands_at k n before in
    let end : Configuration = record { place = p; contents = after; arrivals = arrivals_at g.arrives p k } in
    let m : step g ws c ≡ end =
    step_going g ws c n refl w
    ∙ ap (λ (b : Block). moved g.arrives c (run_block (ws.word k) b before.registers)) (block_below t n l)
    ∙ ap (moved g.arrives c) (run_is (ws.word k) (block_at t n) before.registers)
    ∙ rw (← e, ← f, ← q) in
    rw (← m) (reached_step g ws budget c₀ count c r (goes_standing ws c n refl w) h)

-- it stands at block x then, where m says whether that is an arrival
pub stands_at_lem : (r : Runner) (ws : Supply) (budget : ℕ) (c₀ : Configuration) (count k x : ℕ) (now : Contents) (m : Bool) → r.arrives x ≡ m
    → Reached r ws budget c₀ count (record { place = standing x; contents = now; arrivals = arrivals_at r.arrives (standing x) k })
    → Reached r ws budget c₀ count (stands_at (choose m (k + 1) k) x now)
stands_at_lem r ws budget c₀ count k x now m h =
    subst (λ (c : Configuration). Reached r ws budget c₀ count c)
    (ap (λ (b : Bool). stands_at (choose b (suc k) k) x now) h ∙ rw (add-one k))

-- ---- refusals

-- a test that refuses does so whatever tests follow
first_of : (b : Bool) (x e : Refusal) (y z : Option Refusal) → (y ≡ Some e → z ≡ Some e) → choose b (Some x) y ≡ Some e → choose b (Some x) z ≡ Some e
first_of true x e y z k h = h
first_of false x e y z k h = k h

never : (e : Refusal) (z : Option Refusal) → ◌≡◌ {A = Option Refusal} None (Some e) → z ≡ Some e
never e z h = absurd (search (h, rules))

module _ (t rs : List ℕ) (start : ℕ) where
  pub short_registers_lem : length rs < max_registers → graph_refusal t rs start ≡ Some ShortBuffer
  unfolding graph_refusal
  short_registers_lem h = rw (lt-ltb (length rs) max_registers h, or-true (ltb (length t) graph_words))

  pub table_refused : max_registers ≤ length rs → (e : Refusal) → wordless_table_refusal t ≡ Some e → graph_refusal t rs start ≡ Some e
  unfolding graph_refusal
  table_refused m e h =
      let start_test = choose (not (ltb start (get_or t 0 0))) (Some NoStart) None in
      let words_test : Option Refusal → Option Refusal = λ rest. choose (not (wordless_graph (graph_of t))) (Some NoWords) rest in
      let graph_test : Option Refusal → Option Refusal = λ rest. choose (not (admitted_graph t)) (Some BadGraph) rest in
      rw (le-ltb (length rs) max_registers m, or-false (ltb (length t) graph_words))
      (first_of (ltb (length t) graph_words) ShortBuffer e (graph_test (words_test None)) (graph_test (words_test start_test))
      (first_of (not (admitted_graph t)) BadGraph e (words_test None) (words_test start_test)
      (first_of (not (wordless_graph (graph_of t))) NoWords e None start_test (never e start_test)))
      h)

  module _ (l : graph_words ≤ length t) (m : max_registers ≤ length rs) where
    pub not_admitted : admitted_graph t ≡ false → graph_refusal t rs start ≡ Some BadGraph
    unfolding graph_refusal
    not_admitted h = rw (le-ltb (length t) graph_words l, le-ltb (length rs) max_registers m, h)

    module _ (ok : admitted_graph t ≡ true) (w : wordless_graph (graph_of t) ≡ true) where
      pub no_start : get_or t 0 0 ≤ start → graph_refusal t rs start ≡ Some NoStart
      unfolding graph_refusal
      no_start h = rw (le-ltb (length t) graph_words l, le-ltb (length rs) max_registers m, ok, w, le-ltb start (get_or t 0 0) h)

      pub none_refused : start < get_or t 0 0 → graph_refusal t rs start ≡ None
      unfolding graph_refusal
      none_refused h = rw (le-ltb (length t) graph_words l, le-ltb (length rs) max_registers m, ok, w, lt-ltb start (get_or t 0 0) h)

-- with words
module _ (t rs : List ℕ) (start : ℕ) (starters : List ℕ) where
  pub words_short_registers : length rs < max_registers → graph_words_refusal t rs start starters ≡ Some ShortBuffer
  unfolding graph_words_refusal
  words_short_registers h = rw (lt-ltb (length rs) max_registers h, or-true (ltb (length t) graph_words))

  pub words_table_refused : max_registers ≤ length rs → (e : Refusal) → table_refusal t ≡ Some e → graph_words_refusal t rs start starters ≡ Some e
  unfolding graph_words_refusal
  words_table_refused m e h =
      let rest = choose (not (ltb start (get_or t 0 0))) (Some NoStart) (choose (not (starters_fit (get_or t 0 0) start starters)) (Some BadStarters) None) in
      let graph_test : Option Refusal → Option Refusal = λ z. choose (not (admitted_graph t)) (Some BadGraph) z in
      rw (le-ltb (length rs) max_registers m, or-false (ltb (length t) graph_words))
      (first_of (ltb (length t) graph_words) ShortBuffer e (graph_test None) (graph_test rest)
      (first_of (not (admitted_graph t)) BadGraph e None rest (never e rest))
      h)

  module _ (l : graph_words ≤ length t) (m : max_registers ≤ length rs) (ok : admitted_graph t ≡ true) where
    pub words_no_start : get_or t 0 0 ≤ start → graph_words_refusal t rs start starters ≡ Some NoStart
    unfolding graph_words_refusal
    words_no_start h = rw (le-ltb (length t) graph_words l, le-ltb (length rs) max_registers m, ok, le-ltb start (get_or t 0 0) h)

    module _ (h : start < get_or t 0 0) where
      pub words_unfit : starters_fit (get_or t 0 0) start starters ≡ false → graph_words_refusal t rs start starters ≡ Some BadStarters
      unfolding graph_words_refusal
      words_unfit f = rw (le-ltb (length t) graph_words l, le-ltb (length rs) max_registers m, ok, lt-ltb start (get_or t 0 0) h, f)

      pub words_none_refused : starters_fit (get_or t 0 0) start starters ≡ true → graph_words_refusal t rs start starters ≡ None
      unfolding graph_words_refusal
      words_none_refused f = rw (le-ltb (length t) graph_words l, le-ltb (length rs) max_registers m, ok, lt-ltb start (get_or t 0 0) h, f)
