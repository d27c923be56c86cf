-- Machine tables with words past their length: the same are admitted, with the same machine, and run alike. Assumes nothing.
use Prim.Native.Nat.{ℕ, ◌+◌, ◌≤◌, ◌<◌}
use native.Mathlib.Omega.{arith}
use mathlib.Core.Bool.{Bool, true, false, not, ◌&&◌}
use mathlib.Core.List.{List, ◌++◌, map}
use mathlib.Core.Path.{◌≡◌, refl, sym, ap, ap₂, ◌∙◌}
use lib.Dec.{eqb, leb, ltb}
use lib.ListN.{length, get_or, take, drop, length-append}
use borrow.Author.Tests.{le-ltb, ltb-true}
use Rattle.word.specs.Word.{choose}
use Rattle.runs.specs.Lists.{up_from}
use Rattle.runs.specs.Runs.{listed, unread}
use Rattle.runs.proofs.ListLaws.{same_test}
use Rattle.runs.proofs.Fronts.{SameFront, front_past, front_sym, map_same}
use Rattle.runs.proofs.PastRegisters.{past_answered, past_left, past_total}
use Rattle.fsmd.specs.declared.Wire.{Wire}
use Rattle.fsmd.specs.Layout.{max_states, max_blocks, max_registers, max_wires, starters_offset, block_states_offset, record_offset, next_state_offset, next_registers_offset, touch_offset, wire_offset, arrivals_offset, absent, machine_words}
use Rattle.fsmd.specs.Machine.{State, FSMD, machine_runner, blocks_run, wordless_machine}
use Rattle.fsmd.specs.Touch.{touch_word}
use Rattle.fsmd.specs.Table.{wire_at, first_wire_at, wire_count_at, state_at, block_state_at, arrival_at, machine_of, admitted_machine}
use Rattle.refusal.specs.declared.Refusal.TheVariants.{NoStart, NoWords}
use Rattle.std.specs.Prelude.{Some, None}
use Rattle.fsmd.specs.Run.{machine_refusal, machine_answer, machine_registers, machine_blocks, machine_words_refusal, machine_words_answer, machine_words_registers, machine_words_blocks}
use Rattle.fsmd.proofs.BlockLaws.{right_at}
use Rattle.fsmd.proofs.Machines.{Admitted, admitted_facts, facts_admitted}
use Rattle.fsmd.proofs.Steps.{refuse_machine}
use Rattle.fsmd.proofs.Unrefused.{unrefused, words_unrefused}

-- ---- two tables with the same words in front

four_same : (p q r s p' q' r' s' : ℕ) → p ≡ p' → q ≡ q' → r ≡ r' → s ≡ s'
    → ◌≡◌ {A = Wire} (record { code = p; a = q; b = r; c = s }) (record { code = p'; a = q'; b = r'; c = s' })
four_same p q r s p' q' r' s' e₁ e₂ e₃ e₄ = cc

five_same : {r r' : ℕ} {s s' b b' a a' : List ℕ} {q q' : List State} → r ≡ r' → s ≡ s' → b ≡ b' → a ≡ a' → q ≡ q'
    → ◌≡◌ {A = FSMD} (record { registers = r; starters = s; block_states = b; arrivals = a; states = q }) (record { registers = r'; starters = s'; block_states = b'; arrivals = a'; states = q' })
five_same er es eb ea eq = λ i. record { registers = er i; starters = es i; block_states = eb i; arrivals = ea i; states = eq i }

module _ {t t' : List ℕ} (f : SameFront machine_words t t') where
  first_same : (k : ℕ) → k < max_states → first_wire_at t k ≡ first_wire_at t' k
  first_same k h = f.word (record_offset k) (omega arith)

  count_same : (k : ℕ) → k < max_states → wire_count_at t k ≡ wire_count_at t' k
  count_same k h = f.word (record_offset k + 1) (omega arith)

  wire_same : (i : ℕ) → i < max_wires → wire_at t i ≡ wire_at t' i
  unfolding wire_at
  wire_same i h =
      let p = wire_offset i in
      four_same (get_or t p 0) (get_or t (p + 1) 0) (get_or t (p + 2) 0) (get_or t (p + 3) 0) (get_or t' p 0) (get_or t' (p + 1) 0) (get_or t' (p + 2) 0) (get_or t' (p + 3) 0)
      (f.word p (omega arith)) (f.word (p + 1) (omega arith)) (f.word (p + 2) (omega arith)) (f.word (p + 3) (omega arith))

  state_same : (k : ℕ) → k < max_states → get_or t 1 0 ≤ max_registers → first_wire_at t k + wire_count_at t k ≤ max_wires → state_at t k ≡ state_at t' k
  unfolding state_at
  state_same k h few room =
      ap₂ {C = State} (λ (ws : List Wire) (p : ℕ × List ℕ). record { wires = ws; next = p.0; next_registers = p.1 })
      (map_same (wire_at t) (wire_at t') (first_wire_at t k) (wire_count_at t k) (λ i lo hi. wire_same i (omega arith))
      ∙ ap₂ (λ (a n : ℕ). map (wire_at t') (up_from a n)) (first_same k h) (count_same k h))
      (ap₂ {C = ℕ × List ℕ} (λ (n : ℕ) (l : List ℕ). (n, l)) (f.word (record_offset k + next_state_offset) (omega arith))
      (f.words (record_offset k + next_registers_offset) (get_or t 1 0) (omega arith)
      ∙ ap (λ (n : ℕ). take n (drop (record_offset k + next_registers_offset) t')) (f.word 1 (omega arith))))

  machine_same : Admitted t → machine_of t ≡ machine_of t'
  unfolding machine_of
  machine_same a =
      let n = a.few_states_lem in
      let states = map_same (state_at t) (state_at t') 0 (get_or t 0 0) (λ k lo hi. state_same k (omega arith) a.few_registers_lem (a.in_space k (omega arith)))
      ∙ ap (λ (n : ℕ). map (state_at t') (up_from 0 n)) (f.word 0 (omega arith)) in
      let starters = f.words starters_offset (get_or t 0 0) (omega arith) ∙ ap (λ (n : ℕ). take n (drop starters_offset t')) (f.word 0 (omega arith)) in
      five_same (f.word 1 (omega arith)) starters (f.words block_states_offset max_blocks (omega arith)) (f.words arrivals_offset max_blocks (omega arith)) states

  -- a block whose state is none of the machine's is not right, whatever words stand where its record would be
  block_same : get_or t 0 0 ≤ max_states → (b : ℕ) → b < max_blocks → right_at t b ≡ right_at t' b
  block_same few b h =
      let k = block_state_at t b in
      let n = get_or t 0 0 in
      let e : right_at t' b ≡ choose (eqb k absent) (eqb (arrival_at t b) 0) (ltb k n && leb max_registers (arrival_at t b) && ltb (arrival_at t b) (max_registers + wire_count_at t' k)) =
      rw (f.word (block_states_offset + b) (omega arith), f.word (arrivals_offset + b) (omega arith), f.word 0 (omega arith)) refl in
      go (ltb k n) refl ∙ sym e
    where
      go : (c : Bool) → ltb (block_state_at t b) (get_or t 0 0) ≡ c
          → right_at t b ≡ choose (eqb (block_state_at t b) absent) (eqb (arrival_at t b) 0) (ltb (block_state_at t b) (get_or t 0 0) && leb max_registers (arrival_at t b) && ltb (arrival_at t b) (max_registers + wire_count_at t' (block_state_at t b)))
      go true c = rw (count_same (block_state_at t b) (omega (arith, ltb-true (block_state_at t b) (get_or t 0 0) c)))
      go false c = rw c

  carried : Admitted t → Admitted t'
  carried a =
      let n = f.word 0 (omega arith) in
      let r = f.word 1 (omega arith) in
      let few = a.few_states_lem in
      record {
        some_states = omega (arith, a.some_states);
        few_states_lem = omega arith;
        some_registers = omega (arith, a.some_registers);
        few_registers_lem = omega (arith, a.few_registers_lem);
        in_space = λ k h. omega (arith, a.in_space k (omega arith), first_same k (omega arith), count_same k (omega arith));
        separate = λ j k h l. rw (first_same j (omega arith), first_same k (omega arith), count_same j (omega arith), count_same k (omega arith)) at (a.separate j k h (omega arith));
        valid = λ k h. rw (r, state_same k (omega arith) a.few_registers_lem (a.in_space k (omega arith))) at (a.valid k (omega arith));
        touch = λ k h.
            sym (f.word (record_offset k + touch_offset) (omega arith)) ∙ a.touch k (omega arith)
            ∙ ap (λ (q : State). touch_word q.next_registers) (state_same k (omega arith) a.few_registers_lem (a.in_space k (omega arith)));
        blocks = λ b h. sym (block_same a.few_states_lem b h) ∙ a.blocks b h;
      }

admitted_same : {t t' : List ℕ} → SameFront machine_words t t' → admitted_machine t ≡ admitted_machine t'
admitted_same {t} {t'} f =
    same_test (admitted_machine t) (admitted_machine t') (λ h. facts_admitted t' (carried f (admitted_facts t h))) (λ h. facts_admitted t (carried (front_sym f) (admitted_facts t' h)))

-- ---- a table t, and words past it

-- the tests that are left where the table is admitted
last_tests : (t rs : List ℕ) (start : ℕ) → machine_words ≤ length t → max_registers ≤ length rs → admitted_machine t ≡ true
    → machine_refusal t rs start ≡ choose (not (wordless_machine (machine_of t))) (Some NoWords) (choose (not (ltb start (get_or t 0 0))) (Some NoStart) None)
unfolding machine_refusal
last_tests t rs start whole long good = rw (le-ltb (length t) machine_words whole, le-ltb (length rs) max_registers long, good)

module _ (t u : List ℕ) (whole : machine_words ≤ length t) where
  front : SameFront machine_words (t ++ u) t
  front = front_past machine_words t u whole

  pub past_whole : machine_words ≤ length (t ++ u)
  past_whole = rw length-append (omega arith)

  pub past_admitted : admitted_machine (t ++ u) ≡ admitted_machine t
  past_admitted = admitted_same front

  past_machine : admitted_machine t ≡ true → machine_of (t ++ u) ≡ machine_of t
  past_machine h = sym (machine_same (front_sym front) (admitted_facts t h))

  pub past_count : get_or (t ++ u) 0 0 ≡ get_or t 0 0
  past_count = front.word 0 (omega arith)

  pub past_register_count : get_or (t ++ u) 1 0 ≡ get_or t 1 0
  past_register_count = front.word 1 (omega arith)

  pub past_state : admitted_machine t ≡ true → (k : ℕ) → k < get_or t 0 0 → state_at (t ++ u) k ≡ state_at t k
  past_state h k l =
      let a = admitted_facts t h in
      sym (state_same (front_sym front) k (omega (arith, l, a.few_states_lem)) a.few_registers_lem (a.in_space k l))

  -- ---- runs: registers rs, and words past them

  module _ (rs v : List ℕ) (long : max_registers ≤ length rs) (start : ℕ) where
    past_long : max_registers ≤ length (rs ++ v)
    past_long = rw length-append (omega arith)

    past_refusal : machine_refusal (t ++ u) (rs ++ v) start ≡ machine_refusal t rs start
    past_refusal = go (admitted_machine t) refl
      where
        go : (b : Bool) → admitted_machine t ≡ b → machine_refusal (t ++ u) (rs ++ v) start ≡ machine_refusal t rs start
        go false e = refuse_machine (t ++ u) (rs ++ v) start past_whole past_long (past_admitted ∙ e) ∙ sym (refuse_machine t rs start whole long e)
        go true e =
            last_tests (t ++ u) (rs ++ v) start past_whole past_long (past_admitted ∙ e)
            ∙ ap₂ (λ (m : FSMD) (n : ℕ). choose (not (wordless_machine m)) (Some NoWords) (choose (not (ltb start n)) (Some NoStart) None)) (past_machine e) (front.word 0 (omega arith))
            ∙ sym (last_tests t rs start whole long e)

    past_words_refusal : machine_words_refusal (t ++ u) (rs ++ v) start ≡ machine_words_refusal t rs start
    unfolding machine_words_refusal
    past_words_refusal =
        rw (le-ltb (length (t ++ u)) machine_words past_whole, le-ltb (length (rs ++ v)) max_registers past_long, le-ltb (length t) machine_words whole, le-ltb (length rs) max_registers long, past_admitted, front.word 0 (omega arith))

    past_runner : admitted_machine t ≡ true → machine_runner (machine_of (t ++ u)) ≡ machine_runner (machine_of t)
    past_runner h = ap machine_runner (past_machine h)

    past_counts : admitted_machine t ≡ true → blocks_run (machine_of (t ++ u)) ≡ blocks_run (machine_of t)
    past_counts h = ap blocks_run (past_machine h)

    module _ (budget : ℕ) where
      pub past_run_answer : machine_answer (t ++ u) (rs ++ v) start budget ≡ machine_answer t rs start budget
      past_run_answer =
          past_answered (machine_refusal (t ++ u) (rs ++ v) start) (machine_refusal t rs start) past_refusal (machine_runner (machine_of (t ++ u))) (machine_runner (machine_of t))
          (λ h. past_runner (unrefused t rs start h).good) unread rs v long start budget

      pub past_run_registers : machine_registers (t ++ u) (rs ++ v) start budget ≡ machine_registers t rs start budget ++ v
      past_run_registers =
          past_left (machine_refusal (t ++ u) (rs ++ v) start) (machine_refusal t rs start) past_refusal (machine_runner (machine_of (t ++ u))) (machine_runner (machine_of t))
          (λ h. past_runner (unrefused t rs start h).good) unread rs v long start budget

      pub past_run_blocks : machine_blocks (t ++ u) (rs ++ v) start budget ≡ machine_blocks t rs start budget
      past_run_blocks =
          past_total (machine_refusal (t ++ u) (rs ++ v) start) (machine_refusal t rs start) past_refusal (machine_runner (machine_of (t ++ u))) (machine_runner (machine_of t))
          (λ h. past_runner (unrefused t rs start h).good) unread rs v long start budget (blocks_run (machine_of (t ++ u))) (blocks_run (machine_of t)) (λ h. past_counts (unrefused t rs start h).good)

      module _ (words : List ℕ) where
        pub past_words_answer : machine_words_answer (t ++ u) (rs ++ v) start budget words ≡ machine_words_answer t rs start budget words
        past_words_answer =
            past_answered (machine_words_refusal (t ++ u) (rs ++ v) start) (machine_words_refusal t rs start) past_words_refusal (machine_runner (machine_of (t ++ u))) (machine_runner (machine_of t))
            (λ h. past_runner (words_unrefused t rs start h).good) (listed words) rs v long start budget

        pub past_words_registers : machine_words_registers (t ++ u) (rs ++ v) start budget words ≡ machine_words_registers t rs start budget words ++ v
        past_words_registers =
            past_left (machine_words_refusal (t ++ u) (rs ++ v) start) (machine_words_refusal t rs start) past_words_refusal (machine_runner (machine_of (t ++ u))) (machine_runner (machine_of t))
            (λ h. past_runner (words_unrefused t rs start h).good) (listed words) rs v long start budget

        pub past_words_blocks : machine_words_blocks (t ++ u) (rs ++ v) start budget words ≡ machine_words_blocks t rs start budget words
        past_words_blocks =
            past_total (machine_words_refusal (t ++ u) (rs ++ v) start) (machine_words_refusal t rs start) past_words_refusal (machine_runner (machine_of (t ++ u))) (machine_runner (machine_of t))
            (λ h. past_runner (words_unrefused t rs start h).good) (listed words) rs v long start budget (blocks_run (machine_of (t ++ u))) (blocks_run (machine_of t))
            (λ h. past_counts (words_unrefused t rs start h).good)
