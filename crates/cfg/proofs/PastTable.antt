-- Graph tables with words past their length: the same are admitted, with the same graph, and run alike. Assumes nothing.
use Prim.Native.Nat.{ℕ, suc, ◌+◌, ◌*◌, ◌≤◌, ◌<◌}
use native.Mathlib.Omega.{arith}
use mathlib.Core.Bool.{Bool, true, false, not, ◌&&◌}
use mathlib.Core.List.{List, [], ◌++◌, map}
use mathlib.Core.Path.{◌≡◌, refl, sym, ap, ap₂, ◌∙◌}
use lib.Dec.{leb, ltb}
use lib.ListN.{length, get_or, length-append}
use borrow.Author.Tests.{leb-true, leb-false, le-ltb}
use Rattle.std.specs.Prelude.{Option, Some, None}
use Rattle.refusal.specs.declared.Refusal.{Refusal}
use Rattle.refusal.specs.declared.Refusal.TheVariants.{NoWords, NoStart}
use Rattle.word.specs.Word.{choose}
use Rattle.runs.specs.Lists.{up_from, same}
use Rattle.runs.specs.Runs.{listed, unread}
use Rattle.runs.proofs.Fronts.{SameFront, front_past, map_same}
use Rattle.runs.proofs.PastRegisters.{past_answered, past_left}
use Rattle.cfg.specs.declared.Instruction.{Instruction}
use Rattle.cfg.specs.declared.Ending.{Ending}
use Rattle.cfg.specs.declared.Block.{Block}
use Rattle.cfg.specs.Layout.{max_blocks, max_registers, max_instructions, instruction_words, ending_words, code_offset, ending_offset, graph_words, block_offset}
use Rattle.cfg.specs.Graph.{CFG, valid_graph, graph_runner, wordless_graph}
use Rattle.cfg.specs.Table.{graph_table_of, instruction_at, ending_at, block_at, graph_of, admitted_graph}
use Rattle.cfg.specs.Run.{graph_refusal, graph_answer, graph_registers, graph_words_refusal, graph_words_answer, graph_words_registers}
use Rattle.cfg.proofs.Words.{admitted_is, many_blocks}
use Rattle.cfg.proofs.Admitted.{admitted_facts}
use Rattle.cfg.proofs.Running.{not_admitted}
use Rattle.cfg.proofs.Unrefused.{unrefused, words_unrefused}

-- ---- two tables with the same words in front

four_same : (p q r s p' q' r' s' : ℕ) → p ≡ p' → q ≡ q' → r ≡ r' → s ≡ s'
    → ◌≡◌ {A = Instruction} (record { code = p; d = q; a = r; b = s }) (record { code = p'; d = q'; a = r'; b = s' })
four_same p q r s p' q' r' s' e₁ e₂ e₃ e₄ = cc

module _ {t t' : List ℕ} (f : SameFront graph_words t t') where
  instruction_same : (o i : ℕ) → o + code_offset + instruction_words * suc i ≤ graph_words → instruction_at t o i ≡ instruction_at t' o i
  unfolding instruction_at
  instruction_same o i h =
      let p = o + code_offset + instruction_words * i in
      four_same (get_or t p 0) (get_or t (p + 1) 0) (get_or t (p + 2) 0) (get_or t (p + 3) 0) (get_or t' p 0) (get_or t' (p + 1) 0) (get_or t' (p + 2) 0) (get_or t' (p + 3) 0)
      (f.word p (omega arith)) (f.word (p + 1) (omega arith)) (f.word (p + 2) (omega arith)) (f.word (p + 3) (omega arith))

  ending_same : (o : ℕ) → o + ending_words ≤ graph_words → ending_at t o ≡ ending_at t' o
  unfolding ending_at
  ending_same o h =
      rw (f.word o (omega arith), f.word (o + 1) (omega arith), f.word (o + 2) (omega arith), f.word (o + 3) (omega arith), f.word (o + 4) (omega arith), f.word (o + 5) (omega arith))

  block_same : (n : ℕ) → n < max_blocks → block_at t n ≡ block_at t' n
  unfolding block_at
  block_same n h =
      let o = block_offset n in
      ap₂ {C = Block} (λ (c : ℕ) (p : List Instruction × Ending). record { count = c; instructions = p.0; ending = p.1 }) (f.word o (omega arith))
      (ap₂ {C = List Instruction × Ending} (λ (l : List Instruction) (e : Ending). (l, e))
      (map_same (instruction_at t o) (instruction_at t' o) 0 max_instructions (λ i lo hi. instruction_same o i (omega arith)))
      (ending_same (o + ending_offset) (omega arith)))

  graph_same : get_or t 0 0 ≤ max_blocks → graph_of t ≡ graph_of t'
  unfolding graph_of
  graph_same h =
      ap₂ {C = CFG} (λ (r : ℕ) (l : List Block). record { registers = r; blocks = l }) (f.word 1 (omega arith))
      (map_same (block_at t) (block_at t') 0 (get_or t 0 0) (λ i lo hi. block_same i (omega arith))
      ∙ ap (λ (n : ℕ). map (block_at t') (up_from 0 n)) (f.word 0 (omega arith)))

  admitted_same : admitted_graph t ≡ admitted_graph t'
  admitted_same = go (leb (get_or t 0 0) max_blocks) refl
    where
      go : (b : Bool) → leb (get_or t 0 0) max_blocks ≡ b → admitted_graph t ≡ admitted_graph t'
      go true e =
          admitted_is t
          ∙ ap₂ (λ (g : CFG) (l : List ℕ). valid_graph g && same (graph_table_of g) l) (graph_same (leb-true (get_or t 0 0) max_blocks e)) (f.words 0 graph_words (omega arith))
          ∙ sym (admitted_is t')
      go false e =
          let many = leb-false (get_or t 0 0) max_blocks e in
          let w = f.word 0 (omega arith) in
          many_blocks t (omega arith) many ∙ sym (many_blocks t' (omega arith) (omega arith))

-- ---- a table t, and words past it

-- the tests that are left where the table is admitted
last_tests : (t rs : List ℕ) (start : ℕ) → graph_words ≤ length t → max_registers ≤ length rs → admitted_graph t ≡ true
    → graph_refusal t rs start ≡ choose (not (wordless_graph (graph_of t))) (Some NoWords) (choose (not (ltb start (get_or t 0 0))) (Some NoStart) None)
unfolding graph_refusal
last_tests t rs start whole long good = rw (le-ltb (length t) graph_words whole, le-ltb (length rs) max_registers long, good)

module _ (t u : List ℕ) (whole : graph_words ≤ length t) where
  front : SameFront graph_words (t ++ u) t
  front = front_past graph_words t u whole

  pub past_whole : graph_words ≤ length (t ++ u)
  past_whole = rw length-append (omega arith)

  pub past_admitted : admitted_graph (t ++ u) ≡ admitted_graph t
  past_admitted = admitted_same front

  pub past_graph : admitted_graph t ≡ true → graph_of (t ++ u) ≡ graph_of t
  past_graph h = graph_same front (admitted_facts (t ++ u) (past_admitted ∙ h)).few_blocks

  -- ---- runs: registers rs, and words past them

  module _ (rs v : List ℕ) (long : max_registers ≤ length rs) (start : ℕ) where
    past_long : max_registers ≤ length (rs ++ v)
    past_long = rw length-append (omega arith)

    past_refusal : graph_refusal (t ++ u) (rs ++ v) start ≡ graph_refusal t rs start
    past_refusal = go (admitted_graph t) refl
      where
        go : (b : Bool) → admitted_graph t ≡ b → graph_refusal (t ++ u) (rs ++ v) start ≡ graph_refusal t rs start
        go false e = not_admitted (t ++ u) (rs ++ v) start past_whole past_long (past_admitted ∙ e) ∙ sym (not_admitted t rs start whole long e)
        go true e =
            last_tests (t ++ u) (rs ++ v) start past_whole past_long (past_admitted ∙ e)
            ∙ ap₂ {C = Option Refusal} (λ (g : CFG) (n : ℕ). choose (not (wordless_graph g)) (Some NoWords) (choose (not (ltb start n)) (Some NoStart) None)) (past_graph e) (front.word 0 (omega arith))
            ∙ sym (last_tests t rs start whole long e)

    past_words_refusal : (starters : List ℕ) → graph_words_refusal (t ++ u) (rs ++ v) start starters ≡ graph_words_refusal t rs start starters
    unfolding graph_words_refusal
    past_words_refusal starters =
        rw (le-ltb (length (t ++ u)) graph_words past_whole, le-ltb (length (rs ++ v)) max_registers past_long, le-ltb (length t) graph_words whole, le-ltb (length rs) max_registers long, past_admitted, front.word 0 (omega arith))

    past_runner : (starters : List ℕ) → admitted_graph t ≡ true → graph_runner (graph_of (t ++ u)) starters ≡ graph_runner (graph_of t) starters
    past_runner starters h = ap (λ (g : CFG). graph_runner g starters) (past_graph h)

    module _ (budget : ℕ) where
      pub past_run_answer : graph_answer (t ++ u) (rs ++ v) start budget ≡ graph_answer t rs start budget
      past_run_answer =
          past_answered (graph_refusal (t ++ u) (rs ++ v) start) (graph_refusal t rs start) past_refusal (graph_runner (graph_of (t ++ u)) []) (graph_runner (graph_of t) [])
          (λ h. past_runner [] (unrefused t rs start h).good) unread rs v long start budget

      pub past_run_registers : graph_registers (t ++ u) (rs ++ v) start budget ≡ graph_registers t rs start budget ++ v
      past_run_registers =
          past_left (graph_refusal (t ++ u) (rs ++ v) start) (graph_refusal t rs start) past_refusal (graph_runner (graph_of (t ++ u)) []) (graph_runner (graph_of t) [])
          (λ h. past_runner [] (unrefused t rs start h).good) unread rs v long start budget

      module _ (words starters : List ℕ) where
        pub past_words_answer : graph_words_answer (t ++ u) (rs ++ v) start budget words starters ≡ graph_words_answer t rs start budget words starters
        past_words_answer =
            past_answered (graph_words_refusal (t ++ u) (rs ++ v) start starters) (graph_words_refusal t rs start starters) (past_words_refusal starters) (graph_runner (graph_of (t ++ u)) starters) (graph_runner (graph_of t) starters)
            (λ h. past_runner starters (words_unrefused t rs start starters h).good) (listed words) rs v long start budget

        pub past_words_registers : graph_words_registers (t ++ u) (rs ++ v) start budget words starters ≡ graph_words_registers t rs start budget words starters ++ v
        past_words_registers =
            past_left (graph_words_refusal (t ++ u) (rs ++ v) start starters) (graph_words_refusal t rs start starters) (past_words_refusal starters) (graph_runner (graph_of (t ++ u)) starters) (graph_runner (graph_of t) starters)
            (λ h. past_runner starters (words_unrefused t rs start starters h).good) (listed words) rs v long start budget
