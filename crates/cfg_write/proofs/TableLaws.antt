-- A graph's table: its words are those of the graph again, whatever stands behind them. Assumes nothing.
use Prim.Native.Nat.{ℕ, suc, ◌+◌, ◌-◌, ◌*◌, ◌≤◌}
use native.Mathlib.Omega.{arith}
use mathlib.Core.Path.{◌≡◌, refl, ap, ap₂, ◌∙◌}
use mathlib.Core.Bool.{true}
use mathlib.Core.List.{List, [], ◌∷◌, ◌++◌, map, append_assoc}
use lib.ListN.{length, get_or, replicate, length-append}
use lib.Seq.{get_or-append-add}
use Rattle.runs.specs.Lists.{up_from, every, padded, concat_map}
use Rattle.runs.proofs.ListLaws.{and_left, and_right, padded_append}
use Rattle.cfg.proofs.Words.{table_is}
use Rattle.cfg.proofs.Lengths.{code_length, block_length}
use Rattle.cfg.specs.Layout.{max_blocks, max_instructions, instruction_words, code_offset, ending_offset, block_words, all_block_words, block_offset}
use Rattle.cfg.specs.Graph.{CFG}
use Rattle.cfg.specs.Table.{instruction_words_of, ending_words_of, block_words_of, graph_table_of, instruction_at, ending_at, block_at, graph_of}
use Rattle.cfg.specs.declared.Instruction.{Instruction}
use Rattle.cfg.specs.declared.Ending.{Ending}
use Rattle.cfg.specs.declared.Ending.TheVariants.{Goto, Ite, Halt}
use Rattle.cfg.specs.declared.Block.{Block}
use Rattle.word.proofs.Laws.{comparison_code_lem}
use Rattle.cfg_write.proofs.Whole.{proper}
use Rattle.cfg_write.proofs.WalkLaws.{proper_eight}

-- ---- what stands behind some words

module _ (front xs : List ℕ) (p : ℕ) (e : length front ≡ p) where
  word_behind : (k q : ℕ) → q ≡ p + k → get_or (front ++ xs) q 0 ≡ get_or xs k 0
  word_behind k q h = rw (h, ← e) (get_or-append-add front xs k 0)

  ending_behind : (k : ℕ) → ending_at (front ++ xs) (p + k) ≡ ending_at xs k
  unfolding ending_at
  ending_behind k =
      rw (word_behind k (p + k) refl, word_behind (k + 1) (p + k + 1) (omega arith), word_behind (k + 2) (p + k + 2) (omega arith), word_behind (k + 3) (p + k + 3) (omega arith), word_behind (k + 4) (p + k + 4) (omega arith), word_behind (k + 5) (p + k + 5) (omega arith))

  instruction_behind : (i : ℕ) → instruction_at (front ++ xs) p i ≡ instruction_at xs 0 i
  unfolding instruction_at
  instruction_behind i =
      let n = 0 + code_offset + instruction_words * i in
      rw (word_behind n (p + code_offset + instruction_words * i) (omega arith), word_behind (n + 1) (p + code_offset + instruction_words * i + 1) (omega arith), word_behind (n + 2) (p + code_offset + instruction_words * i + 2) (omega arith), word_behind (n + 3) (p + code_offset + instruction_words * i + 3) (omega arith))

-- ---- one block's words

abbrev block : ℕ → List Instruction → Ending → Block
block n is e = record { count = n; instructions = is; ending = e }

block_behind :
    (front xs : List ℕ) (n : ℕ) → length front ≡ block_offset n
    → block_at (front ++ xs) n ≡ block (get_or xs 0 0) (map (instruction_at xs 0) (up_from 0 max_instructions)) (ending_at xs ending_offset)
unfolding block_at
block_behind front xs n e =
    let i = instruction_behind front xs (block_offset n) e in
    rw (word_behind front xs (block_offset n) e 0 (block_offset n) (omega arith), ending_behind front xs (block_offset n) e ending_offset, i 0, i 1, i 2, i 3, i 4, i 5, i 6, i 7)

ending_words_lem : (e : Ending) (s : List ℕ) → ending_at (ending_words_of e ++ s) 0 ≡ e
unfolding ending_at
ending_words_lem (Goto t) s = refl
ending_words_lem (Ite c t f) s = rw (comparison_code_lem c.comparison)
ending_words_lem Halt s = refl

code_words_lem : (c : ℕ) (is : List Instruction) (s : List ℕ) → length is ≡ max_instructions → map (instruction_at (c ∷ (concat_map instruction_words_of is ++ s)) 0) (up_from 0 max_instructions) ≡ is
unfolding instruction_at concat_map
code_words_lem c [] s h = absurd (omega arith)
code_words_lem c (i ∷ []) s h = absurd (omega arith)
code_words_lem c (i ∷ j ∷ []) s h = absurd (omega arith)
code_words_lem c (i ∷ j ∷ k ∷ []) s h = absurd (omega arith)
code_words_lem c (i ∷ j ∷ k ∷ l ∷ []) s h = absurd (omega arith)
code_words_lem c (i ∷ j ∷ k ∷ l ∷ m ∷ []) s h = absurd (omega arith)
code_words_lem c (i ∷ j ∷ k ∷ l ∷ m ∷ n ∷ []) s h = absurd (omega arith)
code_words_lem c (i ∷ j ∷ k ∷ l ∷ m ∷ n ∷ o ∷ []) s h = absurd (omega arith)
code_words_lem c (i ∷ j ∷ k ∷ l ∷ m ∷ n ∷ o ∷ p ∷ []) s h = refl
code_words_lem c (i ∷ j ∷ k ∷ l ∷ m ∷ n ∷ o ∷ p ∷ q ∷ is) s h = absurd (omega arith)

module _ (k : Block) (eight : length k.instructions ≡ max_instructions) where
  -- the words, with the ending behind the instructions
  block_words_lem : (s : List ℕ) → block_words_of k ++ s ≡ (k.count ∷ concat_map instruction_words_of k.instructions) ++ (ending_words_of k.ending ++ (0 ∷ s))
  unfolding block_words_of
  block_words_lem s =
      ap (λ (l : List ℕ). k.count ∷ l)
      (append_assoc (concat_map instruction_words_of k.instructions) (ending_words_of k.ending ++ (0 ∷ [])) s
      ∙ ap (λ (l : List ℕ). concat_map instruction_words_of k.instructions ++ l) (append_assoc (ending_words_of k.ending) (0 ∷ []) s))

  block_read :
      (s : List ℕ)
      → block (get_or (block_words_of k ++ s) 0 0) (map (instruction_at (block_words_of k ++ s) 0) (up_from 0 max_instructions)) (ending_at (block_words_of k ++ s) ending_offset) ≡ k
  block_read s =
      let first = k.count ∷ concat_map instruction_words_of k.instructions in
      let n : length first ≡ ending_offset = let a = code_length k.instructions in omega arith in
      let behind = ending_words_of k.ending ++ (0 ∷ s) in
      let e = ending_behind first behind ending_offset n 0 ∙ ending_words_lem k.ending (0 ∷ s) in
      let i = code_words_lem k.count k.instructions behind eight in
      rw (block_words_lem s) (ap₂ (λ (is : List Instruction) (e : Ending). block k.count is e) i e)

-- ---- all blocks' words

blocks_read_lem :
    (bs : List Block) (n : ℕ) (front s : List ℕ) → length front ≡ block_offset n → every proper bs ≡ true
    → map (block_at (front ++ (concat_map block_words_of bs ++ s))) (up_from n (length bs)) ≡ bs
unfolding concat_map
blocks_read_lem [] n front s e p = refl
blocks_read_lem (k ∷ bs) n front s e p =
    let eight = proper_eight k (and_left (proper k) (every proper bs) p) in
    let rest = concat_map block_words_of bs in
    let l = block_length k eight in
    let m = length-append front (block_words_of k) in
    let i = blocks_read_lem bs (suc n) (front ++ block_words_of k) s (omega arith) (and_right (proper k) (every proper bs) p) in
    let t = append_assoc front (block_words_of k) (rest ++ s) in
    let h = block_behind front (block_words_of k ++ (rest ++ s)) n e ∙ block_read k eight (rest ++ s) in
    ap (λ (x : List ℕ). map (block_at (front ++ x)) (up_from n (suc (length bs)))) (append_assoc (block_words_of k) rest s)
    ∙ ap₂ (λ (b : Block) (l : List Block). b ∷ l) h (rw t at i)

blocks_length : (bs : List Block) → every proper bs ≡ true → length (concat_map block_words_of bs) ≡ block_words * length bs
unfolding concat_map
blocks_length [] p = refl
blocks_length (k ∷ bs) p =
    let l = block_length k (proper_eight k (and_left (proper k) (every proper bs) p)) in
    let m = length-append (block_words_of k) (concat_map block_words_of bs) in
    let i = blocks_length bs (and_right (proper k) (every proper bs) p) in
    omega arith

-- ---- the whole table

-- the graph of a table that begins with these words
graph_read : (t : List ℕ) (g : CFG) (s : List ℕ) → t ≡ length g.blocks ∷ g.registers ∷ (concat_map block_words_of g.blocks ++ s) → every proper g.blocks ≡ true → graph_of t ≡ g
unfolding graph_of
graph_read t g s e p =
    rw e
    (ap (λ (bs : List Block). record { registers = g.registers; blocks = bs })
    (blocks_read_lem g.blocks 0 (length g.blocks ∷ g.registers ∷ []) s refl p))

-- m stands for the words after the head
graph_padded :
    (m : ℕ) (t : List ℕ) (g : CFG) (s : List ℕ) → t ≡ length g.blocks ∷ g.registers ∷ padded m 0 (concat_map block_words_of g.blocks)
    → length (concat_map block_words_of g.blocks) ≤ m → every proper g.blocks ≡ true → graph_of (t ++ s) ≡ g
graph_padded m t g s e l p =
    let w = concat_map block_words_of g.blocks in
    graph_read (t ++ s) g (replicate (m - length w) 0 ++ s)
    (rw (e, padded_append m 0 w l, append_assoc w (replicate (m - length w) 0) s))
    p

pub table_read : (g : CFG) (s : List ℕ) → every proper g.blocks ≡ true → length g.blocks ≤ max_blocks → graph_of (graph_table_of g ++ s) ≡ g
table_read g s p l =
    let n = blocks_length g.blocks p in
    graph_padded all_block_words (graph_table_of g) g s (table_is g) (omega arith) p
