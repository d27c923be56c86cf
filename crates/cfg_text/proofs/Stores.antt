-- The words that each line stores are those of the lines read so far. Assumes nothing.
use mathlib.Core.Path.{◌≡◌, ◌∙◌, refl, sym, ap}
use mathlib.Core.List.{List, [], ◌∷◌, ◌++◌, append_assoc}
use mathlib.Core.Bool.{true}
use Prim.Native.Nat.{ℕ, zero, suc, ◌+◌, ◌-◌, ◌*◌, ◌≤◌}
use native.Mathlib.Omega.{arith}
use lib.ListN.{length, set, replicate, length-append, length-replicate}
use lib.Seq.{sets}
use borrow.Author.Tests.{eqb-true}
use Rattle.runs.proofs.ListLaws.{padded_append, concat_one}
use Rattle.runs.proofs.Tests.{and_true as both}
use Rattle.runs.specs.Lists.{every, padded, concat_map}
use Rattle.cfg.proofs.Lengths.{code_length, block_length}
use Rattle.cfg.specs.Layout.{max_instructions, instruction_words, code_words, code_offset, ending_offset, block_words, all_block_words, graph_words, block_offset}
use Rattle.cfg.specs.Graph.{no_instruction}
use Rattle.cfg.specs.Table.{instruction_words_of, ending_words_of, block_words_of, graph_table_of}
use Rattle.cfg.specs.declared.Instruction.{Instruction}
use Rattle.cfg.specs.declared.Ending.{Ending}
use Rattle.cfg.specs.declared.Block.{Block}
use Rattle.cfg_text.specs.Walk.{start, between, inside, block_with}
use Rattle.cfg_text.specs.ReadSteps.{words_so_far, filled, sized, ended_at}
use Rattle.cfg_text.proofs.Padding.{padded_more, set_at, sets_next}

-- ---- how many words

pub blocks_length : (bs : List Block) → every sized bs ≡ true → length (concat_map block_words_of bs) ≡ block_words * length bs
unfolding concat_map
blocks_length [] h = refl
blocks_length (k ∷ bs) h =
    let b = both (sized k) (every sized bs) h in
    let m = block_length k (eqb-true (length k.instructions) max_instructions b.0) in
    let r = blocks_length bs b.1 in
    simp length-append (omega arith)

-- ---- the instructions of a block, padded

times4 : ℕ → ℕ
times4 zero = zero
times4 (suc n) = suc (suc (suc (suc (times4 n))))

code_padded : (n : ℕ) (is : List Instruction) → padded (times4 n) 0 (concat_map instruction_words_of is) ≡ concat_map instruction_words_of (padded n no_instruction is)
unfolding times4 concat_map
code_padded zero is = refl
code_padded (suc n) [] = ap (λ (l : List ℕ). 0 ∷ 0 ∷ 0 ∷ 0 ∷ l) (code_padded n [])
code_padded (suc n) (i ∷ is) = ap (λ (l : List ℕ). i.code ∷ i.d ∷ i.a ∷ i.b ∷ l) (code_padded n is)

pub code_eight :
    (is : List Instruction) → length is ≤ max_instructions
    → concat_map instruction_words_of (padded max_instructions no_instruction is) ≡ concat_map instruction_words_of is ++ replicate (code_words - instruction_words * length is) 0
unfolding times4
code_eight is h =
    let n = code_length is in
    sym (code_padded max_instructions is) ∙ padded_append code_words 0 (concat_map instruction_words_of is) (omega arith) ∙ rw n

-- ---- what each line stores

module _ (b r : ℕ) (bs : List Block) (whole : every sized bs ≡ true) where
  behind_blocks : length (words_so_far (between b r bs)) ≡ block_offset (length bs)
  unfolding words_so_far
  behind_blocks =
      let h = blocks_length bs whole in
      omega arith

  behind_code : (is : List Instruction) → length (words_so_far (inside b r bs is)) ≡ block_offset (length bs) + code_offset + instruction_words * length is
  unfolding words_so_far
  behind_code is =
      let h = blocks_length bs whole in
      let c = code_length is in
      simp length-append (omega arith)

  pub opened_words : filled (between b r bs) ≡ filled (inside b r bs [])
  unfolding filled words_so_far concat_map
  opened_words = sym (padded_more 0 graph_words 1 (b ∷ r ∷ concat_map block_words_of bs))

  joined_written : (is : List Instruction) (i : Instruction) → words_so_far (inside b r bs is) ++ instruction_words_of i ≡ words_so_far (inside b r bs (is ++ (i ∷ [])))
  unfolding words_so_far
  joined_written is i =
      ap (λ (l : List ℕ). b ∷ r ∷ l) (append_assoc (concat_map block_words_of bs) (0 ∷ concat_map instruction_words_of is) (instruction_words_of i))
      ∙ ap (λ (l : List ℕ). b ∷ r ∷ (concat_map block_words_of bs ++ (0 ∷ l))) (sym (concat_one instruction_words_of is i))

  pub joined_words : (is : List Instruction) (i : Instruction)
      → sets (filled (inside b r bs is)) (block_offset (length bs) + code_offset + instruction_words * length is) (instruction_words_of i) ≡ filled (inside b r bs (is ++ (i ∷ [])))
  unfolding filled
  joined_words is i =
      ap (λ (n : ℕ). sets (filled (inside b r bs is)) n (instruction_words_of i)) (sym (behind_code is))
      ∙ sets_next 0 graph_words (words_so_far (inside b r bs is)) (instruction_words_of i)
      ∙ ap (padded graph_words 0) (joined_written is i)

  -- the count, and the instructions filled up with zeros
  counted : List Instruction → List ℕ
  counted is = b ∷ r ∷ (concat_map block_words_of bs ++ (length is ∷ (concat_map instruction_words_of is ++ replicate (code_words - instruction_words * length is) 0)))

  counted_length : (is : List Instruction) → length is ≤ max_instructions → length (counted is) ≡ block_offset (length bs) + ending_offset
  unfolding counted
  counted_length is few =
      let h = blocks_length bs whole in
      let c = code_length is in
      simp (length-append, length-replicate) (omega arith)

  counted_words : (is : List Instruction) → set (filled (inside b r bs is)) (block_offset (length bs)) (length is) ≡ padded graph_words 0 (counted is)
  unfolding filled words_so_far counted
  counted_words is =
      let x = b ∷ r ∷ concat_map block_words_of bs in
      let c = concat_map instruction_words_of is in
      let z : List ℕ = replicate (code_words - instruction_words * length is) 0 in
      ap (λ (n : ℕ). set (filled (inside b r bs is)) n (length is)) (sym behind_blocks)
      ∙ set_at 0 graph_words x 0 c (length is)
      ∙ sym (padded_more 0 graph_words (code_words - instruction_words * length is) (x ++ (length is ∷ c)))
      ∙ ap (padded graph_words 0) (append_assoc x (length is ∷ c) z)

  closed_written : (is : List Instruction) (e : Ending) → length is ≤ max_instructions
      → (counted is ++ ending_words_of e) ++ (0 ∷ []) ≡ words_so_far (between b r (bs ++ (block_with is e ∷ [])))
  unfolding words_so_far counted block_words_of
  closed_written is e few =
      let w = concat_map block_words_of bs in
      let c = concat_map instruction_words_of is ++ replicate (code_words - instruction_words * length is) 0 in
      append_assoc (counted is) (ending_words_of e) (0 ∷ [])
      ∙ ap (λ (l : List ℕ). b ∷ r ∷ l) (append_assoc w (length is ∷ c) (ending_words_of e ++ (0 ∷ [])))
      ∙ ap (λ (l : List ℕ). b ∷ r ∷ (w ++ (length is ∷ (l ++ (ending_words_of e ++ (0 ∷ [])))))) (sym (code_eight is few))
      ∙ ap (λ (l : List ℕ). b ∷ r ∷ l) (sym (concat_one block_words_of bs (block_with is e)))

  pub closed_words : (is : List Instruction) (e : Ending) → length is ≤ max_instructions
      → ended_at (filled (inside b r bs is)) (length bs) (length is) (ending_words_of e) ≡ filled (between b r (bs ++ (block_with is e ∷ [])))
  unfolding filled
  closed_words is e few =
      ap (λ (l : List ℕ). sets l (block_offset (length bs) + ending_offset) (ending_words_of e)) (counted_words is)
      ∙ ap (λ (n : ℕ). sets (padded graph_words 0 (counted is)) n (ending_words_of e)) (sym (counted_length is few))
      ∙ sets_next 0 graph_words (counted is) (ending_words_of e)
      ∙ sym (padded_more 0 graph_words 1 (counted is ++ ending_words_of e))
      ∙ ap (padded graph_words 0) (closed_written is e few)

  pub table_words : length bs ≡ b → filled (between b r bs) ≡ graph_table_of (record { registers = r; blocks = bs })
  unfolding filled words_so_far graph_table_of
  table_words e = ap (λ (n : ℕ). n ∷ r ∷ padded all_block_words 0 (concat_map block_words_of bs)) (sym e)

pub graph_words_lem : (b r : ℕ) → set (set (filled start) 0 b) 1 r ≡ filled (between b r [])
unfolding filled words_so_far concat_map
graph_words_lem b r = sets_next 0 graph_words [] (b ∷ r ∷ [])
