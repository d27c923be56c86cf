-- Tables in which code 20 passes only where words are given, block by block. Assumes nothing.
use Prim.Native.Nat.{ℕ, ◌+◌, ◌-◌, ◌*◌, ◌≤◌, ◌<◌}
use mathlib.Core.Bool.{Bool, true, false, not, ◌&&◌, ◌||◌, and_assoc, and_comm}
use mathlib.Core.List.{List, [], ◌∷◌, map}
use mathlib.Core.Path.{◌≡◌, refl, sym, ap, ◌∙◌, fun_ext}
use lib.Dec.{eqb}
use lib.ListN.{length, get_or}
use Rattle.runs.specs.Lists.{up_from, every}
use Rattle.runs.proofs.ListLaws.{every_and, every_map, take-map-up_from}
use Rattle.cfg.specs.declared.Block.{Block}
use Rattle.cfg.specs.Layout.{max_blocks, max_registers, max_instructions, instruction_words, code_offset, ending_offset, last_offset, block_words, all_block_words, graph_words, block_offset}
use Rattle.cfg.specs.Graph.{instructions_of, valid_instruction, wordless_graph}
use Rattle.cfg.specs.Fits.{zeros, ending_fits, block_fits, passes, block_passes}
use Rattle.cfg.specs.Table.{instruction_at, block_at, graph_of, admitted_graph}
use Rattle.cfg.proofs.Blocks.{count_at}
use Rattle.cfg.proofs.Codes.{Good}
use Rattle.cfg.proofs.Words.{instructions_are, blocks_are, block_many, block_few, by_blocks}

-- the last of three tests before the second
swap : (a b c : Bool) → (a && b) && c ≡ (a && c) && b
swap a b c = and_assoc a b c ∙ ap (λ (x : Bool). a && x) (and_comm b c) ∙ sym (and_assoc a c b)

-- ---- a block

module _ (words : Bool) (b r : ℕ) (t : List ℕ) (n : ℕ) where
  pub many_passing : max_instructions < get_or t (block_offset n) 0 → block_passes words b r t n ≡ false
  many_passing h = rw (block_many b r t n h)

  pub few_passing : block_offset n + block_words ≤ length t → get_or t (block_offset n) 0 ≤ max_instructions
      → block_passes words b r t n
      ≡ every (λ i. Good r i words) (map (instruction_at t (block_offset n)) (up_from 0 (get_or t (block_offset n) 0)))
      && (zeros t (block_offset n + code_offset + instruction_words * get_or t (block_offset n) 0) (instruction_words * (max_instructions - get_or t (block_offset n) 0))
      && (ending_fits b r t (block_offset n + ending_offset) && eqb (get_or t (block_offset n + last_offset) 0) 0))
  few_passing l h =
      let o = block_offset n in
      let k = get_or t o 0 in
      let code = map (instruction_at t o) (up_from 0 k) in
      let rest =
      zeros t (o + code_offset + instruction_words * k) (instruction_words * (max_instructions - k))
      && (ending_fits b r t (o + ending_offset) && eqb (get_or t (o + last_offset) 0) 0) in
      rw (block_few b r t n l h, count_at t n, instructions_are t n, take-map-up_from (instruction_at t o) 0 max_instructions k h)
      (swap (every (valid_instruction r) code) rest (every (passes words) code)
      ∙ ap (λ (x : Bool). x && rest) (every_and (valid_instruction r) (passes words) code))

-- ---- the whole table

all_pass : {A : Type 0} (l : List A) → every (λ x. true) l ≡ true
all_pass [] = refl
all_pass (x ∷ l) = all_pass l

passing_is : (words : Bool) (t : List ℕ) → (words || wordless_graph (graph_of t)) ≡ every (λ n. every (passes words) (instructions_of (block_at t n))) (up_from 0 (get_or t 0 0))
unfolding wordless_graph
passing_is true t =
    sym (ap (λ (f : ℕ → Bool). every f (up_from 0 (get_or t 0 0))) (fun_ext (λ n. all_pass (instructions_of (block_at t n)))) ∙ all_pass (up_from 0 (get_or t 0 0)))
passing_is false t =
    ap (λ (l : List Block). every (λ k. every (λ i. not (eqb i.code 20)) (instructions_of k)) l) (blocks_are t)
    ∙ every_map (block_at t) (λ k. every (λ i. not (eqb i.code 20)) (instructions_of k)) (up_from 0 (get_or t 0 0))

module _ (words : Bool) (t : List ℕ) where
  -- admitted, and passing
  abbrev pub Passing : Bool
  Passing = admitted_graph t && (words || wordless_graph (graph_of t))

  pub passing_blocks : graph_words ≤ length t → 1 ≤ get_or t 0 0 → get_or t 0 0 ≤ max_blocks → 1 ≤ get_or t 1 0 → get_or t 1 0 ≤ max_registers
      → Passing
      ≡ every (block_passes words (get_or t 0 0) (get_or t 1 0) t) (up_from 0 (get_or t 0 0))
      && zeros t (block_offset (get_or t 0 0)) (all_block_words - block_words * get_or t 0 0)
  passing_blocks l a b c d =
      let n = get_or t 0 0 in
      let fit = every (block_fits n (get_or t 1 0) t) (up_from 0 n) in
      let clear = zeros t (block_offset n) (all_block_words - block_words * n) in
      let pass = every (λ k. every (passes words) (instructions_of (block_at t k))) (up_from 0 n) in
      rw (by_blocks t l a b c d, passing_is words t)
      (swap fit clear pass
      ∙ ap (λ (x : Bool). x && clear) (every_and (block_fits n (get_or t 1 0) t) (λ k. every (passes words) (instructions_of (block_at t k))) (up_from 0 n)))
