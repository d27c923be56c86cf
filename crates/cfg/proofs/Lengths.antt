-- How many words a graph table and its parts are. Assumes nothing.
use Prim.Native.Nat.{ℕ, suc, ◌*◌}
use native.Mathlib.Omega.{arith}
use mathlib.Core.Path.{◌≡◌, refl, ap}
use mathlib.Core.List.{List, [], ◌∷◌}
use lib.ListN.{length, length-append}
use Rattle.runs.specs.Lists.{concat_map}
use Rattle.runs.proofs.ListLaws.{length_padded}
use Rattle.cfg.specs.declared.Instruction.{Instruction}
use Rattle.cfg.specs.declared.Ending.{Ending}
use Rattle.cfg.specs.declared.Ending.TheVariants.{Goto, Ite, Halt}
use Rattle.cfg.specs.declared.Block.{Block}
use Rattle.cfg.specs.Layout.{max_instructions, instruction_words, ending_words, block_words, all_block_words, graph_words}
use Rattle.cfg.specs.Graph.{CFG}
use Rattle.cfg.specs.Table.{instruction_words_of, ending_words_of, block_words_of, graph_table_of}

pub code_length : (is : List Instruction) → length (concat_map instruction_words_of is) ≡ instruction_words * length is
unfolding concat_map
code_length [] = refl
code_length (i ∷ is) = let h = code_length is in omega arith

pub ending_length : (e : Ending) → length (ending_words_of e) ≡ ending_words
ending_length (Goto t) = refl
ending_length (Ite c t f) = refl
ending_length Halt = refl

pub block_length : (k : Block) → length k.instructions ≡ max_instructions → length (block_words_of k) ≡ block_words
unfolding block_words_of
block_length k h =
    let c = code_length k.instructions in
    let e = ending_length k.ending in
    simp length-append (omega arith)

pub table_length : (g : CFG) → length (graph_table_of g) ≡ graph_words
unfolding graph_table_of
table_length g = ap (λ (n : ℕ). suc (suc n)) (length_padded {A = ℕ} all_block_words 0 (concat_map block_words_of g.blocks))
