-- Running a graph keeps the words of the registers from R up, whatever the table, the buffer, the start and the budget. Assumes nothing.
use Prim.Native.Nat.{ℕ, ◌<◌}
use native.Mathlib.Omega.{arith}
use mathlib.Core.Bool.{Bool, true, false}
use mathlib.Core.List.{List, [], ◌∷◌}
use mathlib.Core.Path.{◌≡◌, refl, ◌∙◌}
use lib.Dec.{ltb}
use lib.ListN.{get_or, drop, length-take, length-set}
use lib.Seq.{drop-set-lt, get_or-take}
use borrow.Author.Tests.{ltb-true, ltb-false, lt-ltb}
use Rattle.runs.specs.Lists.{every}
use Rattle.runs.specs.Runs.{Place, listed, unread}
use Rattle.runs.proofs.ListLaws.{and_left, and_right, every_all}
use Rattle.runs.proofs.KeptRegisters.{Kept, Ready, operation_keeps}
use Rattle.cfg.specs.declared.Instruction.{Instruction}
use Rattle.cfg.specs.declared.Block.{Block}
use Rattle.cfg.specs.Graph.{no_instruction, empty_block, block_of, instructions_of, value_of, execute, execute_all, run_block, graph_runner}
use Rattle.cfg.specs.Table.{block_at, graph_of}
use Rattle.cfg.specs.Run.{graph_refusal, graph_registers, graph_words_refusal, graph_words_registers}
use Rattle.cfg.proofs.Admitted.{ValidBlock, Admitted, admitted_facts, block_below, block_past}
use Rattle.cfg.proofs.Unrefused.{Unrefused, unrefused, words_unrefused}

-- an instruction that writes a register below r
abbrev low : ℕ → Instruction → Bool
low r i = ltb i.d r

module _ (r s : ℕ) where
  execute_keeps : (i : Instruction) (rs : List ℕ) → i.d < r → Kept r rs (execute s i rs)
  unfolding execute
  execute_keeps i rs h =
      let v = value_of s (λ x. get_or rs x 0) i.code i.a i.b in
      record { long = length-set rs i.d v; above = drop-set-lt r rs i.d v h }

  code_keeps : (is : List Instruction) (rs : List ℕ) → every (low r) is ≡ true → Kept r rs (execute_all s is rs)
  unfolding execute_all
  code_keeps [] rs h = record { long = refl; above = refl }
  code_keeps (i ∷ is) rs h =
      let k = execute_keeps i rs (ltb-true i.d r (and_left (low r i) (every (low r) is) h)) in
      let l = code_keeps is (execute s i rs) (and_right (low r i) (every (low r) is) h) in
      record { long = l.long ∙ k.long; above = l.above ∙ k.above }

  block_keeps : (k : Block) (rs : List ℕ) → every (low r) (instructions_of k) ≡ true → Kept r rs (run_block s k rs).registers
  unfolding run_block
  block_keeps k rs h = code_keeps (instructions_of k) rs h

-- the instructions of a valid block write registers below R
valid_low : (b r : ℕ) (k : Block) → ValidBlock b r k → every (low r) (instructions_of k) ≡ true
valid_low b r k v =
    every_all (low r) (instructions_of k) no_instruction (λ i h.
    let l = length-take k.count k.instructions in
    rw (get_or-take k.count k.instructions i no_instruction (omega arith))
    (lt-ltb (get_or k.instructions i no_instruction).d r (v.instruction i (omega arith) (omega arith)).written))

blocks_low : (t : List ℕ) → Admitted t → (n : ℕ) → every (low (get_or t 1 0)) (instructions_of (block_of (graph_of t) n)) ≡ true
unfolding empty_block
blocks_low t a n = go (ltb n (get_or t 0 0)) refl
  where
    go : (b : Bool) → ltb n (get_or t 0 0) ≡ b → every (low (get_or t 1 0)) (instructions_of (block_of (graph_of t) n)) ≡ true
    go true e =
        let l = ltb-true n (get_or t 0 0) e in
        rw (block_below t n l) (valid_low (get_or t 0 0) (get_or t 1 0) (block_at t n) (a.block n l))
    go false e = rw (block_past t n (ltb-false n (get_or t 0 0) e))

module _ (t rs : List ℕ) (start budget : ℕ) where
  ready : (starters : List ℕ) → Unrefused t rs → Ready (get_or t 1 0) (graph_runner (graph_of t) starters) (λ (p : Place). Unit {0}) rs start
  ready starters u =
      let a = admitted_facts t u.good in
      record {
        few = a.few_registers;
        long = u.long;
        starts = tt;
        unit = λ w x l f h. record { fits = tt; kept = block_keeps (get_or t 1 0) w (block_of (graph_of t) x) l (blocks_low t a x) };
      }

  pub graph_keeps : drop (get_or t 1 0) (graph_registers t rs start budget) ≡ drop (get_or t 1 0) rs
  graph_keeps =
      operation_keeps (get_or t 1 0) (graph_runner (graph_of t) []) unread (λ (p : Place). Unit {0}) (graph_refusal t rs start) rs start budget
      (λ h. ready [] (unrefused t rs start h))

  pub graph_words_keep : (words starters : List ℕ) → drop (get_or t 1 0) (graph_words_registers t rs start budget words starters) ≡ drop (get_or t 1 0) rs
  graph_words_keep words starters =
      operation_keeps (get_or t 1 0) (graph_runner (graph_of t) starters) (listed words) (λ (p : Place). Unit {0}) (graph_words_refusal t rs start starters) rs start budget
      (λ h. ready starters (words_unrefused t rs start starters h))
