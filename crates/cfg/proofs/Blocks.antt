-- What a table's words stand for: endings, blocks. Assumes nothing.
use Prim.Native.Nat.{ℕ, ◌+◌, ◌<◌}
use native.Mathlib.Omega.{arith}
use mathlib.Core.Path.{◌≡◌, refl, sym, ◌∙◌}
use mathlib.Core.List.{List, map}
use lib.ListN.{length, get_or}
use lib.Seq.{ext_get_or}
use borrow.Author.Tests.{eq-eqb, ne_eqb}
use Rattle.word.specs.Word.{comparison_at}
use Rattle.runs.specs.Lists.{up_from}
use Rattle.runs.proofs.ListLaws.{get_or-map-up_from}
use Rattle.cfg.specs.declared.Instruction.{Instruction}
use Rattle.cfg.specs.declared.Ending.TheVariants.{Goto, Ite, Halt}
use Rattle.cfg.specs.Layout.{max_instructions, ending_offset, block_offset}
use Rattle.cfg.specs.Graph.{no_instruction}
use Rattle.cfg.specs.Table.{ending_at, block_at}

-- ---- endings by their kind

module _ (t : List ℕ) (o : ℕ) where
  pub ending_goto : get_or t o 0 ≡ 1 → ending_at t o ≡ Goto (get_or t (o + 4) 0)
  unfolding ending_at
  ending_goto h = rw (eq-eqb (get_or t o 0) 1 h)

  pub ending_ite : get_or t o 0 ≡ 2 → ending_at t o
      ≡ Ite (record { comparison = comparison_at (get_or t (o + 1) 0); a = get_or t (o + 2) 0; b = get_or t (o + 3) 0 })
      (get_or t (o + 4) 0)
      (get_or t (o + 5) 0)
  unfolding ending_at
  ending_ite h = rw (ne_eqb (get_or t o 0) 1 (λ e. omega arith), eq-eqb (get_or t o 0) 2 h)

  pub ending_halt : (get_or t o 0 ≡ 1 → ⊥) → (get_or t o 0 ≡ 2 → ⊥) → ending_at t o ≡ Halt
  unfolding ending_at
  ending_halt h k = rw (ne_eqb (get_or t o 0) 1 h, ne_eqb (get_or t o 0) 2 k)

-- ---- the parts of a decoded block

module _ (t : List ℕ) (n : ℕ) where
  pub count_at : (block_at t n).count ≡ get_or t (block_offset n) 0
  unfolding block_at
  count_at = refl

  pub ending_of : (block_at t n).ending ≡ ending_at t (block_offset n + ending_offset)
  unfolding block_at
  ending_of = refl

  pub instructions_length : length (block_at t n).instructions ≡ max_instructions
  unfolding block_at
  instructions_length = refl

-- ---- eight instructions, each decoded

pub all_decoded : (f : ℕ → Instruction) (l : List Instruction) → length l ≡ max_instructions
    → ((j : ℕ) → j < max_instructions → get_or l j no_instruction ≡ f j) → l ≡ map f (up_from 0 max_instructions)
all_decoded f l h k =
    ext_get_or no_instruction l (map f (up_from 0 max_instructions)) h
    (λ i b. k i (omega arith) ∙ sym (get_or-map-up_from f max_instructions i no_instruction (omega arith)))
