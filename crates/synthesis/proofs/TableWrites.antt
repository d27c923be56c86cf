-- Words put into a machine table: the head, a record. Assumes nothing.
use Prim.Native.Nat.{ℕ, suc, ◌+◌, ◌-◌}
use native.Mathlib.Omega.{arith}
use mathlib.Core.Path.{◌≡◌, refl, sym, ◌∙◌, ap}
use mathlib.Core.List.{List, [], ◌∷◌, ◌++◌}
use lib.ListN.{length, replicate, set, length-append, length-replicate, replicate-append-replicate}
use lib.Seq.{sets}
use Rattle.buffers.proofs.Copies.{sets_append, sets_over}
use Rattle.fsmd.specs.Layout.{max_states, max_blocks, max_registers, starters_offset, block_states_offset, touch_offset, arrivals_offset}
use Rattle.synthesis.specs.StateWords.{with_states}
use Rattle.synthesis.proofs.TableWords.{no_states}

-- ---- the head

pub head_written : (n c r : ℕ) (x y : List ℕ) → n ≡ arrivals_offset → length x ≡ max_states → length y ≡ max_blocks
    → sets (sets (set (set (replicate n 0) 0 c) 1 r) starters_offset x) block_states_offset y ≡ with_states (c ∷ r ∷ (x ++ y)) []
head_written n c r x y e g h =
    let head = c ∷ r ∷ (x ++ y) in
    let l = length-append x y in
    let k = n - length head in
    let m : n ≡ length head + k = omega arith in
    let f : block_states_offset ≡ 0 + length (c ∷ r ∷ x) = omega arith in
    ap (λ (i : ℕ). sets (sets (replicate n 0) 0 (c ∷ r ∷ x)) i y) f
    ∙ sets_append (replicate n 0) 0 (c ∷ r ∷ x) y
    ∙ ap (λ (z : List ℕ). sets z 0 head) (ap (λ (i : ℕ). replicate {A = ℕ} i 0) m ∙ sym (replicate-append-replicate {A = ℕ} (length head) k 0))
    ∙ sets_over [] (replicate (length head) 0) (replicate k 0) head 0 refl (length-replicate {A = ℕ} (length head) 0)
    ∙ no_states head k (omega arith)

-- ---- a record

pub record_written : (w s : List ℕ) (at a b c v : ℕ) → length s ≡ max_registers
    → set (sets (set (set (set w at a) (at + 1) b) (at + 2) c) (at + 3) s) (at + touch_offset) v ≡ sets w at (a ∷ b ∷ c ∷ (s ++ (v ∷ [])))
record_written w s at a b c v l =
    let one : at + 1 ≡ suc at = omega arith in
    let two : at + 2 ≡ suc (suc at) = omega arith in
    let three : at + 3 ≡ suc (suc (suc at)) = omega arith in
    let last : at + touch_offset ≡ at + length (a ∷ b ∷ c ∷ s) = omega arith in
    rw (one, two, three, last) (sets_append w at (a ∷ b ∷ c ∷ s) (v ∷ []))
