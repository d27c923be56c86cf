-- The registers at the front of a room: put there four at a time, and kept by a cycle's wires. Assumes nothing.
use Prim.Native.Nat.{ℕ, ◌+◌, ◌-◌, ◌<◌, ◌≤◌}
use native.Mathlib.Omega.{arith}
use mathlib.Core.List.{List, [], ◌∷◌, ◌++◌, map, append_assoc}
use mathlib.Core.Path.{◌≡◌, refl, sym, ap, ◌∙◌}
use lib.ListN.{length, get_or, take, drop, set, take-append-drop, length-append, length-map}
use lib.Seq.{length-take-le, take-take, take_all, take-append-le, drop-append-le, drop-drop, drop_at}
use Rattle.runs.proofs.ListLaws.{copied_more}
use Rattle.fsmd.specs.Layout.{max_registers}
use Rattle.fsmd.specs.Machine.{wire_value, worked}
use Rattle.fsmd.specs.declared.Wire.{Wire}
use Rattle.fsmd.proofs.Windows.{window_length}

-- ---- the first i of the words s put over the front of d

module _ (d s : List ℕ) where
  more : (j k : ℕ) → k ≡ j + 1 → j < length d → j < length s → set (take j s ++ drop j d) j (get_or s j 0) ≡ take k s ++ drop k d
  more j k e h l = copied_more d s j h l ∙ ap (λ (x : ℕ). take x s ++ drop x d) (sym e)

  pub four_more : (i : ℕ) → i + 3 < length d → i + 3 < length s
      → set (set (set (set (take i s ++ drop i d) i (get_or s i 0)) (i + 1) (get_or s (i + 1) 0)) (i + 2) (get_or s (i + 2) 0)) (i + 3) (get_or s (i + 3) 0) ≡ take (i + 4) s ++ drop (i + 4) d
  four_more i h k =
      let put : ℕ → List ℕ → List ℕ = λ j l. set l j (get_or s j 0) in
      ap (λ (l : List ℕ). put (i + 3) (put (i + 2) (put (i + 1) l))) (more i (i + 1) refl (omega arith) (omega arith))
      ∙ ap (λ (l : List ℕ). put (i + 3) (put (i + 2) l)) (more (i + 1) (i + 2) (omega arith) (omega arith) (omega arith))
      ∙ ap (put (i + 3)) (more (i + 2) (i + 3) (omega arith) (omega arith) (omega arith))
      ∙ more (i + 3) (i + 4) (omega arith) h k

  -- the others are there already
  pub rest_there : (i count n : ℕ) → count ≤ i → i ≤ n → n ≤ length d → drop count (take n d) ≡ drop count s → take i s ++ drop i d ≡ s ++ drop n d
  rest_there i count n h k l e =
      let m = length-take-le n d l in
      let j : count + (i - count) ≡ i = omega arith in
      let same : drop i (take n d) ≡ drop i s
      = ap (λ (x : ℕ). drop x (take n d)) (sym j) ∙ sym (drop-drop (i - count) count (take n d)) ∙ ap (drop (i - count)) e ∙ drop-drop (i - count) count s ∙ ap (λ (x : ℕ). drop x s) j in
      ap (λ (x : List ℕ). take i s ++ x) (ap (drop i) (sym (take-append-drop n d)) ∙ drop-append-le i (take n d) (drop n d) (omega arith) ∙ ap (λ (x : List ℕ). x ++ drop n d) same)
      ∙ sym (append_assoc (take i s) (drop i s) (drop n d))
      ∙ ap (λ (x : List ℕ). x ++ drop n d) (take-append-drop i s)

-- ---- wires come after what they read

worked_front : (sampled n : ℕ) (env : List ℕ) (ws : List Wire) → n ≤ length env → take n (worked sampled env ws) ≡ take n env
unfolding worked
worked_front sampled n env [] h = refl
worked_front sampled n env (w ∷ ws) h =
    let x = wire_value sampled (λ r. get_or env r 0) w ∷ [] in
    let l = length-append env x in
    worked_front sampled n (env ++ x) ws (omega arith) ∙ take-append-le n env x h

-- after a cycle whose state has n wires: the registers from r up are as they were, in the room and among the next
pub others_stay : (sampled n r at : ℕ) (t rs last : List ℕ) (ws : List Wire) (f : ℕ → ℕ) → length rs ≡ max_registers → at + r ≤ length t
    → take (max_registers + n) last ≡ worked sampled rs ws → drop r (take max_registers last) ≡ drop r (map f (take r (drop at t)) ++ drop r rs)
others_stay sampled n r at t rs last ws f h k e =
    let taken = map f (take r (drop at t)) in
    let m = length-map (take r (drop at t)) f ∙ window_length t at r k in
    ap (drop r) (sym (take-take max_registers (max_registers + n) last (omega arith)) ∙ ap (take max_registers) e ∙ worked_front sampled max_registers rs ws (omega arith) ∙ take_all max_registers rs (omega arith))
    ∙ sym (drop_at taken (drop r rs) r m)
