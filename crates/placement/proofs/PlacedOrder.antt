-- The placement code's meaning is the order of a state's blocks. Assumes nothing.
use Prim.Native.Nat.{ℕ, zero, suc, ◌+◌, ◌-◌, ◌≤◌, ◌<◌}
use native.Mathlib.Omega.{arith}
use mathlib.Core.Bool.{Bool, not, ◌&&◌, ◌||◌, false}
use mathlib.Core.Path.{◌≡◌, refl, ◌∙◌, ap, fun_ext}
use mathlib.Core.List.{List, [], ◌∷◌}
use lib.ListN.{length, get_or, get_or-eq_default}
use borrow.Author.Tests.{ne_eqb}
use Rattle.runs.specs.Lists.{up_from, mem, only, keep, every, first}
use Rattle.runs.proofs.ListLaws.{length-up_from, length_only}
use Rattle.cfg.specs.Graph.{CFG, successors}
use Rattle.fsmd.specs.Layout.{max_blocks, absent}
use Rattle.grouping.specs.Grouping.{Groups}
use Rattle.grouping.specs.Bytes.{edges_in}
use Rattle.grouping.proofs.Reach.{Closed}
use Rattle.grouping.proofs.GroupingLaws.{Grouped}
use Rattle.placement.specs.Placement.{members, ready, place_next, placed_from, order}
use Rattle.placement.specs.PlacementBytes.{marked, of_state, members_in, next_in, placed_in}
use Rattle.placement.proofs.PlacementLaws.{order_rounds}

-- the same blocks are placed where the bytes say what the graph and its grouping say
place_alike : (g : CFG) (s : Groups) (edges : List (List ℕ)) (starts : List Bool) (blocks : List ℕ) → ((n : ℕ) → edges_in edges n ≡ successors g n)
    → ((x : ℕ) → marked starts x ≡ mem x s.starters) → (n : ℕ) (placed : List ℕ) → placed_in edges starts blocks n placed ≡ placed_from g s blocks n placed
unfolding placed_in placed_from
place_alike g s edges starts blocks e m zero placed = refl
place_alike g s edges starts blocks e m (suc n) placed =
    ap (λ (f : ℕ → List ℕ). place_next (first (next_in edges starts blocks (λ x. mem x placed)) blocks) f) (fun_ext (λ x. place_alike g s edges starts blocks e m n (x ∷ placed)))
    ∙ ap (λ (p : ℕ → Bool). place_next (first p blocks) (λ x. placed_from g s blocks n (x ∷ placed))) (fun_ext due)
  where
    passing : (x u : ℕ) → (not (mem x (edges_in edges u)) || mem u placed) ≡ (not (mem x (successors g u)) || mem u placed)
    passing x u = ap (λ (l : List ℕ). not (mem x l) || mem u placed) (e u)

    due : (x : ℕ) → next_in edges starts blocks (λ x. mem x placed) x ≡ (not (mem x placed) && ready g s blocks placed x)
    due x =
        ap (λ (b : Bool). not (mem x placed) && (b || every (λ u. not (mem x (edges_in edges u)) || mem u placed) blocks)) (m x)
        ∙ ap (λ (p : ℕ → Bool). not (mem x placed) && (mem x s.starters || every p blocks)) (fun_ext (passing x))

-- more numbers, none of which passes
pub only_more : (p : ℕ → Bool) (k n m : ℕ) → ((x : ℕ) → k + n ≤ x → p x ≡ false) → only p (up_from k (n + m)) ≡ only p (up_from k n)
only_more p k zero zero f = refl
only_more p k zero (suc m) f =
    let e : zero + suc m ≡ suc (zero + m) = omega arith in
    rw (e, f k (omega arith)) (only_more p (suc k) zero m (λ x h. f x (omega arith)))
only_more p k (suc n) m f =
    let e : suc n + m ≡ suc (n + m) = omega arith in
    rw e (ap (keep (p k) k) (only_more p (suc k) n m (λ x h. f x (omega arith))))

module _ (g : CFG) (a : Closed g) (s : Groups) (G : Grouped g s) (k : ℕ) (k_in : k < length s.starters) where
  states_length : length s.states ≡ length g.blocks
  states_length = G.all_blocks

  k_low : k < max_blocks
  k_low = let n = G.few_states_lem in let b = a.few_blocks_lem in omega arith

  outside : (x : ℕ) → length g.blocks ≤ x → of_state s.states k x ≡ false
  outside x h =
      ne_eqb (get_or s.states x absent) k
      (λ (e : get_or s.states x absent ≡ k).
      let d : get_or s.states x absent ≡ absent = get_or-eq_default s.states absent {n = x} (omega (arith, states_length)) in
      omega (arith, k_low))

  pub members_alike : members_in s.states k ≡ members g s k
  unfolding members
  members_alike =
      let b = a.few_blocks_lem in
      let n : max_blocks ≡ length g.blocks + (max_blocks - length g.blocks) = omega arith in
      ap (λ (m : ℕ). only (of_state s.states k) (up_from 0 m)) n
      ∙ only_more (of_state s.states k) 0 (length g.blocks) (max_blocks - length g.blocks) (λ x h. outside x (omega arith))

  pub members_few : length (members g s k) ≤ max_blocks
  unfolding members
  members_few =
      let l = length_only (of_state s.states k) (up_from 0 (length g.blocks)) in
      let b = a.few_blocks_lem in
      omega (arith, length-up_from 0 (length g.blocks))

  pub placed_order : (edges : List (List ℕ)) (starts : List Bool) → ((n : ℕ) → edges_in edges n ≡ successors g n)
      → ((x : ℕ) → marked starts x ≡ mem x s.starters) → placed_in edges starts (members_in s.states k) max_blocks [] ≡ order g s k
  placed_order edges starts e m =
      ap (λ (l : List ℕ). placed_in edges starts l max_blocks []) members_alike
      ∙ place_alike g s edges starts (members g s k) e m max_blocks []
      ∙ order_rounds g a s G k k_in max_blocks members_few
