-- The arrivals that synthesis lists state by state are those of the machine's blocks. Assumes nothing.
use Prim.Native.Nat.{ℕ, ◌+◌, ◌≤◌, ◌<◌}
use native.Mathlib.Omega.{arith}
use native.Mathlib.Decide.{dec_lt}
use mathlib.Core.Bool.{Bool, true}
use mathlib.Core.Logic.{◌⊎◌, inl, inr, ◌≢◌}
use mathlib.Core.Path.{◌≡◌, refl, sym, ap, ◌∙◌}
use mathlib.Core.List.{List, [], ◌∷◌}
use lib.Dec.{ltb}
use lib.ListN.{length, get_or, set, replicate, length-set, length-map, get_or-replicate}
use lib.Seq.{get_or-set_same, get_or-set_other, ext_get_or}
use borrow.Author.Tests.{lt-ltb, le-ltb}
use Rattle.word.specs.Word.{choose}
use Rattle.runs.specs.Lists.{up_from, mem, padded}
use Rattle.runs.proofs.ListLaws.{length-up_from, length_padded, get_or-padded, get_or-map-up_from}
use Rattle.runs.proofs.Tests.{Compared, same, other, compared}
use Rattle.runs.proofs.Sets.{In, Distinct, Found, there, missing, found}
use Rattle.cfg.specs.Table.{block_at, graph_of, admitted_graph}
use Rattle.cfg.proofs.Admitted.{registers_are}
use Rattle.fsmd.specs.Layout.{max_blocks, absent}
use Rattle.grouping.specs.Grouping.{Groups}
use Rattle.grouping.proofs.Reach.{Closed, admitted_closed}
use Rattle.grouping.proofs.GroupingLaws.{Grouped}
use Rattle.placement.specs.Placement.{order}
use Rattle.placement.proofs.PlacementLaws.{placed}
use Rattle.state.specs.Wires.{StateBuild, nothing, enter, put, arrival_in, arrival_made}
use Rattle.state.specs.Making.{put_block}
use Rattle.state.specs.BlocksMaking.{with_arrivals}
use Rattle.synthesis.specs.Synthesis.{machine_for}
use Rattle.synthesis.specs.StateWords.{first_arrivals}
use Rattle.synthesis.proofs.Arrivals.{arrival_of, arrival_first, arrival_later, made_arrival, made_none}
use Rattle.synthesis.proofs.SynthesisedMachine.{arrival_at_lem}
use Rattle.synthesis.proofs.StateBlocks.{put_alike, block_low}

-- ---- the arrivals of one state

listed_length : (r : ℕ) (t starters xs : List ℕ) (b : StateBuild) (l : List ℕ) → length (with_arrivals r t starters xs b l) ≡ length l
unfolding with_arrivals
listed_length r t starters [] b l = refl
listed_length r t starters (x ∷ xs) b l =
    let e = (enter r (mem x starters) x b).arrival in
    listed_length r t starters xs (put_block r (mem x starters) (block_at t x) x b) (set l x e) ∙ length-set l x e

listed_other : (r : ℕ) (t starters xs : List ℕ) (b : StateBuild) (l : List ℕ) (x : ℕ) → (In x xs → ⊥) → get_or (with_arrivals r t starters xs b l) x 0 ≡ get_or l x 0
unfolding with_arrivals
listed_other r t starters [] b l x f = refl
listed_other r t starters (y ∷ ys) b l x f =
    let e = (enter r (mem y starters) y b).arrival in
    listed_other r t starters ys (put_block r (mem y starters) (block_at t y) y b) (set l y e) x (λ i. f (inr i)) ∙ get_or-set_other l y x e 0 (λ q. f (inl q))

module _ (t : List ℕ) (s : Groups) where
  abbrev Listed : List ℕ → StateBuild → List ℕ → List ℕ
  Listed xs b l = with_arrivals (get_or t 1 0) t s.starters xs b l

  listed_next : (x : ℕ) (xs : List ℕ) (b : StateBuild) (l : List ℕ) → x < get_or t 0 0 → Listed (x ∷ xs) b l ≡ Listed xs (put (graph_of t) s x b) (set l x (arrival_of (graph_of t) s x b))
  unfolding with_arrivals
  listed_next x xs b l h =
      ap (λ (c : StateBuild). Listed xs c (set l x (enter (get_or t 1 0) (mem x s.starters) x b).arrival)) (put_alike t s x h b)
      ∙ ap (λ (r : ℕ). Listed xs (put (graph_of t) s x b) (set l x (enter r (mem x s.starters) x b).arrival)) (sym (registers_are t))

  listed_own : (xs : List ℕ) (b : StateBuild) (l : List ℕ) → ((x : ℕ) → In x xs → x < get_or t 0 0) → Distinct xs → (x : ℕ) → In x xs → x < length l
      → get_or (Listed xs b l) x 0 ≡ arrival_in (graph_of t) s x xs b
  listed_own [] b l low d x i h = absurd i
  listed_own (y ∷ ys) b l low d x i h =
      ap (λ (m : List ℕ). get_or m x 0) (listed_next y ys b l (low y (inl refl)))
      ∙ go (compared x y) i (listed_own ys after more (λ z j. low z (inr j)) d.1 x)
    where
      after : StateBuild
      after = put (graph_of t) s y b

      more : List ℕ
      more = set l y (arrival_of (graph_of t) s y b)

      go : Compared x y → (x ≡ y) ⊎ In x ys → (In x ys → x < length more → get_or (Listed ys after more) x 0 ≡ arrival_in (graph_of t) s x ys after)
          → get_or (Listed ys after more) x 0 ≡ arrival_in (graph_of t) s x (y ∷ ys) b
      go (same _ e) j later =
          listed_other (get_or t 1 0) t s.starters ys after more x (λ k. d.0 (rw e at k))
          ∙ ap (λ (z : ℕ). get_or more z 0) e
          ∙ get_or-set_same l y (arrival_of (graph_of t) s y b) 0 (rw e at h)
          ∙ sym (arrival_first (graph_of t) s x y ys b e)
      go (other _ f) (inl e) later = absurd (f e)
      go (other _ f) (inr j) later = later j (rw length-set h) ∙ sym (arrival_later (graph_of t) s x y ys b f)

-- ---- those of the first states

abbrev state_for : Groups → ℕ → ℕ
state_for s x = get_or s.states x absent

pub arrivals_length : (t : List ℕ) (s : Groups) (k : ℕ) → length (first_arrivals t s k) ≡ max_blocks
unfolding first_arrivals
arrivals_length t s k = length-map (up_from 0 max_blocks) (λ (x : ℕ). choose (ltb (state_for s x) k) (arrival_made (graph_of t) s x) 0) ∙ length-up_from 0 max_blocks

first_at : (t : List ℕ) (s : Groups) (k x : ℕ) → x < max_blocks → get_or (first_arrivals t s k) x 0 ≡ choose (ltb (state_for s x) k) (arrival_made (graph_of t) s x) 0
unfolding first_arrivals
first_at t s k x h = get_or-map-up_from (λ (y : ℕ). choose (ltb (state_for s y) k) (arrival_made (graph_of t) s y) 0) max_blocks x 0 h

-- before the first state
pub none_listed : (t : List ℕ) (s : Groups) → first_arrivals t s 0 ≡ replicate max_blocks 0
none_listed t s =
    ext_get_or 0 (first_arrivals t s 0) (replicate max_blocks 0) (arrivals_length t s 0)
    (λ x h.
    let low : x < max_blocks = let l = arrivals_length t s 0 in omega arith in
    first_at t s 0 x low ∙ ap (λ (c : Bool). choose c (arrival_made (graph_of t) s x) 0) (le-ltb (state_for s x) 0 (omega arith)) ∙ sym (get_or-replicate max_blocks x 0 0 low))

-- of any finished grouping
module _ (t : List ℕ) (a : admitted_graph t ≡ true) (s : Groups) (G : Grouped (graph_of t) s) where
  closed : Closed (graph_of t)
  closed = admitted_closed t a

  few_states_lem : length s.starters ≤ max_blocks
  few_states_lem = let b = closed.few_blocks_lem in let e = G.few_states_lem in omega arith

  module _ (k : ℕ) (below : k < length s.starters) where
    known : k ≢ absent
    known e = let l = few_states_lem in absurd (omega arith)

    state_listed : Listed t s (order (graph_of t) s k) nothing (first_arrivals t s k) ≡ first_arrivals t s (k + 1)
    state_listed =
        ext_get_or 0 (Listed t s xs nothing (first_arrivals t s k)) (first_arrivals t s (k + 1)) (whole ∙ sym (arrivals_length t s (k + 1)))
        (λ x h. let low : x < max_blocks = let w = whole in omega arith in go x low (found x xs) ∙ sym (first_at t s (k + 1) x low))
      where
        xs : List ℕ
        xs = order (graph_of t) s k

        whole : length (Listed t s xs nothing (first_arrivals t s k)) ≡ max_blocks
        whole = listed_length (get_or t 1 0) t s.starters xs nothing (first_arrivals t s k) ∙ arrivals_length t s k

        go : (x : ℕ) → x < max_blocks → Found x xs → get_or (Listed t s xs nothing (first_arrivals t s k)) x 0 ≡ choose (ltb (state_for s x) (k + 1)) (arrival_made (graph_of t) s x) 0
        go x low (there _ i) =
            let e = (placed (graph_of t) closed s G k below).mine x i in
            listed_own t s xs nothing (first_arrivals t s k) (block_low t a s G k below) (placed (graph_of t) closed s G k below).distinct x i (let l = arrivals_length t s k in omega arith)
            ∙ sym (made_arrival (graph_of t) s k x e known)
            ∙ ap (λ (c : Bool). choose c (arrival_made (graph_of t) s x) 0) (sym (lt-ltb (state_for s x) (k + 1) (omega arith)))
        go x low (missing _ f) =
            listed_other (get_or t 1 0) t s.starters xs nothing (first_arrivals t s k) x f
            ∙ first_at t s k x low
            ∙ ap (λ (c : Bool). choose c (arrival_made (graph_of t) s x) 0) (same_side (state_for s x) (λ e. f ((placed (graph_of t) closed s G k below).all x e)) (dec_lt (state_for s x) k))
          where
            same_side : (n : ℕ) → n ≢ k → Dec (n < k) → ltb n k ≡ ltb n (k + 1)
            same_side n d (yes l) = lt-ltb n k l ∙ sym (lt-ltb n (k + 1) (omega arith))
            same_side n d (no l) = le-ltb n k (omega arith) ∙ sym (le-ltb n (k + 1) (omega (arith, d)))

    -- a state more, of what the code has in hand
    pub arrivals_more : (r : ℕ) (starters xs old : List ℕ) → r ≡ get_or t 1 0 → starters ≡ s.starters → xs ≡ order (graph_of t) s k → old ≡ first_arrivals t s k
        → with_arrivals r t starters xs nothing old ≡ first_arrivals t s (k + 1)
    arrivals_more r starters xs old e f g h = rw (e, f, g, h) state_listed

  -- all states
  pub all_listed : first_arrivals t s (length s.starters) ≡ padded max_blocks 0 (machine_for (graph_of t) s).arrivals
  all_listed =
      let n = length s.starters in
      let m = (machine_for (graph_of t) s).arrivals in
      ext_get_or 0 (first_arrivals t s n) (padded max_blocks 0 m) (arrivals_length t s n ∙ sym (length_padded max_blocks 0 m))
      (λ x h.
      let low : x < max_blocks = let l = arrivals_length t s n in omega arith in
      first_at t s n x low ∙ go x (dec_lt (state_for s x) n) ∙ sym (get_or-padded max_blocks 0 m x low ∙ arrival_at_lem (graph_of t) s x))
    where
      go : (x : ℕ) → Dec (state_for s x < length s.starters) → choose (ltb (state_for s x) (length s.starters)) (arrival_made (graph_of t) s x) 0 ≡ arrival_made (graph_of t) s x
      go x (yes l) = rw (lt-ltb (state_for s x) (length s.starters) l) refl
      go x (no l) =
          rw (le-ltb (state_for s x) (length s.starters) (omega arith))
          (sym (made_none (graph_of t) s x (G.unreached_none x (λ r. let b = G.reached_state x r in absurd (omega arith)))))
