-- The references of the arrivals of a state's blocks: one for each block in order, and each one of the state's wires. Assumes nothing.
use Prim.Native.Nat.{ℕ, suc, ◌≤◌}
use native.Mathlib.Omega.{arith}
use mathlib.Core.Logic.{◌⊎◌, inl, inr, ◌≢◌}
use mathlib.Core.Path.{◌≡◌, refl, sym, ap, ap₂, ◌∙◌, subst}
use mathlib.Core.List.{List, [], ◌∷◌, map}
use lib.ListN.{length, get_or, length-append}
use borrow.Author.Tests.{eq-eqb, ne_eqb}
use Rattle.runs.specs.Lists.{mem}
use Rattle.runs.proofs.Tests.{Compared, same, other, compared}
use Rattle.runs.proofs.Sets.{In, Distinct}
use Rattle.cfg.specs.Graph.{CFG, block_of, instructions_of}
use Rattle.fsmd.specs.Layout.{absent}
use Rattle.grouping.specs.Grouping.{Groups}
use Rattle.placement.specs.Placement.{order}
use Rattle.state.specs.Wires.{StateBuild, enter, assigns, towards, leaves, after, put, build, nothing, arrival_in, state_made, arrival_made}
use Rattle.state.proofs.AssignLaws.{grow_assigns}
use Rattle.state.proofs.CloseLaws.{grow_close}
use Rattle.state.proofs.BlocksLaws.{grow_enter}
use Rattle.synthesis.proofs.GraphFacts.{GraphFits}
use Rattle.synthesis.proofs.AddedWires.{close_state_grown}
use Rattle.synthesis.proofs.WireValidity.{OfWire, wire_more}
use Rattle.synthesis.proofs.StateValidity.{BuildValid, enter_valid, put_valid, empty_valid}

-- the references of the arrivals of the blocks xs, placed one after another
unfoldable pub arrivals_in : CFG → Groups → List ℕ → StateBuild → List ℕ
unfolding enter put
arrivals_in g s [] b = []
arrivals_in g s (x ∷ xs) b = (enter g.registers (mem x s.starters) x b).arrival ∷ arrivals_in g s xs (put g s x b)

module _ (g : CFG) (s : Groups) where
  -- the reference of the arrival of block x, placed next
  abbrev pub arrival_of : ℕ → StateBuild → ℕ
  arrival_of x b = (enter g.registers (mem x s.starters) x b).arrival

  pub arrivals_nil : (b : StateBuild) → arrivals_in g s [] b ≡ []
  unfolding arrivals_in
  arrivals_nil b = refl

  pub arrivals_cons : (x : ℕ) (xs : List ℕ) (b : StateBuild) → arrivals_in g s (x ∷ xs) b ≡ arrival_of x b ∷ arrivals_in g s xs (put g s x b)
  unfolding arrivals_in
  arrivals_cons x xs b = refl

  pub arrivals_length : (xs : List ℕ) (b : StateBuild) → length (arrivals_in g s xs b) ≡ length xs
  arrivals_length [] b = ap length (arrivals_nil b)
  arrivals_length (x ∷ xs) b = ap length (arrivals_cons x xs b) ∙ ap suc (arrivals_length xs (put g s x b))

  -- ---- of each block by itself

  pub arrival_first : (x y : ℕ) (ys : List ℕ) (b : StateBuild) → x ≡ y → arrival_in g s x (y ∷ ys) b ≡ arrival_of y b
  unfolding arrival_in
  arrival_first x y ys b e = rw (eq-eqb y x (sym e))

  pub arrival_later : (x y : ℕ) (ys : List ℕ) (b : StateBuild) → (x ≡ y → ⊥) → arrival_in g s x (y ∷ ys) b ≡ arrival_in g s x ys (put g s y b)
  unfolding arrival_in
  arrival_later x y ys b d = rw (ne_eqb y x (λ e. d (sym e)))

  map_later : (y : ℕ) (ys : List ℕ) (b : StateBuild) (xs : List ℕ) → (In y xs → ⊥)
      → map (λ x. arrival_in g s x (y ∷ ys) b) xs ≡ map (λ x. arrival_in g s x ys (put g s y b)) xs
  map_later y ys b [] d = refl
  map_later y ys b (x ∷ xs) d =
      ap₂ (λ (r : ℕ) (l : List ℕ). r ∷ l) (arrival_later x y ys b (λ e. d (inl (sym e)))) (map_later y ys b xs (λ i. d (inr i)))

  pub arrivals_map : (xs : List ℕ) (b : StateBuild) → Distinct xs → arrivals_in g s xs b ≡ map (λ x. arrival_in g s x xs b) xs
  arrivals_map [] b d = arrivals_nil b
  arrivals_map (x ∷ xs) b d =
      arrivals_cons x xs b
      ∙ ap₂ (λ (r : ℕ) (l : List ℕ). r ∷ l) (sym (arrival_first x x xs b refl)) (arrivals_map xs (put g s x b) d.1 ∙ sym (map_later x xs b xs d.0))

  arrival_in_lem : (x : ℕ) (xs : List ℕ) (b : StateBuild) → In x xs → In (arrival_in g s x xs b) (arrivals_in g s xs b)
  arrival_in_lem x [] b i = absurd i
  arrival_in_lem x (y ∷ ys) b i =
      subst (λ (l : List ℕ). In (arrival_in g s x (y ∷ ys) b) l) (sym (arrivals_cons y ys b)) (go (compared x y) i (arrival_in_lem x ys (put g s y b)))
    where
      go : Compared x y → (x ≡ y) ⊎ In x ys → (In x ys → In (arrival_in g s x ys (put g s y b)) (arrivals_in g s ys (put g s y b)))
          → In (arrival_in g s x (y ∷ ys) b) (arrival_of y b ∷ arrivals_in g s ys (put g s y b))
      go (same h e) i later = inl (arrival_first x y ys b e)
      go (other h d) (inl e) later = absurd (d e)
      go (other h d) (inr i) later = inr (subst (λ (n : ℕ). In n (arrivals_in g s ys (put g s y b))) (sym (arrival_later x y ys b d)) (later i))

  -- in the state that the block is in
  pub made_arrival : (k x : ℕ) → get_or s.states x absent ≡ k → k ≢ absent → arrival_made g s x ≡ arrival_in g s x (order g s k) nothing
  unfolding arrival_made
  made_arrival k x e d = rw (e, ne_eqb k absent d)

  pub made_none : (x : ℕ) → get_or s.states x absent ≡ absent → arrival_made g s x ≡ 0
  unfolding arrival_made
  made_none x e = rw e

  -- ---- each is a wire

  grow_rest : (x : ℕ) (b : StateBuild) → length (enter g.registers (mem x s.starters) x b).wires ≤ length (put g s x b).wires
  unfolding put after
  grow_rest x b =
      let p = enter g.registers (mem x s.starters) x b in
      omega (arith, grow_assigns (instructions_of (block_of g x)) p, grow_close (block_of g x).ending (assigns (instructions_of (block_of g x)) p))

  grow_build : (xs : List ℕ) (b : StateBuild) → length b.wires ≤ length (build g s xs b).wires
  unfolding build
  grow_build [] b = omega arith
  grow_build (x ∷ xs) b = omega (arith, grow_enter g.registers (mem x s.starters) x b, grow_rest x b, grow_build xs (put g s x b))

  module _ (f : GraphFits g) where
    arrivals_wired : (xs : List ℕ) (b : StateBuild) → BuildValid g.registers b → (r : ℕ) → In r (arrivals_in g s xs b) → OfWire (length (build g s xs b).wires) r
    unfolding build
    arrivals_wired [] b v r i = absurd (rw (arrivals_nil b) at i)
    arrivals_wired (x ∷ xs) b v r i = go (rw (arrivals_cons x xs b) at i) (arrivals_wired xs (put g s x b) (put_valid g s x b (f.block x) v) r)
      where
        go : In r (arrival_of x b ∷ arrivals_in g s xs (put g s x b)) → (In r (arrivals_in g s xs (put g s x b)) → OfWire (length (build g s xs (put g s x b)).wires) r)
            → OfWire (length (build g s xs (put g s x b)).wires) r
        go (inl e) later =
            let p = enter g.registers (mem x s.starters) x b in
            rw e (wire_more (length p.wires) (length (build g s xs (put g s x b)).wires) p.arrival (omega (arith, grow_rest x b, grow_build xs (put g s x b)))
            (enter_valid g.registers (mem x s.starters) x b v).arrives)
        go (inr i) later = later i

    grow_state : (k : ℕ) → length (build g s (order g s k) nothing).wires ≤ length (state_made g s k).wires
    unfolding state_made
    grow_state k =
        let b = build g s (order g s k) nothing in
        let c = close_state_grown s (towards (leaves s) b.edges) b.wires in
        rw c.wires (omega (arith, length-append b.wires c.more))

    -- each arrival of a state is one of its wires
    pub state_arrivals : (k r : ℕ) → In r (arrivals_in g s (order g s k) nothing) → OfWire (length (state_made g s k).wires) r
    state_arrivals k r i =
        wire_more (length (build g s (order g s k) nothing).wires) (length (state_made g s k).wires) r (grow_state k)
        (arrivals_wired (order g s k) nothing (empty_valid g.registers) r i)

    -- and so that of each block of the state
    pub made_wired : (k x : ℕ) → get_or s.states x absent ≡ k → k ≢ absent → In x (order g s k) → OfWire (length (state_made g s k).wires) (arrival_made g s x)
    made_wired k x e d i = rw (made_arrival k x e d) (state_arrivals k (arrival_in g s x (order g s k) nothing) (arrival_in_lem x (order g s k) nothing i))
