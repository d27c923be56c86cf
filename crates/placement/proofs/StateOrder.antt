-- What a run through a state uses of the grouping and the placement, as tests. Assumes nothing.
use Prim.Native.Nat.{ℕ, ◌≤◌, ◌<◌}
use mathlib.Core.Bool.{true, false}
use mathlib.Core.Logic.{◌⊎◌, inl, inr, ⊎_map}
use mathlib.Core.Path.{◌≡◌, refl, sym, ◌∙◌, ap}
use mathlib.Core.List.{List, [], ◌∷◌}
use native.Mathlib.Omega.{arith}
use lib.ListN.{length, get_or}
use Rattle.runs.specs.Lists.{mem}
use Rattle.runs.proofs.Sets.{In, Distinct, mem→In, In→mem, Out→mem, in-get_or, get_or-in}
use Rattle.cfg.specs.Graph.{CFG, successors}
use Rattle.fsmd.specs.Layout.{max_blocks, absent}
use Rattle.grouping.specs.Grouping.{Groups}
use Rattle.grouping.proofs.Reach.{Closed}
use Rattle.grouping.proofs.GroupingLaws.{Grouped}
use Rattle.placement.specs.Placement.{members, order}
use Rattle.placement.proofs.PlacementLaws.{Forward, Placed, placed, order_length}

-- each of vs is a starter or among xs
abbrev pub Ahead : List ℕ → List ℕ → List ℕ → Type 0
Ahead starters xs [] = Unit {0}
Ahead starters xs (v ∷ vs) = ((mem v starters ≡ true) ⊎ (mem v xs ≡ true)) × Ahead starters xs vs

-- no block of a list is a starter, and each successor is a starter or stands later in the list
abbrev pub Ordered : CFG → List ℕ → List ℕ → Type 0
Ordered g starters [] = Unit {0}
Ordered g starters (x ∷ xs) = (mem x starters ≡ false) × Ahead starters xs (successors g x) × Ordered g starters xs

-- the blocks of state k, whose starter is y, in order: all of them and no others, none twice
pub record StateOrder (g : CFG) (s : Groups) (k y : ℕ) : Type 0 where
  pub mine : (x : ℕ) → In x (order g s k) → get_or s.states x absent ≡ k
  pub all : (x : ℕ) → get_or s.states x absent ≡ k → In x (order g s k)
  pub distinct : Distinct (order g s k)
  pub others : List ℕ
  pub order_is : order g s k ≡ y ∷ others
  pub starter : mem y s.starters ≡ true
  pub ahead : Ahead s.starters others (successors g y)
  pub ordered : Ordered g s.starters others

-- of the whole grouping: few states and blocks, block 0 in state 0, and each starter's state is one, its own and in order
pub record Arranged (g : CFG) (s : Groups) : Type 0 where
  pub few : length s.starters ≤ absent
  pub room : length s.states ≤ max_blocks
  pub entry : mem 0 s.starters ≡ true
  pub entry_state : get_or s.states 0 absent ≡ 0
  pub home : (y : ℕ) → mem y s.starters ≡ true → get_or s.states y absent < length s.starters
  pub own : (y : ℕ) → mem y s.starters ≡ true → get_or s.starters (get_or s.states y absent) absent ≡ y
  pub placed : (y : ℕ) → mem y s.starters ≡ true → StateOrder g s (get_or s.states y absent) y
  pub sized : (k : ℕ) → length (order g s k) ≤ length (members g s k)

ahead_made : (starters xs vs : List ℕ) → ((v : ℕ) → In v vs → In v starters ⊎ In v xs) → Ahead starters xs vs
ahead_made starters xs [] h = tt
ahead_made starters xs (v ∷ vs) h = (⊎_map (In→mem v starters) (In→mem v xs) (h v (inl refl)), ahead_made starters xs vs (λ w i. h w (inr i)))

ordered_made : (g : CFG) (starters l : List ℕ) → Forward g starters l → ((x : ℕ) → In x l → In x starters → ⊥) → Ordered g starters l
ordered_made g starters [] f o = tt
ordered_made g starters (x ∷ l) f o =
    (Out→mem x starters (o x (inl refl)), ahead_made starters l (successors g x) f.0, ordered_made g starters l f.1 (λ z i. o z (inr i)))

-- every finished grouping
module _ (g : CFG) (a : Closed g) (s : Groups) (G : Grouped g s) where
  state_order : (k : ℕ) → k < length s.starters → StateOrder g s k (get_or s.starters k absent)
  state_order k h = record {
    mine = p.mine;
    all = p.all;
    distinct = p.distinct;
    others = p.others;
    order_is = p.starter_first absent;
    starter = In→mem (get_or s.starters k absent) s.starters (get_or-in s.starters k absent h);
    ahead = ahead_made s.starters p.others (successors g (get_or s.starters k absent)) f.0;
    ordered = ordered_made g s.starters p.others f.1 p.no_starter;
  }
    where
      p : Placed g s k
      p = placed g a s G k h

      f : Forward g s.starters (get_or s.starters k absent ∷ p.others)
      f = rw (p.starter_first absent) at p.forward

  pub arranged : Arranged g s
  arranged = record {
    few = let n = G.few_states_lem in let b = a.few_blocks_lem in omega arith;
    room = let n = G.all_blocks in let b = a.few_blocks_lem in omega arith;
    entry = In→mem 0 s.starters zero_in;
    entry_state = sym (ap (λ (z : ℕ). get_or s.states z absent) (G.entry_first absent)) ∙ G.starter_home 0 absent G.some_state_lem;
    home = λ y m. (of_starter y m).0;
    own = λ y m. (of_starter y m).1;
    placed = λ y m. (of_starter y m).2;
    sized = order_length g s;
  }
    where
      zero_in : In 0 s.starters
      zero_in = rw (G.entry_first absent) at (get_or-in s.starters 0 absent G.some_state_lem)

      of_starter : (y : ℕ) → mem y s.starters ≡ true
          → (get_or s.states y absent < length s.starters)
          × (get_or s.starters (get_or s.states y absent) absent ≡ y)
          × StateOrder g s (get_or s.states y absent) y
      of_starter y m =
          let r = in-get_or y s.starters absent (mem→In y s.starters m) in
          let e : get_or s.states y absent ≡ r.0 = rw r.2 at (G.starter_home r.0 absent r.1) in
          let o : StateOrder g s r.0 y = rw r.2 at (state_order r.0 r.1) in
          (rw e r.1, rw e r.2, rw e o)
