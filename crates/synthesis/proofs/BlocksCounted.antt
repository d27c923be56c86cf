-- The blocks that a cycle counts, over the numbers of all blocks: as many as the graph runs in it, over the state's order. Assumes nothing.
use Prim.Native.Nat.{ℕ, ◌≤◌, ◌<◌}
use native.Mathlib.Omega.{arith}
use native.Mathlib.Decide.{dec_lt}
use mathlib.Core.Path.{◌≡◌, sym, ap, ◌∙◌}
use mathlib.Core.Logic.{◌≢◌}
use mathlib.Core.Bool.{Bool, true, not}
use mathlib.Core.List.{List, map}
use lib.ListN.{length, get_or, get_or-eq_default}
use lib.Dec.{eqb}
use borrow.Author.Tests.{eqb-true, eq-eqb}
use Rattle.runs.specs.Lists.{up_from, mem}
use Rattle.runs.proofs.ListLaws.{length_only_map}
use Rattle.runs.proofs.Sets.{In, Distinct}
use Rattle.runs.proofs.MembershipLaws.{only_in, in_only, distinct_only, map_in, equally_many, up_from_in, distinct_up_from}
use Rattle.cfg.specs.Graph.{CFG}
use Rattle.fsmd.specs.Layout.{max_blocks, absent}
use Rattle.fsmd.specs.Machine.{State, worked, blocks_of, nonzero, blocks_run}
use Rattle.grouping.specs.Grouping.{Groups}
use Rattle.placement.specs.Placement.{order}
use Rattle.placement.proofs.StateOrder.{StateOrder, Arranged}
use Rattle.state.specs.Wires.{nothing, arrival_in, state_made}
use Rattle.synthesis.specs.Synthesis.{machine_for}
use Rattle.synthesis.proofs.Environments.{at}
use Rattle.synthesis.proofs.Arrivals.{arrivals_in, arrivals_map, made_arrival}
use Rattle.synthesis.proofs.OneCycle.{CycleAgrees}
use Rattle.synthesis.proofs.SynthesisedMachine.{state_at_lem, block_states_are, arrival_at_lem}

module _ (g : CFG) (s : Groups) (room : length s.states ≤ max_blocks) (k y : ℕ) (some : k ≢ absent) (o : StateOrder g s k y) where
  -- a block of a state has a number
  numbered : (x : ℕ) → get_or s.states x absent ≡ k → x < length s.states
  numbered x e = go (dec_lt x (length s.states))
    where
      go : Dec (x < length s.states) → x < length s.states
      go (yes h) = h
      go (no h) = absurd (some (sym e ∙ get_or-eq_default s.states absent (omega arith)))

  abbrev blocks : List ℕ
  blocks = blocks_of (machine_for g s) k

  block_in : (x : ℕ) → In x blocks → get_or s.states x absent ≡ k
  unfolding blocks_of
  block_in x i =
      ap (λ (l : List ℕ). get_or l x absent) (sym (block_states_are g s))
      ∙ eqb-true (get_or (machine_for g s).block_states x absent) k (only_in (λ b. eqb (get_or (machine_for g s).block_states b absent) k) (up_from 0 max_blocks) x i).1

  in_block : (x : ℕ) → get_or s.states x absent ≡ k → In x blocks
  unfolding blocks_of
  in_block x e =
      in_only (λ b. eqb (get_or (machine_for g s).block_states b absent) k) (up_from 0 max_blocks) x (up_from_in 0 max_blocks x (omega arith) (omega (arith, numbered x e)))
      (rw (block_states_are g s) (eq-eqb (get_or s.states x absent) k e))

  distinct_blocks : Distinct blocks
  unfolding blocks_of
  distinct_blocks = distinct_only (λ b. eqb (get_or (machine_for g s).block_states b absent) k) (up_from 0 max_blocks) (distinct_up_from 0 max_blocks)

  abbrev listed : ℕ → ℕ
  listed b = get_or (machine_for g s).arrivals b 0

  abbrev placed : ℕ → ℕ
  placed x = arrival_in g s x (order g s k) nothing

  listed_placed : (x : ℕ) → get_or s.states x absent ≡ k → listed x ≡ placed x
  listed_placed x e = arrival_at_lem g s x ∙ made_arrival g s k x e some

  blocks_counted : (E : List ℕ) → nonzero E (map listed blocks) ≡ nonzero E (arrivals_in g s (order g s k) nothing)
  blocks_counted E =
      let t : ℕ → Bool = λ r. not (eqb (at E r) 0) in
      length_only_map t listed blocks
      ∙ equally_many (λ x. t (listed x)) blocks (order g s k) distinct_blocks o.distinct (λ x i. o.all x (block_in x i)) (λ x i. in_block x (o.mine x i))
      ∙ sym (length_only_map t listed (order g s k))
      ∙ ap (nonzero E) (map_in listed placed (order g s k) (λ x i. listed_placed x (o.mine x i)) ∙ sym (arrivals_map g s (order g s k) nothing o.distinct))

-- a cycle from a starter counts the blocks that the graph runs in it
pub cycle_blocks : (g : CFG) (s : Groups) → Arranged g s → (sampled : ℕ) (rs : List ℕ) (b : ℕ) → mem b s.starters ≡ true
    → (c : CycleAgrees g s sampled rs (get_or s.states b absent) b) → blocks_run (machine_for g s) sampled (get_or s.states b absent) rs ≡ c.steps
unfolding blocks_run
cycle_blocks g s a sampled rs b h c =
    let k = get_or s.states b absent in
    let home = a.home b h in
    ap (λ (q : State). nonzero (worked sampled rs q.wires) (map (λ b. get_or (machine_for g s).arrivals b 0) (blocks_of (machine_for g s) k))) (state_at_lem g s k home)
    ∙ blocks_counted g s a.room k b (λ e. absurd (let n = a.few in omega arith)) (a.placed b h) (worked sampled rs (state_made g s k).wires)
    ∙ c.counted
