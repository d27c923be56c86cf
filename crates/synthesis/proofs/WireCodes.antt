-- A test of codes that synthesis' own wires and the graph's instructions pass holds of all wires of the machine: no `in` without one in the graph. Assumes nothing.
use Prim.Native.Nat.{ℕ, zero, suc}
use mathlib.Core.Path.{◌≡◌, refl, sym, ap, ◌∙◌, subst}
use mathlib.Core.Bool.{Bool, true, not}
use mathlib.Core.List.{List, [], ◌∷◌, ◌++◌, map}
use lib.Dec.{eqb}
use borrow.Author.Tests.{ne_eqb}
use lib.ListN.{length, get_or}
use Rattle.runs.specs.Lists.{up_from, mem, every}
use Rattle.runs.proofs.ListLaws.{and_left, and_right, and_both, every_append, every_other}
use Rattle.cfg.specs.declared.Instruction.{Instruction}
use Rattle.cfg.specs.declared.Block.{Block}
use Rattle.cfg.specs.Graph.{CFG, empty_block, block_of, instructions_of, wordless_graph}
use Rattle.fsmd.specs.declared.Wire.{Wire}
use Rattle.fsmd.specs.Machine.{State, wordless_machine}
use Rattle.grouping.specs.Grouping.{Groups}
use Rattle.placement.specs.Placement.{order}
use Rattle.state.specs.Wires.{BlockBuild, StateBuild, enter, assign, assigns, towards, put, build, leaves, state_made}
use Rattle.synthesis.specs.Synthesis.{machine_for}
use Rattle.synthesis.proofs.AddedWires.{added, Own, own_not, Grown, enter_grown, close_grown, close_state_grown}

-- ---- a test of codes that those pass

module _ (test : ℕ → Bool) where
  abbrev Pass : List Wire → Type 0
  Pass ws = every (λ w. test w.code) ws ≡ true

  abbrev PassCode : List Instruction → Type 0
  PassCode is = every (λ i. test i.code) is ≡ true

module _ (test : ℕ → Bool) (own : (k : ℕ) → Own k → test k ≡ true) where
  pass_append : (ws vs : List Wire) → Pass test ws → Pass test vs → Pass test (ws ++ vs)
  pass_append ws vs a b =
      let p : Wire → Bool = λ w. test w.code in
      every_append p ws vs ∙ and_both (every p ws) (every p vs) a b

  pass_grown : {ws vs : List Wire} → Grown ws vs → Pass test ws → Pass test vs
  pass_grown {ws} {vs} g a =
      let more = every_other (λ w. mem w.code added) (λ w. test w.code) (λ w h. own w.code h) g.more g.own in
      subst (Pass test) (sym g.wires) (pass_append ws g.more a more)

  pass_assigns : (is : List Instruction) (p : BlockBuild) → PassCode test is → Pass test p.wires → Pass test (assigns is p).wires
  unfolding assigns
  pass_assigns [] p c a = a
  pass_assigns (i ∷ is) p c a =
      let q : Instruction → Bool = λ i. test i.code in
      pass_assigns is (assign i p) (and_right (q i) (every q is) c) (pass_append p.wires _ a (and_both (q i) true (and_left (q i) (every q is) c) refl))

  module _ (g : CFG) (s : Groups) (code : (x : ℕ) → PassCode test (instructions_of (block_of g x))) where
    pass_build : (xs : List ℕ) (b : StateBuild) → Pass test b.wires → Pass test (build g s xs b).wires
    unfolding build
    pass_build [] b a = a
    pass_build (x ∷ xs) b a =
        let p = enter g.registers (mem x s.starters) x b in
        pass_build xs (put g s x b)
        (pass_grown (close_grown (block_of g x).ending (assigns (instructions_of (block_of g x)) p)) (pass_assigns (instructions_of (block_of g x)) p (code x) (pass_grown (enter_grown g.registers (mem x s.starters) x b) a)))

    pub pass_state : (k : ℕ) → Pass test (state_made g s k).wires
    unfolding state_made
    pass_state k =
        let b = build g s (order g s k) (record { wires = []; edges = [] }) in
        pass_grown (close_state_grown s (towards (leaves s) b.edges) b.wires) (pass_build (order g s k) (record { wires = []; edges = [] }) refl)

-- ---- so the machine of a graph that reads no word reads none

abbrev other : ℕ → Bool
other k = not (eqb k 20)

own_other : (k : ℕ) → Own k → other k ≡ true
own_other k h = ap not (ne_eqb k 20 (own_not k 20 refl h))

pass_block : (bs : List Block) → every (λ b. every (λ i. other i.code) (instructions_of b)) bs ≡ true → (x : ℕ) → PassCode other (instructions_of (get_or bs x empty_block))
unfolding empty_block
pass_block [] h x = refl
pass_block (b ∷ bs) h zero = and_left (every (λ i. other i.code) (instructions_of b)) (every (λ b. every (λ i. other i.code) (instructions_of b)) bs) h
pass_block (b ∷ bs) h (suc x) = pass_block bs (and_right (every (λ i. other i.code) (instructions_of b)) (every (λ b. every (λ i. other i.code) (instructions_of b)) bs) h) x

every_state : (f : ℕ → State) → ((k : ℕ) → Pass other (f k).wires) → (ks : List ℕ) → every (λ q. every (λ w. other w.code) q.wires) (map f ks) ≡ true
every_state f h [] = refl
every_state f h (k ∷ ks) =
    and_both (every (λ w. other w.code) (f k).wires) (every (λ q. every (λ w. other w.code) q.wires) (map f ks)) (h k) (every_state f h ks)

pub wordless_machine_lem : (g : CFG) (s : Groups) → wordless_graph g ≡ true → wordless_machine (machine_for g s) ≡ true
unfolding wordless_graph wordless_machine machine_for
wordless_machine_lem g s h = every_state (state_made g s) (pass_state other own_other g s (pass_block g.blocks h)) (up_from 0 (length s.starters))
