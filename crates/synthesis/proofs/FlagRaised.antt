-- Which wires of a state go over: only those of instructions, and they count only where their block is arrived at. Assumes nothing.
use Prim.Native.Nat.{ℕ}
use mathlib.Core.Path.{◌≡◌, refl, sym, ap, ap₂, ◌∙◌}
use mathlib.Core.Bool.{Bool, true, false, ◌&&◌, ◌||◌, or_assoc, or-false}
use mathlib.Core.List.{List, [], ◌∷◌, ◌++◌}
use lib.ListN.{length, get_or}
use Rattle.word.specs.Word.{truth, add_code, sub_code}
use Rattle.runs.specs.Lists.{mem, every}
use Rattle.runs.proofs.ListLaws.{and_left, and_right}
use Rattle.cfg.specs.declared.Instruction.{Instruction}
use Rattle.cfg.specs.declared.Block.{Block}
use Rattle.cfg.specs.Graph.{instructions_of, execute, instruction_over, instructions_over}
use Rattle.cfg.proofs.Admitted.{ValidInstruction}
use Rattle.fsmd.specs.Layout.{max_registers}
use Rattle.fsmd.specs.declared.Wire.{Wire}
use Rattle.fsmd.specs.Machine.{wire_value, worked, wire_over, wires_over}
use Rattle.fsmd.proofs.Environment.{over_none}
use Rattle.state.specs.Wires.{Edge, BlockBuild, start_block, instruction_wire, assign, assigns, close, after}
use Rattle.synthesis.proofs.AddedWires.{added, OwnWires, own_not, Grown, start_grown, close_grown}
use Rattle.synthesis.proofs.GraphFacts.{ValidCode}
use Rattle.synthesis.proofs.WireValues.{instruction_over_lem}
use Rattle.synthesis.proofs.Environments.{at}
use Rattle.synthesis.proofs.Readings.{reads_at, PointReads, assign_reads}

-- ---- wires one after another

over_append : (sampled : ℕ) (E : List ℕ) (ws vs : List Wire) → wires_over sampled E (ws ++ vs) ≡ (wires_over sampled E ws || wires_over sampled (worked sampled E ws) vs)
unfolding wires_over worked
over_append sampled E [] vs = refl
over_append sampled E (w ∷ ws) vs =
    let E' = E ++ (wire_value sampled (at E) w ∷ []) in
    ap (λ (b : Bool). wire_over (at E) w || b) (over_append sampled E' ws vs)
    ∙ sym (or_assoc (wire_over (at E) w) (wires_over sampled E' ws) (wires_over sampled (worked sampled E' ws) vs))

over_one : (sampled : ℕ) (E : List ℕ) (w : Wire) → wires_over sampled E (w ∷ []) ≡ wire_over (at E) w
unfolding wires_over
over_one sampled E w = or-false (wire_over (at E) w)

-- ---- what synthesis adds by itself raises no flag

own_none : (sampled : ℕ) (E : List ℕ) (ws : List Wire) → OwnWires ws → wires_over sampled E ws ≡ false
unfolding wires_over
own_none sampled E [] a = refl
own_none sampled E (w ∷ ws) a =
    let E' = E ++ (wire_value sampled (at E) w ∷ []) in
    let p : Wire → Bool = λ w. mem w.code added in
    let own = and_left (p w) (every p ws) a in
    ap₂ (λ (x y : Bool). x || y) (over_none (at E) w (own_not w.code add_code refl own) (own_not w.code sub_code refl own)) (own_none sampled E' ws (and_right (p w) (every p ws) a))

pub grown_over : (sampled : ℕ) (E : List ℕ) {ws vs : List Wire} → Grown ws vs → wires_over sampled E vs ≡ wires_over sampled E ws
grown_over sampled E {ws} {vs} a =
    ap (wires_over sampled E) a.wires
    ∙ over_append sampled E ws a.more
    ∙ ap (λ (b : Bool). wires_over sampled E ws || b) (own_none sampled (worked sampled E ws) a.more a.own)
    ∙ or-false (wires_over sampled E ws)

pub start_over : (sampled : ℕ) (rs : List ℕ) (r : ℕ) → wires_over sampled rs (start_block r []).wires ≡ false
start_over sampled rs r = grown_over sampled rs (start_grown r []) ∙ own_none sampled rs [] refl

-- ---- a block's instructions raise it where the block is arrived at

both_over : (b x y z : Bool) → ((x || (b && y)) || (b && z)) ≡ (x || (b && (y || z)))
both_over true x y z = or_assoc x y z
both_over false x y z = or-false (x || false) ∙ refl

module _ (sampled : ℕ) (rs : List ℕ) (size : length rs ≡ max_registers) (R : ℕ) where
  assign_over : (i : Instruction) (p : BlockBuild) (b : Bool) {q : List ℕ} → ValidInstruction R i → PointReads sampled rs R p (truth b) q
      → wires_over sampled rs (assign i p).wires ≡ (wires_over sampled rs p.wires || (b && instruction_over i q))
  unfolding assign
  assign_over i p b {q} f l =
      let E = worked sampled rs p.wires in
      let w = instruction_wire (λ r. get_or p.values r 0) p.arrival i in
      over_append sampled rs p.wires (w ∷ [])
      ∙ ap (λ (x : Bool). wires_over sampled rs p.wires || x)
      (over_one sampled E w ∙ instruction_over_lem (at E) (λ r. get_or p.values r 0) R p.arrival q b i f (reads_at E l) l.reads)

  assigns_over : (is : List Instruction) (p : BlockBuild) (b : Bool) {q : List ℕ} → ValidCode R is → PointReads sampled rs R p (truth b) q
      → wires_over sampled rs (assigns is p).wires ≡ (wires_over sampled rs p.wires || (b && instructions_over sampled is q))
  unfolding assigns instructions_over
  assigns_over [] p true f l = sym (or-false (wires_over sampled rs p.wires))
  assigns_over [] p false f l = sym (or-false (wires_over sampled rs p.wires))
  assigns_over (i ∷ is) p b {q} f l =
      assigns_over is (assign i p) b f.1 (assign_reads sampled rs size R i p f.0 l)
      ∙ ap (λ (x : Bool). x || (b && instructions_over sampled is (execute sampled i q))) (assign_over i p b f.0 l)
      ∙ both_over b (wires_over sampled rs p.wires) (instruction_over i q) (instructions_over sampled is (execute sampled i q))

  -- a whole block, beside the edges that it leaves alone
  pub block_over : (rest : List Edge) (k : Block) (p : BlockBuild) (b : Bool) {q : List ℕ} → ValidCode R (instructions_of k) → PointReads sampled rs R p (truth b) q
      → wires_over sampled rs (after rest (close k.ending (assigns (instructions_of k) p))).wires ≡ (wires_over sampled rs p.wires || (b && instructions_over sampled (instructions_of k) q))
  unfolding after
  block_over rest k p b f l = grown_over sampled rs (close_grown k.ending (assigns (instructions_of k) p)) ∙ assigns_over (instructions_of k) p b f l
