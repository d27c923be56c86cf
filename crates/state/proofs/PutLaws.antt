-- A block placed, from its parts: entered, its instructions, its ending. Assumes nothing.
use Prim.Native.Nat.{ℕ, ◌≤◌}
use native.Mathlib.Omega.{arith}
use mathlib.Core.Path.{◌≡◌, refl, sym, ap, ◌∙◌}
use mathlib.Core.Bool.{Bool, not}
use mathlib.Core.List.{List}
use lib.ListN.{length}
use Rattle.cfg.specs.declared.Block.{Block}
use Rattle.cfg.specs.Graph.{instructions_of}
use Rattle.state.specs.declared.edges.Edges.{Edges}
use Rattle.state.specs.declared.joins.BlockProgress.{BlockProgress}
use Rattle.state.specs.declared.wires.WireList.{WireList}
use Rattle.state.specs.Wires.{Edge, BlockBuild, StateBuild, leads_to, towards, enter, assigns, close, after}
use Rattle.state.specs.Making.{wires_in, stored, Room, put_block}
use Rattle.state.specs.EdgeList.{pending, state_build_in}
use Rattle.state.specs.Steps.{Becomes, Grown, block_in, state_in}
use Rattle.state.proofs.StoredWires.{length-wires_in, stored_again}
use Rattle.state.proofs.Points.{held_count, held_on}
use Rattle.state.proofs.StepLaws.{same_on, room_le}
use Rattle.state.proofs.AssignLaws.{grow_assigns}
use Rattle.state.proofs.CloseLaws.{grow_close}

pub grown_count : {b : StateBuild} {es : Edges} {old new : WireList} → Grown b es old new → new.count ≡ length b.wires
grown_count {new = new} h = sym (length-wires_in new.count new.words.now) ∙ ap (λ (b : StateBuild). length b.wires) h.build

module _ (starter : Bool) (block : Block) (x : ℕ) (es : Edges) (w : WireList) where
  abbrev B : StateBuild
  B = state_in es w

  abbrev E : BlockBuild
  E = enter w.registers starter x B

  abbrev A : BlockBuild
  A = assigns (instructions_of block) E

  abbrev Z : StateBuild
  Z = put_block w.registers starter block x B

  last : length (close block.ending A).wires ≡ length Z.wires
  unfolding put_block after
  last = refl

  pub enter_fits : Room (length Z.wires) w.words.now → Room (length E.wires) w.words.now
  enter_fits = room_le (length E.wires) (length Z.wires) (omega (arith, last, grow_assigns (instructions_of block) E, grow_close block.ending A)) refl

  module _ {b₁ : BlockProgress} {w₁ : WireList} (h₁ : Becomes E w.registers b₁ w w₁) where
    abbrev A₁ : BlockBuild
    A₁ = assigns (instructions_of block) (block_in b₁ w₁)

    same₁ : A₁ ≡ A
    same₁ = ap (assigns (instructions_of block)) h₁.held.point

    pub assigns_fit : Room (length Z.wires) w.words.now → Room (length A₁.wires) w₁.words.now
    assigns_fit = room_le (length A₁.wires) (length Z.wires) (omega (arith, ap (λ (p : BlockBuild). length p.wires) same₁, last, grow_close block.ending A)) h₁.same.long

    module _ {b₂ : BlockProgress} {w₂ : WireList} (h₂ : Becomes A₁ b₁.registers b₂ w₁ w₂) where
      same₂ : block_in b₂ w₂ ≡ A
      same₂ = h₂.held.point ∙ same₁

      abbrev C₂ : StateBuild
      C₂ = close block.ending (block_in b₂ w₂)

      pub close_fits : Room (length Z.wires) w.words.now → Room (length C₂.wires) w₂.words.now
      close_fits =
          room_le (length C₂.wires) (length Z.wires)
          (omega (arith, ap (λ (p : BlockBuild). length (close block.ending p).wires) same₂, last))
          (same_on h₁.same h₂.same).long

      pub put_registers : b₂.registers ≡ w₂.registers
      put_registers = h₂.registers ∙ h₁.registers ∙ sym (same_on h₁.same h₂.same).registers

      module _ (es₁ es₂ : Edges) (w₃ : WireList) (used : pending w₂.registers es₁ ≡ towards (λ p. not (leads_to x p)) (pending w₂.registers es)) where
        registers : w₂.registers ≡ w.registers
        registers = (same_on h₁.same h₂.same).registers

        whole : after (pending w₂.registers es₁) C₂ ≡ Z
        unfolding put_block
        whole =
            ap (λ (l : List Edge). after l C₂) (used ∙ ap (λ (m : ℕ). towards (λ p. not (leads_to x p)) (pending m es)) registers)
            ∙ ap (λ (p : BlockBuild). after (towards (λ q. not (leads_to x q)) (pending w.registers es)) (close block.ending p)) same₂

        pub put_grown : Grown (after (pending w₂.registers es₁) C₂) es₂ w₂ w₃ → Grown Z es₂ w w₃
        unfolding after
        put_grown h =
            let le₁ : w₁.count ≤ w₂.count =
            omega (arith, held_count h₂.held, grow_assigns (instructions_of block) (block_in b₁ w₁), length-wires_in w₁.count w₁.words.now) in
            let le₂ : w₂.count ≤ w₃.count =
            omega (arith, grown_count h, grow_close block.ending (block_in b₂ w₂), length-wires_in w₂.count w₂.words.now) in
            let g = held_on h₁.held le₁ h₂.held in
            record {
              same = same_on (same_on h₁.same h₂.same) h.same;
              build = ap (λ (m : ℕ). state_build_in m es₂ w₃.count w₃.words.now) (sym registers) ∙ h.build ∙ whole;
              rest = h.rest ∙ ap (stored (wires_in w₃.count w₃.words.now)) g.rest
                  ∙ stored_again (wires_in w₂.count w₂.words.now) (wires_in w₃.count w₃.words.now) w.words.now (omega (arith, length-wires_in w₂.count w₂.words.now, length-wires_in w₃.count w₃.words.now));
            }
