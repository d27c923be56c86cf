-- How a block is entered: a start, no incoming edge, or a first one and further ones. Assumes nothing.
use Prim.Native.Nat.{ℕ, ◌+◌, ◌-◌}
use native.Mathlib.Omega.{arith}
use mathlib.Core.Path.{◌≡◌, refl, sym, ap, ◌∙◌}
use mathlib.Core.Bool.{Bool, true, false}
use mathlib.Core.List.{List, [], ◌∷◌, ◌++◌}
use lib.ListN.{length, get_or, take, drop, length-append, length-drop}
use lib.Seq.{take_all}
use Rattle.std.specs.Prelude.{Some, None}
use Rattle.std.specs.List.{position}
use Rattle.runs.specs.Lists.{up_from}
use Rattle.fsmd.specs.Layout.{max_registers}
use Rattle.state.specs.declared.edges.EdgeEntry.{EdgeEntry}
use Rattle.state.specs.declared.edges.Edges.{Edges}
use Rattle.state.specs.declared.joins.BlockProgress.{BlockProgress}
use Rattle.state.specs.declared.wires.WireList.{WireList}
use Rattle.state.specs.Wires.{set_wire, Edge, BlockBuild, joins, arrive, start_block, enter, leads_to}
use Rattle.state.specs.Making.{wires_in, Room}
use Rattle.state.specs.EdgeList.{entries, passes, leading}
use Rattle.state.specs.Steps.{Adds, Becomes, values_of, state_in}
use Rattle.state.proofs.StoredWires.{length-wires_in}
use Rattle.state.proofs.StepLaws.{room_le, becomes_by}
use Rattle.state.proofs.EdgeLaws.{towards_pending, leading_found, leading_not_found}

-- a wire `set` and the start values
abbrev pub begun : ℕ → ℕ → WireList → BlockBuild
begun word r w = record { arrival = max_registers + length (wires_in w.count w.words.now); values = up_from 0 r; wires = wires_in w.count w.words.now ++ (set_wire word ∷ []) }

pub begun_becomes : (p : BlockBuild) (word r : ℕ) (b : BlockProgress) (w w₁ : WireList) → p ≡ begun word r w
    → b.arrival ≡ max_registers + w.count → b.registers ≡ r → values_of b ≡ up_from 0 r → Adds (set_wire word ∷ []) w w₁ → Becomes p r b w w₁
begun_becomes p word r b w w₁ e ea er es h =
    rw e
    (becomes_by (begun word r w) r b w w₁ (set_wire word ∷ []) h er (ea ∙ ap (λ (k : ℕ). max_registers + k) (sym (length-wires_in w.count w.words.now))) es refl)

pub begun_room : (p : BlockBuild) (word r : ℕ) (w : WireList) → p ≡ begun word r w → Room (length p.wires) w.words.now → Room (w.count + 1) w.words.now
begun_room p word r w e h =
    room_le (w.count + 1) (length p.wires)
    (omega (arith, ap (λ (q : BlockBuild). length q.wires) e, length-append (wires_in w.count w.words.now) (set_wire word ∷ []), length-wires_in w.count w.words.now))
    refl h

-- all of a list from number k on, as the code slices it
pub slice_all : {A : Type 0} (xs : List A) (k : ℕ) → take (length xs - k) (drop k xs) ≡ drop k xs
slice_all xs k = take_all (length xs - k) (drop k xs) (omega (arith, length-drop k xs))

module _ (x : ℕ) (es : Edges) (w : WireList) where
  pub enter_start : (starter : Bool) → starter ≡ true → enter w.registers starter x (state_in es w) ≡ begun 1 w.registers w
  unfolding enter start_block
  enter_start starter e = rw e refl

  pub enter_none : (starter : Bool) → starter ≡ false → None ≡ position (passes (leads_to x)) (entries es) → enter w.registers starter x (state_in es w) ≡ begun 0 w.registers w
  unfolding enter arrive
  enter_none starter e h =
      rw e
      (ap (λ (l : List Edge). arrive w.registers l (wires_in w.count w.words.now)) (towards_pending w.registers (leads_to x) es ∙ leading_not_found w.registers (leads_to x) (entries es) h))

  -- the first incoming edge, and the further ones as the code slices them
  pub enter_first : (starter : Bool) → starter ≡ false → (l : List EdgeEntry) → l ≡ entries es → (i : ℕ) (d : EdgeEntry) → Some i ≡ position (passes (leads_to x)) (entries es)
      → enter w.registers starter x (state_in es w)
      ≡ joins (leading w.registers (leads_to x) (take (length l - (i + 1)) (drop (i + 1) l))) (record { arrival = (get_or l i d).taken; values = take w.registers (get_or l i d).values; wires = wires_in w.count w.words.now })
  unfolding enter arrive
  enter_first starter e l el i d h =
      rw (e, slice_all l (i + 1), el)
      (ap (λ (l : List Edge). arrive w.registers l (wires_in w.count w.words.now)) (towards_pending w.registers (leads_to x) es ∙ (leading_found w.registers (leads_to x) (entries es) i d h).1))
