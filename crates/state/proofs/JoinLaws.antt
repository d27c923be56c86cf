-- Joins of incoming edges as the code makes them, one after another. Assumes nothing.
use Prim.Native.Nat.{ℕ, suc, ◌+◌, ◌≤◌}
use native.Mathlib.Omega.{arith}
use mathlib.Core.Path.{◌≡◌, refl, sym, ap, ◌∙◌}
use mathlib.Core.List.{List, [], ◌∷◌, ◌++◌}
use lib.ListN.{length, take, length-append}
use lib.Seq.{length-take-le}
use Rattle.runs.specs.Lists.{up_from}
use Rattle.fsmd.specs.declared.Wire.{Wire}
use Rattle.fsmd.specs.Layout.{max_registers}
use Rattle.state.specs.declared.edges.EdgeEntry.{EdgeEntry}
use Rattle.state.specs.declared.joins.BlockProgress.{BlockProgress}
use Rattle.state.specs.declared.wires.WireList.{WireList}
use Rattle.state.specs.Wires.{or_wire, selects, Edge, BlockBuild, join, joins}
use Rattle.state.specs.Making.{wires_in, Room}
use Rattle.state.specs.EdgeList.{edge_of}
use Rattle.state.specs.Steps.{Adds, Becomes, values_of, block_in}
use Rattle.state.proofs.StoredWires.{length-wires_in}
use Rattle.state.proofs.Selections.{length_selects}
use Rattle.state.proofs.StepLaws.{room_le, fold, adds_on, becomes_by}

-- ---- one join

-- whichever wire it adds for the arrival
pub length_join : (e : Edge) (p : BlockBuild) → length e.values ≡ length p.values → length (join e p).wires ≡ length p.wires + 1 + length p.values
unfolding join
length_join e p h = rw (join, length-append) (omega (arith, length_selects e.taken e.values p.values h))

pub grow_join : (e : Edge) (p : BlockBuild) → length p.wires ≤ length (join e p).wires
unfolding join
grow_join e p = rw (join, length-append) (omega arith)

pub join_becomes : (b b' : BlockProgress) (e : EdgeEntry) (w w₁ w₂ : WireList) (v : Wire) (ref : ℕ) → length e.values ≡ max_registers
    → v ≡ or_wire b.arrival e.taken → Adds (v ∷ []) w w₁ → Adds (selects e.taken (take b.registers e.values) (values_of b)) w₁ w₂ → ref ≡ max_registers + w.count
    → b'.arrival ≡ ref → b'.registers ≡ b.registers → values_of b' ≡ up_from (max_registers + w₁.count) b.registers
    → Becomes (join (edge_of b.registers e) (block_in b w)) b.registers b' w w₂
unfolding join
join_becomes b b' e w w₁ w₂ v ref le ev h k er ea eb es =
    let n = length-wires_in w.count w.words.now in
    let l : length (take b.registers e.values) ≡ b.registers = length-take-le b.registers e.values (omega (arith, b.few)) in
    let q = selects e.taken (take b.registers e.values) (values_of b) in
    becomes_by (join (edge_of b.registers e) (block_in b w)) b.registers b' w w₂ (v ∷ q) (adds_on h k)
    eb
    (ea ∙ er ∙ ap (λ (m : ℕ). max_registers + m) (sym n))
    (es ∙ ap (λ (m : ℕ). up_from m b.registers) (omega (arith, h.count, n)) ∙ ap (up_from (suc (max_registers + length (wires_in w.count w.words.now)))) (sym l))
    (ap (λ (u : Wire). wires_in w.count w.words.now ++ (u ∷ q)) ev)

pub joins_fold : (es : List Edge) (p : BlockBuild) → joins es p ≡ fold join es p
unfolding joins
joins_fold [] p = refl
joins_fold (e ∷ es) p = joins_fold es (join e p)

-- the wires of a join
pub join_room : (b : BlockProgress) (w : WireList) (e : EdgeEntry) → length b.values ≡ max_registers → length e.values ≡ max_registers
    → Room (length (join (edge_of b.registers e) (block_in b w)).wires) w.words.now → Room (w.count + 1 + b.registers) w.words.now
join_room b w e lb le h =
    let v : length (values_of b) ≡ b.registers = length-take-le b.registers b.values (omega (arith, b.few)) in
    room_le (w.count + 1 + b.registers) (length (join (edge_of b.registers e) (block_in b w)).wires)
    (omega (arith, length_join (edge_of b.registers e) (block_in b w) (length-take-le b.registers e.values (omega (arith, b.few)) ∙ sym v), v, length-wires_in w.count w.words.now))
    refl h
