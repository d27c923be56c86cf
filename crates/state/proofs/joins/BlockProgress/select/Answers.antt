-- `state::joins::BlockProgress::select` meets its contract. Assumes nothing.
use Prim.Native.Nat.{ℕ, ◌+◌, ◌<◌}
use native.Mathlib.Omega.{arith}
use mathlib.Core.Path.{◌≡◌, refl, sym, ap, ◌∙◌}
use mathlib.Core.List.{List, [], ◌∷◌}
use lib.ListN.{length, take}
use lib.Seq.{length-take-le, get_or-take, take-set-lt}
use Rattle.fsmd.specs.Layout.{max_registers}
use Rattle.runs.specs.Lists.{up_from}
use Rattle.state.specs.declared.edges.EdgeEntry.{EdgeEntry}
use Rattle.state.specs.declared.joins.BlockProgress.{BlockProgress}
use Rattle.state.specs.Making.{appended, Room}
use Rattle.state.specs.Steps.{values_of}
use Rattle.state.proofs.StepLaws.{same_self, same_on}
use Rattle.state.proofs.Selections.{length_selects, selected_none, selected_more, selected_table, selected_values}
use Rattle.state.proofs.joins.BlockProgress.select.Goals as goal

-- the lists of a block's and an edge's registers
record Sized (b : BlockProgress) (e : EdgeEntry) : Type 0 where
  block : length (values_of b) ≡ b.registers
  edge : length (take b.registers e.values) ≡ b.registers

sized : (b : BlockProgress) (e : EdgeEntry) → length b.values ≡ max_registers → length e.values ≡ max_registers → Sized b e
sized b e lb le = record { block = length-take-le b.registers b.values (omega (arith, b.few)); edge = length-take-le b.registers e.values (omega (arith, b.few)) }

room_of : (b : BlockProgress) (e : EdgeEntry) (n : ℕ) (t : List ℕ) → Sized b e → Room (n + b.registers) t → Room (n + length (values_of b)) t
room_of b e n t s h = record { fits = omega (arith, h.fits, s.block); few = omega (arith, h.few, s.block) }

pub loop-r-init : goal.loop-r-init
loop-r-init c =
    let a = c.args in
    let b = a.self.now in
    let s = sized b a.edge.now (omega arith) (omega arith) in
    let w = a.wires.now in (
      same_self w,
      omega arith,
      refl,
      refl,
      selected_none w.words.now w.count a.edge.now.taken (take b.registers a.edge.now.values) (values_of b) (s.edge ∙ sym s.block) (room_of b a.edge.now w.count w.words.now s c.requires),
    )

pub emit-requires : goal.emit-requires
emit-requires c =
    let v = c.loop-r.invariant in
    let e = v.0.long in
    record { fits = omega (arith, c.requires.fits); few = omega (arith, c.requires.few) }

pub loop-r-preserved : goal.loop-r-preserved
loop-r-preserved c =
    let a = c.args in
    let b = a.self.now in
    let e = a.edge.now in
    let l = c.loop-r in
    let v = l.invariant in
    let s = sized b e (omega arith) (omega arith) in
    let w = a.wires.now in
    let n = b.registers in
    let lt : l.r < n = c.loop-r-test.true in
    let ad = c.emit.ensures.added in (
      same_on v.0 ad.same,
      omega (arith, ad.count),
      v.2,
      v.3,
      rw (take-set-lt n l.self.values l.r c.emit.result lt)
          (selected_more w.words.now w.count e.taken (take n e.values) (values_of b) (s.edge ∙ sym s.block) (room_of b e w.count w.words.now s c.requires)
          l.wires.words.now (take n l.self.values) l.r v.4 c.wire.result c.emit.new.self.words.now c.emit.result (omega (arith, s.block))
          (rw (get_or-take n e.values l.r 0 lt, get_or-take n l.self.values l.r 0 lt) c.wire.ensures)
          (ad.words ∙ ap (λ (k : ℕ). appended k (c.wire.result ∷ []) l.wires.words.now) v.1)
          (c.emit.ensures.reference ∙ ap (λ (k : ℕ). max_registers + k) v.1)),
    )

pub returns-clause-values : goal.returns-clause-values
returns-clause-values c =
    let a = c.args in
    let b = a.self.now in
    let e = a.edge.now in
    let l = c.loop-r in
    let v = l.invariant in
    let s = sized b e (omega arith) (omega arith) in
    let w = a.wires.now in
    ap (λ (k : ℕ). take k l.self.values) v.3
    ∙ selected_values w.words.now w.count e.taken (take b.registers e.values) (values_of b) (s.edge ∙ sym s.block) (room_of b e w.count w.words.now s c.requires)
    l.wires.words.now (take b.registers l.self.values) l.r v.4 (omega (arith, s.block))
    ∙ ap (up_from (max_registers + w.count)) s.edge

pub returns-clause-wires : goal.returns-clause-wires
returns-clause-wires c =
    let a = c.args in
    let b = a.self.now in
    let e = a.edge.now in
    let l = c.loop-r in
    let v = l.invariant in
    let s = sized b e (omega arith) (omega arith) in
    let w = a.wires.now in
    record {
      same = v.0;
      count = omega (arith, v.1, s.block, length_selects e.taken (take b.registers e.values) (values_of b) (s.edge ∙ sym s.block), s.edge);
      words = selected_table w.words.now w.count e.taken (take b.registers e.values) (values_of b) (s.edge ∙ sym s.block) (room_of b e w.count w.words.now s c.requires)
          l.wires.words.now (take b.registers l.self.values) l.r v.4 (omega (arith, s.block));
    }
