-- `state::joins::BlockProgress::assign` meets its contract. Assumes nothing.
use mathlib.Core.Path.{refl, sym}
use native.Mathlib.Omega.{arith}
use Prim.Native.Nat.{◌≤◌}
use lib.ListN.{length}
use lib.Seq.{take-set-lt}
use Rattle.std.proofs.lemmas.List.{set_past, length-take}
use Rattle.state.specs.Steps.{values_of}
use Rattle.state.proofs.AssignLaws.{assign_becomes}
use Rattle.state.proofs.joins.BlockProgress.assign.Goals as goal

pub returns-then-d-self : goal.returns-then-d-self
returns-then-d-self c =
    let b = c.args.self.now in
    let e = c.emit-reference in
    assign_becomes c.args.i b _ c.args.wires.now e.new.self c.instruction_wire.result e.result c.instruction_wire.ensures e.ensures.added e.ensures.reference refl refl
    (take-set-lt b.registers b.values c.args.i.d e.result c.if-d-self.true)

pub returns-else-d-self : goal.returns-else-d-self
returns-else-d-self c =
    let b = c.args.self.now in
    let e = c.emit-reference in
    assign_becomes c.args.i b b c.args.wires.now e.new.self c.instruction_wire.result e.result c.instruction_wire.ensures e.ensures.added e.ensures.reference refl refl
    (let l : length (values_of b) ≤ c.args.i.d = omega (arith, length-take b.registers b.values, c.if-d-self.false) in sym (set_past (values_of b) c.args.i.d e.result l))
