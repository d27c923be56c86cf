-- `state::joins::BlockProgress::join` meets its contract. Assumes nothing.
use mathlib.Core.Path.{refl}
use native.Mathlib.Omega.{arith}
use Prim.Native.Nat.{◌+◌}
use Rattle.state.proofs.StepLaws.{room_le, adds_room}
use Rattle.state.proofs.JoinLaws.{join_becomes, join_room}
use Rattle.state.proofs.joins.BlockProgress.join.Goals as goal

pub emit-arrival-requires : goal.emit-arrival-requires
emit-arrival-requires c =
    let b = c.args.self.now in
    let w = c.args.wires.now in
    room_le (w.count + 1) (w.count + 1 + b.registers) (omega arith) refl (join_room b w c.args.edge.now (omega arith) (omega arith) c.requires)

pub select-requires : goal.select-requires
select-requires c =
    let b = c.args.self.now in
    let w = c.args.wires.now in
    let h = c.emit-arrival.ensures.added in
    adds_room (c.emit-arrival.new.self.count + b.registers) (w.count + 1 + b.registers) h (omega (arith, h.count)) (join_room b w c.args.edge.now (omega arith) (omega arith) c.requires)

pub returns : goal.returns
returns c =
    let s = c.select in
    join_becomes c.args.self.now _ c.args.edge.now c.args.wires.now c.emit-arrival.new.self s.new.wires c.wire.result c.emit-arrival.result (omega arith)
    c.wire.ensures c.emit-arrival.ensures.added s.ensures.wires c.emit-arrival.ensures.reference refl s.ensures.kept.1 s.ensures.values
