-- `state::joins::BlockProgress::exit` meets its contract. Assumes nothing.
use Prim.Native.Nat.{◌+◌}
use native.Mathlib.Omega.{arith}
use mathlib.Core.Path.{refl}
use Rattle.state.proofs.StepLaws.{room_le, adds_on, adds_room}
use Rattle.state.proofs.ExitLaws.{exit_room, exit_becomes}
use Rattle.state.proofs.joins.BlockProgress.exit.Goals as goal

pub emit-state-requires : goal.emit-state-requires
emit-state-requires c =
    let a = c.args in
    let b = a.self.now in
    let w = a.wires.now in
    room_le (w.count + 1) (w.count + 2 + b.registers) (omega arith) refl (exit_room a.groups.now b w a.edge.now (omega arith) (omega arith) c.requires)

pub emit-arrival-requires : goal.emit-arrival-requires
emit-arrival-requires c =
    let a = c.args in
    let b = a.self.now in
    let w = a.wires.now in
    let h = c.emit-state.ensures.added in
    adds_room (c.emit-state.new.self.count + 1) (w.count + 2 + b.registers) h (omega (arith, h.count)) (exit_room a.groups.now b w a.edge.now (omega arith) (omega arith) c.requires)

pub select-requires : goal.select-requires
select-requires c =
    let a = c.args in
    let b = a.self.now in
    let w = a.wires.now in
    let h = c.emit-state.ensures.added in
    let k = c.emit-arrival.ensures.added in
    adds_room (c.emit-arrival.new.self.count + b.registers) (w.count + 2 + b.registers) (adds_on h k) (omega (arith, h.count, k.count)) (exit_room a.groups.now b w a.edge.now (omega arith) (omega arith) c.requires)

pub returns : goal.returns
returns c =
    let a = c.args in
    let s = c.select in
    exit_becomes a.groups.now a.self.now _ a.edge.now a.wires.now c.emit-state.new.self c.emit-arrival.new.self s.new.wires c.next_state.result c.wire.result c.wire-2.result
    c.emit-state.result c.emit-arrival.result (omega arith) c.next_state.ensures c.wire.ensures c.emit-state.ensures.added c.emit-state.ensures.reference
    c.wire-2.ensures c.emit-arrival.ensures.added c.emit-arrival.ensures.reference s.ensures.wires refl s.ensures.kept.1 s.ensures.values
