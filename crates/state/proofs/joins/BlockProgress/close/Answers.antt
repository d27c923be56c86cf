-- `state::joins::BlockProgress::close` meets its contract. Assumes nothing.
use mathlib.Core.Path.{sym}
use Rattle.state.proofs.CloseLaws.{close_goto, close_halt, close_ite, ite_room}
use Rattle.state.proofs.joins.BlockProgress.close.Goals as goal

pub branch-yes-requires : goal.branch-yes-requires
branch-yes-requires c =
    let a = c.args in
    let i = c.in-Ite in
    ite_room a.self.now a.wires.now a.edges.now a.edges.now c.requires.registers _ i.c i.t i.f (sym i.ensures) c.requires.room

pub returns-in-Goto-clause-grown : goal.returns-in-Goto-clause-grown
returns-in-Goto-clause-grown c =
    let a = c.args in
    let b = a.self.now in
    close_goto b a.wires.now a.edges.now c.add.new.self c.requires.registers _ c.in-Goto.t c.edge.result (sym c.in-Goto.ensures) c.requires.room
    c.edge.ensures (c.add.ensures.added b.registers)

pub returns-in-Halt-clause-grown : goal.returns-in-Halt-clause-grown
returns-in-Halt-clause-grown c =
    let a = c.args in
    let b = a.self.now in
    close_halt b a.wires.now a.edges.now c.add-in-Halt.new.self c.requires.registers _ c.edge-in-Halt.result (sym c.in-Halt.ensures) c.requires.room
    c.edge-in-Halt.ensures (c.add-in-Halt.ensures.added b.registers)

pub returns-in-Ite-clause-grown : goal.returns-in-Ite-clause-grown
returns-in-Ite-clause-grown c =
    let a = c.args in
    let b = a.self.now in
    let i = c.in-Ite in
    let u = c.branch-yes in
    close_ite b a.wires.now a.edges.now c.add-in-Ite-2.new.self c.requires.registers _ i.c i.t i.f u.new.wires c.add-in-Ite.new.self u.result.0 u.result.1 c.edge-in-Ite.result c.edge-in-Ite-2.result
    (sym i.ensures) u.ensures.wires u.ensures.references.0 u.ensures.references.1
    c.edge-in-Ite.ensures (c.add-in-Ite.ensures.added b.registers) c.edge-in-Ite-2.ensures (c.add-in-Ite-2.ensures.added b.registers)
