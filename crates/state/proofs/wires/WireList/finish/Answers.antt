-- `state::wires::WireList::finish`: the blocks placed, then the exits. Assumes nothing.
use lib.ListN.{take}
use Rattle.state.proofs.BlocksLaws.{blocks_room, leave_room, left_all}
use Rattle.state.proofs.wires.WireList.finish.Goals as goal

pub place_all-requires-clause-room : goal.place_all-requires-clause-room
place_all-requires-clause-room c =
    let a = c.args in
    blocks_room a.self.now a.graph.words.now a.groups.now a.order.now c.requires.room

pub leave-requires : goal.leave-requires
leave-requires c =
    let a = c.args in
    let p = c.place_all in
    leave_room a.self.now a.graph.words.now a.groups.now a.order.now p.new.edges p.new.self p.ensures.grown c.requires.room

pub returns-clause-held : goal.returns-clause-held
returns-clause-held c =
    let a = c.args in
    let p = c.place_all in
    let e = c.leave.result in
    left_all a.self.now a.graph.words.now a.groups.now a.order.now p.new.edges p.new.self p.ensures.grown e.next (take e.used e.registers) e.wires c.leave.new.self.words.now c.leave.ensures.held
