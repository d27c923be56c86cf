-- `state::wires::WireList::put` meets its contract. Assumes nothing.
use Rattle.cfg.specs.Table.{block_at}
use Rattle.state.proofs.PutLaws.{enter_fits, assigns_fit, close_fits, put_registers, put_grown}
use Rattle.state.proofs.wires.WireList.put.Goals as goal

pub enter-entered-requires-clause-room : goal.enter-entered-requires-clause-room
enter-entered-requires-clause-room c =
    let a = c.args in
    enter_fits a.starter (block_at a.graph.words.now a.x) a.x a.edges.now a.self.now c.requires.room

pub assign_all-requires-clause-room : goal.assign_all-requires-clause-room
assign_all-requires-clause-room c =
    let a = c.args in
    assigns_fit a.starter (block_at a.graph.words.now a.x) a.x a.edges.now a.self.now c.enter-entered.ensures c.requires.room

pub close-requires-clause-registers : goal.close-requires-clause-registers
close-requires-clause-registers c =
    let a = c.args in
    put_registers a.starter (block_at a.graph.words.now a.x) a.x a.edges.now a.self.now c.enter-entered.ensures c.assign_all.ensures

pub close-requires-clause-room : goal.close-requires-clause-room
close-requires-clause-room c =
    let a = c.args in
    close_fits a.starter (block_at a.graph.words.now a.x) a.x a.edges.now a.self.now c.enter-entered.ensures c.assign_all.ensures c.requires.room

pub returns-clause-grown : goal.returns-clause-grown
returns-clause-grown c =
    let a = c.args in
    let k = c.assign_all in
    put_grown a.starter (block_at a.graph.words.now a.x) a.x a.edges.now a.self.now c.enter-entered.ensures k.ensures
    c.use_up.new.self c.close.new.edges c.close.new.wires (c.use_up.ensures.others k.new.wires.registers) c.close.ensures.grown
