-- `state::wires::WireList::leave` meets its contract. Assumes nothing.
use Rattle.state.proofs.ExitLaws.{no_entry, leave_none, leave_fits, leaving_fits, left}
use Rattle.state.proofs.wires.WireList.leave.Goals as goal

pub first_exit-last-requires : goal.first_exit-last-requires
first_exit-last-requires c =
    let w = c.args.self.now in
    let es = c.args.edges.now in
    leave_fits c.args.groups.now w.registers es w c.entries-entries.result.now c.entries-entries.ensures c.in-Some.first no_entry c.in-Some.ensures c.requires

pub exit_all-requires : goal.exit_all-requires
exit_all-requires c =
    let w = c.args.self.now in
    let es = c.args.edges.now in
    let f = c.first_exit-last in
    leaving_fits c.args.groups.now w.registers es w c.entries-entries.result.now c.entries-entries.ensures c.in-Some.first _ c.in-Some.ensures
    f.result f.new.wires f.ensures c.requires

pub returns-in-None-clause-held : goal.returns-in-None-clause-held
returns-in-None-clause-held c =
    let w = c.args.self.now in
    let es = c.args.edges.now in
    leave_none c.args.groups.now w.registers es w c.in-None.ensures c.requires

pub returns-in-Some-clause-held : goal.returns-in-Some-clause-held
returns-in-Some-clause-held c =
    let w = c.args.self.now in
    let es = c.args.edges.now in
    let f = c.first_exit-last in
    let e = c.exit_all in
    rw c.next_registers.ensures.values
    (left c.args.groups.now w.registers es w c.entries-entries.result.now c.entries-entries.ensures c.in-Some.first _ c.in-Some.ensures
    f.result f.new.wires f.ensures e.new.self e.new.wires e.ensures)
