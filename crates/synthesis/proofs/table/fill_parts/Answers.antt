-- `synthesis::table::fill_parts` meets its contract. Assumes nothing.
use mathlib.Core.Path.{refl, sym, ap, ◌∙◌}
use Rattle.cfg.specs.Table.{graph_of}
use Rattle.fsmd.specs.Table.{machine_table_of}
use Rattle.synthesis.proofs.SynthesisedMachine.{machine_is}
use Rattle.synthesis.proofs.MachineTable.{its, finished, grouping_is}
use Rattle.synthesis.proofs.ArrivalWords.{none_listed}
use Rattle.synthesis.proofs.TableFilled.{begun, parts_filled}
use Rattle.synthesis.proofs.table.fill_parts.Goals as goal

pub all_states-requires-clause-written : goal.all_states-requires-clause-written
all_states-requires-clause-written c =
    let g = c.args.graph in
    let t = g.words.now in
    let r = c.group.result in
    let e = c.group.ensures ∙ grouping_is t in
    ((begun t g.admitted (its t) (finished t g.admitted) r e c.write_head.new.table (c.write_head.auto.table ∙ c.requires.0) (c.write_head.ensures ∙ rw (c.registers.ensures, c.starter_bytes.ensures, c.list-starters.ensures.list) refl)).0, c.requires.1 ∙ sym (none_listed t (its t)))

pub returns : goal.returns
returns c =
    let g = c.args.graph in
    let t = g.words.now in
    let r = c.group.result in
    let e = c.group.ensures ∙ grouping_is t in
    parts_filled t g.admitted (its t) (finished t g.admitted) r e c.write_head.new.table c.all_states.new.table c.all_states.new.arrivals (c.write_head.auto.table ∙ c.requires.0)
    (c.write_head.ensures ∙ rw (c.registers.ensures, c.starter_bytes.ensures, c.list-starters.ensures.list) refl) c.all_states.ensures.states c.all_states.ensures.arrivals
    ∙ ap machine_table_of (sym (machine_is (graph_of t)))
