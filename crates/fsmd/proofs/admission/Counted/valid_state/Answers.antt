-- `fsmd::admission::Counted::valid_state` meets its contract: its wires end within those of the machine. Assumes nothing.
use Rattle.std.proofs.Common.{◌+◌, arith}
use borrow.Author.Tests.{leb-true}
use Rattle.runs.proofs.Every.{below_at}
use Rattle.fsmd.specs.Layout.{max_wires}
use Rattle.fsmd.specs.Table.{within, first_wire_at, wire_count_at}
use Rattle.fsmd.proofs.admission.Counted.valid_state.Goals as goal

pub valid_wires-requires : goal.valid_wires-requires
valid_wires-requires c =
    let m = c.args.self in
    let t = m.table.words.now in
    let k = c.args.k in
    let inside = leb-true (first_wire_at t k + wire_count_at t k) max_wires (below_at (within t) m.states k c.requires.all_within c.requires.k_lt_states) in
    omega (arith, inside, c.first_wire.ensures.value, c.wire_count-count.ensures.value)
