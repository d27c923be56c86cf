-- `listing::table::ListedMachine::put_line` meets its contract: the fields are the table's words. Assumes nothing.
use Rattle.listing.specs.Words.{state_line_at}
use Rattle.listing.proofs.table.ListedMachine.put_line.Goals as goal

pub returns : goal.returns
unfolding state_line_at
returns c = rw (c.blocks-2.ensures, c.wire_count-wires.ensures.value) at c.put_state.ensures
