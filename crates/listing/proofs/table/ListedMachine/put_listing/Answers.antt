-- `listing::table::ListedMachine::put_listing` meets its contract: the first line, then those of the states. Assumes nothing.
use native.Mathlib.Omega.{arith}
use mathlib.Core.Path.{refl}
use Rattle.std.proofs.Common.{rules}
use Rattle.cfg_write.proofs.PutLaws.{wrote_then, wrote_as}
use Rattle.listing.specs.Listing.{max_listing}
use Rattle.listing.specs.Words.{table_listing, head_line_at}
use Rattle.listing.proofs.table.ListedMachine.put_listing.Goals as goal

pub returns : goal.returns
unfolding table_listing head_line_at
returns c =
    let head = rw (c.head.ensures.states_value, c.wires.ensures) at c.put_head.ensures in
    let h = wrote_as max_listing (table_listing c.args.self.table.words.now) (omega arith) refl (wrote_then head c.put_lines.ensures) in
    let p = rw (c.new-writer.ensures.from_front.0, c.new-writer.ensures.from_front.1) at h.put in
    let q = h.same_buffer in
    search (p, rules)
