-- `listing::table::ListedMachine::put_lines` meets its contract: the lines of the states passed are written. Assumes nothing.
use Prim.Native.Nat.{◌*◌}
use Rattle.runs.specs.Lists.{up_from, concat_map}
use Rattle.cfg_write.specs.Put.{Wrote}
use Rattle.listing.specs.Words.{state_line_at}
use Rattle.listing.proofs.table.ListedMachine.put_lines.Given as goal

abbrev pub invariant-loop-k : goal.invariant-loop-k
invariant-loop-k l = Wrote (44 * l.k) l.initial.writer l.writer (concat_map (state_line_at l.self.table.words.now) (up_from 0 l.k))
