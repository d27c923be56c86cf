-- `listing::table::ListedMachine::put_lines` meets its contract: the lines of the states passed are written. Assumes nothing.
use native.Mathlib.Omega.{arith}
use mathlib.Core.Path.{◌≡◌, refl}
use Rattle.runs.specs.Lists.{up_from, concat_map}
use Rattle.fsmd.specs.Table.{state_count}
use Rattle.cfg_write.proofs.PutLaws.{wrote_none, wrote_as}
use Rattle.listing.specs.Words.{state_line_at, state_lines_at}
use Rattle.listing.proofs.Puts.{wrote_each}
use Rattle.listing.proofs.table.ListedMachine.put_lines.Goals as goal

pub loop-k-init : goal.loop-k-init
unfolding concat_map
loop-k-init c = wrote_none c.args.writer.now

pub loop-k-preserved : goal.loop-k-preserved
loop-k-preserved c = wrote_each 44 (state_line_at c.args.self.table.words.now) c.loop-k.k c.loop-k.invariant c.put_line.ensures

pub returns : goal.returns
unfolding state_lines_at
returns c =
    let t = c.args.self.table.words.now in
    let few = c.args.self.few_states in
    let all : c.loop-k.k ≡ state_count t = omega (arith, c.loop-k-test.false, c.loop-k.auto.k-end, c.head-k-end.ensures.states_value) in
    wrote_as 2816 (concat_map (state_line_at t) (up_from 0 (state_count t))) (omega arith) (rw all refl) c.loop-k.invariant
