-- `state::wires::WireList::place_all` meets its contract. Assumes nothing.
use mathlib.Core.Path.{◌≡◌}
use lib.ListN.{length}
use Rattle.state.proofs.BlocksLaws.{Placing}
use Rattle.state.proofs.wires.WireList.place_all.Given as goal

abbrev pub invariant-loop-block : goal.invariant-loop-block
invariant-loop-block l =
    (length l.arrivals ≡ length l.initial.arrivals)
    × Placing l.initial.self l.graph.words.now l.groups.starters l.order l.initial.arrivals l.block-index l.edges l.self l.arrivals
