-- `state::wires::WireList::place_all` meets its contract. Assumes nothing.
use mathlib.Core.Path.{refl, ◌∙◌}
use native.Mathlib.Omega.{arith}
use lib.ListN.{length-set}
use Rattle.state.proofs.BlocksLaws.{placing_first, placing_room, placing_next, placing_done, placing_listed}
use Rattle.state.proofs.wires.WireList.place_all.Goals as goal

pub loop-block-init : goal.loop-block-init
loop-block-init c =
    let a = c.args in
    (refl, placing_first a.self.now a.graph.words.now a.groups.now.starters a.order.now a.edges.now a.arrivals.now c.requires.nothing.1 c.requires.nothing.0)

pub put-requires-clause-room : goal.put-requires-clause-room
put-requires-clause-room c =
    let a = c.args in
    placing_room a.self.now a.graph.words.now a.groups.now.starters a.order.now c.loop-block.invariant.1 c.loop-block-test.true c.from-x.result c.is_starter.result c.from-x.ensures c.is_starter.ensures c.requires.room

pub bounds-arrivals-x : goal.bounds-arrivals-x
bounds-arrivals-x c =
    omega (arith, (c.requires.all_placeable.each c.loop-block.block-index c.loop-block-test.true).known, c.from-x.ensures)

pub loop-block-preserved : goal.loop-block-preserved
loop-block-preserved c =
    let a = c.args in
    let l = c.loop-block in
    let u = c.put in (
      length-set l.arrivals c.from-x.result u.result ∙ l.invariant.0,
      placing_next a.self.now a.graph.words.now a.groups.now.starters a.order.now l.invariant.1 c.loop-block-test.true c.from-x.result c.is_starter.result c.from-x.ensures c.is_starter.ensures
          u.new.edges u.new.self u.result u.ensures.grown u.ensures.arrival u.ensures.few_edges,
    )

pub returns-clause-grown : goal.returns-clause-grown
returns-clause-grown c =
    let a = c.args in
    placing_done a.self.now a.graph.words.now a.groups.now.starters a.order.now c.loop-block.invariant.1 c.loop-block-test.false

pub returns-clause-arrivals : goal.returns-clause-arrivals
returns-clause-arrivals c =
    let a = c.args in
    placing_listed a.self.now a.graph.words.now a.groups.now.starters a.order.now c.loop-block.invariant.1 c.loop-block-test.false
