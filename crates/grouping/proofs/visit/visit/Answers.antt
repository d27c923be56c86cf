-- `grouping::visit::visit` meets its contract: each pass of its loop is a step of `VisitSteps`. Assumes nothing.
use mathlib.Core.List.{[]}
use Prim.Native.Nat.{◌<◌}
use native.Mathlib.Omega.{arith}
use lib.ListN.{get_or}
use Rattle.cfg.specs.Layout.{max_blocks}
use Rattle.grouping.proofs.VisitSteps.{byte_read, empty, rest_begins, rest_ends, rest_pops, steps_begin, visit_passes, pass_falls, visit_skips, skip_falls, visit_enters, enter_falls, visit_pops}
use Rattle.grouping.proofs.visit.visit.Goals.{else-from-lt-BLOCKS-via-then-from-lt-BLOCKS+else-meet, else-from-lt-BLOCKS-via-else-from-lt-BLOCKS}
use Rattle.grouping.proofs.visit.visit.Goals as goal

pub visit-init : goal.visit-init
visit-init g c = rw (c.push.ensures.items, c.new-stack.ensures) (rest_begins _ _ _ _ _ _ c.requires.ready c.requires.room c.requires.root)

pub edges-init : goal.edges-init
edges-init g c = record { at = rest_pops c.visit.invariant c.in-Some.frame c.pop.new.self.items c.in-Some.ensures.items; falls = omega arith }

pub edges-preserved-then-meet : goal.edges-preserved-then-meet
edges-preserved-then-meet g c =
    let i = c.edges.invariant in
    let at = byte_read c.args.edges.now _ _ _ _ c.told-edges i.at.block c.from.ensures c.from-in-edges.ensures in
    let low : get_or (get_or c.args.edges.now c.from.result []) c.from-in-edges.result 0 < max_blocks = omega (arith, c.from-in-edges-2.ensures, c.if-from-lt-BLOCKS.true) in
    let f = enter_falls i.at c.edges-test.true _ at low c.meet.new.self (c.if-meet.ensures _) in
    rw c.push-then-meet.ensures.items (record { at = visit_enters i.at c.edges-test.true _ at low c.meet.new.self (c.if-meet.ensures _); falls = omega (arith, f, i.falls) })

pub edges-smaller-then-meet : goal.edges-smaller-then-meet
edges-smaller-then-meet g c =
    let i = c.edges.invariant in
    let at = byte_read c.args.edges.now _ _ _ _ c.told-edges i.at.block c.from.ensures c.from-in-edges.ensures in
    rw c.push-then-meet.ensures.items (enter_falls i.at c.edges-test.true _ at (omega (arith, c.from-in-edges-2.ensures, c.if-from-lt-BLOCKS.true)) c.meet.new.self (c.if-meet.ensures _))

pub edges-preserved : goal.edges-preserved
edges-preserved g c =
    let i = c.edges.invariant in
    let at = byte_read c.args.edges.now _ _ _ _ c.told-edges i.at.block c.from.ensures c.from-in-edges.ensures in
    elim c.else-from-lt-BLOCKS.branch [
      | else-from-lt-BLOCKS-via-then-from-lt-BLOCKS+else-meet w ↦
          let low : get_or (get_or c.args.edges.now c.from.result []) c.from-in-edges.result 0 < max_blocks = omega (arith, c.from-in-edges-2.ensures, w.if-from-lt-BLOCKS.true) in
          let f = skip_falls i.at c.edges-test.true _ at low w.meet.new.self (w.if-meet.ensures _) in
          rw w.search-is (record { at = visit_skips i.at c.edges-test.true _ at low w.meet.new.self (w.if-meet.ensures _); falls = omega (arith, f, i.falls) })
      | else-from-lt-BLOCKS-via-else-from-lt-BLOCKS w ↦
          rw w.search-is (record { at = visit_passes i.at c.edges-test.true _ at (omega (arith, c.from-in-edges-2.ensures, w.if-from-lt-BLOCKS.false)); falls = omega (arith, i.falls) })
    ]

pub edges-smaller : goal.edges-smaller
edges-smaller g c =
    let i = c.edges.invariant in
    let at = byte_read c.args.edges.now _ _ _ _ c.told-edges i.at.block c.from.ensures c.from-in-edges.ensures in
    elim c.else-from-lt-BLOCKS.branch [
      | else-from-lt-BLOCKS-via-then-from-lt-BLOCKS+else-meet w ↦
          rw w.search-is (skip_falls i.at c.edges-test.true _ at (omega (arith, c.from-in-edges-2.ensures, w.if-from-lt-BLOCKS.true)) w.meet.new.self (w.if-meet.ensures _))
      | else-from-lt-BLOCKS-via-else-from-lt-BLOCKS w ↦
          rw w.search-is (pass_falls i.at c.edges-test.true _ at)
    ]

pub visit-preserved : goal.visit-preserved
visit-preserved g c = visit_pops c.edges.invariant.at c.edges-test.false c.finish.new.self c.finish.ensures.finished c.finish.ensures.ready.0 c.finish.ensures.ready.1

pub visit-smaller : goal.visit-smaller
visit-smaller g c =
    omega (arith, c.edges.invariant.falls, c.finish.ensures.ready.1, steps_begin g.S.Search.unseen c.visit.search c.visit.stack.items c.pop.new.self.items c.in-Some.frame c.in-Some.ensures.items)

pub returns : goal.returns
returns g c = rest_ends c.visit.invariant (empty c.visit.stack.items c.in_default.ensures.variant.1)
