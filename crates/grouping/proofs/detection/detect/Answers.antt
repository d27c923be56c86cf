-- `grouping::detection::detect` meets its contract: each pass of its loops is a step of `VisitSteps`. Assumes nothing.
use Prim.Native.Nat.{◌<◌}
use mathlib.Core.Path.{refl, sym, ◌∙◌}
use mathlib.Core.Bool.{true}
use mathlib.Core.List.{[]}
use native.Mathlib.Omega.{arith}
use lib.ListN.{get_or, set}
use Rattle.cfg.specs.Layout.{max_blocks}
use Rattle.grouping.proofs.VisitSteps.{byte_read, empty, rest_pops, steps_begin, visit_passes, visit_skips, visit_enters, enter_falls, visit_pops}
use Rattle.grouping.proofs.DetectionTracks.{sighted, unseen, detect_begins, detect_ends, detect_stops, detect_meets, detect_knows}
use Rattle.grouping.proofs.detection.detect.Goals as goal

pub visit-init : goal.visit-init
visit-init c = rw (c.push.ensures.items, c.new-stack.ensures) (record { rest = detect_begins c.args.edges.now c.args.starters.now c.args.states.now; none = refl })

pub edges-init : goal.edges-init
edges-init c = record { at = rest_pops c.visit.invariant.rest c.in-Some.frame c.pop.new.self.items c.in-Some.ensures.items; none = c.visit.invariant.none; falls = omega arith }

pub visit-preserved : goal.visit-preserved
visit-preserved c = let i = c.edges.invariant in record { rest = visit_pops i.at c.edges-test.false (sighted c.edges.seen) refl i.at.fit (omega arith); none = i.none }

pub visit-smaller : goal.visit-smaller
visit-smaller c =
    omega (arith, c.edges.invariant.falls, steps_begin unseen (sighted c.visit.seen) c.visit.stack.items c.pop.new.self.items c.in-Some.frame c.in-Some.ensures.items)

pub edges-preserved-then-not-seen-from : goal.edges-preserved-then-not-seen-from
edges-preserved-then-not-seen-from c =
    let i = c.edges.invariant in
    let to = get_or (get_or c.args.edges.now c.from.result []) c.from-in-edges.result 0 in
    let at = byte_read c.args.edges.now _ _ _ _ c.told-edges i.at.block c.from.ensures c.from-in-edges.ensures in
    let low : to < max_blocks = omega (arith, c.from-in-edges-2.ensures, c.if-from-lt-BLOCKS.true) in
    let m = detect_meets c.args.edges.now c.args.starters.now c.args.states.now i.at c.edges-test.true _ at low (sym c.is_illegal.ensures ∙ c.if-is_illegal.false) (rw c.from-then-from-lt-BLOCKS.ensures at c.if-not-seen-from.true) in
    let f = enter_falls i.at c.edges-test.true _ at low (sighted (set c.edges.seen to true)) m in
    rw (c.push-then-not-seen-from.ensures.items, c.from-then-not-seen-from.ensures)
    (record { at = visit_enters i.at c.edges-test.true _ at low (sighted (set c.edges.seen to true)) m; none = i.none; falls = omega (arith, f, i.falls) })

pub edges-smaller-then-not-seen-from : goal.edges-smaller-then-not-seen-from
edges-smaller-then-not-seen-from c =
    let i = c.edges.invariant in
    let to = get_or (get_or c.args.edges.now c.from.result []) c.from-in-edges.result 0 in
    let at = byte_read c.args.edges.now _ _ _ _ c.told-edges i.at.block c.from.ensures c.from-in-edges.ensures in
    let low : to < max_blocks = omega (arith, c.from-in-edges-2.ensures, c.if-from-lt-BLOCKS.true) in
    let m = detect_meets c.args.edges.now c.args.starters.now c.args.states.now i.at c.edges-test.true _ at low (sym c.is_illegal.ensures ∙ c.if-is_illegal.false) (rw c.from-then-from-lt-BLOCKS.ensures at c.if-not-seen-from.true) in
    rw (c.push-then-not-seen-from.ensures.items, c.from-then-not-seen-from.ensures) (enter_falls i.at c.edges-test.true _ at low (sighted (set c.edges.seen to true)) m)

pub edges-preserved-else-not-seen-from : goal.edges-preserved-else-not-seen-from
edges-preserved-else-not-seen-from c =
    let i = c.edges.invariant in
    let at = byte_read c.args.edges.now _ _ _ _ c.told-edges i.at.block c.from.ensures c.from-in-edges.ensures in
    let low : get_or (get_or c.args.edges.now c.from.result []) c.from-in-edges.result 0 < max_blocks = omega (arith, c.from-in-edges-2.ensures, c.if-from-lt-BLOCKS.true) in
    let m = detect_knows c.args.edges.now c.args.starters.now c.args.states.now i.at c.edges-test.true _ at low (sym c.is_illegal.ensures ∙ c.if-is_illegal.false) (rw c.from-then-from-lt-BLOCKS.ensures at c.if-not-seen-from.false) in
    record { at = visit_skips i.at c.edges-test.true _ at low (sighted c.edges.seen) m; none = i.none; falls = omega (arith, i.falls) }

pub edges-preserved : goal.edges-preserved
edges-preserved c =
    let i = c.edges.invariant in
    let at = byte_read c.args.edges.now _ _ _ _ c.told-edges i.at.block c.from.ensures c.from-in-edges.ensures in
    record { at = visit_passes i.at c.edges-test.true _ at (omega (arith, c.from-in-edges-2.ensures, c.if-from-lt-BLOCKS.false)); none = i.none; falls = omega (arith, i.falls) }

pub returns-then-is_illegal : goal.returns-then-is_illegal
returns-then-is_illegal c =
    let i = c.edges.invariant in
    let at = byte_read c.args.edges.now _ _ _ _ c.told-edges i.at.block c.from.ensures c.from-in-edges.ensures in
    detect_stops c.args.edges.now c.args.starters.now c.args.states.now i.at c.edges-test.true _ at (omega (arith, c.from-in-edges-2.ensures, c.if-from-lt-BLOCKS.true)) (sym c.is_illegal.ensures ∙ c.if-is_illegal.true)

pub returns-in_default : goal.returns-in_default
returns-in_default c = c.visit.invariant.none ∙ detect_ends _ _ _ _ _ c.visit.invariant.rest (empty c.visit.stack.items c.in_default.ensures.variant.1)
