-- `bounds::cycle::wire_range` meets its contract: a set's literal, or the range of another code. Assumes nothing.
use Rattle.std.proofs.Common.{◌∙◌}
use Rattle.bounds.specs.Bounds.{range_at}
use Rattle.bounds.specs.Cycle.{bounds_of}
use Rattle.bounds.proofs.CycleBounds.{range_set, range_other}
use Rattle.bounds.proofs.cycle.wire_range.Goals as goal

pub returns-then-w-eq-SET : goal.returns-then-w-eq-SET
returns-then-w-eq-SET c = c.exact.ensures ∙ range_set (range_at (bounds_of c.args.ranges.now)) c.args.w c.if-w-eq-SET.true

pub returns : goal.returns
returns c =
    let x = c.read-a in
    let y = c.read-b in
    let z = c.read-c in
    c.range_of.ensures
    ∙ range_other (range_at (bounds_of c.args.ranges.now)) c.args.w x.result y.result z.result x.ensures y.ensures z.ensures c.if-w-eq-SET.false
