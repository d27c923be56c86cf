-- `bounds::cycle::put_next` meets its contract: the first i words are put, the others as they were. Assumes nothing.
use Rattle.std.proofs.Common.{ℕ, List, set, ap, ◌∙◌, arith}
use Rattle.bounds.specs.Bounds.{range_at}
use Rattle.bounds.specs.Cycle.{bounds_of}
use Rattle.bounds.proofs.CycleBounds.{put_more}
use Rattle.bounds.proofs.cycle.put_next.Goals as goal

pub loop-i-preserved : goal.loop-i-preserved
loop-i-preserved c =
    let a = c.args in
    let l = c.loop-i in
    let r = c.read-range in (
      ap (λ (x : List ℕ). set x l.i r.result.low) l.invariant.0
          ∙ put_more (λ x. (range_at (bounds_of a.ranges.now) x).low) a.references.now a.lowest.now l.i r.result.low c.loop-i-test.true (omega arith) (rw r.ensures),
      ap (λ (x : List ℕ). set x l.i r.result.high) l.invariant.1
          ∙ put_more (λ x. (range_at (bounds_of a.ranges.now) x).high) a.references.now a.highest.now l.i r.result.high c.loop-i-test.true (omega arith) (rw r.ensures),
    )
