-- `bounds::cycle::put_next` meets its contract: the first i words are put, the others as they were. Assumes nothing.
use Rattle.std.proofs.Common.{◌≡◌, ◌++◌, map, take, drop}
use Rattle.bounds.specs.Bounds.{range_at}
use Rattle.bounds.specs.Cycle.{bounds_of}
use Rattle.bounds.proofs.cycle.put_next.Given as goal

abbrev pub invariant-loop-i : goal.invariant-loop-i
invariant-loop-i l =
    (l.lowest ≡ map (λ x. (range_at (bounds_of l.ranges) x).low) (take l.i l.references) ++ drop l.i l.initial.lowest)
    × (l.highest ≡ map (λ x. (range_at (bounds_of l.ranges) x).high) (take l.i l.references) ++ drop l.i l.initial.highest)
