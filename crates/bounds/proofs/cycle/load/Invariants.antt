-- `bounds::cycle::load` meets its contract: the first i registers are loaded. Assumes nothing.
use Rattle.std.proofs.Common.{◌≡◌, take}
use Rattle.bounds.specs.Bounds.{first_bounds}
use Rattle.bounds.specs.Cycle.{bounds_of}
use Rattle.bounds.proofs.cycle.load.Given as goal

abbrev pub invariant-loop-i : goal.invariant-loop-i
invariant-loop-i l = bounds_of (take l.i l.room) ≡ first_bounds l.i l.lowest l.highest
