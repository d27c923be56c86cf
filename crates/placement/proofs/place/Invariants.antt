-- `placement::place` meets its contract: what is placed so far, and what the counts choose of those left, are the whole. Assumes nothing.
use Prim.Native.Nat.{◌-◌}
use lib.ListN.{length}
use Rattle.placement.proofs.PlacementSteps.{PlacingIn}
use Rattle.placement.proofs.place.Given as goal

abbrev pub invariant-loop-i : goal.invariant-loop-i
invariant-loop-i l = PlacingIn l.edges l.starts l.states l.k l.blocks.items l.waits l.count

abbrev pub decreases-loop-i : goal.decreases-loop-i
decreases-loop-i l = length l.blocks.items - l.count
