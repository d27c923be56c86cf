-- `grouping::detection::detect` meets its contract: each pass of its loops is a step of `VisitSteps`. Assumes nothing.
use Prim.Native.Nat.{◌≤◌}
use mathlib.Core.Path.{◌≡◌}
use mathlib.Core.Bool.{not}
use Rattle.std.specs.Prelude.{None}
use Rattle.grouping.specs.Marks.{blanks}
use Rattle.grouping.proofs.VisitSteps.{work}
use Rattle.grouping.proofs.DetectionTracks.{DetectVisit, DetectEdges}
use Rattle.grouping.proofs.detection.detect.Given as goal
use Prim.Native.Nat.{suc, ◌+◌, ◌-◌, ◌*◌}

abbrev pub invariant-visit : goal.invariant-visit
invariant-visit l = record { rest : DetectVisit l.edges l.starters l.states l.seen l.stack.items; none : l.found ≡ None }

abbrev pub decreases-visit : goal.decreases-visit
decreases-visit l = 4 * blanks not l.seen + work l.stack.items

abbrev pub invariant-edges : goal.invariant-edges
invariant-edges l =
    record {
      at : DetectEdges l.edges l.starters l.states l.seen l.stack.items l.frame;
      none : l.found ≡ None;
      falls : 4 * blanks not l.seen + (suc (2 - l.frame.passed) + work l.stack.items) ≤ 4 * blanks not l.initial.seen + (suc (2 - l.initial.frame.passed) + work l.initial.stack.items);
    }

abbrev pub decreases-edges : goal.decreases-edges
decreases-edges l = 4 * blanks not l.seen + (suc (2 - l.frame.passed) + work l.stack.items)
