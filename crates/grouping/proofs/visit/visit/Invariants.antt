-- `grouping::visit::visit` meets its contract: each pass of its loops is a step of `VisitSteps`. Assumes nothing.
use Prim.Native.Nat.{◌≤◌}
use Rattle.grouping.specs.Bytes.{visit_in}
use Rattle.grouping.proofs.VisitSteps.{Visiting, Resting, steps, rests}
use Rattle.grouping.proofs.visit.visit.Given as goal

abbrev pub invariant-visit : goal.invariant-visit
invariant-visit g l = Resting g.S.Search.visitor g.S.Search.ready g.S.Search.unseen l.edges (visit_in g.S.Search.visitor l.edges l.root l.fn.search) l.search l.stack.items

abbrev pub decreases-visit : goal.decreases-visit
decreases-visit g l = rests g.S.Search.unseen l.search l.stack.items

abbrev pub invariant-edges : goal.invariant-edges
invariant-edges g l =
    record {
      at : Visiting g.S.Search.visitor g.S.Search.ready g.S.Search.unseen l.edges (visit_in g.S.Search.visitor l.edges l.root l.fn.search) l.search l.stack.items l.frame;
      falls : steps g.S.Search.unseen l.search l.stack.items l.frame ≤ steps g.S.Search.unseen l.initial.search l.initial.stack.items l.initial.frame;
    }

abbrev pub decreases-edges : goal.decreases-edges
decreases-edges g l = steps g.S.Search.unseen l.search l.stack.items l.frame
