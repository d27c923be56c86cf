-- `cfg::starters::mark` meets its contract. Assumes nothing.
use native.Mathlib.Omega.{arith}
use mathlib.Core.Bool.{true, false, or-false}
use mathlib.Core.Path.{refl, sym, ◌∙◌}
use lib.Dec.{ltb}
use lib.ListN.{get_or, drop_of_length-le, length-set}
use borrow.Author.Tests.{ltb-true}
use Rattle.runs.proofs.ListLaws.{every_at}
use Rattle.cfg.specs.Layout.{max_blocks}
use Rattle.cfg.proofs.Marking.{none_marked, marked_next}
use Rattle.cfg.proofs.starters.mark.Goals as goal

pub loop-s-init : goal.loop-s-init
loop-s-init c = (refl, none_marked c.args.starters.now)

pub loop-s-preserved : goal.loop-s-preserved
loop-s-preserved c =
    let starters = c.args.starters.now in
    let l = c.loop-s in
    let at = l.s-index in
    let h = ltb-true (get_or starters at 0) max_blocks (every_at (λ s. ltb s max_blocks) starters c.requires at 0 c.loop-s-test.true) in (
      length-set l.marks (get_or starters at 0) true ∙ l.invariant.0,
      λ b. marked_next l.marks starters at c.loop-s-test.true (omega (arith, l.invariant.0)) b ∙ l.invariant.1 b,
    )

pub returns : goal.returns
returns c b =
    let e = drop_of_length-le c.args.starters.now {i = c.loop-s.s-index} c.loop-s-test.false in
    sym (or-false (get_or c.loop-s.marks b false)) ∙ (rw e at (c.loop-s.invariant.1 b))
