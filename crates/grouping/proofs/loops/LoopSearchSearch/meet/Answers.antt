-- `LoopSearch::meet` meets its contract. Assumes nothing.
use mathlib.Core.Path.{◌≡◌, refl, sym, ap, ◌∙◌}
use native.Mathlib.Omega.{arith}
use lib.ListN.{length-set, get_or}
use Rattle.grouping.specs.declared.loops.Mark.TheVariants.{New, OnPath}
use Rattle.grouping.specs.Searches.{is_new}
use Rattle.grouping.proofs.Blanks.{blanks_set}
use Rattle.grouping.proofs.loops.LoopSearchSearch.meet.Goals as goal

pub returns-in-New : goal.returns-in-New
returns-in-New c =
    let s = c.args.self.now in
    let new : get_or s.marks c.args.block New ≡ New = ap (λ k. get_or s.marks k New) (sym c.from.ensures) ∙ c.in-New.is in
    let filled = blanks_set is_new s.marks c.args.block New OnPath (omega (arith, c.requires.ready, c.requires.low)) (ap is_new new) refl in
    rw c.from-in-New.ensures (λ path. (rw new refl, refl, length-set s.marks c.args.block OnPath ∙ c.requires.ready, omega (arith, filled)))
