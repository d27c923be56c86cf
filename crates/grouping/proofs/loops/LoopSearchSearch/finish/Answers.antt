-- `LoopSearch::finish` meets its contract. Assumes nothing.
use mathlib.Core.Path.{refl, ◌∙◌}
use lib.ListN.{length-set}
use Rattle.grouping.specs.declared.loops.Mark.TheVariants.{Finished}
use Rattle.grouping.specs.Searches.{is_new}
use Rattle.grouping.proofs.Blanks.{blanks_more}
use Rattle.grouping.proofs.loops.LoopSearchSearch.finish.Goals as goal

pub returns-clause-ready : goal.returns-clause-ready
returns-clause-ready c = let s = c.args.self.now in (length-set s.marks c.from.result Finished ∙ c.requires.ready, blanks_more is_new s.marks c.from.result Finished refl)
