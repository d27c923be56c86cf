-- `cfg::starters::marked` meets its contract. Assumes nothing.
use mathlib.Core.Path.{sym, ◌∙◌}
use Rattle.cfg.specs.Layout.{max_blocks}
use Rattle.cfg.proofs.Marking.{below_more}
use Rattle.cfg.proofs.starters.marked.Goals as goal

pub mark-marks-requires : goal.mark-marks-requires
mark-marks-requires c = below_more c.args.blocks max_blocks c.args.starters.now c.requires.0 (sym c.all_below.ensures ∙ c.if-not-all_below.false)
