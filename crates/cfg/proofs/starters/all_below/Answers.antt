-- `cfg::starters::all_below` meets its contract. Assumes nothing.
use mathlib.Core.Path.{◌∙◌}
use lib.Dec.{ltb}
use Rattle.std.proofs.Common.{rules, tests}
use Rattle.std.proofs.lemmas.Iterator.{YieldsList-from_slice}
use Rattle.std.proofs.lemmas.Iterator.Search.{all_from_yields_List}
use Rattle.cfg.proofs.Marking.{every_is}
use Rattle.cfg.proofs.starters.all_below.Goals as goal

pub returns : goal.returns
returns c =
    all_from_yields_List (λ s. ltb s c.args.blocks) _ _ c.all.result c.all.ensures.ran (YieldsList-from_slice c.args.starters.now cc) (λ x b q k. search (rules, tests))
    ∙ every_is (λ s. ltb s c.args.blocks) c.args.starters.now
