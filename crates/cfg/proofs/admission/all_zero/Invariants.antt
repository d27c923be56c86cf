-- `cfg::admission::all_zero` meets its contract. Assumes nothing.
use mathlib.Core.Bool.{◌&&◌}
use mathlib.Core.Path.{◌≡◌}
use lib.Dec.{eqb}
use lib.ListN.{drop}
use Rattle.runs.specs.Lists.{every}
use Rattle.cfg.proofs.admission.all_zero.Given as goal

abbrev pub invariant-loop-word : goal.invariant-loop-word
invariant-loop-word l = every (λ x. eqb x 0) l.word-items ≡ (l.clear && every (λ x. eqb x 0) (drop l.word-index l.word-items))
