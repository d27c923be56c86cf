-- `fsmd::admission::apart_from_earlier` meets its contract: the states so far share no wire with state k. Assumes nothing.
use mathlib.Core.Bool.{true}
use mathlib.Core.Path.{◌≡◌}
use Rattle.runs.specs.Lists.{up_from, every}
use Rattle.fsmd.specs.Table.{apart}
use Rattle.fsmd.proofs.admission.apart_from_earlier.Given as goal

abbrev pub invariant-loop-j : goal.invariant-loop-j
invariant-loop-j l = every (λ i. apart l.table.words.now i l.k) (up_from 0 l.j) ≡ true
