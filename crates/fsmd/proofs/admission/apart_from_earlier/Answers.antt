-- `fsmd::admission::apart_from_earlier` meets its contract: the states so far share no wire with state k. Assumes nothing.
use mathlib.Core.Path.{sym, ◌∙◌}
use Rattle.fsmd.specs.Table.{apart}
use Rattle.fsmd.proofs.Tested.{below_more, below_fails}
use Rattle.fsmd.proofs.admission.apart_from_earlier.Goals as goal

pub returns-then-not-apart : goal.returns-then-not-apart
returns-then-not-apart c =
    let t = c.args.table.words.now in
    let k = c.args.k in
    sym (below_fails (λ j. apart t j k) k c.loop-j.j c.loop-j-test.true (sym c.apart.ensures ∙ c.if-not-apart.true))

pub loop-j-preserved : goal.loop-j-preserved
loop-j-preserved c =
    let t = c.args.table.words.now in
    let k = c.args.k in
    below_more (λ j. apart t j k) c.loop-j.j c.loop-j.invariant (sym c.apart.ensures ∙ c.if-not-apart.false)
