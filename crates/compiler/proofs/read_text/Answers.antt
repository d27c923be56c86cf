-- `read_text` passes on what reading promises, and that writing gives the text back follows from the words it leaves. Assumes nothing.
use mathlib.Core.Path.{sym, ◌∙◌}
use Rattle.cfg_write.proofs.RoundTrip.{read_then_write}
use Rattle.compiler.proofs.Values.{read_values}
use Rattle.compiler.proofs.read_text.Goals as goal

pub returns-clause-read_values : goal.returns-clause-read_values
returns-clause-read_values c = rw c.read_text.ensures.value (read_values c.args.text.now c.args.table.now)

pub returns-clause-written_again : goal.returns-clause-written_again
returns-clause-written_again c =
    let a = c.args in
    let u = c.read_text in
    λ e out room. rw u.ensures.table_after (read_then_write a.text.now a.table.now out (sym u.ensures.value ∙ e) room)
