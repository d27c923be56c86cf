-- `write_text` passes on what writing promises, and that reading gives the table back follows from the bytes it leaves. Assumes nothing.
use mathlib.Core.Path.{sym, ◌∙◌}
use Rattle.cfg_write.proofs.Whole.{all_words_lem}
use Rattle.cfg_write.proofs.RoundTrip.{write_then_read}
use Rattle.compiler.proofs.Values.{write_values}
use Rattle.compiler.proofs.write_text.Goals as goal

pub returns-clause-write_values : goal.returns-clause-write_values
returns-clause-write_values c = rw c.write_text.ensures.value (write_values c.args.table.now c.args.out.now)

pub returns-clause-read_again : goal.returns-clause-read_again
returns-clause-read_again c =
    let a = c.args in
    let u = c.write_text in
    let words = all_words_lem a.table.now (λ i. (c.type_inv.table i).fits) in
    λ n e again long. rw u.ensures.out_after (write_then_read a.table.now a.out.now again n words long (sym u.ensures.value ∙ e))
