-- The refusals in their order, or the table that the lines made. Assumes nothing.
use Rattle.std.proofs.Common.{sym, ◌∙◌, ap, ◌++◌, List, ℕ, drop, arith, length-take}
use Rattle.cfg.specs.Layout.{graph_words}
use Rattle.std.proofs.lemmas.Result.{err_from_is_err_and}
use Rattle.cfg_text.proofs.Answering.{blank, too_long, too_short, answered, stays, written_over}
use Rattle.cfg_text.proofs.read_text.Goals as goal

pub returns-then-text-gt-TEXT-clause-value : goal.returns-then-text-gt-TEXT-clause-value
returns-then-text-gt-TEXT-clause-value c = (too_long c.args.text.now c.args.table.now c.if-text-gt-TEXT.true).0

pub returns-then-text-gt-TEXT-clause-table_after : goal.returns-then-text-gt-TEXT-clause-table_after
returns-then-text-gt-TEXT-clause-table_after c = (too_long c.args.text.now c.args.table.now c.if-text-gt-TEXT.true).1

pub returns-then-table-lt-WORDS-clause-value : goal.returns-then-table-lt-WORDS-clause-value
returns-then-table-lt-WORDS-clause-value c = (too_short c.args.text.now c.args.table.now c.if-text-gt-TEXT.false c.if-table-lt-WORDS.true).0

pub returns-then-table-lt-WORDS-clause-table_after : goal.returns-then-table-lt-WORDS-clause-table_after
returns-then-table-lt-WORDS-clause-table_after c = (too_short c.args.text.now c.args.table.now c.if-text-gt-TEXT.false c.if-table-lt-WORDS.true).1

pub read_lines-requires : goal.read_lines-requires
read_lines-requires c = (c.if-text-gt-TEXT.false, blank)

pub returns-in_err-read_lines-clause-value : goal.returns-in_err-read_lines-clause-value
returns-in_err-read_lines-clause-value c =
    let q = c.read_lines in
    let p = err_from_is_err_and c.from_residual.result c.from_residual.ensures.1 in
    let a = answered c.args.text.now c.args.table.now c.if-text-gt-TEXT.false c.if-table-lt-WORDS.false q.result q.new.words q.ensures in
    rw (p.1, p.2) (sym c.in_err-read_lines.was ∙ a)

pub returns-in_err-read_lines-clause-table_after : goal.returns-in_err-read_lines-clause-table_after
returns-in_err-read_lines-clause-table_after c =
    let q = c.read_lines in
    stays c.args.text.now c.args.table.now c.if-text-gt-TEXT.false c.if-table-lt-WORDS.false q.result q.new.words q.ensures c.in_err-read_lines.was

pub copy_from_slice-requires : goal.copy_from_slice-requires
copy_from_slice-requires c = omega (arith, length-take graph_words c.args.table.now)

pub returns-clause-value : goal.returns-clause-value
returns-clause-value c =
    let q = c.read_lines in
    let a = answered c.args.text.now c.args.table.now c.if-text-gt-TEXT.false c.if-table-lt-WORDS.false q.result q.new.words q.ensures in
    sym c.in_ok-read_lines.was ∙ a

pub returns-clause-table_after : goal.returns-clause-table_after
returns-clause-table_after c =
    let q = c.read_lines in
    written_over c.args.text.now c.args.table.now c.if-text-gt-TEXT.false c.if-table-lt-WORDS.false q.result q.new.words q.ensures _ c.in_ok-read_lines.was
    (ap (λ (l : List ℕ). l ++ drop graph_words c.args.table.now) c.copy_from_slice.ensures.after)
