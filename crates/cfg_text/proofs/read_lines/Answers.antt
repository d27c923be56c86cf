-- Each line: none, one that is refused, or one more; and the end of the text. Assumes nothing.
use Rattle.std.proofs.Common.{◌∙◌, sym, arith, rules}
use Rattle.std.proofs.lemmas.Result.{err_from_is_err_and}
use Rattle.cfg_text.proofs.Reached.{Told, reached_start, reached_few, reached_end, reached_none, reached_next, reached_ahead, reached_stop}
use Rattle.cfg_text.proofs.read_lines.Goals as goal

pub loop-at-init : goal.loop-at-init
loop-at-init c = reached_start c.args.text.now c.args.words.now c.requires.1

pub returns-in_default : goal.returns-in_default
returns-in_default c =
    let l = c.loop-at in
    reached_none c.args.text.now l.words l.p l.at l.line l.invariant c.loop-at-test.true l.words (sym c.parse_line.ensures ∙ c.in_default.is)

pub step-requires : goal.step-requires
step-requires c =
    let l = c.loop-at in
    reached_few c.args.text.now l.words l.p l.at l.line l.invariant c.loop-at-test.true l.words c.in-Some.parsed (sym c.parse_line.ensures ∙ c.in-Some.is)

pub returns-in_err-p : goal.returns-in_err-p
returns-in_err-p c =
    let l = c.loop-at in
    let p = err_from_is_err_and c.from_residual.result c.from_residual.ensures.1 in
    let t : Told c.step.result l.line c.map_err.result = search rules in
    rw (p.1, p.2)
    (reached_stop c.args.text.now l.words l.p l.at l.line l.invariant c.loop-at-test.true c.step.new.words c.in-Some.parsed (sym c.parse_line.ensures ∙ c.in-Some.is) c.step.result c.map_err.result t c.in_err-p.was (c.step.ensures l.invariant.progress l.invariant.stands))

pub loop-at-smaller : goal.loop-at-smaller
loop-at-smaller c =
    let l = c.loop-at in
    let g = reached_ahead c.args.text.now l.words l.p l.at l.line l.invariant c.loop-at-test.true l.words c.in-Some.parsed (sym c.parse_line.ensures ∙ c.in-Some.is) in
    let h = c.loop-at-test.true in
    omega arith

pub loop-at-preserved : goal.loop-at-preserved
loop-at-preserved c =
    let l = c.loop-at in
    let t : Told c.step.result l.line c.map_err.result = search rules in
    reached_next c.args.text.now l.words l.p l.at l.line l.invariant c.loop-at-test.true c.step.new.words c.in-Some.parsed (sym c.parse_line.ensures ∙ c.in-Some.is) c.step.result c.map_err.result t c.in_ok-p.was (c.step.ensures l.invariant.progress l.invariant.stands)

pub returns : goal.returns
returns c =
    let l = c.loop-at in
    reached_end c.args.text.now l.words l.p l.at l.line l.invariant c.at_end.result c.loop-at-test.false (c.at_end.ensures l.invariant.progress l.words l.invariant.stands)
