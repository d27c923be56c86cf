-- `cfg_line::parse_line` meets its contract. Assumes nothing.
use Rattle.std.proofs.Common.{◌∙◌, drop, sym, ap, arith, rules}
use Rattle.std.specs.Prelude.{Option}
use Rattle.cfg_line.specs.declared.Line.{Line}
use Rattle.cfg_line.specs.Form.{form_of}
use Rattle.cfg_line.specs.Cursor.{parsed}
use Rattle.cfg_line.proofs.Names.{unnamed_line, no_word, more_fields, name_alone}
use Rattle.cfg_line.proofs.Otherwise.{not_halt}
use Rattle.cfg_line.proofs.parse_line.Goals as goal

pub returns-in_err-name : goal.returns-in_err-name
returns-in_err-name c =
    rw c.from_residual.ensures (unnamed_line c.args.at (drop c.args.at c.args.text.now) (sym c.name_at.ensures ∙ c.in_err-name.was))

pub returns-in_err-word : goal.returns-in_err-word
returns-in_err-word c =
    let t = c.args.text.now in
    rw c.from_residual-in_err-word.ensures
    (no_word t c.args.at (λ i. omega (arith, c.type_inv.text i)) c.in_ok-name.name (sym c.name_at.ensures ∙ c.in_ok-name.was) c.keyword_of.result c.keyword_of.ensures c.in_err-word.was)

pub returns-then-name-eq44 : goal.returns-then-name-eq44
returns-then-name-eq44 c =
    let t = c.args.text.now in
    c.form.ensures
    ∙ more_fields t c.args.at (λ i. omega (arith, c.type_inv.text i)) c.in_ok-name.name (sym c.name_at.ensures ∙ c.in_ok-name.was) c.keyword_of.result c.keyword_of.ensures c.in_ok-word.was c.if-name-eq44.true

pub returns-in-Halt : goal.returns-in-Halt
unfolding form_of
returns-in-Halt c =
    let t = c.args.text.now in
    rw c.in-Halt.is at (name_alone t c.args.at (λ i. omega (arith, c.type_inv.text i)) c.in_ok-name.name (sym c.name_at.ensures ∙ c.in_ok-name.was) c.keyword_of.result c.keyword_of.ensures c.in_ok-word.was c.if-name-eq44.false)

pub returns-in_default : goal.returns-in_default
returns-in_default c =
    let t = c.args.text.now in
    ap (λ (o : Option Line). parsed o c.in_ok-name.name.next) (sym (not_halt c.in_ok-word.word (search rules)))
    ∙ name_alone t c.args.at (λ i. omega (arith, c.type_inv.text i)) c.in_ok-name.name (sym c.name_at.ensures ∙ c.in_ok-name.was) c.keyword_of.result c.keyword_of.ensures c.in_ok-word.was c.if-name-eq44.false
