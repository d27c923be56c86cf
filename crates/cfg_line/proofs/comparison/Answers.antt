-- `cfg_line::comparison` meets its contract. Assumes nothing.
use Rattle.std.proofs.Common.{◌∙◌, drop, sym, arith}
use Rattle.cfg_line.proofs.Names.{unnamed_comparison, feed_behind, comma_behind}
use Rattle.cfg_line.proofs.comparison.Goals as goal

pub returns-in_err-name : goal.returns-in_err-name
returns-in_err-name c =
    rw c.from_residual.ensures (unnamed_comparison c.args.at (drop c.args.at c.args.text.now) (sym c.name_at.ensures ∙ c.in_err-name.was))

pub returns-then-name-ne44 : goal.returns-then-name-ne44
returns-then-name-ne44 c =
    let t = c.args.text.now in
    feed_behind t c.args.at (λ i. omega (arith, c.type_inv.text i)) c.in_ok-name.name (sym c.name_at.ensures ∙ c.in_ok-name.was) c.if-name-ne44.true

pub returns-in_err-comparison : goal.returns-in_err-comparison
returns-in_err-comparison c =
    let t = c.args.text.now in
    rw c.from_residual-in_err-comparison.ensures
    (comma_behind t c.args.at (λ i. omega (arith, c.type_inv.text i)) c.in_ok-name.name (sym c.name_at.ensures ∙ c.in_ok-name.was) c.comparison_of.result c.comparison_of.ensures c.in_err-comparison.was c.if-name-ne44.false)

pub returns : goal.returns
returns c =
    let t = c.args.text.now in
    comma_behind t c.args.at (λ i. omega (arith, c.type_inv.text i)) c.in_ok-name.name (sym c.name_at.ensures ∙ c.in_ok-name.was) c.comparison_of.result c.comparison_of.ensures c.in_ok-comparison.was c.if-name-ne44.false
