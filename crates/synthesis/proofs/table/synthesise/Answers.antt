-- `synthesis::table::synthesise` meets its contract. Assumes nothing.
use mathlib.Core.Bool.{true}
use mathlib.Core.List.{List}
use mathlib.Core.Path.{ap, subst, ◌≡◌, ◌∙◌}
use Prim.Native.Nat.{ℕ}
use lib.Seq.{length-take-le}
use Rattle.std.proofs.lemmas.Result.{err_from_is_err_and}
use Rattle.cfg.specs.Table.{graph_of, admitted_graph}
use Rattle.fsmd.specs.Layout.{machine_words}
use Rattle.fsmd.specs.Table.{machine_table_of}
use Rattle.synthesis.specs.Synthesis.{machine}
use Rattle.synthesis.proofs.TableFilled.{short_machine_lem, refused_table, machine_made}
use Rattle.synthesis.proofs.table.synthesise.Goals as goal

pub returns-then-machine-lt-WORDS : goal.returns-then-machine-lt-WORDS
returns-then-machine-lt-WORDS c = short_machine_lem c.args.graph.now c.args.machine.now c.if-machine-lt-WORDS.true

pub returns-in_err-admitted : goal.returns-in_err-admitted
returns-in_err-admitted c =
    let a = c.args in
    let p = err_from_is_err_and c.from_residual.result c.from_residual.ensures.1 in
    rw (p.1, p.2) (refused_table a.graph.now a.machine.now c.if-machine-lt-WORDS.false c.in_err-admitted.field-0.0 c.in_err-admitted.ensures)

pub fill-requires : goal.fill-requires
fill-requires c = length-take-le machine_words c.args.machine.now c.if-machine-lt-WORDS.false

pub returns : goal.returns
returns c =
    let a = c.args in
    let g = c.in_ok-admitted.admitted in
    let e : g.words.now ≡ a.graph.now = c.in_ok-admitted.ensures in
    machine_made a.graph.now a.machine.now c.if-machine-lt-WORDS.false (subst (λ (t : List ℕ). admitted_graph t ≡ true) e g.admitted) c.fill.new.table
    (c.fill.ensures ∙ ap (λ (t : List ℕ). machine_table_of (machine (graph_of t))) e)
