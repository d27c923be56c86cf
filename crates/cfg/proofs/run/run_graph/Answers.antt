-- `cfg::run::run_graph` meets its contract. Assumes nothing.
use native.Mathlib.Omega.{arith}
use mathlib.Core.List.{[]}
use Rattle.std.proofs.lemmas.Result.{err_from_is_err_and}
use Rattle.refusal.specs.declared.Refusal.TheVariants.{ShortBuffer, NoStart}
use Rattle.runs.proofs.OperationLaws.{refuses, accepts}
use Rattle.runs.proofs.SupplyLaws.{unread_alike}
use Rattle.runs.specs.Runs.{up_to, unread}
use Rattle.cfg.specs.Graph.{graph_runner}
use Rattle.cfg.specs.Layout.{max_blocks}
use Rattle.cfg.specs.Run.{graph_refusal}
use Rattle.cfg.specs.Table.{graph_of}
use lib.ListN.{replicate}
use mathlib.Core.Bool.{false}
use Rattle.cfg.proofs.Marking.{marked_runner_lem, unmarked_marks}
use Rattle.cfg.proofs.Running.{short_registers_lem, table_refused, no_start, none_refused}
use Rattle.cfg.proofs.run.run_graph.Goals as goal

pub returns-then-registers-lt-REGISTERS : goal.returns-then-registers-lt-REGISTERS
returns-then-registers-lt-REGISTERS c =
    let k = c.args in
    let h = short_registers_lem k.table.now k.registers.now k.start c.if-registers-lt-REGISTERS.true in
    let r = refuses (graph_runner (graph_of k.table.now) []) unread k.registers.now k.start k.budget (graph_refusal k.table.now k.registers.now k.start) ShortBuffer h in
    record { value = r.0; registers_after = r.1 }

pub returns-in_err-graph : goal.returns-in_err-graph
returns-in_err-graph c =
    let k = c.args in
    let p = err_from_is_err_and c.from_residual.result c.from_residual.ensures.1 in
    let e = c.in_err-graph.field-0.0 in
    let h = table_refused k.table.now k.registers.now k.start c.if-registers-lt-REGISTERS.false e c.in_err-graph.ensures in
    let r = refuses (graph_runner (graph_of k.table.now) []) unread k.registers.now k.start k.budget (graph_refusal k.table.now k.registers.now k.start) e h in
    record { value = rw (p.1, p.2) r.0; registers_after = r.1 }

pub returns-then-blocks-start : goal.returns-then-blocks-start
returns-then-blocks-start c =
    let k = c.args in
    let e = c.in_ok-graph.ensures in
    let long = rw e.0 at c.in_ok-graph.graph.long in
    let ok = rw e.0 at c.in_ok-graph.graph.admitted in
    let blocks = rw e.0 at c.blocks-2.ensures in
    let h = no_start k.table.now k.registers.now k.start long c.if-registers-lt-REGISTERS.false ok e.1 (omega (arith, blocks, c.if-blocks-start.true)) in
    let r = refuses (graph_runner (graph_of k.table.now) []) unread k.registers.now k.start k.budget (graph_refusal k.table.now k.registers.now k.start) NoStart h in
    record { value = r.0; registers_after = r.1 }

pub returns : goal.returns
returns c =
    let k = c.args in
    let e = c.in_ok-graph.ensures in
    let long = rw e.0 at c.in_ok-graph.graph.long in
    let ok = rw e.0 at c.in_ok-graph.graph.admitted in
    let blocks = rw e.0 at c.blocks-2.ensures in
    let h = none_refused k.table.now k.registers.now k.start long c.if-registers-lt-REGISTERS.false ok e.1 (omega (arith, blocks, c.if-blocks-start.false)) in
    let m = marked_runner_lem [] (replicate max_blocks false) unmarked_marks (graph_of k.table.now) in
    let x = rw (e.0, m) at c.run_from.ensures.value in
    let left = rw (e.0, m) at c.run_from.ensures.registers_after in
    let r = accepts (graph_runner (graph_of k.table.now) []) unread k.registers.now k.start k.budget (graph_refusal k.table.now k.registers.now k.start) (up_to k.budget []) (unread_alike k.budget) h c.run_from.result c.run_from.new.registers x left in
    record { value = r.0; registers_after = r.1 }
