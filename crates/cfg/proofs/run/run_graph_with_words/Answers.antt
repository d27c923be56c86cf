-- `cfg::run::run_graph_with_words` meets its contract. Assumes nothing.
use native.Mathlib.Omega.{arith}
use Rattle.std.proofs.lemmas.Result.{err_from_is_err_and}
use Rattle.refusal.specs.declared.Refusal.TheVariants.{ShortBuffer, NoStart, BadStarters}
use Rattle.runs.proofs.OperationLaws.{refuses, accepts}
use Rattle.runs.proofs.SupplyLaws.{cut_alike}
use Rattle.runs.specs.Runs.{up_to, listed}
use Rattle.cfg.specs.Graph.{graph_runner}
use Rattle.cfg.specs.Run.{graph_words_refusal}
use Rattle.cfg.specs.Table.{graph_of}
use lib.Dec.{ltb}
use lib.ListN.{length}
use Rattle.word.specs.Word.{choose}
use Rattle.cfg.proofs.Admitted.{admitted_facts}
use Rattle.cfg.proofs.Marking.{marked_runner_lem}
use Rattle.cfg.proofs.Running.{words_short_registers, words_table_refused, words_no_start, words_unfit, words_none_refused}
use Rattle.cfg.proofs.run.run_graph_with_words.Goals as goal

pub returns-then-registers-lt-REGISTERS : goal.returns-then-registers-lt-REGISTERS
returns-then-registers-lt-REGISTERS c =
    let k = c.args in
    let h = words_short_registers k.table.now k.registers.now k.start k.starters.now c.if-registers-lt-REGISTERS.true in
    let r = refuses (graph_runner (graph_of k.table.now) k.starters.now) (listed k.words.now) k.registers.now k.start k.budget (graph_words_refusal k.table.now k.registers.now k.start k.starters.now) ShortBuffer h in
    record { value = r.0; registers_after = r.1 }

pub returns-in_err-graph : goal.returns-in_err-graph
returns-in_err-graph c =
    let k = c.args in
    let p = err_from_is_err_and c.from_residual.result c.from_residual.ensures.1 in
    let e = c.in_err-graph.field-0.0 in
    let h = words_table_refused k.table.now k.registers.now k.start k.starters.now c.if-registers-lt-REGISTERS.false e c.in_err-graph.ensures in
    let r = refuses (graph_runner (graph_of k.table.now) k.starters.now) (listed k.words.now) k.registers.now k.start k.budget (graph_words_refusal k.table.now k.registers.now k.start k.starters.now) e h in
    record { value = rw (p.1, p.2) r.0; registers_after = r.1 }

pub returns-then-blocks-start : goal.returns-then-blocks-start
returns-then-blocks-start c =
    let k = c.args in
    let e = c.in_ok-graph.ensures in
    let long = rw e at c.in_ok-graph.graph.long in
    let ok = rw e at c.in_ok-graph.graph.admitted in
    let blocks = rw e at c.blocks-blocks.ensures in
    let h = words_no_start k.table.now k.registers.now k.start k.starters.now long c.if-registers-lt-REGISTERS.false ok (omega (arith, blocks, c.if-blocks-start.true)) in
    let r = refuses (graph_runner (graph_of k.table.now) k.starters.now) (listed k.words.now) k.registers.now k.start k.budget (graph_words_refusal k.table.now k.registers.now k.start k.starters.now) NoStart h in
    record { value = r.0; registers_after = r.1 }

pub marked-requires : goal.marked-requires
marked-requires c =
    let a = admitted_facts c.in_ok-graph.graph.words.now c.in_ok-graph.graph.admitted in
    (omega (arith, a.few_blocks, c.blocks-blocks.ensures), c.if-blocks-start.false)

pub returns-in_err-marks : goal.returns-in_err-marks
returns-in_err-marks c =
    let k = c.args in
    let e = c.in_ok-graph.ensures in
    let long = rw e at c.in_ok-graph.graph.long in
    let ok = rw e at c.in_ok-graph.graph.admitted in
    let blocks = rw e at c.blocks-blocks.ensures in
    let p = err_from_is_err_and c.from_residual-in_err-marks.result c.from_residual-in_err-marks.ensures.1 in
    let misfit = rw blocks at c.in_err-marks.ensures.1 in
    let h = words_unfit k.table.now k.registers.now k.start k.starters.now long c.if-registers-lt-REGISTERS.false ok (omega (arith, blocks, c.if-blocks-start.false)) misfit in
    let r = refuses (graph_runner (graph_of k.table.now) k.starters.now) (listed k.words.now) k.registers.now k.start k.budget (graph_words_refusal k.table.now k.registers.now k.start k.starters.now) BadStarters h in
    record { value = rw (p.1, p.2, c.in_err-marks.ensures.0) r.0; registers_after = r.1 }

pub returns : goal.returns
returns c =
    let k = c.args in
    let e = c.in_ok-graph.ensures in
    let long = rw e at c.in_ok-graph.graph.long in
    let ok = rw e at c.in_ok-graph.graph.admitted in
    let blocks = rw e at c.blocks-blocks.ensures in
    let fit = rw blocks at c.in_ok-marks.ensures.0 in
    let h = words_none_refused k.table.now k.registers.now k.start k.starters.now long c.if-registers-lt-REGISTERS.false ok (omega (arith, blocks, c.if-blocks-start.false)) fit in
    let m = marked_runner_lem k.starters.now c.in_ok-marks.marks c.in_ok-marks.ensures.1 (graph_of k.table.now) in
    let limit = choose (ltb (length k.words.now) k.budget) (length k.words.now) k.budget in
    let x = rw (e, m, c.lasting-limit.ensures) at c.run_from.ensures.value in
    let left = rw (e, m, c.lasting-limit.ensures) at c.run_from.ensures.registers_after in
    let r = accepts (graph_runner (graph_of k.table.now) k.starters.now) (listed k.words.now) k.registers.now k.start k.budget (graph_words_refusal k.table.now k.registers.now k.start k.starters.now) (up_to limit k.words.now) (cut_alike k.words.now k.budget) h c.run_from.result c.run_from.new.registers x left in
    record { value = r.0; registers_after = r.1 }
