-- `fsmd::run::run_machine_with_words` meets its contract: refusals in their order, then the run. Assumes nothing.
use Rattle.std.proofs.Common.{◌≡◌, ◌<◌, ◌≤◌, true, sym, ap, length, List, ℕ, arith, subst}
use Rattle.std.proofs.lemmas.Result.{err_from_is_err_and}
use Rattle.refusal.specs.declared.Refusal.TheVariants.{ShortBuffer, NoStart}
use Rattle.runs.proofs.SupplyLaws.{Alike, cut_alike}
use Rattle.runs.specs.Runs.{listed, up_to}
use Rattle.std.proofs.Math.ListN.{get_or}
use Rattle.fsmd.specs.Layout.{machine_words}
use Rattle.fsmd.specs.Run.{machine_words_refusal}
use Rattle.fsmd.specs.Table.{machine_of, admitted_machine}
use Rattle.fsmd.proofs.Steps.{gives_refusal, gives_run, words_refuse_buffer, words_refuse_table, words_refuse_start, words_refuse_none}
use Rattle.fsmd.proofs.run.run_machine_with_words.Goals as goal

pub returns-then-registers-lt-REGISTERS : goal.returns-then-registers-lt-REGISTERS
returns-then-registers-lt-REGISTERS c =
    let a = c.args in
    let t = a.table.now in
    let rs = a.registers.now in
    let g = gives_refusal (machine_of t) (listed a.words.now) rs a.start a.budget (machine_words_refusal t rs a.start) ShortBuffer (words_refuse_buffer t rs a.start c.if-registers-lt-REGISTERS.true) in
    record { run_value = g.0; registers_after = g.1 }

pub returns-in_err-machine : goal.returns-in_err-machine
returns-in_err-machine c =
    let a = c.args in
    let t = a.table.now in
    let rs = a.registers.now in
    let p = err_from_is_err_and c.from_residual.result c.from_residual.ensures.1 in
    let e = c.in_err-machine.field-0.0 in
    let g = gives_refusal (machine_of t) (listed a.words.now) rs a.start a.budget (machine_words_refusal t rs a.start) e (words_refuse_table t rs a.start c.if-registers-lt-REGISTERS.false e c.in_err-machine.ensures) in
    record { run_value = rw (p.1, p.2) g.0; registers_after = g.1 }

pub returns-then-head-start : goal.returns-then-head-start
returns-then-head-start c =
    let a = c.args in
    let t = a.table.now in
    let rs = a.registers.now in
    let m = c.in_ok-machine.machine in
    let e : m.table.words.now ≡ t = c.in_ok-machine.ensures in
    let none : get_or t 0 0 ≤ a.start = omega (arith, c.if-head-start.true, c.head.ensures.states_value, ap (λ (l : List ℕ). get_or l 0 0) e) in
    let g = gives_refusal (machine_of t) (listed a.words.now) rs a.start a.budget (machine_words_refusal t rs a.start) NoStart
    (words_refuse_start t rs a.start (subst (λ (l : List ℕ). machine_words ≤ length l) e m.table.whole) c.if-registers-lt-REGISTERS.false (subst (λ (l : List ℕ). admitted_machine l ≡ true) e m.admitted) none) in
    record { run_value = g.0; registers_after = g.1 }

pub returns : goal.returns
returns c =
    let a = c.args in
    let t = a.table.now in
    let rs = a.registers.now in
    let m = c.in_ok-machine.machine in
    let r = c.run_from in
    let e : m.table.words.now ≡ t = c.in_ok-machine.ensures in
    let some : a.start < get_or t 0 0 = omega (arith, c.if-head-start.false, c.head.ensures.states_value, ap (λ (l : List ℕ). get_or l 0 0) e) in
    let run = words_refuse_none t rs a.start (subst (λ (l : List ℕ). machine_words ≤ length l) e m.table.whole) c.if-registers-lt-REGISTERS.false (subst (λ (l : List ℕ). admitted_machine l ≡ true) e m.admitted) some in
    let ws = a.words.now in
    let n = c.lasting-limit in
    let h = subst (λ (n : ℕ). Alike a.budget (up_to n ws) (listed ws)) (sym n.ensures) (cut_alike ws a.budget) in
    let g = gives_run (machine_of t) (listed a.words.now) rs a.start a.budget (machine_words_refusal t rs a.start) (up_to n.result ws) h run r.result r.new.registers
    (rw e at r.ensures.end_value) (rw e at r.ensures.registers_after) (rw e at r.ensures.blocks_value) in
    record { run_value = g.0; registers_after = g.1 }
