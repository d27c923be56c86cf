-- `fsmd::run::run_machine` meets its contract: refusals in their order, then the run. Assumes nothing.
use Rattle.std.proofs.Common.{◌≡◌, ◌<◌, ◌≤◌, true, false, sym, ap, ◌∙◌, length, List, ℕ, [], arith, subst}
use Rattle.std.proofs.lemmas.Result.{err_from_is_err_and}
use Rattle.refusal.specs.declared.Refusal.TheVariants.{ShortBuffer, NoWords, NoStart}
use Rattle.runs.proofs.SupplyLaws.{unread_alike}
use Rattle.runs.specs.Runs.{unread, up_to}
use Rattle.std.proofs.Math.ListN.{get_or}
use Rattle.fsmd.specs.Layout.{machine_words}
use Rattle.fsmd.specs.Machine.{wordless_machine}
use Rattle.fsmd.specs.Run.{machine_refusal}
use Rattle.fsmd.specs.Table.{machine_of, admitted_machine}
use Rattle.fsmd.proofs.Steps.{gives_refusal, gives_run, refuse_buffer, refuse_table, refuse_wordless, refuse_start, refuse_none}
use Rattle.fsmd.proofs.run.run_machine.Goals as goal

pub returns-then-registers-lt-REGISTERS : goal.returns-then-registers-lt-REGISTERS
returns-then-registers-lt-REGISTERS c =
    let a = c.args in
    let t = a.table.now in
    let rs = a.registers.now in
    let g = gives_refusal (machine_of t) unread rs a.start a.budget (machine_refusal t rs a.start) ShortBuffer (refuse_buffer t rs a.start c.if-registers-lt-REGISTERS.true) in
    record { run_value = g.0; registers_after = g.1 }

pub returns-in_err-machine : goal.returns-in_err-machine
returns-in_err-machine c =
    let a = c.args in
    let t = a.table.now in
    let rs = a.registers.now in
    let p = err_from_is_err_and c.from_residual.result c.from_residual.ensures.1 in
    let e = c.in_err-machine.field-0.0 in
    let g = gives_refusal (machine_of t) unread rs a.start a.budget (machine_refusal t rs a.start) e (refuse_table t rs a.start c.if-registers-lt-REGISTERS.false e c.in_err-machine.ensures) in
    record { run_value = rw (p.1, p.2) g.0; registers_after = g.1 }

pub returns-then-not-is_wordless : goal.returns-then-not-is_wordless
returns-then-not-is_wordless c =
    let a = c.args in
    let t = a.table.now in
    let rs = a.registers.now in
    let m = c.in_ok-machine.machine in
    let e : m.table.words.now ≡ t = c.in_ok-machine.ensures in
    let g = gives_refusal (machine_of t) unread rs a.start a.budget (machine_refusal t rs a.start) NoWords
    (refuse_wordless t rs a.start (subst (λ (l : List ℕ). machine_words ≤ length l) e m.table.whole) c.if-registers-lt-REGISTERS.false (subst (λ (l : List ℕ). admitted_machine l ≡ true) e m.admitted) (subst (λ (l : List ℕ). wordless_machine (machine_of l) ≡ false) e (sym c.is_wordless.ensures ∙ c.if-not-is_wordless.true))) in
    record { run_value = g.0; registers_after = g.1 }

pub returns-then-head-start : goal.returns-then-head-start
returns-then-head-start c =
    let a = c.args in
    let t = a.table.now in
    let rs = a.registers.now in
    let m = c.in_ok-machine.machine in
    let e : m.table.words.now ≡ t = c.in_ok-machine.ensures in
    let none : get_or t 0 0 ≤ a.start = omega (arith, c.if-head-start.true, c.head.ensures.states_value, ap (λ (l : List ℕ). get_or l 0 0) e) in
    let g = gives_refusal (machine_of t) unread rs a.start a.budget (machine_refusal t rs a.start) NoStart
    (refuse_start t rs a.start (subst (λ (l : List ℕ). machine_words ≤ length l) e m.table.whole) c.if-registers-lt-REGISTERS.false (subst (λ (l : List ℕ). admitted_machine l ≡ true) e m.admitted) (subst (λ (l : List ℕ). wordless_machine (machine_of l) ≡ true) e (sym c.is_wordless.ensures ∙ c.if-not-is_wordless.false)) none) in
    record { run_value = g.0; registers_after = g.1 }

pub returns : goal.returns
returns c =
    let a = c.args in
    let t = a.table.now in
    let rs = a.registers.now in
    let m = c.in_ok-machine.machine in
    let r = c.run_from in
    let e : m.table.words.now ≡ t = c.in_ok-machine.ensures in
    let some : a.start < get_or t 0 0 = omega (arith, c.if-head-start.false, c.head.ensures.states_value, ap (λ (l : List ℕ). get_or l 0 0) e) in
    let run = refuse_none t rs a.start (subst (λ (l : List ℕ). machine_words ≤ length l) e m.table.whole) c.if-registers-lt-REGISTERS.false (subst (λ (l : List ℕ). admitted_machine l ≡ true) e m.admitted) (subst (λ (l : List ℕ). wordless_machine (machine_of l) ≡ true) e (sym c.is_wordless.ensures ∙ c.if-not-is_wordless.false)) some in
    let g = gives_run (machine_of t) unread rs a.start a.budget (machine_refusal t rs a.start) (up_to a.budget []) (unread_alike a.budget) run r.result r.new.registers
    (rw e at r.ensures.end_value) (rw e at r.ensures.registers_after) (rw e at r.ensures.blocks_value) in
    record { run_value = g.0; registers_after = g.1 }
