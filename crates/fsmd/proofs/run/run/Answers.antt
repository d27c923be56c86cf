-- `fsmd::run::run` meets its contract: the configuration so far is reached after `count` cycles, which counted `blocks`. Assumes nothing.
use Prim.Native.Nat.{ℕ, ◌+◌, ◌<◌}
use native.Mathlib.Omega.{arith}
use mathlib.Core.Bool.{true}
use mathlib.Core.Path.{◌≡◌, refl, sym, ap, ◌∙◌, subst}
use lib.ListN.{length, get_or, take}
use lib.Seq.{take_at}
use borrow.Author.Rules.{rules}
use borrow.Author.Tests.{le-ltb}
use Rattle.runs.proofs.RunLaws.{Reached, reached_start, reached_spent, registers_spent, reached_halted, reached_dry, registers_ended, halted_ends, dry_ends}
use Rattle.runs.proofs.TotalLaws.{Totalled, totalled_start, totalled_spent, totalled_ended}
use Rattle.runs.specs.Runs.{Contents, Configuration, stands_at, start_at, up_to, moved}
use Rattle.runs.specs.declared.RunEnd.TheVariants.{Spent, Dry}
use Rattle.fsmd.specs.Layout.{max_registers}
use Rattle.fsmd.specs.Clock.{after_cycle}
use Rattle.fsmd.specs.Machine.{worked, machine_runner, blocks_run}
use Rattle.fsmd.specs.Table.{machine_of, state_at}
use Rattle.fsmd.proofs.ChainLaws.{few_arrived}
use Rattle.fsmd.proofs.Machines.{ready_at, arriving_at}
use Rattle.fsmd.proofs.Steps.{cycled, after_standing, after_halted}
use Rattle.fsmd.proofs.run.run.Goals as goal

pub loop-count-init : goal.loop-count-init
loop-count-init g c =
    let a = c.args in
    let m = machine_of a.machine.table.words.now in
    let ws = up_to a.limit a.words.now in
    let rs = a.registers.words in
    let c₀ = start_at a.start rs in
    let all : length rs ≡ max_registers = search rules in (
      c.requires.start_bound,
      reached_start (machine_runner m) ws a.budget c₀,
      totalled_start (machine_runner m) ws (blocks_run m) a.budget c₀,
      omega arith,
      ap (take max_registers) c.store.ensures ∙ take_at rs _ max_registers all,
    )

pub cycle-next-requires : goal.cycle-next-requires
cycle-next-requires g c =
    let m = c.args.machine in
    let t = m.table.words.now in
    let k = c.loop-count.state in
    let h : k < get_or t 0 0 = c.loop-count.invariant.0 in
    (search rules, (ready_at t k m.table.whole m.admitted h, (arriving_at t k m.admitted h, (c.chains_of-chains.ensures, (c.requires.roomy k h, c.loop-count.invariant.4)))))

-- no cycle counts more than 64, and there are fewer than 2^32
pub overflow_add-blocks : goal.overflow_add-blocks
overflow_add-blocks g c =
    let t = c.args.machine.table.words.now in
    let k = c.loop-count.state in
    let few = few_arrived t k (worked c.sampled-sampled.result c.loop-count.file.words (state_at t k).wires) in
    let v = c.cycle-next.ensures.blocks_value in
    let n = c.loop-count.invariant.3 in
    let l = c.loop-count-test.true in
    omega (arith, few, v, n, l, c.ranges.limit)

-- halted
pub returns-then-states-state : goal.returns-then-states-state
returns-then-states-state g c =
    let a = c.args in
    let l = c.loop-count in
    let t = a.machine.table.words.now in
    let m = machine_runner (machine_of t) in
    let ws = up_to a.limit a.words.now in
    let c₀ = start_at a.start a.registers.words in
    let r = c.cycle-next.result in
    let w = c.sampled-sampled in
    let x : Contents = record { registers = l.file.words; flag = l.flag } in
    let g = cycled t a.words.now a.limit a.budget c₀ l.count l.state x l.blocks w.result l.state r c.args.machine.table.whole w.ensures refl l.invariant.0 c.loop-count-test.true
    c.requires.limit_le_budget c.cycle-next.ensures.result_value c.cycle-next.ensures.blocks_value l.invariant.1 l.invariant.2 in
    let end = moved (λ k. true) (stands_at l.count l.state x) (after_cycle t r) in
    let h = after_halted t r (omega (arith, c.if-states-state.true, c.head-states.ensures.states_value)) in
    let over = halted_ends ws end h in
    record {
      end_value = sym (reached_halted m ws a.budget c₀ (l.count + 1) end g.0 over h);
      registers_value = sym (registers_ended m ws a.budget c₀ (l.count + 1) end g.0 over);
      blocks_value = sym (totalled_ended m ws (blocks_run (machine_of t)) a.budget c₀ (l.count + 1) end (l.blocks + r.blocks) g.1 over);
    }

pub loop-count-preserved : goal.loop-count-preserved
loop-count-preserved g c =
    let a = c.args in
    let l = c.loop-count in
    let t = a.machine.table.words.now in
    let m = machine_runner (machine_of t) in
    let ws = up_to a.limit a.words.now in
    let c₀ = start_at a.start a.registers.words in
    let r = c.cycle-next.result in
    let w = c.sampled-sampled in
    let x : Contents = record { registers = l.file.words; flag = l.flag } in
    let g = cycled t a.words.now a.limit a.budget c₀ l.count l.state x l.blocks w.result l.state r c.args.machine.table.whole w.ensures refl l.invariant.0 c.loop-count-test.true
    c.requires.limit_le_budget c.cycle-next.ensures.result_value c.cycle-next.ensures.blocks_value l.invariant.1 l.invariant.2 in
    let few = few_arrived t l.state (worked w.result l.file.words (state_at t l.state).wires) in
    let below : r.state < get_or t 0 0 = omega (arith, c.if-states-state.false, c.head-states.ensures.states_value) in
    let there = after_standing t r l.count l.state x below in (
      below,
      subst (λ (x : Configuration). Reached m ws a.budget c₀ (l.count + 1) x) there g.0,
      subst (λ (x : Configuration). Totalled m ws (blocks_run (machine_of t)) a.budget c₀ (l.count + 1) x (l.blocks + r.blocks)) there g.1,
      omega (arith, few, c.cycle-next.ensures.blocks_value, l.invariant.3),
      c.cycle-next.ensures.registers_first,
    )

-- dry
pub returns-then-limit-budget : goal.returns-then-limit-budget
returns-then-limit-budget g c =
    let a = c.args in
    let l = c.loop-count in
    let at_end : l.count ≡ a.limit = omega arith in
    let m = machine_of a.machine.table.words.now in
    let ws = up_to a.limit a.words.now in
    let c₀ = start_at a.start a.registers.words in
    let x = stands_at l.count l.state (record { registers = l.file.words; flag = l.flag }) in
    let e = dry_ends ws x l.state refl (le-ltb l.count a.limit (omega arith)) in
    record {
      end_value = ap (λ (n : ℕ). Dry n l.state l.flag) (sym at_end) ∙ sym (reached_dry (machine_runner m) ws a.budget c₀ l.count x l.invariant.1 e l.state refl (omega arith));
      registers_value = sym (registers_ended (machine_runner m) ws a.budget c₀ l.count x l.invariant.1 e);
      blocks_value = sym (totalled_ended (machine_runner m) ws (blocks_run m) a.budget c₀ l.count x l.blocks l.invariant.2 e);
    }

-- spent
pub returns-else-limit-budget : goal.returns-else-limit-budget
returns-else-limit-budget g c =
    let a = c.args in
    let l = c.loop-count in
    let at_end : l.count ≡ a.limit = omega arith in
    let m = machine_of a.machine.table.words.now in
    let ws = up_to a.limit a.words.now in
    let c₀ = start_at a.start a.registers.words in
    let x = stands_at l.count l.state (record { registers = l.file.words; flag = l.flag }) in
    record {
      end_value = ap (λ (n : ℕ). Spent n l.state l.flag) (sym at_end) ∙ sym (reached_spent (machine_runner m) ws a.budget c₀ l.count x l.invariant.1 l.state refl (omega arith));
      registers_value = sym (registers_spent (machine_runner m) ws a.budget c₀ l.count x l.invariant.1 (omega arith));
      blocks_value = sym (totalled_spent (machine_runner m) ws (blocks_run m) a.budget c₀ l.count x l.blocks l.invariant.2 (omega arith));
    }
