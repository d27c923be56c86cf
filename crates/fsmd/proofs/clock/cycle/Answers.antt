-- `fsmd::clock::cycle` meets its contract: registers, wires, next state and next registers, in that order. Assumes nothing.
use Prim.Native.Nat.{ℕ, ◌+◌, ◌≤◌}
use native.Mathlib.Omega.{arith}
use mathlib.Core.List.{List, ◌++◌, map}
use mathlib.Core.Path.{sym, ◌≡◌, refl, ap, ◌∙◌}
use lib.ListN.{length, get_or, take, drop}
use lib.Seq.{take_at}
use borrow.Author.Rules.{rules}
use Rattle.runs.specs.Lists.{every}
use Rattle.fsmd.specs.Clock.{read_in}
use Rattle.fsmd.specs.Layout.{max_registers, next_state_offset, next_registers_offset}
use Rattle.fsmd.specs.Machine.{worked, wires_over, nonzero}
use Rattle.fsmd.specs.Table.{arrival_at, valid_reference}
use Rattle.fsmd.specs.Chains.{blocks_from}
use Rattle.fsmd.proofs.ChainLaws.{arrived_is}
use Rattle.fsmd.proofs.Environment.{reads_same, all_same, clocked, environment}
use Rattle.fsmd.proofs.Machines.{valid_state_parts}
use Rattle.fsmd.proofs.RoomLaws.{others_stay}
use Rattle.fsmd.proofs.Windows.{wires_from}
use Rattle.fsmd.proofs.clock.cycle.Goals as goal

-- the state is valid: so are its wires
pub work-over-requires : goal.work-over-requires
work-over-requires g c =
    let t = c.args.table.words.now in
    let d = c.requires.ready in
    (search rules, (search rules, (search rules, ((valid_state_parts t (get_or t 1 0) c.args.k c.first_wire.result c.wire_count-count.result c.record-at.result c.first_wire.ensures.value c.wire_count-count.ensures.value c.record-at.ensures refl d.valid).0, search rules))))

-- the registers that are not taken stand in the room
pub set_registers-requires : goal.set_registers-requires
set_registers-requires g c =
    let a = c.args in
    let t = a.table.words.now in
    let rs = a.registers.words in
    let n = c.wire_count-count in
    let m = c.head-used.result.registers in
    let last = c.work-over.new.room.words in
    let wires = wires_from t c.first_wire.result n.result in
    let all : length rs ≡ max_registers = search rules in
    let whole : c.record-at.result + next_registers_offset + m ≤ length t = search rules in
    let env = c.work-over.ensures.room_after ∙ ap (λ (v : List ℕ). worked a.sampled v wires) c.requires.registers_first in
    (search rules, (others_stay a.sampled n.result m (c.record-at.result + next_registers_offset) t rs last wires (read_in last) all whole env ∙ ap (drop m) (sym c.taken-next.ensures)))

pub returns-clause-result_value : goal.returns-clause-result_value
returns-clause-result_value g c =
    let a = c.args in
    let t = a.table.words.now in
    let rs = a.registers.words in
    let f = c.first_wire in
    let n = c.wire_count-count in
    let p = c.record-at in
    let m = c.head-used.result.registers in
    let last = c.work-over.new.room.words in
    let d = c.requires.ready in
    let e = c.requires.registers_first in
    let r = get_or t 1 0 in
    let v = valid_state_parts t r a.k f.result n.result p.result f.ensures.value n.ensures.value p.ensures refl d.valid in
    let room : max_registers + n.result ≤ length last = omega (arith, n.ensures.value, c.requires.room, c.work-over.new.room.whole) in
    let next = get_or t (p.result + next_state_offset) 0 in
    let taken = take m (drop (p.result + next_registers_offset) t) in
    let left = c.taken-next in
    let valid = ap (λ (i : ℕ). every (valid_reference r n.result) (take i (drop (p.result + next_registers_offset) t))) c.head-used.ensures.registers_value ∙ v.2 in
    let env = c.work-over.ensures.room_after ∙ ap (λ (v : List ℕ). worked a.sampled v (wires_from t f.result n.result)) e in
    clocked a.sampled t a.k f.result n.result p.result m f.ensures.value n.ensures.value p.ensures c.head-used.ensures.registers_value rs
    (take (max_registers + n.result) last) left.result.words c.read-state.result c.work-over.result
    env
    (c.work-over.ensures.over_value ∙ ap (λ (v : List ℕ). wires_over a.sampled v (wires_from t f.result n.result)) e)
    (c.read-state.ensures ∙ reads_same last r n.result d.registers room next v.1)
    (left.ensures ∙ ap (λ (l : List ℕ). l ++ drop m rs) (all_same last r n.result d.registers room taken valid))

pub returns-clause-blocks_value : goal.returns-clause-blocks_value
returns-clause-blocks_value g c =
    let a = c.args in
    let t = a.table.words.now in
    let f = c.first_wire in
    let n = c.wire_count-count in
    let last = c.work-over.new.room.words in
    let room : max_registers + n.result ≤ length last = omega (arith, n.ensures.value, c.requires.room, c.work-over.new.room.whole) in
    let env = c.work-over.ensures.room_after ∙ ap (λ (v : List ℕ). worked a.sampled v (wires_from t f.result n.result)) c.requires.registers_first in
    c.arrived-blocks.ensures
    ∙ arrived_is t a.k last n.result room (λ b h e. let x = c.requires.arriving b h e in omega (arith, n.ensures.value))
    ∙ ap (λ (v : List ℕ). nonzero v (map (arrival_at t) (blocks_from t a.k 0))) (env ∙ environment a.sampled t a.k f.result n.result f.ensures.value n.ensures.value a.registers.words)

pub returns-clause-registers_first : goal.returns-clause-registers_first
returns-clause-registers_first g c =
    let next = c.taken-next.result.words in
    let all : length next ≡ max_registers = search rules in
    ap (take max_registers) c.set_registers.ensures ∙ take_at next (drop max_registers c.work-over.new.room.words) max_registers all
