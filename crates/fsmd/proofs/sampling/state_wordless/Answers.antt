-- `fsmd::sampling::state_wordless` meets its contract: the wires of an admitted machine's state end within those of the machine. Assumes nothing.
use Rattle.std.proofs.Common.{ap₂, ◌∙◌, arith}
use Rattle.fsmd.specs.Table.{state_at}
use Rattle.fsmd.proofs.Machines.{wordless_wires, admitted_facts}
use Rattle.fsmd.proofs.sampling.state_wordless.Goals as goal

pub first_wire-requires : goal.first_wire-requires
first_wire-requires c = let m = c.args.machine in omega (arith, (admitted_facts m.table.words.now m.admitted).few_states_lem, c.requires)

pub wire_count-requires : goal.wire_count-requires
wire_count-requires c = let m = c.args.machine in omega (arith, (admitted_facts m.table.words.now m.admitted).few_states_lem, c.requires)

pub wires_wordless-requires : goal.wires_wordless-requires
wires_wordless-requires c =
    let m = c.args.machine in
    omega (arith, (admitted_facts m.table.words.now m.admitted).in_space c.args.k c.requires, c.first_wire.ensures.value, c.wire_count.ensures.value)

pub returns : goal.returns
unfolding state_at
returns c = c.wires_wordless.ensures ∙ ap₂ (wordless_wires c.args.machine.table.words.now) c.first_wire.ensures.value c.wire_count.ensures.value
