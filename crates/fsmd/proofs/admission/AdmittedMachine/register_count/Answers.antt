-- `fsmd::admission::AdmittedMachine::register_count` meets its contract: an admitted machine has few registers. Assumes nothing.
use Rattle.std.proofs.Common.{arith}
use Rattle.fsmd.proofs.Machines.{admitted_facts}
use Rattle.fsmd.proofs.admission.AdmittedMachine.register_count.Goals as goal

pub returns-clause-bound : goal.returns-clause-bound
returns-clause-bound c =
    let m = c.args.self in
    omega (arith, c.head.ensures.registers_value, (admitted_facts m.table.words.now m.admitted).few_registers_lem)
