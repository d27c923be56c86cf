-- `fsmd::admission::AdmittedMachine::state_count` meets its contract: an admitted machine has few states. Assumes nothing.
use Rattle.std.proofs.Common.{arith}
use Rattle.fsmd.proofs.Machines.{admitted_facts}
use Rattle.fsmd.proofs.admission.AdmittedMachine.state_count.Goals as goal

pub returns-clause-bound : goal.returns-clause-bound
returns-clause-bound c =
    let m = c.args.self in
    omega (arith, c.head.ensures.states_value, (admitted_facts m.table.words.now m.admitted).few_states_lem)
