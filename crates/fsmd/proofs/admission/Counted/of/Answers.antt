-- `fsmd::admission::Counted::of` meets its contract: a table whose counts are not within their limits is not admitted. Assumes nothing.
use Rattle.std.proofs.Common.{arith}
use Rattle.fsmd.proofs.Machines.{not_admitted}
use Rattle.fsmd.proofs.admission.Counted.of.Goals as goal

pub returns-then-states-lt1 : goal.returns-then-states-lt1
returns-then-states-lt1 c = not_admitted _ (λ m. grind (arith, m.some_states, m.few_states_lem))

pub returns-then-registers-lt1 : goal.returns-then-registers-lt1
returns-then-registers-lt1 c = not_admitted _ (λ m. grind (arith, m.some_registers, m.few_registers_lem))
