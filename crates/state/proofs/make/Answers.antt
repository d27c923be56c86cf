-- `state::make` meets its contract. Assumes nothing.
use native.Mathlib.Omega.{arith}
use Rattle.cfg.proofs.Admitted.{admitted_facts}
use Rattle.state.proofs.make.Goals as goal

pub invariant_of-list : goal.invariant_of-list
invariant_of-list c = let d = admitted_facts c.args.graph.words.now c.args.graph.admitted in omega (arith, d.few_registers, c.registers-registers.ensures)
