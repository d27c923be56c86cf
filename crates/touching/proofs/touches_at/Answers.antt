-- `touching::touches_at` meets its contract: the touch word of an admitted table tells. Assumes nothing.
use native.Mathlib.Omega.{arith}
use Prim.Native.Nat.{ℕ}
use mathlib.Core.Path.{ap, ◌∙◌}
use Rattle.fsmd.specs.Touch.{bit}
use Rattle.fsmd.proofs.Machines.{admitted_facts}
use Rattle.touching.proofs.Answers.{touch_tells}
use Rattle.touching.proofs.touches_at.Goals as goal

pub touch-requires : goal.touch-requires
touch-requires c = omega (arith, (admitted_facts c.args.machine.table.words.now c.args.machine.admitted).few_states_lem)

pub returns : goal.returns
returns c =
    let a = c.args in
    c.bit.ensures ∙ ap (λ (w : ℕ). bit w a.register) c.touch.ensures ∙ touch_tells a.machine.table.words.now a.k a.register a.machine.admitted c.requires
