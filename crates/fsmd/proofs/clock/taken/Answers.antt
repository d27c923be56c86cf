-- `fsmd::clock::taken` meets its contract: the first i registers are taken, the others as they were. Assumes nothing.
use Prim.Native.Nat.{ℕ, ◌<◌}
use native.Mathlib.Omega.{arith}
use mathlib.Core.List.{List}
use mathlib.Core.Path.{◌≡◌, ap, ◌∙◌}
use lib.ListN.{length, set}
use borrow.Author.Rules.{rules}
use Rattle.fsmd.specs.Clock.{read_in}
use Rattle.fsmd.specs.Layout.{max_registers}
use Rattle.fsmd.proofs.Windows.{put_more}
use Rattle.fsmd.proofs.clock.taken.Goals as goal

pub loop-i-preserved : goal.loop-i-preserved
loop-i-preserved g c =
    let a = c.args in
    let i = c.loop-i.i in
    let q : i < a.count = omega arith in
    let l : length a.registers.words ≡ max_registers = search rules in (
      omega arith,
      ap (λ (l : List ℕ). set l i c.read.result) c.loop-i.invariant.1
          ∙ put_more a.table.now a.at a.count (search rules) (read_in a.room.now.words) a.registers.words i c.read.result q (omega arith) c.read.ensures,
    )
