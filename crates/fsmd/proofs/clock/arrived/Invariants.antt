-- `fsmd::clock::arrived` meets its contract: the blocks of the chain so far, and those that follow. Assumes nothing.
use Prim.Native.Nat.{ℕ, ◌-◌}
use mathlib.Core.Bool.{Bool, not}
use mathlib.Core.List.{List}
use lib.Dec.{eqb}
use Rattle.fsmd.specs.Chains.{blocks_from}
use Rattle.fsmd.specs.Clock.{read_in}
use Rattle.fsmd.specs.Layout.{max_blocks}
use Rattle.fsmd.specs.Table.{arrival_at}
use Rattle.fsmd.proofs.ChainLaws.{Along}
use Rattle.fsmd.proofs.clock.arrived.Given as goal

-- whether block b is arrived at
abbrev there : List ℕ → List ℕ → ℕ → Bool
there words table b = not (eqb (read_in words (arrival_at table b)) 0)

abbrev pub invariant-loop-b : goal.invariant-loop-b
invariant-loop-b g l = Along l.chains (there l.room.words l.table.words.now) (blocks_from l.table.words.now l.k 0) l.n l.b

abbrev pub decreases-loop-b : goal.decreases-loop-b
decreases-loop-b g l = max_blocks - l.b
