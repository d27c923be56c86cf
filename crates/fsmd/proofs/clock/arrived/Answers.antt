-- `fsmd::clock::arrived` meets its contract: the blocks of the chain so far, and those that follow. Assumes nothing.
use Prim.Native.Nat.{ℕ, ◌+◌}
use native.Mathlib.Omega.{arith}
use mathlib.Core.Bool.{Bool, true, false, not}
use mir.Val.{bool_byte}
use mathlib.Core.List.{List}
use mathlib.Core.Path.{◌≡◌, refl, ap, ◌∙◌}
use lib.Dec.{eqb}
use Rattle.word.specs.Word.{truth}
use Rattle.fsmd.specs.Chains.{blocks_from}
use Rattle.fsmd.specs.Clock.{read_in}
use Rattle.fsmd.specs.Table.{arrival_at}
use Rattle.fsmd.proofs.ChainLaws.{along_few, along_end, along_rises, along_next, few_blocks_lem}
use Rattle.fsmd.proofs.TouchLaws.{bit_low}
use Rattle.fsmd.proofs.clock.arrived.Goals as goal

-- whether block b is arrived at
abbrev there : List ℕ → List ℕ → ℕ → Bool
there words table b = not (eqb (read_in words (arrival_at table b)) 0)

byte_truth : (b : Bool) → bool_byte b ≡ truth b
byte_truth true = refl
byte_truth false = refl

pub overflow_add-n : goal.overflow_add-n
overflow_add-n g c =
    let a = c.args in
    let few = along_few a.chains.now (there a.room.now.words a.table.words.now) (blocks_from a.table.words.now a.k 0) c.loop-b.n c.loop-b.b c.loop-b.invariant in
    omega (arith, few, few_blocks_lem a.table.words.now a.k 0, bit_low (not (eqb c.read.result 0)))

pub loop-b-smaller : goal.loop-b-smaller
loop-b-smaller g c =
    let a = c.args in
    let h = c.loop-b-test.true in
    let up = along_rises a.chains.now (there a.room.now.words a.table.words.now) (blocks_from a.table.words.now a.k 0) c.loop-b.n c.loop-b.b c.loop-b.invariant h in
    omega (arith, up, h, c.from-b-in-loop-b.ensures)

pub loop-b-preserved : goal.loop-b-preserved
loop-b-preserved g c =
    let a = c.args in
    let h = c.loop-b-test.true in
    let w = c.read.ensures in
    let all = blocks_from a.table.words.now a.k 0 in
    let p = there a.room.now.words a.table.words.now in
    let next = along_next a.chains.now p all c.loop-b.n c.loop-b.b c.loop-b.invariant h in
    let n : c.loop-b.n + truth (not (eqb c.read.result 0)) ≡ c.loop-b.n + truth (p c.loop-b.b) = ap (λ (x : ℕ). c.loop-b.n + truth (not (eqb x 0))) w in
    rw (c.from-n.ensures ∙ byte_truth (not (eqb c.read.result 0)), n, c.from-b-in-loop-b.ensures) next

pub returns : goal.returns
returns g c =
    let a = c.args in
    along_end a.chains.now (there a.room.now.words a.table.words.now) (blocks_from a.table.words.now a.k 0) c.loop-b.n c.loop-b.b c.loop-b.invariant c.loop-b-test.false
