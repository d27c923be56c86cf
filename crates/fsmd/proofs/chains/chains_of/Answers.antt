-- `fsmd::chains::chains_of` meets its contract: the chains of the blocks from b up. Assumes nothing.
use Rattle.std.proofs.Common.{◌≡◌, ◌+◌, ◌-◌, refl, arith}
use Rattle.fsmd.proofs.ChainLaws.{chained_none, chained_skip, chained_put}
use Rattle.fsmd.proofs.chains.chains_of.Goals as goal

pub loop-b-init : goal.loop-b-init
loop-b-init c = chained_none c.args.table.words.now

-- a block of a state
pub loop-b-preserved-then-k-lt-STATES : goal.loop-b-preserved-then-k-lt-STATES
loop-b-preserved-then-k-lt-STATES c =
    let t = c.args.table.words.now in
    let b = c.loop-b.b - 1 in
    let e : b + 1 ≡ c.loop-b.b = omega arith in
    chained_put t b (omega arith) c.loop-b.chains (rw e c.loop-b.invariant) _ refl c.if-k-lt-STATES.true

-- a block of none
pub loop-b-preserved : goal.loop-b-preserved
loop-b-preserved c =
    let t = c.args.table.words.now in
    let b = c.loop-b.b - 1 in
    let e : b + 1 ≡ c.loop-b.b = omega arith in
    chained_skip t b (omega arith) c.loop-b.chains (rw e c.loop-b.invariant) (omega (arith, c.if-k-lt-STATES.false))
