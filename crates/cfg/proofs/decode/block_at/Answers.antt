-- `cfg::decode::block_at` meets its contract. Assumes nothing.
use native.Mathlib.Omega.{arith}
use mathlib.Core.Path.{◌≡◌}
use Rattle.cfg.specs.Layout.{max_instructions, block_offset}
use Rattle.cfg.specs.Table.{instruction_at, block_at}
use Rattle.cfg.proofs.Blocks.{all_decoded}
use Rattle.cfg.proofs.decode.block_at.Goals as goal

pub returns : goal.returns
unfolding block_at
returns c =
    let a = c.args in
    let l = c.loop-i in
    let is = l.block.instructions in
    let e : l.i ≡ max_instructions = omega (arith, c.loop-i-test.false) in
    rw (c.ending_at-block.ensures, all_decoded (instruction_at a.table.now (block_offset a.n)) is l.invariant.0 (λ j b. l.invariant.1 j (omega arith)))
