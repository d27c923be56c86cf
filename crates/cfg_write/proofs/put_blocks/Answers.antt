-- `cfg_write::put_blocks` meets its contract. Assumes nothing.
use Prim.Native.Nat.{◌+◌, ◌*◌}
use native.Mathlib.Omega.{arith}
use mathlib.Core.Path.{◌≡◌, sym, ap}
use Rattle.cfg.specs.Table.{block_count}
use Rattle.cfg.proofs.Admitted.{admitted_facts}
use Rattle.cfg_write.proofs.PutLaws.{wrote_none, wrote_as, wrote_then}
use Rattle.cfg_write.proofs.BlockTextLaws.{blocks_text, blocks_more, no_blocks}
use Rattle.cfg_write.proofs.put_blocks.Goals as goal

pub loop-n-init : goal.loop-n-init
loop-n-init c = wrote_as 0 (blocks_text c.args.graph.words.now 0) (omega arith) (sym (no_blocks c.args.graph.words.now)) (wrote_none c.args.writer.now)

pub block-requires : goal.block-requires
block-requires c =
    let a = admitted_facts c.args.graph.words.now c.args.graph.admitted in
    omega (arith, a.few_blocks, c.blocks-n-end.ensures, c.loop-n-test.true)

pub put_block-requires : goal.put_block-requires
put_block-requires c =
    let a = admitted_facts c.args.graph.words.now c.args.graph.admitted in
    let few = a.few_blocks in
    let n = c.loop-n.n in
    let e = c.blocks-n-end.ensures in
    let near = c.loop-n.invariant.put.near in
    (omega (arith, c.loop-n-test.true, c.requires), omega (arith, c.loop-n-test.true), rw c.block.ensures (a.block n (omega (arith, c.loop-n-test.true))).few)

pub loop-n-preserved : goal.loop-n-preserved
loop-n-preserved c =
    let t = c.args.graph.words.now in
    let n = c.loop-n.n in
    wrote_as (640 * (n + 1)) (blocks_text t (n + 1)) (omega arith) (blocks_more t n) (wrote_then c.loop-n.invariant (rw c.block.ensures at c.put_block.ensures))

pub returns : goal.returns
returns c =
    let t = c.args.graph.words.now in
    let a = admitted_facts t c.args.graph.admitted in
    let few = a.few_blocks in
    let e : c.loop-n.n ≡ block_count t = omega (arith, c.loop-n-test.false, c.blocks-n-end.ensures, c.loop-n.auto.n-end) in
    wrote_as 40960 (blocks_text t (block_count t)) (omega arith) (ap (blocks_text t) e) c.loop-n.invariant
