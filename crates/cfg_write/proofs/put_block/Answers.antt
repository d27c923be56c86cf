-- `cfg_write::put_block` meets its contract. Assumes nothing.
use Prim.Native.Nat.{◌+◌, ◌*◌}
use mathlib.Core.List.{[]}
use native.Mathlib.Omega.{arith}
use mathlib.Core.Path.{ap}
use lib.ListN.{take, length-take}
use lib.Seq.{take_all}
use Rattle.cfg.specs.Graph.{instructions_of}
use Rattle.cfg_write.specs.Write.{block_lines}
use Rattle.cfg_write.specs.Put.{lines_text}
use Rattle.cfg_write.proofs.PutLaws.{wrote_none, wrote_then, wrote_as}
use Rattle.cfg_write.proofs.BlockTextLaws.{no_code, code_text, code_more, block_is}
use Rattle.cfg_write.proofs.put_block.Goals as goal

pub loop-instruction-init : goal.loop-instruction-init
loop-instruction-init c = wrote_as 0 (code_text []) (omega arith) no_code (wrote_none c.numbered.new.self)

pub loop-instruction-preserved : goal.loop-instruction-preserved
loop-instruction-preserved c =
    let is = instructions_of c.args.block in
    let i = c.loop-instruction.instruction-index in
    wrote_as (64 * (i + 1)) (code_text (take (i + 1) is)) (omega arith) (code_more is i c.loop-instruction-test.true) (wrote_then c.loop-instruction.invariant c.instruction.ensures)

pub returns : goal.returns
returns c =
    let b = c.args.block in
    let is = instructions_of b in
    let l = c.loop-instruction in
    let few = length-take b.count b.instructions in
    let code = wrote_as 512 (code_text is) (omega (arith, l.auto.instruction-index-end, c.requires.2)) (ap code_text (take_all l.instruction-index is c.loop-instruction-test.false)) l.invariant in
    wrote_as 640 (lines_text (block_lines c.args.n b)) (omega arith) (block_is c.args.n b) (wrote_then c.numbered.ensures (wrote_then code c.ending.ensures))
