-- `cfg_write::put_text` meets its contract. Assumes nothing.
use native.Mathlib.Omega.{arith}
use mathlib.Core.Path.{refl}
use Rattle.std.proofs.Common.{rules}
use Rattle.cfg.specs.Table.{block_count, graph_register_count, graph_of}
use Rattle.cfg_write.specs.Write.{text_of}
use Rattle.cfg_write.proofs.PutLaws.{wrote_then, wrote_as}
use Rattle.cfg_write.proofs.BlockTextLaws.{text_lines}
use Rattle.cfg_write.proofs.put_text.Goals as goal

pub returns : goal.returns
returns c =
    let t = c.args.graph.words.now in
    let first = rw (c.blocks-2.ensures, c.registers.ensures) at c.graph_line.ensures in
    let h = wrote_as 41024 (text_of (graph_of t)) (omega arith) (text_lines t (block_count t) (graph_register_count t) refl refl) (wrote_then first c.put_blocks.ensures) in
    let p = rw (c.new-writer.ensures.from_front.0, c.new-writer.ensures.from_front.1) at h.put in
    let q = h.same_buffer in
    search (p, rules)
