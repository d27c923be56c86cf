-- `cfg_write::line::Writer::numbered` meets its contract. Assumes nothing.
use native.Mathlib.Omega.{arith}
use mathlib.Core.Path.{refl}
use Rattle.cfg_write.specs.Put.{numbered}
use Rattle.cfg_write.proofs.PutLaws.{wrote_then, wrote_as}
use Rattle.cfg_write.proofs.line.Writer.numbered.Goals as goal

pub returns : goal.returns
unfolding numbered
returns c =
    let a = c.args in
    wrote_as 64 (numbered a.name.now a.n) (omega arith) refl (wrote_then c.bytes.ensures (wrote_then c.number.ensures c.line_feed.ensures))
