-- `cfg_write::line::Writer::literal` meets its contract. Assumes nothing.
use mathlib.Core.List.{◌∷◌}
use native.Mathlib.Omega.{arith}
use Rattle.cfg_write.specs.Write.{literal_text}
use Rattle.cfg_write.proofs.PutLaws.{wrote_then, wrote_as, literal_low, literal_high}
use Rattle.cfg_write.proofs.line.Writer.literal.Goals as goal

pub returns-then-word-lt2147483648 : goal.returns-then-word-lt2147483648
returns-then-word-lt2147483648 c =
    wrote_as 12 (44 ∷ literal_text c.args.word) (omega arith) (rw (literal_low c.args.word c.if-word-lt2147483648.true)) c.number.ensures

pub returns-else-word-lt2147483648 : goal.returns-else-word-lt2147483648
returns-else-word-lt2147483648 c =
    let w = c.args.word in
    let h = c.if-word-lt2147483648.false in
    let f = c.ranges.word.fits in
    wrote_as 12 (44 ∷ literal_text w) (omega arith) (rw (literal_high w h c.wrapping_neg.result (omega (arith, c.wrapping_neg.ensures))))
    (wrote_then c.byte.ensures (wrote_then c.byte-else-word-lt2147483648.ensures c.decimal.ensures))
