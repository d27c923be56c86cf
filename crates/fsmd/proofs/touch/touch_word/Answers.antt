-- `fsmd::touch::touch_word` meets its contract: after the registers from i on, the word has their bits. Assumes nothing.
use Rattle.std.proofs.Common.{◌≡◌, arith, sym, ap, ◌∙◌, length}
use Rattle.fsmd.proofs.TouchLaws.{bits_from, bits_all, bits_none, bits_few, bits_step}
use Rattle.fsmd.proofs.touch.touch_word.Goals as goal

pub loop-i-init : goal.loop-i-init
loop-i-init c = let next = c.args.next.now in sym (bits_none next (length next) (omega arith))

pub with_bit-word-requires-clause-bits_bound : goal.with_bit-word-requires-clause-bits_bound
with_bit-word-requires-clause-bits_bound c = omega (arith, c.loop-i.invariant, bits_few c.args.next.now c.loop-i.i c.requires)

pub loop-i-preserved : goal.loop-i-preserved
loop-i-preserved c = c.with_bit-word.ensures ∙ bits_step c.args.next.now c.loop-i.i c.loop-i.word (omega arith) (omega arith) c.loop-i.invariant

pub returns : goal.returns
returns c =
    let next = c.args.next.now in
    let zero : c.loop-i.i ≡ 0 = omega arith in
    c.loop-i.invariant ∙ ap (bits_from next) zero ∙ bits_all next
