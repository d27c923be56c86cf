-- `fsmd::touch::touch_word` meets its contract: after the registers from i on, the word has their bits. Assumes nothing.
use Rattle.std.proofs.Common.{◌≡◌}
use Rattle.fsmd.proofs.TouchLaws.{bits_from}
use Rattle.fsmd.proofs.touch.touch_word.Given as goal

abbrev pub invariant-loop-i : goal.invariant-loop-i
invariant-loop-i l = l.word ≡ bits_from l.next l.i
