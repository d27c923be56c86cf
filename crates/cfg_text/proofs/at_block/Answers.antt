-- The next block begins. Assumes nothing.
use Rattle.std.proofs.Common.{refl, ◌<◌, arith}
use Rattle.cfg_text.specs.Walk.{next}
use Rattle.cfg_text.proofs.Steps.{begins}
use Rattle.cfg_text.proofs.at_block.Goals as goal

pub returns : goal.returns
unfolding next
returns c =
    let l : c.args.before.done < c.args.before.blocks = omega arith in
    λ b r bs w s. rw (c.in-Block.is, c.if-k-before.false) (begins c.args.before w b r bs s _ refl refl l)
