-- The text ends where every block is read. Assumes nothing.
use Rattle.cfg_text.specs.Walk.{Progress, finish}
use Rattle.std.specs.Prelude.{Ok}
use Rattle.cfg_text.specs.ReadSteps.{AnswersReading}
use Rattle.cfg_text.proofs.Steps.{only_between, finished}
use Rattle.cfg_text.proofs.at_end.Goals as goal

pub returns-in-Between : goal.returns-in-Between
returns-in-Between c =
    λ q w s.
    let n = c.args.line in
    let d = c.in-Between.before in
    only_between (λ (x : Progress). AnswersReading (Ok tt) w (finish x n)) q (rw c.in-Between.is at s) (λ b r bs z. finished d w b r bs n z c.if-before.true)
