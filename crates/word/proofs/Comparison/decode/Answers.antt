-- A code that is no comparison's gives the first. Assumes nothing.
use Rattle.word.proofs.Laws.{decoded}
use Rattle.word.proofs.Comparison.decode.Goals as goal

pub returns : goal.returns
returns c = decoded _ _ _ c.try_from.ensures c.unwrap_or.ensures
