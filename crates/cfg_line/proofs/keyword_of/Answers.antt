-- A packed name that is none of them. Assumes nothing.
use Rattle.std.proofs.Common.{rules, tests}
use Rattle.cfg_line.proofs.Packing.{keyword_is}
use Rattle.cfg_line.proofs.keyword_of.Goals as goal

pub returns-in_default : goal.returns-in_default
returns-in_default c = λ f b e. rw (keyword_is f b e) (search (tests, rules))
