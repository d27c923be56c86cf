-- `cfg::Block::empty` meets its contract. Assumes nothing.
use Rattle.cfg.specs.Graph.{empty_block}
use Rattle.cfg.proofs.Block.empty.Goals as goal

pub returns : goal.returns
unfolding empty_block
returns c = rw c.none.ensures
