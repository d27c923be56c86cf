-- `listing::lines::put_state` meets its contract: four fields. Assumes nothing.
use native.Mathlib.Omega.{arith}
use mathlib.Core.List.{[], ◌∷◌}
use Rattle.decimal.specs.Decimal.{decimal_of}
use Rattle.cfg_write.proofs.PutLaws.{wrote_then, wrote_as}
use Rattle.listing.specs.Listing.{listing_line}
use Rattle.listing.proofs.Puts.{line_of_four}
use Rattle.listing.proofs.lines.put_state.Goals as goal

pub returns : goal.returns
returns c =
    let k = c.args in
    wrote_as 44 (listing_line (decimal_of k.state ∷ decimal_of k.starter ∷ decimal_of k.blocks ∷ decimal_of k.wires ∷ [])) (omega arith)
    (line_of_four (decimal_of k.state) (decimal_of k.starter) (decimal_of k.blocks) (decimal_of k.wires))
    (wrote_then c.decimal.ensures (wrote_then c.number.ensures (wrote_then c.number-2.ensures (wrote_then c.number-3.ensures c.line_feed.ensures))))
