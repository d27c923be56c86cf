-- `listing::lines::put_named` meets its contract: three fields. Assumes nothing.
use native.Mathlib.Omega.{arith}
use mathlib.Core.List.{[], ◌∷◌}
use Rattle.decimal.specs.Decimal.{decimal_of}
use Rattle.cfg_write.proofs.PutLaws.{wrote_then, wrote_as}
use Rattle.listing.specs.Listing.{listing_line}
use Rattle.listing.proofs.Puts.{line_of_three}
use Rattle.listing.proofs.lines.put_named.Goals as goal

pub returns : goal.returns
returns c =
    let k = c.args in
    let name = k.name.now in
    wrote_as 31 (listing_line (name ∷ decimal_of k.first ∷ decimal_of k.second ∷ [])) (omega arith) (line_of_three name (decimal_of k.first) (decimal_of k.second))
    (wrote_then c.bytes.ensures (wrote_then c.number.ensures (wrote_then c.number-2.ensures c.line_feed.ensures)))
