-- The listings that paper 01 gives, computed from the definition. Assumes nothing.
use mathlib.Core.Bool.{◌&&◌}
use mathlib.Core.List.{[], ◌∷◌}
use lib.ListN.{replicate}
use lib.Dec.{T}
use Rattle.runs.specs.Lists.{same}
use Rattle.worked_examples.specs.Texts.{lines, p7_text}
use Rattle.listing.specs.Listing.{listing}

listed : T (same (listing p7_text) (lines ("states,2,20" ∷ "0,0,1,2" ∷ "1,1,5,18" ∷ [])))
unfolding listing p7_text
listed = tt

-- a refused text: its number and line, and line 0 for a text too long
refused_texts : T (same (listing []) (lines ("refused,3,1" ∷ []))
    && (same (listing (lines ("graph,65,1" ∷ []))) (lines ("refused,2,1" ∷ []))
    && (same (listing (lines ("graph,64,1" ∷ []))) (lines ("refused,3,2" ∷ []))
    && same (listing (replicate 16385 48)) (lines ("refused,1,0" ∷ [])))))
unfolding listing
refused_texts = tt
