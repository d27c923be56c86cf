-- The visits that the searches make are those of the definitions. Assumes nothing.
use Prim.Native.Nat.{ℕ, ◌<◌}
use mathlib.Core.Path.{◌≡◌, sym, subst}
use mathlib.Core.Bool.{false}
use mathlib.Core.List.{List, [], ◌∷◌}
use lib.Dec.{ltb}
use lib.ListN.{get_or}
use borrow.Author.Tests.{ltb-true}
use Rattle.runs.proofs.Sets.{In}
use Rattle.runs.proofs.MembershipLaws.{only_in}
use Rattle.cfg.specs.Layout.{max_blocks}
use Rattle.grouping.specs.Visit.{Visitor}
use Rattle.grouping.specs.Bytes.{row, edges_from, edges_in, visit_bytes, visit_in}
use Rattle.grouping.proofs.VisitLaws.{visit_goes}
use Rattle.grouping.proofs.VisitTracks.{Tracks, below_tracks}

-- successors in bytes are blocks
pub edges_low : (bytes : List (List ℕ)) (u x : ℕ) → In x (edges_in bytes u) → x < max_blocks
unfolding edges_from
edges_low bytes u x i = ltb-true x max_blocks (only_in (λ t. ltb t max_blocks) (get_or (row bytes u) 0 0 ∷ get_or (row bytes u) 1 0 ∷ []) x i).1

-- the root is gone into
pub visit_from_root : {S : Type 0} (v : Visitor S) (bytes : List (List ℕ)) (root : ℕ) (s : S) → v.stop [] root s ≡ false → visit_bytes v bytes root s ≡ visit_in v bytes root (v.enter root s)
unfolding visit_in
visit_from_root v bytes root s e = visit_goes v (edges_in bytes) max_blocks [] root s e

pub search_tracks : {S T : Type 0} {v : Visitor S} {w : Visitor T} {R : List ℕ → S → T → Type 0} → Tracks v w R max_blocks
    → (bytes : List (List ℕ)) (root : ℕ) (s : S) (t : T) → root < max_blocks → w.stop [] root t ≡ false → R (root ∷ []) s (w.enter root t) → R [] (visit_in v bytes root s) (visit_bytes w bytes root t)
unfolding visit_in
search_tracks {v = v} {w = w} {R = R} m bytes root s t l e i =
    subst (R [] (visit_in v bytes root s)) (sym (visit_from_root w bytes root t e)) (below_tracks m (edges_in bytes) (edges_low bytes) max_blocks [] root s (w.enter root t) l i)
