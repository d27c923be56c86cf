-- What the bytes of the inner functions stand for, and the three searches on them. Assumes nothing.
use Rattle.std.specs.Prelude.{ℕ, suc, true, false, List, [], ◌∷◌, ◌++◌, Option, Some, None, ltb, get_or, drop, replicate}
use Rattle.runs.specs.Lists.{mem, only}
use Rattle.cfg.specs.Layout.{max_blocks}
use Rattle.fsmd.specs.Layout.{absent}
use Rattle.grouping.specs.Visit.{Visitor, each, visit}
use Rattle.grouping.specs.Grouping.{looping, populating, Detection, visited, illegal_to, detecting}

-- the two bytes of block n, true first
abbrev pub row : List (List ℕ) → ℕ → List ℕ
row bytes n = get_or bytes n (absent ∷ absent ∷ [])

-- its successors from the kth on; a byte from 64 up is none
unfoldable pub edges_from : List (List ℕ) → ℕ → ℕ → List ℕ
edges_from bytes n k = only (λ t. ltb t max_blocks) (drop k (get_or (row bytes n) 0 0 ∷ get_or (row bytes n) 1 0 ∷ []))

abbrev pub edges_in : List (List ℕ) → ℕ → List ℕ
edges_in bytes n = edges_from bytes n 0

-- x becomes the newest starter when it isn't one already
abbrev pub with_starter : ℕ → List ℕ → List ℕ
with_starter x starters = elim (mem x starters) [ true ↦ starters | false ↦ starters ++ (x ∷ []) ]

-- the path of a visit is no longer than the blocks are many
abbrev pub visit_bytes : {S : Type 0} → Visitor S → List (List ℕ) → ℕ → S → S
visit_bytes v bytes root s = visit v (edges_in bytes) (suc max_blocks) [] root s

-- what is left of it once the root is gone into
unfoldable pub visit_in : {S : Type 0} → Visitor S → List (List ℕ) → ℕ → S → S
unfolding visit
visit_in v bytes root s = v.finish root (each (visit v (edges_in bytes) max_blocks (root ∷ [])) (edges_in bytes root) s)

unfoldable pub loop_starters : List (List ℕ) → List ℕ
unfolding visit
loop_starters bytes = (visit_bytes looping bytes 0 (record { finished = []; starters = 0 ∷ [] })).starters

-- state k takes from its starter r on
unfoldable pub taken : List (List ℕ) → List ℕ → ℕ → ℕ → List ℕ → List ℕ
unfolding visit
taken bytes starters r k states = visit_bytes (populating starters r k) bytes r states

unfoldable pub taken_from : List (List ℕ) → List ℕ → ℕ → List ℕ → List ℕ → List ℕ
unfolding taken
taken_from bytes starters k [] states = states
taken_from bytes starters k (r ∷ rs) states = taken_from bytes starters (suc k) rs (taken bytes starters r k states)

unfoldable pub population : List (List ℕ) → List ℕ → List ℕ
unfolding taken_from
population bytes starters = taken_from bytes starters 0 starters (replicate max_blocks absent)

abbrev pub detected_of : Detection → Option ℕ
detected_of (visited seen) = None
detected_of (illegal_to y) = Some y

unfoldable pub detection : List (List ℕ) → List ℕ → List ℕ → Option ℕ
unfolding visit
detection bytes starters states = detected_of (visit_bytes (detecting starters states) bytes 0 (visited []))
