-- What the bytes of the placement code stand for. Assumes nothing.
use Rattle.std.specs.Prelude.{ℕ, zero, suc, Bool, false, not, ◌&&◌, ◌||◌, List, [], ◌∷◌, eqb, ltb, get_or}
use Rattle.runs.specs.Lists.{up_from, mem, only, keep, every, first}
use Rattle.fsmd.specs.Layout.{max_blocks, absent}
use Rattle.grouping.specs.Bytes.{edges_in}
use Rattle.placement.specs.Placement.{place_next}

-- a mark stands at x; past the end none does
abbrev pub marked : List Bool → ℕ → Bool
marked marks x = get_or marks x false

-- x is a block of state k
abbrev pub of_state : List ℕ → ℕ → ℕ → Bool
of_state states k x = eqb (get_or states x absent) k

-- the blocks of state k among the n from number x up
abbrev pub members_from : List ℕ → ℕ → ℕ → ℕ → List ℕ
members_from states k x n = only (of_state states k) (up_from x n)

abbrev pub members_in : List ℕ → ℕ → List ℕ
members_in states k = members_from states k 0 max_blocks

-- u is placed, or does not lead to x
abbrev pub passes : List (List ℕ) → (ℕ → Bool) → ℕ → ℕ → Bool
passes edges placed x u = not (mem x (edges_in edges u)) || placed u

abbrev pub ready_in : List (List ℕ) → List Bool → List ℕ → (ℕ → Bool) → ℕ → Bool
ready_in edges starts blocks placed x = marked starts x || every (passes edges placed x) blocks

-- x is not placed, and is ready
abbrev pub next_in : List (List ℕ) → List Bool → List ℕ → (ℕ → Bool) → ℕ → Bool
next_in edges starts blocks placed x = not (placed x) && ready_in edges starts blocks placed x

-- the blocks still to place, at most n
unfoldable pub placed_in : List (List ℕ) → List Bool → List ℕ → ℕ → List ℕ → List ℕ
placed_in edges starts blocks zero placed = []
placed_in edges starts blocks (suc n) placed =
    place_next (first (next_in edges starts blocks (λ x. mem x placed)) blocks) (λ x. placed_in edges starts blocks n (x ∷ placed))

-- ---- by counts

-- an edge to t is in-state: t is a block, and no starter
abbrev pub awaited : List Bool → ℕ → Bool
awaited starts t = ltb t max_blocks && not (marked starts t)

-- the target of one edge, where it is in-state
abbrev pub target_in : List Bool → ℕ → List ℕ
target_in starts t = keep (awaited starts t) t []

-- the targets of u's in-state edges
abbrev pub targets_in : List (List ℕ) → List Bool → ℕ → List ℕ
targets_in edges starts u = only (λ t. not (marked starts t)) (edges_in edges u)

-- the counts that the bytes hold
abbrev pub counts_in : List ℕ → ℕ → ℕ
counts_in waits x = get_or waits x 0

-- no edge to x is waited for
abbrev pub is_ready : List ℕ → ℕ → Bool
is_ready waits x = eqb (counts_in waits x) 0
