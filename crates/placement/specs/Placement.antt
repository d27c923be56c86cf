-- The order in which the blocks of a state are placed ("Wires" of paper 01). Assumes nothing.
use Rattle.std.specs.Prelude.{ℕ, zero, suc, Bool, not, ◌&&◌, ◌||◌, List, [], ◌∷◌, length, get_or, eqb, Option, Some, None}
use Rattle.runs.specs.Lists.{up_from, mem, only, every, first}
use Rattle.cfg.specs.Graph.{CFG, successors}
use Rattle.fsmd.specs.Layout.{absent}
use Rattle.grouping.specs.Grouping.{Groups}

-- the blocks of state k, in rising order
unfoldable pub members : CFG → Groups → ℕ → List ℕ
members g s k = only (λ x. eqb (get_or s.states x absent) k) (up_from 0 (length g.blocks))

-- the incoming in-state edges of x all come from placed blocks; an edge to a starter is none of them
abbrev pub ready : CFG → Groups → List ℕ → List ℕ → ℕ → Bool
ready g s blocks placed x = mem x s.starters || every (λ u. not (mem x (successors g u)) || mem u placed) blocks

abbrev pub place_next : Option ℕ → (ℕ → List ℕ) → List ℕ
place_next None f = []
place_next (Some x) f = x ∷ f x

-- the blocks still to place, in order, where `placed` has those before: always the lowest-numbered that is ready
unfoldable pub placed_from : CFG → Groups → List ℕ → ℕ → List ℕ → List ℕ
placed_from g s blocks zero placed = []
placed_from g s blocks (suc n) placed =
    place_next (first (λ x. not (mem x placed) && ready g s blocks placed x) blocks) (λ x. placed_from g s blocks n (x ∷ placed))

unfoldable pub order : CFG → Groups → ℕ → List ℕ
unfolding members placed_from
order g s k = let blocks = members g s k in placed_from g s blocks (length blocks) []
