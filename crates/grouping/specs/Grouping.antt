-- Grouping of blocks into states ("Grouping" of paper 01): loop detection, population, detection, and their repetition. Assumes nothing.
use Rattle.std.specs.Prelude.{ℕ, zero, suc, Bool, true, false, not, ◌&&◌, ◌||◌, List, [], ◌∷◌, ◌++◌, length, get_or, set, replicate, eqb}
use Rattle.runs.specs.Lists.{mem}
use Rattle.cfg.specs.Graph.{CFG}
use Rattle.fsmd.specs.Layout.{absent}
use Rattle.grouping.specs.Visit.{Visitor, visit_from}

-- 1. Loop detection. `finished` has the blocks left for good, the last first; a block is met again where it is finished or on the path.
pub record Loops : Type 0 where
  pub finished : List ℕ
  pub starters : List ℕ

-- x becomes the newest starter when it isn't one already
abbrev pub started_at : ℕ → Loops → Loops
started_at x s =
    record { finished = s.finished; starters = elim (mem x s.starters) [ true ↦ s.starters | false ↦ s.starters ++ (x ∷ []) ] }

abbrev pub finished_at : ℕ → Loops → Loops
finished_at x s = record { finished = x ∷ s.finished; starters = s.starters }

abbrev pub looping : Visitor Loops
looping =
    record {
      stop = λ path x s. mem x s.finished || mem x path;
      skip = λ path x s. elim (mem x s.finished) [ true ↦ s | false ↦ started_at x s ];
      enter = λ x s. s;
      finish = finished_at;
    }

-- from block 0, the first starter
unfoldable pub loops : CFG → Loops
unfolding visit_from
loops g = visit_from looping g 0 (record { finished = []; starters = 0 ∷ [] })

-- 2. Population. What is threaded is the state of each block, 255 while none has taken it. State k takes from its starter r on,
-- and stops at starters of other states.
abbrev pub populating : List ℕ → ℕ → ℕ → Visitor (List ℕ)
populating starters r k =
    record {
      stop = λ path x states. not (eqb (get_or states x absent) absent) || (mem x starters && not (eqb x r));
      skip = λ path x states. states;
      enter = λ x states. set states x k;
      finish = λ x states. states;
    }

-- states in order of creation, from number k on
unfoldable pub populate_from : CFG → List ℕ → ℕ → List ℕ → List ℕ → List ℕ
unfolding visit_from
populate_from g starters k [] states = states
populate_from g starters k (r ∷ rs) states = populate_from g starters (suc k) rs (visit_from (populating starters r k) g r states)

unfoldable pub populate : CFG → List ℕ → List ℕ
unfolding populate_from
populate g starters = populate_from g starters 0 starters (replicate (length g.blocks) absent)

-- 3. Detection. An edge is tested before it is gone down: it is illegal where it leads to another state and its target is no starter.
abbrev pub illegal : List ℕ → List ℕ → List ℕ → ℕ → Bool
illegal starters states [] y = false
illegal starters states (x ∷ path) y = not (eqb (get_or states x absent) (get_or states y absent)) && not (mem y starters)

-- the blocks visited so far, or the target of the first illegal edge, which ends the whole detection
pub data Detection : Type 0 where
  visited : List ℕ → Detection
  illegal_to : ℕ → Detection

module _ (starters states : List ℕ) where
  abbrev pub detect_stop : List ℕ → ℕ → Detection → Bool
  detect_stop path y (illegal_to z) = true
  detect_stop path y (visited seen) = illegal starters states path y || mem y seen

  abbrev pub detect_skip : List ℕ → ℕ → Detection → Detection
  detect_skip path y (illegal_to z) = illegal_to z
  detect_skip path y (visited seen) = elim (illegal starters states path y) [ true ↦ illegal_to y | false ↦ visited seen ]

abbrev pub detect_enter : ℕ → Detection → Detection
detect_enter y (illegal_to z) = illegal_to z
detect_enter y (visited seen) = visited (y ∷ seen)

abbrev pub detecting : List ℕ → List ℕ → Visitor Detection
detecting starters states =
    record {
      stop = detect_stop starters states;
      skip = detect_skip starters states;
      enter = detect_enter;
      finish = λ x d. d;
    }

unfoldable pub detect : CFG → List ℕ → List ℕ → Detection
unfolding visit_from
detect g starters states = visit_from (detecting starters states) g 0 (visited [])

-- the finished grouping: the starter of each state, and the state of each block
pub record Groups : Type 0 where
  pub starters : List ℕ
  pub states : List ℕ

-- an illegal edge's target becomes the newest starter, and population begins again from nothing
unfoldable pub regroup : CFG → ℕ → List ℕ → Groups
unfolding populate detect
regroup g zero starters = record { starters = starters; states = populate g starters }
regroup g (suc rounds) starters =
    let states = populate g starters in
    elim (detect g starters states) [
      | visited seen ↦ record { starters = starters; states = states }
      | illegal_to y ↦ regroup g rounds (starters ++ (y ∷ []))
    ]

-- as many rounds as blocks suffice, which is proved
unfoldable pub groups : CFG → Groups
unfolding regroup loops
groups g = regroup g (length g.blocks) (loops g).starters
