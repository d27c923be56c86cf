-- Placing the blocks of a state by waiting counts (request R-3). Assumes nothing.
use Rattle.std.specs.Prelude.{ℕ, zero, suc, ◌-◌, ◌≤◌, Bool, true, not, ◌&&◌, ◌≡◌, List, [], ◌∷◌, map, length, get_or, eqb, ltb, Option, Some, None}
use Rattle.word.specs.Word.{choose}
use Rattle.runs.specs.Lists.{mem, only, first, concat_map, occurrences}
use Rattle.cfg.specs.Graph.{CFG, successors}
use Rattle.fsmd.specs.Layout.{absent}
use Rattle.grouping.specs.Grouping.{Groups}
use Rattle.placement.specs.Placement.{members, order}

-- how many edges lead to x, where `targets` has one target for each
abbrev pub waiting : List ℕ → ℕ → ℕ
waiting targets x = occurrences x targets

-- each edge lowers the count of its target by one
unfoldable pub lowered : List ℕ → (ℕ → ℕ) → ℕ → ℕ
lowered [] counts = counts
lowered (t ∷ targets) counts = lowered targets (λ x. choose (eqb x t) (counts x - 1) (counts x))

abbrev pub without : ℕ → List ℕ → List ℕ
without x blocks = only (λ y. not (eqb y x)) blocks

-- a block that is chosen, and what stood before the choice
pub record Choice : Type 0 where
  pub unplaced : List ℕ
  pub counts : ℕ → ℕ
  pub block : ℕ

abbrev pub blocks_of : List Choice → List ℕ
blocks_of cs = map (λ (c : Choice). c.block) cs

abbrev pub choose_next : Option ℕ → (ℕ → List Choice) → List Choice
choose_next None f = []
choose_next (Some x) f = f x

module _ (targets : ℕ → List ℕ) where
  -- always the lowest-numbered unplaced block whose count is 0; its edges then lower the counts
  unfoldable pub choices : ℕ → List ℕ → (ℕ → ℕ) → List Choice
  choices zero unplaced counts = []
  choices (suc n) unplaced counts =
      choose_next (first (λ x. eqb (counts x) 0) unplaced)
      (λ x. record { unplaced = unplaced; counts = counts; block = x } ∷ choices n (without x unplaced) (lowered (targets x) counts))

  -- at most n choices, from the counts of all edges between the blocks
  unfoldable pub run : ℕ → List ℕ → List Choice
  unfolding choices
  run n blocks = choices n blocks (waiting (concat_map targets blocks))

-- before a choice each count is the number of edges from unplaced blocks, and each edge of the chosen block finds a count to lower
pub record Exact (targets : ℕ → List ℕ) (c : Choice) : Type 0 where
  pub number : (x : ℕ) → c.counts x ≡ waiting (concat_map targets c.unplaced) x
  pub enough : (x : ℕ) → waiting (targets c.block) x ≤ c.counts x

abbrev pub Each : (Choice → Type 0) → List Choice → Type 0
Each P [] = Unit {0}
Each P (c ∷ cs) = P c × Each P cs

-- ---- of a state

-- edge `way` of a block, where 0 is its first: true before false
pub record BlockEdge : Type 0 where
  pub source : ℕ
  pub way : ℕ
  pub target : ℕ

-- the edges of u to `targets`, from number `way` up
abbrev pub edges_to : ℕ → ℕ → List ℕ → List BlockEdge
edges_to u way [] = []
edges_to u way (t ∷ targets) = record { source = u; way = way; target = t } ∷ edges_to u (suc way) targets

-- the in-state edges of u: those to non-starters
abbrev pub edges_out : CFG → Groups → ℕ → List BlockEdge
edges_out g s u = only (λ (e : BlockEdge). not (mem e.target s.starters)) (edges_to u 0 (successors g u))

-- one target for each in-state edge of u
abbrev pub in_state_targets : CFG → Groups → ℕ → List ℕ
in_state_targets g s u = map (λ (e : BlockEdge). e.target) (edges_out g s u)

unfoldable pub choices_of : CFG → Groups → ℕ → List Choice
unfolding members run
choices_of g s k = let blocks = members g s k in run (in_state_targets g s) (length blocks) blocks

-- the in-state edges of state k, by rising source
unfoldable pub edges_of : CFG → Groups → ℕ → List BlockEdge
unfolding members
edges_of g s k = concat_map (edges_out g s) (members g s k)

-- the edges that lower a count, in the order in which they do
unfoldable pub lowerings : CFG → Groups → ℕ → List BlockEdge
unfolding choices_of
lowerings g s k = concat_map (λ (c : Choice). edges_out g s c.block) (choices_of g s k)

-- how often edge `way` of u stands in a list
abbrev pub is_edge : ℕ → ℕ → BlockEdge → Bool
is_edge u way e = eqb e.source u && eqb e.way way

abbrev pub times_in : List BlockEdge → ℕ → ℕ → ℕ
times_in edges u way = length (only (is_edge u way) edges)

-- edge `way` of u is an in-state edge of state k: u is a block of the state, and the edge leads to a non-starter
abbrev pub is_in_state : CFG → Groups → ℕ → ℕ → ℕ → Bool
is_in_state g s k u way = mem u (members g s k) && (ltb way (length (successors g u)) && not (mem (get_or (successors g u) way absent) s.starters))

-- what placing state k by counts is shown to do
pub record PlacedByCounts (g : CFG) (s : Groups) (k : ℕ) : Type 0 where
  -- the placement is the same, block for block
  pub same_order : blocks_of (choices_of g s k) ≡ order g s k
  pub exact : Each (Exact (in_state_targets g s)) (choices_of g s k)
  -- each in-state edge of the state lowers a count exactly once, and no other edge lowers one
  pub once : (u way : ℕ) → times_in (lowerings g s k) u way ≡ choose (is_in_state g s k u way) 1 0
  -- whichever edges are looked for, as many lower a count as there are
  pub alike : (p : BlockEdge → Bool) → length (only p (lowerings g s k)) ≡ length (only p (edges_of g s k))
  -- an in-state edge stays in the state
  pub inside : (u t : ℕ) → mem u (members g s k) ≡ true → mem t (in_state_targets g s u) ≡ true → mem t (members g s k) ≡ true
