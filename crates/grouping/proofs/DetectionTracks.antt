-- Detection by marks: a visited block is marked, and an illegal edge ends it. Assumes nothing.
use Prim.Native.Nat.{ℕ, zero, suc, ◌-◌, ◌<◌}
use mathlib.Core.Path.{◌≡◌, refl, sym, ap, ◌∙◌, subst}
use mathlib.Core.Bool.{Bool, true, false, not, ◌&&◌, ◌||◌}
use mathlib.Core.List.{List, [], ◌∷◌}
use native.Mathlib.Omega.{arith}
use lib.Dec.{eqb}
use lib.ListN.{length, get_or, set, replicate, length-set, get_or-replicate}
use lib.Seq.{get_or-set_same, get_or-set_other}
use Rattle.std.specs.Prelude.{Option, Some, None}
use Rattle.cfg.specs.Layout.{max_blocks}
use Rattle.runs.specs.Lists.{mem}
use Rattle.runs.proofs.Tests.{Compared, same, other, compared}
use Rattle.grouping.specs.Grouping.{illegal, Detection, visited, illegal_to, detect_stop, detect_skip, detecting}
use Rattle.grouping.specs.Visit.{Visitor}
use Rattle.grouping.specs.declared.visit.Frame.{Frame}
use Rattle.grouping.specs.Marks.{blanks, Meets}
use Rattle.grouping.specs.Bytes.{row, visit_bytes, visit_in, detected_of, detection}
use Rattle.grouping.proofs.VisitTracks.{Tracks}
use Rattle.grouping.proofs.SearchVisits.{search_tracks}
use Rattle.grouping.proofs.Blanks.{blanks_set}
use Rattle.grouping.proofs.VisitSteps.{Resting, Visiting, path_here, rest_begins, rest_ends, visit_stops}

-- the marks, and the target of an illegal edge
pub record Sighted : Type 0 where
  pub seen : List Bool
  pub illegal : Option ℕ

abbrev pub is_found : Option ℕ → Bool
is_found None = false
is_found (Some y) = true

abbrev pub found_at : Bool → ℕ → Sighted → Sighted
found_at true x s = record { seen = s.seen; illegal = Some x }
found_at false x s = s

abbrev pub sighting : List ℕ → List ℕ → Visitor Sighted
sighting starters states =
    record {
      stop = λ path x s. is_found s.illegal || (illegal starters states path x || get_or s.seen x false);
      skip = λ path x s. found_at (not (is_found s.illegal) && illegal starters states path x) x s;
      enter = λ x s. record { seen = set s.seen x true; illegal = s.illegal };
      finish = λ x s. s;
    }

-- what is found so far
abbrev Found : Sighted → Detection → Type 0
Found s (visited list) = (s.illegal ≡ None) × ((x : ℕ) → x < max_blocks → get_or s.seen x false ≡ mem x list)
Found s (illegal_to y) = s.illegal ≡ Some y

module _ (starters states : List ℕ) where
  record Detecting (path : List ℕ) (s : Sighted) (d : Detection) : Type 0 where
    size : length s.seen ≡ max_blocks
    found : Found s d

  stop_alike : (path : List ℕ) (x : ℕ) (s : Sighted) (d : Detection) → x < max_blocks → Detecting path s d → (sighting starters states).stop path x s ≡ detect_stop starters states path x d
  stop_alike path x s (visited list) l i = rw (i.found.0, i.found.1 x l) refl
  stop_alike path x s (illegal_to y) l i = rw i.found refl

  abbrev met_at : Bool → ℕ → List ℕ → Detection
  met_at b x list = elim b [ true ↦ illegal_to x | false ↦ visited list ]

  skip_at : (b : Bool) (path : List ℕ) (x : ℕ) (s : Sighted) (list : List ℕ) → Detecting path s (visited list) → Detecting path (found_at b x s) (met_at b x list)
  skip_at true path x s list i = record { size = i.size; found = refl }
  skip_at false path x s list i = i

  skip_alike : (path : List ℕ) (x : ℕ) (s : Sighted) (d : Detection) → Detecting path s d → Detecting path ((sighting starters states).skip path x s) (detect_skip starters states path x d)
  skip_alike path x s (visited list) i =
      let e : (not (is_found s.illegal) && illegal starters states path x) ≡ illegal starters states path x = rw i.found.0 refl in
      subst (λ (b : Bool). Detecting path (found_at b x s) (met_at (illegal starters states path x) x list)) (sym e) (skip_at (illegal starters states path x) path x s list i)
  skip_alike path x s (illegal_to y) i = subst (λ (o : Option ℕ). Detecting path (found_at (not (is_found o) && illegal starters states path x) x s) (illegal_to y)) (sym i.found) i

  enter_alike : (path : List ℕ) (x : ℕ) (s : Sighted) (d : Detection) → x < max_blocks → Detecting path s d → detect_stop starters states path x d ≡ false
      → Detecting (x ∷ path) ((sighting starters states).enter x s) ((detecting starters states).enter x d)
  enter_alike path x s (visited list) l i e = record { size = length-set s.seen x true ∙ i.size; found = (i.found.0, λ y h. go y h (compared y x)) }
    where
      go : (y : ℕ) → y < max_blocks → Compared y x → get_or (set s.seen x true) y false ≡ (eqb y x || mem y list)
      go y h (same e p) = rw (e, p) (get_or-set_same s.seen x true false (omega (arith, i.size)))
      go y h (other e p) = rw e (get_or-set_other s.seen x y true false p ∙ i.found.1 y h)
  enter_alike path x s (illegal_to y) l i e = cc

  detect_tracks : Tracks (sighting starters states) (detecting starters states) Detecting max_blocks
  detect_tracks =
      record {
        stops = stop_alike;
        skips = λ path x s d l i e. skip_alike path x s d i;
        enters = enter_alike;
        finishes = λ path x s d l i. record { size = i.size; found = i.found };
      }

  found_is : (s : Sighted) (d : Detection) → Found s d → s.illegal ≡ detected_of d
  found_is s (visited list) f = f.0
  found_is s (illegal_to y) f = f

seen_first : (x : ℕ) → x < max_blocks → get_or (set (replicate max_blocks false) 0 true) x false ≡ mem x (0 ∷ [])
seen_first zero h = refl
seen_first (suc x) h = get_or-replicate (max_blocks - 1) x false false (omega arith) ∙ go (compared (suc x) 0)
  where
    go : Compared (suc x) 0 → false ≡ (eqb (suc x) 0 || false)
    go (same e p) = absurd (omega arith)
    go (other e p) = rw e refl

pub sighted_first : Sighted
sighted_first = record { seen = set (replicate max_blocks false) 0 true; illegal = None }

pub sighted_whole : List (List ℕ) → List ℕ → List ℕ → Sighted
sighted_whole bytes starters states = visit_in (sighting starters states) bytes 0 sighted_first

pub edge_found : (bytes : List (List ℕ)) (starters states : List ℕ) → (sighted_whole bytes starters states).illegal ≡ detection bytes starters states
unfolding detection sighted_whole sighted_first
edge_found bytes starters states =
    let r = search_tracks (detect_tracks starters states) bytes 0 sighted_first (visited []) (omega arith) refl (record { size = refl; found = (refl, seen_first) }) in
    found_is starters states (sighted_whole bytes starters states) (visit_bytes (detecting starters states) bytes 0 (visited [])) r.found

-- ---- at the heads of the two loops, where no illegal edge is found yet

abbrev pub sighted : List Bool → Sighted
sighted seen = record { seen = seen; illegal = None }

abbrev pub whole_seen : Sighted → Type 0
whole_seen s = length s.seen ≡ max_blocks

abbrev pub unseen : Sighted → ℕ
unseen s = blanks not s.seen

abbrev pub DetectVisit : List (List ℕ) → List ℕ → List ℕ → List Bool → List Frame → Type 0
DetectVisit bytes starters states seen stack = Resting (sighting starters states) whole_seen unseen bytes (sighted_whole bytes starters states) (sighted seen) stack

abbrev pub DetectEdges : List (List ℕ) → List ℕ → List ℕ → List Bool → List Frame → Frame → Type 0
DetectEdges bytes starters states seen stack frame = Visiting (sighting starters states) whole_seen unseen bytes (sighted_whole bytes starters states) (sighted seen) stack frame

pub detect_begins : (bytes : List (List ℕ)) (starters states : List ℕ) → DetectVisit bytes starters states (set (replicate max_blocks false) 0 true) (record { block = 0; passed = 0 } ∷ [])
unfolding sighted_whole sighted_first blanks
detect_begins bytes starters states = rest_begins (sighting starters states) whole_seen unseen bytes sighted_first 0 refl (omega arith) (omega arith)

pub detect_ends : (bytes : List (List ℕ)) (starters states : List ℕ) (seen : List Bool) (stack : List Frame) → DetectVisit bytes starters states seen stack → stack ≡ [] → None ≡ detection bytes starters states
detect_ends bytes starters states seen stack i z = ap (λ (s : Sighted). s.illegal) (rest_ends i z) ∙ edge_found bytes starters states

module _ (bytes : List (List ℕ)) (starters states : List ℕ) {seen : List Bool} {stack : List Frame} {frame : Frame} (i : DetectEdges bytes starters states seen stack frame)
    (more : frame.passed < 2) (to : ℕ) (at : to ≡ get_or (row bytes frame.block) frame.passed 0) (l : to < max_blocks) where
  abbrev path : List ℕ
  path = path_here i

  -- an illegal edge
  pub detect_stops : illegal starters states (frame.block ∷ []) to ≡ true → Some to ≡ detection bytes starters states
  detect_stops e =
      ap (λ (s : Sighted). s.illegal) (visit_stops i more to at l (record { seen = seen; illegal = Some to }) (rw e refl) (rw e refl) (record { stops = λ path x. refl; skips = λ path x. refl; finishes = λ x. refl }))
      ∙ edge_found bytes starters states

  module _ (e : illegal starters states (frame.block ∷ []) to ≡ false) where
    -- a legal edge to a block that is met for the first time
    pub detect_meets : get_or seen to false ≡ false → Meets (sighting starters states) whole_seen unseen (frame.block ∷ path) to (sighted seen) (sighted (set seen to true)) true
    detect_meets new =
        let f : suc (blanks not (set seen to true)) ≡ blanks not seen = blanks_set not seen to false true (omega (arith, i.fit)) (ap not new) refl in
        (rw (e, new) refl, refl, length-set seen to true ∙ i.fit, omega (arith, f))

    -- and to one that was met
    pub detect_knows : get_or seen to false ≡ true → Meets (sighting starters states) whole_seen unseen (frame.block ∷ path) to (sighted seen) (sighted seen) false
    detect_knows old = (rw (e, old) refl, rw e refl, i.fit, omega arith)
