-- The three searches on a graph's edge bytes are those on the graph. Assumes nothing.
use Prim.Native.Nat.{ℕ, zero, suc, ◌+◌, ◌≤◌, ◌<◌}
use mathlib.Core.Bool.{Bool, not, ◌&&◌, ◌||◌}
use mathlib.Core.Logic.{inl, inr}
use mathlib.Core.Path.{◌≡◌, refl, sym, ◌∙◌, ap, ap₂, fun_ext}
use mathlib.Core.List.{List, [], ◌∷◌}
use native.Mathlib.Omega.{arith}
use lib.Dec.{eqb}
use lib.ListN.{length, get_or, set, replicate, length-set, length-replicate}
use Rattle.runs.specs.Lists.{mem, padded}
use Rattle.runs.proofs.Sets.{In, Distinct}
use Rattle.cfg.specs.Layout.{max_blocks}
use Rattle.cfg.specs.Graph.{CFG, successors}
use Rattle.fsmd.specs.Layout.{absent}
use Rattle.grouping.specs.Visit.{Visitor, visit}
use Rattle.grouping.specs.Grouping.{Loops, looping, loops, populating, populate, illegal, Detection, visited, illegal_to, detect_stop, detect_skip, detect_enter, detecting, detect}
use Rattle.grouping.specs.Bytes.{edges_in, loop_starters, taken, taken_from, population, detected_of, detection}
use Rattle.grouping.proofs.Reach.{Closed, Reached, reached_below}
use Rattle.grouping.proofs.LoopLaws.{loops_fuel}
use Rattle.grouping.proofs.PopulationLaws.{populate_with, populate_fuel}
use Rattle.grouping.proofs.DetectionLaws.{detect_fuel}
use Rattle.grouping.proofs.VisitTracks.{Tracks, visit_tracks}

-- ---- padding

get_or-past : (n d x : ℕ) → get_or (padded n d []) x d ≡ d
get_or-past zero d x = refl
get_or-past (suc n) d zero = refl
get_or-past (suc n) d (suc x) = get_or-past n d x

padded_at : (n d : ℕ) (l : List ℕ) → length l ≤ n → (x : ℕ) → get_or (padded n d l) x d ≡ get_or l x d
padded_at n d [] h x = get_or-past n d x
padded_at zero d (y ∷ l) h x = absurd (omega arith)
padded_at (suc n) d (y ∷ l) h zero = refl
padded_at (suc n) d (y ∷ l) h (suc x) = padded_at n d l (omega arith) x

padded_set : (n d : ℕ) (l : List ℕ) (x y : ℕ) → x < length l → length l ≤ n → set (padded n d l) x y ≡ padded n d (set l x y)
padded_set n d [] x y h k = absurd (omega arith)
padded_set zero d (z ∷ l) x y h k = absurd (omega arith)
padded_set (suc n) d (z ∷ l) zero y h k = refl
padded_set (suc n) d (z ∷ l) (suc x) y h k = ap (λ (m : List ℕ). z ∷ m) (padded_set n d l x y (omega arith) (omega arith))

padded_blank : (n m d : ℕ) → padded n d (replicate m d) ≡ replicate n d
padded_blank zero m d = refl
padded_blank (suc n) zero d = ap (λ (l : List ℕ). d ∷ l) (padded_blank n zero d)
padded_blank (suc n) (suc m) d = ap (λ (l : List ℕ). d ∷ l) (padded_blank n m d)

-- ---- the searches

module _ (g : CFG) (a : Closed g) where
  -- population on longer lists
  abbrev Padded : List ℕ → List ℕ → List ℕ → Type 0
  Padded path s t = (s ≡ padded max_blocks absent t) × (length t ≡ length g.blocks)

  populating_tracks : (starters : List ℕ) (r k : ℕ) → Tracks (populating starters r k) (populating starters r k) Padded (length g.blocks)
  populating_tracks starters r k =
      record {
        stops = λ path x s t l i.
            rw i.0 (ap (λ (y : ℕ). not (eqb y absent) || (mem x starters && not (eqb x r))) (padded_at max_blocks absent t (omega (arith, i.1, a.few_blocks_lem)) x));
        skips = λ path x s t l i e. i;
        enters = λ path x s t l i e. (rw i.0 (padded_set max_blocks absent t x k (omega (arith, i.1)) (omega (arith, i.1, a.few_blocks_lem))), length-set t x k ∙ i.1);
        finishes = λ path x s t l i. i;
      }

-- detection by states that agree
visitor_of : (List ℕ → ℕ → Detection → Bool) → (List ℕ → ℕ → Detection → Detection) → Visitor Detection
visitor_of stop skip = record { stop = stop; skip = skip; enter = detect_enter; finish = λ x d. d }

module _ (starters s t : List ℕ) (e : (x : ℕ) → get_or s x absent ≡ get_or t x absent) where
  illegal_alike : (path : List ℕ) (y : ℕ) → illegal starters s path y ≡ illegal starters t path y
  illegal_alike [] y = refl
  illegal_alike (x ∷ path) y = rw (e x, e y)

  stop_alike : (path : List ℕ) (y : ℕ) (d : Detection) → detect_stop starters s path y d ≡ detect_stop starters t path y d
  stop_alike path y (illegal_to z) = refl
  stop_alike path y (visited seen) = ap (λ (b : Bool). b || mem y seen) (illegal_alike path y)

  skip_alike : (path : List ℕ) (y : ℕ) (d : Detection) → detect_skip starters s path y d ≡ detect_skip starters t path y d
  skip_alike path y (illegal_to z) = refl
  skip_alike path y (visited seen) = rw (illegal_alike path y, detect_skip)

  detecting_alike : detecting starters s ≡ detecting starters t
  unfolding visitor_of
  detecting_alike =
      ap₂ visitor_of (fun_ext (λ path. fun_ext (λ y. fun_ext (λ d. stop_alike path y d)))) (fun_ext (λ path. fun_ext (λ y. fun_ext (λ d. skip_alike path y d))))

module _ (g : CFG) (a : Closed g) (bytes : List (List ℕ)) (edges : (n : ℕ) → edges_in bytes n ≡ successors g n) where
  next : edges_in bytes ≡ successors g
  next = fun_ext edges

  pub loops_bytes : loop_starters bytes ≡ (loops g).starters
  unfolding loop_starters
  loops_bytes =
      ap (λ (n : ℕ → List ℕ). (visit looping n (max_blocks + 1) [] 0 (record { finished = []; starters = 0 ∷ [] })).starters) next
      ∙ ap (λ (l : Loops). l.starters) (loops_fuel g a (max_blocks + 1) (omega (arith, a.few_blocks_lem)))

  module _ (starters : List ℕ) where
    from_bytes : (k : ℕ) (rs s : List ℕ) → ((r : ℕ) → In r rs → r < length g.blocks) → length s ≡ length g.blocks
        → taken_from bytes starters k rs (padded max_blocks absent s) ≡ padded max_blocks absent (populate_with (max_blocks + 1) g starters k rs s)
    unfolding taken_from taken
    from_bytes k [] s low i = refl
    from_bytes k (r ∷ rs) s low i =
        let m = visit_tracks (populating_tracks g a starters r k) (successors g) (λ u x j. a.inside u x j) (max_blocks + 1) [] r (padded max_blocks absent s) s (low r (inl refl)) (refl, i) in
        ap (λ (n : ℕ → List ℕ). taken_from bytes starters (suc k) rs (visit (populating starters r k) n (max_blocks + 1) [] r (padded max_blocks absent s))) next
        ∙ ap (taken_from bytes starters (suc k) rs) m.0
        ∙ from_bytes (suc k) rs (visit (populating starters r k) (successors g) (max_blocks + 1) [] r s) (λ x j. low x (inr j)) m.1

    pub population_bytes : Distinct starters → ((x : ℕ) → In x starters → Reached g x) → population bytes starters ≡ padded max_blocks absent (populate g starters)
    unfolding population
    population_bytes distinct known =
        ap (taken_from bytes starters 0 starters) (sym (padded_blank max_blocks (length g.blocks) absent))
        ∙ from_bytes 0 starters (replicate (length g.blocks) absent) (λ r i. reached_below a (known r i)) (length-replicate (length g.blocks) absent)
        ∙ ap (padded max_blocks absent) (populate_fuel g a starters distinct known (max_blocks + 1) (omega (arith, a.few_blocks_lem)))

    pub detection_bytes : (states : List ℕ) → length states ≤ max_blocks → detection bytes starters (padded max_blocks absent states) ≡ detected_of (detect g starters states)
    unfolding detection
    detection_bytes states h =
        ap₂ (λ (n : ℕ → List ℕ) (v : Visitor Detection). detected_of (visit v n (max_blocks + 1) [] 0 (visited []))) next
        (detecting_alike starters (padded max_blocks absent states) states (padded_at max_blocks absent states h))
        ∙ ap detected_of (detect_fuel g a starters states (max_blocks + 1) (omega (arith, a.few_blocks_lem)))
