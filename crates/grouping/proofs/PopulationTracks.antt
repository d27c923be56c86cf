-- Population by one search after another: a block is seen where a state has taken it. Assumes nothing.
use Prim.Native.Nat.{ℕ, ◌+◌, ◌<◌, ◌≤◌}
use mathlib.Core.Path.{◌≡◌, refl, sym, ap, ◌∙◌}
use mathlib.Core.Bool.{Bool, true, false, not, ◌&&◌, ◌||◌, and-false}
use mathlib.Core.List.{List, [], ◌∷◌}
use native.Mathlib.Omega.{arith}
use native.Mathlib.Numerals.{add-one}
use lib.Dec.{eqb}
use lib.ListN.{length, get_or, set, drop, replicate, length-set, length-replicate, drop_of_length-le}
use lib.Seq.{get_or-set_same, get_or-set_other, drop-cons}
use borrow.Author.Tests.{eq-eqb, ne_eqb}
use Rattle.cfg.specs.Layout.{max_blocks}
use Rattle.fsmd.specs.Layout.{absent}
use Rattle.runs.specs.Lists.{mem}
use Rattle.runs.proofs.Tests.{Compared, same, other, compared}
use Rattle.runs.proofs.Sets.{get_or-any}
use Rattle.grouping.specs.declared.population.StateSearch.{StateSearch}
use Rattle.grouping.specs.Grouping.{populating}
use Rattle.grouping.specs.Marks.{blanks}
use Rattle.grouping.specs.Searches.{state_search}
use Rattle.grouping.specs.Bytes.{edges_in, visit_bytes, visit_in, taken, taken_from, population}
use Rattle.grouping.proofs.VisitLaws.{visit_stops}
use Rattle.grouping.proofs.Blanks.{blanks_lt}
use Rattle.grouping.proofs.VisitTracks.{Tracks}
use Rattle.grouping.proofs.SearchVisits.{search_tracks}

module _ (starters : List ℕ) (r k : ℕ) where
  -- the starter's block is taken from the first
  record Taking (path : List ℕ) (s : StateSearch) (states : List ℕ) : Type 0 where
    size : length states ≡ max_blocks
    own : get_or states r absent ≡ absent → ⊥
    alike : s.states ≡ states
    number : s.number ≡ k
    few : k < absent
    own_starters : s.starters.now ≡ starters

  stop_alike : (path : List ℕ) (x : ℕ) (s : StateSearch) (states : List ℕ) → x < max_blocks → Taking path s states → state_search.stop path x s ≡ (populating starters r k).stop path x states
  stop_alike path x s states l i = rw (i.alike, i.own_starters) (go (compared x r))
    where
      go : Compared x r → (not (eqb (get_or states x absent) absent) || mem x starters) ≡ (not (eqb (get_or states x absent) absent) || (mem x starters && not (eqb x r)))
      go (same e p) = rw (p, ne_eqb (get_or states r absent) absent i.own) refl
      go (other e p) = rw e (ap (λ (b : Bool). not (eqb (get_or states x absent) absent) || b) (and_true_lem (mem x starters)))
        where
          and_true_lem : (b : Bool) → b ≡ (b && true)
          and_true_lem true = refl
          and_true_lem false = refl

  enter_alike : (path : List ℕ) (x : ℕ) (s : StateSearch) (states : List ℕ) → x < max_blocks → Taking path s states → Taking (x ∷ path) (state_search.enter x s) (set states x k)
  enter_alike path x s states l i =
      record {
        size = length-set states x k ∙ i.size;
        own = λ f. own (compared r x) f;
        alike = rw (i.alike, i.number) refl;
        number = i.number;
        few = i.few;
        own_starters = i.own_starters;
      }
    where
      own : Compared r x → get_or (set states x k) r absent ≡ absent → ⊥
      own (same e p) f = let g = get_or-set_same states x k absent (omega (arith, i.size)) in let q : get_or (set states x k) x absent ≡ absent = rw p at f in let few = i.few in omega arith
      own (other e p) f = i.own (sym (get_or-set_other states x r k absent p) ∙ f)

  take_tracks : Tracks state_search (populating starters r k) Taking max_blocks
  take_tracks =
      record {
        stops = stop_alike;
        skips = λ path x s t l i e. i;
        enters = λ path x s t l i e. enter_alike path x s t l i;
        finishes = λ path x s t l i. record { size = i.size; own = i.own; alike = i.alike; number = i.number; few = i.few; own_starters = i.own_starters };
      }

-- ---- one starter after another

-- at the head of a pass: states from number k on are still to take
pub record Populating (bytes : List (List ℕ)) (starters : List ℕ) (s : StateSearch) (k : ℕ) : Type 0 where
  pub size : length s.states ≡ max_blocks
  pub number : s.number ≡ k
  pub own_starters : s.starters.now ≡ starters
  pub left : taken_from bytes starters k (drop k starters) s.states ≡ population bytes starters

pub populating_begins : (bytes : List (List ℕ)) (starters : List ℕ) (s : StateSearch) → s.states ≡ replicate max_blocks absent → s.number ≡ 0 → s.starters.now ≡ starters → Populating bytes starters s 0
unfolding population
populating_begins bytes starters s e n o = record { size = ap length e ∙ length-replicate max_blocks absent; number = n; own_starters = o; left = rw e refl }

module _ {bytes : List (List ℕ)} {starters : List ℕ} {s : StateSearch} {k : ℕ} (i : Populating bytes starters s k) where
  -- the starter's block is taken already
  module _ (r : ℕ) (is : r ≡ get_or starters k 0) (h : k < length starters) (l : r < max_blocks) where
    passed_on : (states : List ℕ) → states ≡ taken bytes starters r k s.states → taken_from bytes starters (k + 1) (drop (k + 1) starters) states ≡ population bytes starters
    unfolding taken_from
    passed_on states e = rw (e, add-one, is) (rw (drop-cons starters k 0 h) at i.left)

    abbrev counted : StateSearch → StateSearch
    counted t = record { starters = t.starters; states = t.states; number = t.number + 1 }

    pub populating_passes : (get_or s.states r 0 ≡ absent → ⊥) → Populating bytes starters (counted s) (k + 1)
    unfolding taken
    populating_passes f =
        record {
          size = i.size;
          number = ap (λ (n : ℕ). n + 1) i.number;
          own_starters = i.own_starters;
          left = passed_on s.states (sym (visit_stops (populating starters r k) (edges_in bytes) max_blocks [] r s.states stops));
        }
      where
        stops : (populating starters r k).stop [] r s.states ≡ true
        stops = rw (ne_eqb (get_or s.states r absent) absent (λ e. f (get_or-any s.states r 0 absent (omega (arith, i.size)) ∙ e))) refl

    abbrev rooted : StateSearch
    rooted = record { starters = s.starters; states = set s.states r s.number; number = s.number }

    pub populating_takes : get_or s.states r 0 ≡ absent → k < absent → Populating bytes starters (counted (visit_in state_search bytes r rooted)) (k + 1)
    unfolding taken
    populating_takes e few =
        record {
          size = ap length t.alike ∙ t.size;
          number = ap (λ (n : ℕ). n + 1) t.number;
          own_starters = t.own_starters;
          left = passed_on (visit_in state_search bytes r rooted).states t.alike;
        }
      where
        free : (populating starters r k).stop [] r s.states ≡ false
        free = rw (get_or-any s.states r absent 0 (omega (arith, i.size)), eq-eqb (get_or s.states r 0) absent e, eq-eqb r r refl) (and-false (mem r starters))

        here : Taking starters r k (r ∷ []) rooted (set s.states r k)
        here =
            record {
              size = length-set s.states r k ∙ i.size;
              own = λ f. let g = get_or-set_same s.states r k absent (omega (arith, i.size)) in omega arith;
              alike = rw i.number refl;
              number = i.number;
              few = few;
              own_starters = i.own_starters;
            }

        t : Taking starters r k [] (visit_in state_search bytes r rooted) (visit_bytes (populating starters r k) bytes r s.states)
        t = search_tracks (take_tracks starters r k) bytes r rooted s.states l free here

  pub populating_ends : length starters ≤ k → s.states ≡ population bytes starters
  unfolding taken_from
  populating_ends h = rw (drop_of_length-le starters h) at i.left

-- once a block has a state, fewer are left than there are
pub room_left : (states : List ℕ) (r k : ℕ) → length states ≡ max_blocks → r < max_blocks → k < absent → blanks (λ x. eqb x absent) (set states r k) < max_blocks
room_left states r k n l few =
    let size = length-set states r k in
    omega (
      arith,
      n,
      size,
      blanks_lt (λ x. eqb x absent) (set states r k) r absent (omega (arith, n, size)) (rw (get_or-set_same states r k absent (omega (arith, n))) (ne_eqb k absent (λ f. omega arith))),
    )
