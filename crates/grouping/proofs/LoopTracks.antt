-- Loop detection by marks: a block's mark says whether it is finished, on the path or new. Assumes nothing.
use Prim.Native.Nat.{ℕ, zero, suc, ◌-◌, ◌<◌}
use mathlib.Core.Path.{◌≡◌, refl, sym, ap, ◌∙◌}
use mathlib.Core.Bool.{Bool, true, false, not, ◌||◌}
use mathlib.Core.List.{List, [], ◌∷◌}
use native.Mathlib.Omega.{arith}
use lib.Dec.{eqb}
use lib.ListN.{length, get_or, set, replicate, length-set, get_or-replicate}
use lib.Seq.{get_or-set_same, get_or-set_other}
use Rattle.cfg.specs.Layout.{max_blocks}
use Rattle.runs.specs.Lists.{mem}
use Rattle.runs.proofs.Tests.{Compared, same, other, compared}
use Rattle.grouping.specs.declared.loops.Mark.{Mark}
use Rattle.grouping.specs.declared.loops.Mark.TheVariants.{New, OnPath, Finished}
use Rattle.grouping.specs.declared.loops.LoopSearch.{LoopSearch}
use Rattle.grouping.specs.Grouping.{Loops, looping, started_at}
use Rattle.grouping.specs.Searches.{is_new, met_again, loop_search}
use Rattle.grouping.specs.Bytes.{visit_in, loop_starters}
use Rattle.grouping.proofs.VisitTracks.{Tracks}
use Rattle.grouping.proofs.SearchVisits.{search_tracks}

-- the mark of a block that is finished or not, on the path or not
abbrev mark_of : Bool → Bool → Mark
mark_of true p = Finished
mark_of false true = OnPath
mark_of false false = New

abbrev Marked : List ℕ → List ℕ → List Mark → Type 0
Marked path finished marks = (x : ℕ) → x < max_blocks → get_or marks x New ≡ mark_of (mem x finished) (mem x path)

record Looping (path : List ℕ) (s : LoopSearch) (t : Loops) : Type 0 where
  size : length s.marks ≡ max_blocks
  alike : s.starters ≡ t.starters
  marked : Marked path t.finished s.marks

new_mark : (f p : Bool) → not (is_new (mark_of f p)) ≡ (f || p)
new_mark true p = refl
new_mark false true = refl
new_mark false false = refl

not_or : (f p : Bool) → (f || p) ≡ false → (f ≡ false) × (p ≡ false)
not_or true p e = cc
not_or false true e = cc
not_or false false e = (refl, refl)

abbrev met_loops : Bool → ℕ → Loops → Loops
met_loops f x t = elim f [ true ↦ t | false ↦ started_at x t ]

-- a block that is finished, or on the path
again : (f p : Bool) (x : ℕ) (s : LoopSearch) (t : Loops) → (f || p) ≡ true → s.starters ≡ t.starters
    → ((met_again (mark_of f p) x s).starters ≡ (met_loops f x t).starters) × ((met_again (mark_of f p) x s).marks ≡ s.marks) × ((met_loops f x t).finished ≡ t.finished)
again true p x s t e q = (q, refl, refl)
again false true x s t e q = (rw q refl, refl, refl)
again false false x s t e q = cc

mark_push : (path finished : List ℕ) (marks : List Mark) (t : ℕ) → length marks ≡ max_blocks → t < max_blocks → mem t finished ≡ false → Marked path finished marks → Marked (t ∷ path) finished (set marks t OnPath)
mark_push path finished marks t n l out m x h = go (compared x t)
  where
    go : Compared x t → get_or (set marks t OnPath) x New ≡ mark_of (mem x finished) (eqb x t || mem x path)
    go (same e p) = rw (e, p, out) (get_or-set_same marks t OnPath New (omega arith))
    go (other e p) = rw e (get_or-set_other marks t x OnPath New p ∙ m x h)

mark_pop : (path finished : List ℕ) (marks : List Mark) (b : ℕ) → length marks ≡ max_blocks → b < max_blocks → Marked (b ∷ path) finished marks → Marked path (b ∷ finished) (set marks b Finished)
mark_pop path finished marks b n l m x h = go (compared x b) (m x h)
  where
    go : Compared x b → get_or marks x New ≡ mark_of (mem x finished) (eqb x b || mem x path) → get_or (set marks b Finished) x New ≡ mark_of (eqb x b || mem x finished) (mem x path)
    go (same e p) k = rw (e, p) (get_or-set_same marks b Finished New (omega arith))
    go (other e p) k = rw e (get_or-set_other marks b x Finished New p ∙ (rw e at k))

loop_tracks : Tracks loop_search looping Looping max_blocks
loop_tracks =
    record {
      stops = λ path x s t l i. ap (λ (k : Mark). not (is_new k)) (i.marked x l) ∙ new_mark (mem x t.finished) (mem x path);
      skips = λ path x s t l i e.
          let a = again (mem x t.finished) (mem x path) x s t e i.alike in
          rw (i.marked x l) (record { size = ap length a.1 ∙ i.size; alike = a.0; marked = λ y h. ap (λ (k : List Mark). get_or k y New) a.1 ∙ i.marked y h ∙ ap (λ (f : List ℕ). mark_of (mem y f) (mem y path)) (sym a.2) });
      enters = λ path x s t l i e. record { size = length-set s.marks x OnPath ∙ i.size; alike = i.alike; marked = mark_push path t.finished s.marks x i.size l (not_or (mem x t.finished) (mem x path) e).0 i.marked };
      finishes = λ path x s t l i. record { size = length-set s.marks x Finished ∙ i.size; alike = i.alike; marked = mark_pop path t.finished s.marks x i.size l i.marked };
    }

mark_first : Marked (0 ∷ []) [] (set (replicate max_blocks New) 0 OnPath)
mark_first zero h = refl
mark_first (suc x) h = get_or-replicate (max_blocks - 1) x New New (omega arith) ∙ go (compared (suc x) 0)
  where
    go : Compared (suc x) 0 → New ≡ mark_of false (eqb (suc x) 0 || false)
    go (same e p) = absurd (omega arith)
    go (other e p) = rw e refl

pub loops_found : (bytes : List (List ℕ)) (s : LoopSearch) → s.marks ≡ set (replicate max_blocks New) 0 OnPath → s.starters ≡ 0 ∷ [] → (visit_in loop_search bytes 0 s).starters ≡ loop_starters bytes
unfolding loop_starters
loops_found bytes s e q =
    (search_tracks loop_tracks bytes 0 s (record { finished = []; starters = 0 ∷ [] }) (omega arith) refl
    (record { size = ap length e; alike = q; marked = λ x h. ap (λ (k : List Mark). get_or k x New) e ∙ mark_first x h })).alike
