-- The answer from a place of the merge on, after one step more. Assumes nothing.
use mathlib.Core.Path.{◌≡◌, ◌∙◌, refl, sym, ap}
use mathlib.Core.List.{List, [], ◌∷◌}
use mathlib.Core.Bool.{Bool, true, false, not}
use Rattle.std.specs.Prelude.{Option, None, Some, Result, Ok}
use Rattle.refusal.specs.declared.Refusal.TheVariants.{BadRecording}
use Prim.Native.Nat.{ℕ, suc, ◌+◌, ◌-◌, ◌<◌}
use native.Mathlib.Omega.{arith}
use lib.ListN.{length, take, drop}
use Rattle.runs.specs.Lists.{same, first}
use Rattle.capture.specs.declared.recording.Fault.{Fault}
use Rattle.capture.specs.declared.recording.Line.{Line}
use Rattle.capture.specs.declared.recording.Position.{Position}
use Rattle.capture.specs.declared.Comparison.{Comparison}
use Rattle.capture.specs.declared.CaptureError.{CaptureError}
use Rattle.capture.specs.declared.Head.{Head}
use Rattle.capture.specs.declared.Merge.{Merge}
use Rattle.capture.specs.Capture.{Entry, recording, fault_from, entries_of, Shared, shared, differs, cycle_of, refused, judged, comparison, compare_lines, in_range, compare_captures}
use Rattle.capture.specs.Steps.{lines_behind, start, fault_at, Within, Passed, Follows, first_of, noted, Ready, found_with, judged_at, answer_from, MergeProgress}
use Rattle.capture.proofs.Bytes.{same_words}
use Rattle.capture.proofs.Merging.{first_alone, second_alone, both, none_shared}

-- what is found matters only where neither recording has a fault
judged-same : (f g : Option Fault) {x y : Result Comparison CaptureError} → (f ≡ None → g ≡ None → x ≡ y) → judged f g x ≡ judged f g y
judged-same (Some f) g h = refl
judged-same None (Some f) h = refl
judged-same None None h = h refl refl

or-nowhere : (d : Option ℕ) → first_of d None ≡ d
or-nowhere None = refl
or-nowhere (Some c) = refl

found_none : (c : Comparison) → found_with c [] ≡ c
found_none c =
    let e : c.shared + 0 ≡ c.shared = omega arith in
    rw (e, or-nowhere c.difference)

module _ (r : ℕ) (one two : List ℕ) (m : Merge) where
  abbrev Shares : List Shared → Type 0
  Shares ss = shared (entries_of (lines_behind r one m.first.position)) (entries_of (lines_behind r two m.second.position)) ≡ ss

  -- where one goes on no more without a fault, nothing is shared from here on
  stops : (fault_at r one m.first.position ≡ None → fault_at r two m.second.position ≡ None → Shares []) → answer_from r one two m ≡ judged_at r one two m
  unfolding answer_from
  stops h = judged-same (fault_at r one m.first.position) (fault_at r two m.second.position) (λ f g. rw (h f g, found_none m.found))

  pub first_stops : Follows r one m.first.position None → answer_from r one two m ≡ judged_at r one two m
  unfolding shared
  first_stops h = stops (λ f g. rw (h f))

  pub second_stops : Follows r two m.second.position None → answer_from r one two m ≡ judged_at r one two m
  second_stops h = stops (λ f g. rw (h g) (none_shared _))

  -- ---- the next lines, of the cycles c and d

  module _ (c d : ℕ) (p q : Position) (P : Passed r one m.first.position c p) (Q : Passed r two m.second.position d q) where
    abbrev a : Entry
    a = record { cycle = c; words = P.words }

    abbrev b : Entry
    b = record { cycle = d; words = Q.words }

    -- where the merge goes on: behind the first's line, behind the second's, or behind both
    abbrev on_first : Option Line → Merge
    on_first s = record { first = record { position = p; line = s }; second = m.second; found = m.found }

    abbrev on_second : Option Line → Merge
    on_second t = record { first = m.first; second = record { position = q; line = t }; found = m.found }

    -- the bytes of both lines
    abbrev first_bytes : List ℕ
    first_bytes = take (p.at - m.first.position.at) (drop m.first.position.at one)

    abbrev second_bytes : List ℕ
    second_bytes = take (q.at - m.second.position.at) (drop m.second.position.at two)

    abbrev on_both : Option Line → Option Line → Bool → Merge
    on_both s t e =
        record {
          first = record { position = p; line = s };
          second = record { position = q; line = t };
          found = record { shared = m.found.shared + 1; difference = noted m.found.difference c e };
        }

    -- the lines behind them have no fault where those from here on have none
    first-rises : fault_at r one p ≡ None → fault_from (suc c) p.line (lines_behind r one p) ≡ None
    first-rises e = rw (sym P.least) e

    second-rises : fault_at r two q ≡ None → fault_from (suc d) q.line (lines_behind r two q) ≡ None
    second-rises e = rw (sym Q.least) e

    first-answer : (s : Option Line) → c < d → answer_from r one two m ≡ answer_from r one two (on_first s)
    unfolding answer_from
    first-answer s l =
        rw P.fault
        (judged-same (fault_at r one p) (fault_at r two m.second.position)
        (λ f g.
        rw (P.lines, Q.lines, first_alone a b q.line (entries_of (lines_behind r one p)) (lines_behind r two q) l (second-rises (sym Q.fault ∙ g)))))

    second-answer : (t : Option Line) → d < c → answer_from r one two m ≡ answer_from r one two (on_second t)
    unfolding answer_from
    second-answer t l =
        rw Q.fault
        (judged-same (fault_at r one m.first.position) (fault_at r two q)
        (λ f g.
        rw (P.lines, Q.lines, second_alone a b p.line (lines_behind r one p) (entries_of (lines_behind r two q)) (first-rises (sym P.fault ∙ f)) l)))

    module _ (s t : Option Line) (bytes : Bool) (same_bytes : bytes ≡ same first_bytes second_bytes) (e : c ≡ d) where
      same_line : bytes ≡ same P.words Q.words
      same_line =
          same_bytes
          ∙ rw (P.read, Q.read) (same_words r c P.words Q.words P.bytes Q.bytes P.line (Q.line ∙ ap (λ (k : ℕ). Some (record { cycle = k; words = Q.words })) (sym e)))

      -- one shared cycle more
      found-more : (ss : List Shared) → found_with m.found (record { cycle = c; one = P.words; two = Q.words } ∷ ss) ≡ found_with (on_both s t bytes).found ss
      found-more ss =
          let n : m.found.shared + suc (length ss) ≡ m.found.shared + 1 + length ss = omega arith in
          rw (same_line, n) (ap (λ (d : Option ℕ). record { shared = m.found.shared + 1 + length ss; difference = d }) (go m.found.difference (same P.words Q.words)))
        where
          go :
              (x : Option ℕ) (u : Bool)
              → first_of x (cycle_of (Rattle.runs.specs.Lists.or_else (not u) (record { cycle = c; one = P.words; two = Q.words }) (first differs ss)))
              ≡ first_of (noted x c u) (cycle_of (first differs ss))
          go (Some k) u = refl
          go None true = refl
          go None false = refl

      both-answer : answer_from r one two m ≡ answer_from r one two (on_both s t bytes)
      unfolding answer_from
      both-answer =
          rw (P.fault, Q.fault)
          (judged-same (fault_at r one p) (fault_at r two q)
          (λ f g.
          rw (P.lines, Q.lines, both a b p.line (lines_behind r one p) (entries_of (lines_behind r two q)) (first-rises f) e)
          (ap Ok (found-more (shared (entries_of (lines_behind r one p)) (entries_of (lines_behind r two q)))))))

    module _ (A : Ready r one two m) where
      pub first_goes : c < d → (s : Option Line) → Follows r one p s → MergeProgress r one two m (on_first s)
      first_goes l s S =
          let few = A.few in
          let ahead = P.ahead in
          let inside = P.within.inside in
          record {
            ready = record { first = record { within = P.within; line = S }; second = A.second; few = omega arith };
            answer = first-answer s l;
            less = omega arith;
          }

      pub second_goes : d < c → (t : Option Line) → Follows r two q t → MergeProgress r one two m (on_second t)
      second_goes l t T =
          let ahead = Q.ahead in
          let inside = Q.within.inside in
          record {
            ready = record { first = A.first; second = record { within = Q.within; line = T }; few = A.few };
            answer = second-answer t l;
            less = omega arith;
          }

      pub both_go : (s t : Option Line) (bytes : Bool) → bytes ≡ same first_bytes second_bytes → c ≡ d → Follows r one p s → Follows r two q t → MergeProgress r one two m (on_both s t bytes)
      both_go s t bytes same_bytes e S T =
          let few = A.few in
          let ahead = P.ahead in
          let inside = P.within.inside in
          let ahead-too = Q.ahead in
          let inside_too = Q.within.inside in
          record {
            ready = record { first = record { within = P.within; line = S }; second = record { within = Q.within; line = T }; few = omega arith };
            answer = both-answer s t bytes same_bytes e;
            less = omega arith;
          }

-- ---- the whole

-- the answer from here on is that of the whole
abbrev pub Reached : ℕ → List ℕ → List ℕ → Merge → Type 0
Reached r one two m = Ready r one two m × (answer_from r one two m ≡ compare_lines (recording r one) (recording r two))

within-start : (text : List ℕ) → Within text start
within-start text = record { inside = omega arith; line = omega arith }

module _ (r : ℕ) (one two : List ℕ) where
  pub from_start : (h k : Head) → h.position ≡ start → k.position ≡ start → Follows r one start h.line → Follows r two start k.line
      → Reached r one two (record { first = h; second = k; found = record { shared = 0; difference = None } })
  unfolding answer_from compare_lines comparison
  from_start h k p q H K =
      let n : (k : ℕ) → 0 + k ≡ k = λ k. omega arith in (
        record {
          first = record { within = rw p (within-start one); line = rw p H };
          second = record { within = rw q (within-start two); line = rw q K };
          few = omega arith;
        },
        rw (p, q, n),
      )

  pub out_of_range : in_range r ≡ false → compare_captures r one two ≡ refused BadRecording 0 0
  unfolding compare_captures
  out_of_range h = rw h

  pub within_range : in_range r ≡ true → compare_captures r one two ≡ compare_lines (recording r one) (recording r two)
  unfolding compare_captures
  within_range h = rw h
