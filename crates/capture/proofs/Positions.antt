-- One line more of a recording: what a line that was read, or was not, says of the lines from here on. Assumes nothing.
use mathlib.Core.Path.{◌≡◌, ◌∙◌, refl, sym, ap}
use mathlib.Core.List.{List, [], ◌∷◌, ◌++◌, append_assoc}
use mathlib.Core.Bool.{Bool, true, false}
use Rattle.std.specs.Prelude.{Option, None, Some, Result, Ok, Err}
use Rattle.std.specs.Option.{option_flatten}
use Rattle.std.specs.Result.{result_ok}
use Rattle.std.proofs.lemmas.Option.{none-some, same_Some}
use Rattle.refusal.specs.declared.Refusal.TheVariants.{BadRecording, BadCycle}
use Prim.Native.Nat.{ℕ, suc, ◌+◌, ◌-◌, ◌≤◌, ◌<◌}
use native.Mathlib.Omega.{arith}
use lib.Dec.{eqb}
use lib.ListN.{length, take, drop, length-append, length-drop, drop_of_length-le}
use lib.Seq.{take-append_seam}
use borrow.Author.Tests.{eqb-true, ne_eqb, lt-ltb, le-ltb}
use Rattle.delimited.proofs.Split.{apart, parts, split_part, split_last}
use Rattle.delimited.proofs.Cursors.{behind}
use Rattle.capture.specs.declared.recording.Fault.{Fault}
use Rattle.capture.specs.declared.recording.Line.{Line}
use Rattle.capture.specs.declared.recording.Position.{Position}
use Rattle.capture.specs.Capture.{Entry, line_entry, line_entries, recording, fault_from, words_of, as_entry, at_line}
use Rattle.capture.specs.Steps.{line_of, scanned, scan_at, lines_behind, position_behind, fault_at, Within, Passed, Advanced, Follows}
use Rattle.delimited.proofs.Lines.{line_open, line_feed}

-- a text's first line ends with a line feed, or the text has none
data Ended (s : List ℕ) : Type 0 where
  feed : (l t : List ℕ) → apart 10 l ≡ true → s ≡ l ++ (10 ∷ t) → Ended s
  unended : apart 10 s ≡ true → Ended s

ended : (s : List ℕ) → Ended s
ended [] = unended refl
ended (x ∷ s) = go (eqb x 10) refl (ended s)
  where
    go : (b : Bool) → eqb x 10 ≡ b → Ended s → Ended (x ∷ s)
    go true e r = feed [] s refl (ap (λ (y : ℕ). y ∷ s) (eqb-true x 10 e))
    go false e (feed l t w h) = feed (x ∷ l) t (rw e w) (ap (λ (y : List ℕ). x ∷ y) h)
    go false e (unended w) = unended (rw e w)

recording_feed : (r : ℕ) (l t : List ℕ) → apart 10 l ≡ true → recording r (l ++ (10 ∷ t)) ≡ line_entry r l ∷ recording r t
unfolding recording line_entries
recording_feed r l t w = let p = parts 10 t in rw (split_part 10 l t w, p.split)

pub recording_end : (r : ℕ) (text : List ℕ) (at : ℕ) → length text ≤ at → recording r (drop at text) ≡ []
unfolding recording line_entries
recording_end r text at h = rw (drop_of_length-le text h)

recording_open : (r : ℕ) (s : List ℕ) → apart 10 s ≡ true → 0 < length s → recording r s ≡ None ∷ []
unfolding recording line_entries
recording_open r s w h = rw (split_last 10 s w, ne_eqb (length s) 0 (λ e. omega arith))

line_at_feed : (r at : ℕ) (l t : List ℕ) → apart 10 l ≡ true → scan_at r at (l ++ (10 ∷ t)) ≡ scanned (line_entry r l) (at + length l + 1)
unfolding scan_at line_entry
line_at_feed r at l t w = line_feed None (λ fs. scanned (as_entry (words_of (suc (suc r)) fs))) at l t w

line_at_unended : (r at : ℕ) (s : List ℕ) → apart 10 s ≡ true → scan_at r at s ≡ None
unfolding scan_at
line_at_unended r at s w = line_open None (λ fs. scanned (as_entry (words_of (suc (suc r)) fs))) at s w

no_form_lem : {X : Type 0} {c n : ℕ} → None ≡ line_of c n → X
no_form_lem e = absurd (none-some _ e)

module _ (r : ℕ) (text : List ℕ) (p : Position) where
  -- a line that is not of the form
  pub not_read : p.at < length text → scan_at r p.at (drop p.at text) ≡ None → fault_at r text p ≡ at_line BadRecording p.line
  unfolding fault_from
  not_read h e = go (ended (drop p.at text))
    where
      at_fault : (ls : List (Option Entry)) → recording r (drop p.at text) ≡ None ∷ ls → fault_at r text p ≡ at_line BadRecording p.line
      at_fault ls g = rw g

      untold : (o : Option Entry) (n : ℕ) → scanned o n ≡ None → o ≡ None
      untold None n g = refl
      untold (Some x) n g = no_form_lem (sym g)

      go : Ended (drop p.at text) → fault_at r text p ≡ at_line BadRecording p.line
      go (unended w) = at_fault [] (recording_open r (drop p.at text) w (rw length-drop (omega arith)))
      go (feed l t w g) =
          at_fault (recording r t)
          (ap (recording r) g
          ∙ recording_feed r l t w
          ∙ ap (λ (o : Option Entry). o ∷ recording r t)
          (untold (line_entry r l) (p.at + length l + 1) (sym (line_at_feed r p.at l t w) ∙ ap (scan_at r p.at) (sym g) ∙ e)))

  module _ (c next : ℕ) where
    -- a line that was read
    record LineRead : Type 0 where
      bytes : List ℕ
      words : List ℕ
      line : line_entry r bytes ≡ Some (record { cycle = c; words = words })
      read : take (next - p.at) (drop p.at text) ≡ bytes ++ (10 ∷ [])
      lines : lines_behind r text p ≡ Some (record { cycle = c; words = words }) ∷ recording r (drop next text)
      ahead : p.at < next
      inside : next ≤ length text

    line_read : scan_at r p.at (drop p.at text) ≡ line_of c next → LineRead
    line_read e = go (ended (drop p.at text))
      where
        taken : (l t : List ℕ) → p.at + length l + 1 ≡ next → take (next - p.at) (l ++ (10 ∷ t)) ≡ l ++ (10 ∷ [])
        taken l t h =
            let n : next - p.at ≡ length (l ++ (10 ∷ [])) = rw length-append (omega arith) in
            rw (n, sym (append_assoc l (10 ∷ []) t)) (take-append_seam (l ++ (10 ∷ [])) t)

        by :
            (l t : List ℕ) → apart 10 l ≡ true → drop p.at text ≡ l ++ (10 ∷ t)
            → (o : Option Entry) → line_entry r l ≡ o → scanned o (p.at + length l + 1) ≡ line_of c next → LineRead
        by l t w g None q h = no_form_lem h
        by l t w g (Some x) q h =
            let read = same_Some _ _ h in
            let c_is : x.cycle ≡ c = ap (λ (y : Line). y.cycle) read in
            let next_is : p.at + length l + 1 ≡ next = ap (λ (y : Line). y.next) read in
            let x_is : Some x ≡ Some (record { cycle = c; words = x.words }) = ap (λ (k : ℕ). Some (record { cycle = k; words = x.words })) c_is in
            let long = length-drop p.at text in
            let sum = ap length g ∙ length-append l (10 ∷ t) in
            record {
              bytes = l;
              words = x.words;
              line = q ∙ x_is;
              read = ap (take (next - p.at)) g ∙ taken l t next_is;
              lines =
                  ap (recording r) g
                  ∙ recording_feed r l t w
                  ∙ ap (λ (o : Option Entry). o ∷ recording r t) (q ∙ x_is)
                  ∙ ap (λ (s : List ℕ). Some (record { cycle = c; words = x.words }) ∷ recording r s)
                  (sym (behind text l t 10 p.at g) ∙ ap (λ (n : ℕ). drop n text) next_is);
              ahead = omega arith;
              inside = omega arith;
            }

        go : Ended (drop p.at text) → LineRead
        go (unended w) = no_form_lem (sym (line_at_unended r p.at (drop p.at text) w) ∙ e)
        go (feed l t w g) = by l t w g (line_entry r l) refl (sym (line_at_feed r p.at l t w) ∙ ap (scan_at r p.at) (sym g) ∙ e)

    pub not_above : scan_at r p.at (drop p.at text) ≡ line_of c next → c < p.least → fault_at r text p ≡ at_line BadCycle p.line
    unfolding fault_from
    not_above e h = let l = line_read e in rw (l.lines, lt-ltb c p.least h)

    pub passed :
        scan_at r p.at (drop p.at text) ≡ line_of c next → p.least ≤ c → Within text p
        → Passed r text p c (position_behind p c next)
    unfolding fault_from
    passed e h w =
        let l = line_read e in
        let n : p.line + 1 ≡ suc p.line = omega arith in
        let m : c + 1 ≡ suc c = omega arith in
        let ahead = l.ahead in
        let line = w.line in
        record {
          bytes = l.bytes;
          words = l.words;
          line = l.line;
          read = l.read;
          lines = l.lines;
          fault = rw (l.lines, le-ltb c p.least h, n, m);
          least = m;
          ahead = ahead;
          within = record { inside = l.inside; line = omega arith };
        }

  -- a recording that ends here has no fault
  pub ended_here : Advanced r text p (Ok None) → fault_at r text p ≡ None
  unfolding fault_from
  ended_here e = rw e

  -- a line that was read follows, or nothing does
  pub follows : (s : Result (Option Line) Fault) → Advanced r text p s → Follows r text p (option_flatten (result_ok s))
  follows (Ok (Some l)) e = e
  follows (Ok None) e = λ q. e
  follows (Err f) e = λ q. absurd (none-some f (sym q ∙ e))
