-- What the steps of the merge hand on: cited by inner functions alone. Assumes nothing.
use Rattle.std.specs.Prelude.{ℕ, suc, ◌+◌, ◌-◌, ◌≤◌, ◌<◌, Bool, List, [], ◌∷◌, ◌++◌, ◌≡◌, length, take, drop, Option, None, Some, Result, Ok, Err}
use Rattle.word.specs.Word.{choose}
use Rattle.runs.specs.Lists.{first}
use Rattle.delimited.specs.Cursor.{front_line}
use Rattle.capture.specs.declared.recording.Fault.{Fault}
use Rattle.capture.specs.declared.recording.Line.{Line}
use Rattle.capture.specs.declared.recording.Position.{Position}
use Rattle.capture.specs.declared.Comparison.{Comparison}
use Rattle.capture.specs.declared.CaptureError.{CaptureError}
use Rattle.capture.specs.declared.Head.{Head}
use Rattle.capture.specs.declared.Merge.{Merge}
use Rattle.capture.specs.Capture.{words_of, Entry, as_entry, line_entry, recording, fault_from, entries_of, Shared, shared, differs, cycle_of, judged}

-- ---- a line; the text stands at `at`

-- a line of the cycle c, behind which the next begins at n
abbrev pub line_of : ℕ → ℕ → Option Line
line_of c n = Some (record { cycle = c; next = n })

abbrev pub scanned : Option Entry → ℕ → Option Line
scanned None next = None
scanned (Some e) next = line_of e.cycle next

unfoldable pub scan_at : ℕ → ℕ → List ℕ → Option Line
unfolding front_line words_of
scan_at r at s = front_line None (λ fs next. scanned (as_entry (words_of (suc (suc r)) fs)) next) at s

-- ---- a recording, from a position on

abbrev pub lines_behind : ℕ → List ℕ → Position → List (Option Entry)
lines_behind r text p = recording r (drop p.at text)

abbrev pub fault_at : ℕ → List ℕ → Position → Option Fault
fault_at r text p = fault_from p.least p.line (lines_behind r text p)

abbrev pub position_at : ℕ → ℕ → ℕ → Position
position_at at line least = record { at = at; line = line; least = least }

-- before the first line
abbrev pub start : Position
start = position_at 0 1 0

pub record Within (text : List ℕ) (p : Position) : Type 0 where
  pub inside : p.at ≤ length text
  pub line : p.line ≤ p.at + 1

-- a line of the cycle c stands between the positions
pub record Passed (r : ℕ) (text : List ℕ) (p : Position) (c : ℕ) (q : Position) : Type 0 where
  pub bytes : List ℕ
  pub words : List ℕ
  pub line : line_entry r bytes ≡ Some (record { cycle = c; words = words })
  pub read : take (q.at - p.at) (drop p.at text) ≡ bytes ++ (10 ∷ [])
  pub lines : lines_behind r text p ≡ Some (record { cycle = c; words = words }) ∷ lines_behind r text q
  pub fault : fault_at r text p ≡ fault_at r text q
  pub least : q.least ≡ suc c
  pub ahead : p.at < q.at
  pub within : Within text q

-- behind a line of the cycle c, where the next begins at n
abbrev pub position_behind : Position → ℕ → ℕ → Position
position_behind p c n = position_at n (p.line + 1) (c + 1)

abbrev pub Advanced : ℕ → List ℕ → Position → Result (Option Line) Fault → Type 0
Advanced r text p (Ok (Some l)) = Passed r text p l.cycle (position_behind p l.cycle l.next)
Advanced r text p (Ok None) = lines_behind r text p ≡ []
Advanced r text p (Err f) = fault_at r text p ≡ Some f

-- the next line, if there is one without a fault; else nothing follows, where there is no fault
abbrev pub Follows : ℕ → List ℕ → Position → Option Line → Type 0
Follows r text p (Some l) = Passed r text p l.cycle (position_behind p l.cycle l.next)
Follows r text p None = fault_at r text p ≡ None → lines_behind r text p ≡ []

-- ---- the merge

-- the first of two differences
abbrev pub first_of : Option ℕ → Option ℕ → Option ℕ
first_of None d = d
first_of (Some c) d = Some c

abbrev pub noted : Option ℕ → ℕ → Bool → Option ℕ
noted d c same = first_of d (choose same None (Some c))

-- a position in a recording, and its next line
pub record Stands (r : ℕ) (text : List ℕ) (h : Head) : Type 0 where
  pub within : Within text h.position
  pub line : Follows r text h.position h.line

-- behind the next line, which is of the cycle c and ends before n
pub record MovedOn (r : ℕ) (text : List ℕ) (p : Position) (c n : ℕ) (h : Head) : Type 0 where
  pub passed : Passed r text p c h.position
  pub ends : h.position.at ≡ n
  pub line : Follows r text h.position h.line

pub record Ready (r : ℕ) (one two : List ℕ) (m : Merge) : Type 0 where
  pub first : Stands r one m.first
  pub second : Stands r two m.second
  pub few : m.found.shared ≤ m.first.position.at

-- what is found so far, with what is shared from here on
abbrev pub found_with : Comparison → List Shared → Comparison
found_with c ss = record { shared = c.shared + length ss; difference = first_of c.difference (cycle_of (first differs ss)) }

-- the answer where nothing is shared from here on
abbrev pub judged_at : ℕ → List ℕ → List ℕ → Merge → Result Comparison CaptureError
judged_at r one two m =
    judged (fault_at r one m.first.position) (fault_at r two m.second.position) (Ok m.found)

-- the answer from here on
unfoldable pub answer_from : ℕ → List ℕ → List ℕ → Merge → Result Comparison CaptureError
unfolding recording fault_from shared
answer_from r one two m =
    judged (fault_at r one m.first.position) (fault_at r two m.second.position)
    (Ok (found_with m.found (shared (entries_of (lines_behind r one m.first.position)) (entries_of (lines_behind r two m.second.position)))))

abbrev pub left : List ℕ → List ℕ → Merge → ℕ
left one two m = (length one - m.first.position.at) + (length two - m.second.position.at)

pub record MergeProgress (r : ℕ) (one two : List ℕ) (m n : Merge) : Type 0 where
  pub ready : Ready r one two n
  pub answer : answer_from r one two m ≡ answer_from r one two n
  pub less : left one two n < left one two m

abbrev pub AfterStep : ℕ → List ℕ → List ℕ → Merge → Option Merge → Type 0
AfterStep r one two m (Some n) = MergeProgress r one two m n
AfterStep r one two m None = answer_from r one two m ≡ judged_at r one two m
