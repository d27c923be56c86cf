-- "The array's capture against the model's" (R-12 of paper 02): a line, a recording, and what two recordings share. Assumes nothing.
use Rattle.std.specs.Prelude.{ℕ, zero, suc, ◌-◌, ◌^◌, Bool, not, ◌&&◌, List, [], ◌∷◌, length, eqb, leb, ltb, Option, None, Some, option_map, unwrap_or, Result, Ok, Err}
use Rattle.refusal.specs.declared.Refusal.{Refusal}
use Rattle.refusal.specs.declared.Refusal.TheVariants.{BadRecording, BadCycle}
use Rattle.refusal.specs.Refusal.{number}
use Rattle.word.specs.Word.{choose}
use Rattle.runs.specs.Lists.{same, first}
use Rattle.cfg.specs.Layout.{max_registers}
use Rattle.delimited.specs.Number.{at_most}
use Rattle.delimited.specs.Parts.{Fields, split_at}
use Rattle.capture.specs.declared.recording.Fault.{Fault}
use Rattle.capture.specs.declared.Comparison.{Comparison}
use Rattle.capture.specs.declared.CaptureError.{CaptureError}

-- ---- a line

-- "unsigned 32-bit without leading zeros"
abbrev pub as_word : List ℕ → Option ℕ
as_word f = at_most (2 ^ 32 - 1) f

-- a word in front of others, where all are words
abbrev pub in_front : Option ℕ → Option (List ℕ) → Option (List ℕ)
in_front None ws = None
in_front (Some v) None = None
in_front (Some v) (Some ws) = Some (v ∷ ws)

-- n fields, each a word
unfoldable pub words_of : ℕ → Fields → Option (List ℕ)
unfolding at_most
words_of zero [] = Some []
words_of zero (f ∷ fs) = None
words_of (suc n) [] = None
words_of (suc n) (f ∷ fs) = in_front (as_word f) (words_of n fs)

-- a cycle, and behind it the state and the registers
pub record Entry : Type 0 where
  pub cycle : ℕ
  pub words : List ℕ

abbrev pub as_entry : Option (List ℕ) → Option Entry
as_entry None = None
as_entry (Some []) = None
as_entry (Some (c ∷ ws)) = Some (record { cycle = c; words = ws })

-- what a line says, without its line feed: "`cycle,state,` and R register words parted by commas"; none where it is not of that form
unfoldable pub line_entry : ℕ → List ℕ → Option Entry
unfolding words_of split_at
line_entry r l = as_entry (words_of (suc (suc r)) (split_at 44 l))

-- ---- a recording

-- its lines in order, "a line feed after each": what stands behind the last line feed, if anything, is not of that form
-- (a text has at least that part: the first clause is never used)
unfoldable pub line_entries : ℕ → List (List ℕ) → List (Option Entry)
unfolding line_entry
line_entries r [] = []
line_entries r (l ∷ []) = choose (eqb (length l) 0) [] (None ∷ [])
line_entries r (l ∷ m ∷ ms) = line_entry r l ∷ line_entries r (m ∷ ms)

unfoldable pub recording : ℕ → List ℕ → List (Option Entry)
unfolding line_entries split_at
recording r text = line_entries r (split_at 10 text)

-- a fault of line n
abbrev pub at_line : Refusal → ℕ → Option Fault
at_line refusal n = Some (record { refusal = refusal; line = n })

-- the first faulty line, line n being the first: 17 not of that form; 18 a cycle below `least`, which is one above the cycle of
-- the line before, and 0 where there is none
unfoldable pub fault_from : ℕ → ℕ → List (Option Entry) → Option Fault
fault_from least n [] = None
fault_from least n (None ∷ ls) = at_line BadRecording n
fault_from least n (Some e ∷ ls) = choose (ltb e.cycle least) (at_line BadCycle n) (fault_from (suc e.cycle) (suc n) ls)

abbrev pub fault_of : List (Option Entry) → Option Fault
fault_of ls = fault_from 0 1 ls

abbrev pub entries_of : List (Option Entry) → List Entry
entries_of [] = []
entries_of (None ∷ ls) = entries_of ls
entries_of (Some e ∷ ls) = e ∷ entries_of ls

-- ---- two recordings

-- a cycle that both hold, with what the first and the second say of it
pub record Shared : Type 0 where
  pub cycle : ℕ
  pub one : List ℕ
  pub two : List ℕ

-- the entry of the cycle c
abbrev pub entry_at : ℕ → List Entry → Option Entry
entry_at c = first (λ e. eqb c e.cycle)

-- an entry is shared where the other recording has one of its cycle
abbrev pub shared_with : Entry → Option Entry → List Shared → List Shared
shared_with a None ss = ss
shared_with a (Some b) ss = record { cycle = a.cycle; one = a.words; two = b.words } ∷ ss

-- the "cycles that both hold", in the order of the first
unfoldable pub shared : List Entry → List Entry → List Shared
shared [] bs = []
shared (a ∷ es) bs = shared_with a (entry_at a.cycle bs) (shared es bs)

-- "state or registers differ"
abbrev pub differs : Shared → Bool
differs s = not (same s.one s.two)

abbrev pub cycle_of : Option Shared → Option ℕ
cycle_of s = option_map (λ s. s.cycle) s

-- "the number of cycles that both hold and the first of them where state or registers differ, or none"
unfoldable pub comparison : List Shared → Result Comparison CaptureError
comparison ss = Ok (record { shared = length ss; difference = cycle_of (first differs ss) })

-- ---- the answer

-- recording i is refused, for a fault of line n
abbrev pub refused : Refusal → ℕ → ℕ → Result Comparison CaptureError
refused refusal i n = Err (record { refusal = refusal; recording = i; line = n })

-- "the first recording's faults come first"
abbrev pub judged : Option Fault → Option Fault → Result Comparison CaptureError → Result Comparison CaptureError
judged (Some f) g x = refused f.refusal 1 f.line
judged None (Some f) x = refused f.refusal 2 f.line
judged None None x = x

-- of the lines of both recordings
unfoldable pub compare_lines : List (Option Entry) → List (Option Entry) → Result Comparison CaptureError
unfolding fault_from shared comparison
compare_lines ls ms = judged (fault_of ls) (fault_of ms) (comparison (shared (entries_of ls) (entries_of ms)))

abbrev pub in_range : ℕ → Bool
in_range r = leb 1 r && leb r max_registers

-- "17 when R is not 1 to 16 (recording and line 0)"
unfoldable pub compare_captures : ℕ → List ℕ → List ℕ → Result Comparison CaptureError
unfolding recording compare_lines
compare_captures r one two = choose (in_range r) (compare_lines (recording r one) (recording r two)) (refused BadRecording 0 0)

-- ---- the fields of an answer; a refusal has 0 in every other field

abbrev pub refusal_number : Result Comparison CaptureError → ℕ
refusal_number (Err e) = number e.refusal
refusal_number (Ok c) = 0

abbrev pub faulty_recording : Result Comparison CaptureError → ℕ
faulty_recording (Err e) = e.recording
faulty_recording (Ok c) = 0

abbrev pub faulty_line : Result Comparison CaptureError → ℕ
faulty_line (Err e) = e.line
faulty_line (Ok c) = 0

abbrev pub shared_count : Result Comparison CaptureError → ℕ
shared_count (Err e) = 0
shared_count (Ok c) = c.shared

-- 1 where a cycle differs, else 0
abbrev pub flag_of : Option ℕ → ℕ
flag_of None = 0
flag_of (Some c) = 1

abbrev pub differs_flag : Result Comparison CaptureError → ℕ
differs_flag (Err e) = 0
differs_flag (Ok c) = flag_of c.difference

abbrev pub differing_cycle : Result Comparison CaptureError → ℕ
differing_cycle (Err e) = 0
differing_cycle (Ok c) = unwrap_or c.difference 0
