-- Paper 01's fields of an operation's answer, from what the operation is given. Assumes nothing.
-- (those of a run's answer stand in runs/specs/Operations, for all four operations that run)
use Rattle.std.specs.Prelude.{ℕ, ◌≤◌, ◌<◌, true, false, ◌≡◌, ◌⊎◌, List, length, ltb, Result, Ok, Err, Some, None}
use Rattle.refusal.specs.declared.Refusal.{Refusal}
use Rattle.refusal.specs.Refusal.{number}
use Rattle.word.specs.Word.{choose}
use Rattle.capture.specs.Capture.{recording, fault_of, entries_of, shared, comparison, in_range, refusal_number, faulty_recording, faulty_line, shared_count, differs_flag, differing_cycle}
use Rattle.capture.specs.declared.Comparison.{Comparison}
use Rattle.capture.specs.declared.CaptureError.{CaptureError}
use Rattle.capture.specs.declared.recording.Fault.{Fault}
use Rattle.cfg.specs.Layout.{graph_words}
use Rattle.cfg.specs.Table.{graph_of, admitted_graph}
use Rattle.cfg_text.specs.Walk.{Reading}
use Rattle.cfg_text.specs.Read.{reading, read_number, read_line}
use Rattle.cfg_text.specs.declared.ReadError.{ReadError}
use Rattle.cfg_write.specs.Write.{text_of, write_number, write_length}
use Rattle.cfg_write.specs.declared.WriteError.{WriteError}
use Rattle.fsmd.specs.Layout.{machine_words}
use Rattle.fsmd.specs.declared.run.MachineRun.{MachineRun}
use Rattle.runs.specs.declared.RunEnd.{RunEnd}
use Rattle.synthesis.specs.Synthesis.{synthesis_number}

-- ---- what all answers have alike

-- 0 of an operation that is not refused, else the number of the refusal in its error
abbrev pub answer_number : {T E : Type 0} → (E → Refusal) → Result T E → ℕ
answer_number refusal_in (Ok x) = 0
answer_number refusal_in (Err e) = number (refusal_in e)

-- how a machine's run ends, and its blocks
abbrev pub end_of : Result MachineRun Refusal → Result RunEnd Refusal
end_of (Ok run) = Ok run.end
end_of (Err e) = Err e

-- 0 of an operation that is refused
abbrev pub blocks_of : Result MachineRun Refusal → ℕ
blocks_of (Ok run) = run.blocks
blocks_of (Err e) = 0

-- ---- operation by operation

-- "Read text": the refusal's number, and the line at fault
abbrev pub number_in : Reading → ℕ
number_in (Err e) = number e.refusal
number_in (Ok g) = 0

abbrev pub line_in : Reading → ℕ
line_in (Err e) = e.line
line_in (Ok g) = 0

pub record ReadValues (text table : List ℕ) (a : Result (Unit {0}) ReadError) : Type 0 where
  pub number : read_number a ≡ number_in (reading text table)
  pub line : read_line a ≡ line_in (reading text table)

-- "Write graph table as text": 7 table short; 6 table not one that reading makes; 8 output short. The length is that of the text, also
-- with 8, and 0 where there is no text.
pub record WriteValues (table out : List ℕ) (a : Result ℕ WriteError) : Type 0 where
  pub short : length table < graph_words → (write_number a ≡ 7) × (write_length a ≡ 0)
  pub other : graph_words ≤ length table → admitted_graph table ≡ false → (write_number a ≡ 6) × (write_length a ≡ 0)
  pub number : graph_words ≤ length table → admitted_graph table ≡ true → write_number a ≡ choose (ltb (length out) (length (text_of (graph_of table)))) 8 0
  pub needed : graph_words ≤ length table → admitted_graph table ≡ true → write_length a ≡ length (text_of (graph_of table))

-- "Synthesise": 7 a table short; 6 graph table not one that reading makes
pub record SynthesisValues (graph machine : List ℕ) (a : Result (Unit {0}) Refusal) : Type 0 where
  pub short : (length graph < graph_words) ⊎ (length machine < machine_words) → synthesis_number a ≡ 7
  pub other : graph_words ≤ length graph → machine_words ≤ length machine → admitted_graph graph ≡ false → synthesis_number a ≡ 6
  pub number : graph_words ≤ length graph → machine_words ≤ length machine → admitted_graph graph ≡ true → synthesis_number a ≡ 0

-- "The array's capture against the model's": the number, recording and line of a fault, and all else 0
abbrev pub FaultIs : Result Comparison CaptureError → ℕ → ℕ → ℕ → Type 0
FaultIs a number recorded line =
    (refusal_number a ≡ number) × (faulty_recording a ≡ recorded) × (faulty_line a ≡ line)
    × (shared_count a ≡ 0) × (differs_flag a ≡ 0) × (differing_cycle a ≡ 0)

-- R out of range, the first recording's fault, the second's, or none and what the two share
pub record CaptureValues (r : ℕ) (one two : List ℕ) (a : Result Comparison CaptureError) : Type 0 where
  pub range : in_range r ≡ false → FaultIs a 17 0 0
  pub first : in_range r ≡ true → (f : Fault) → fault_of (recording r one) ≡ Some f → FaultIs a (number f.refusal) 1 f.line
  pub second : in_range r ≡ true → fault_of (recording r one) ≡ None → (f : Fault) → fault_of (recording r two) ≡ Some f → FaultIs a (number f.refusal) 2 f.line
  pub sound : in_range r ≡ true → fault_of (recording r one) ≡ None → fault_of (recording r two) ≡ None
      → let c = comparison (shared (entries_of (recording r one)) (entries_of (recording r two))) in
      (refusal_number a ≡ 0) × (faulty_recording a ≡ 0) × (faulty_line a ≡ 0)
      × (shared_count a ≡ shared_count c) × (differs_flag a ≡ differs_flag c) × (differing_cycle a ≡ differing_cycle c)
