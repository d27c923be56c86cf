-- What a C function returns and sets, from the answer of its operation. Assumes nothing.
use Rattle.std.specs.Prelude.{ℕ, ◌≡◌, Result}
use Rattle.refusal.specs.declared.Refusal.{Refusal}
use Rattle.runs.specs.declared.RunEnd.{RunEnd}
use Rattle.runs.specs.Runs.{run_number, run_outcome, run_count, run_next, run_flag}
use Rattle.capture.specs.declared.Comparison.{Comparison}
use Rattle.capture.specs.declared.CaptureError.{CaptureError}
use Rattle.capture.specs.Capture.{refusal_number, faulty_recording, faulty_line, shared_count, differs_flag, differing_cycle}

-- of a run: the number returned, and the four fields set; a run without words is spent or halted, and its outcome is the field `halted`
pub record RunFields (answer : Result RunEnd Refusal) (number outcome count next flag : ℕ) : Type 0 where
  pub returned : number ≡ run_number answer
  pub ended : outcome ≡ run_outcome answer
  pub counted : count ≡ run_count answer
  pub following : next ≡ run_next answer
  pub raised : flag ≡ run_flag answer

-- of a comparison of captures: the number returned, and the five fields set
pub record CaptureFields (answer : Result Comparison CaptureError) (number recording line shared differs cycle : ℕ) : Type 0 where
  pub returned : number ≡ refusal_number answer
  pub recorded : recording ≡ faulty_recording answer
  pub lined : line ≡ faulty_line answer
  pub held : shared ≡ shared_count answer
  pub differing : differs ≡ differs_flag answer
  pub lowest : cycle ≡ differing_cycle answer
