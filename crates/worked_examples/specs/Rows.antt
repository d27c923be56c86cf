-- A row of the table, and what its tests read: the fields of answers. Assumes nothing.
use Rattle.std.specs.Prelude.{ℕ, Bool, List, [], ◌∷◌, replicate, Result}
use Prim.Native.String.{String}
use Rattle.runs.specs.Lists.{same}
use Rattle.runs.specs.Runs.{run_number, run_outcome, run_count, run_next, run_flag}
use Rattle.refusal.specs.declared.Refusal.{Refusal}
use Rattle.runs.specs.declared.RunEnd.{RunEnd}
use Rattle.cfg.specs.Layout.{graph_words}
use Rattle.capture.specs.Capture.{compare_captures, refusal_number, faulty_recording, faulty_line, shared_count, differs_flag, differing_cycle}
use Rattle.cfg_text.specs.Read.{read_answer, read_number, read_line}
use Rattle.fsmd.specs.Layout.{machine_words}

-- an example's name, and whether it holds
pub record Row : Type 0 where
  pub example : String
  pub holds : Bool

abbrev pub row : String → Bool → Row
row e b = record { example = e; holds = b }

-- tables of zeros
abbrev pub no_graph : List ℕ
no_graph = replicate graph_words 0

abbrev pub no_machine : List ℕ
no_machine = replicate machine_words 0

-- number and line of a reading into a table
abbrev pub reading_into : List ℕ → List ℕ → List ℕ
reading_into table text = let r = read_answer text table in read_number r ∷ read_line r ∷ []

-- and into a table of zeros
abbrev pub read_result : List ℕ → List ℕ
read_result text = reading_into no_graph text

-- number, outcome, count, next and flag of a run
abbrev pub fields : Result RunEnd Refusal → List ℕ
fields r = run_number r ∷ run_outcome r ∷ run_count r ∷ run_next r ∷ run_flag r ∷ []

-- a run that is refused with number n: zero in every other field
abbrev pub refused_with : ℕ → Result RunEnd Refusal → Bool
refused_with n r = same (fields r) (n ∷ 0 ∷ 0 ∷ 0 ∷ 0 ∷ [])

-- sixteen register words
abbrev pub regs : ℕ → ℕ → List ℕ
regs a b = a ∷ b ∷ replicate 14 0

-- two recordings compared: the refusal's number, recording and line; the cycles shared, whether one differs, and the first that does
module _ (r : ℕ) (one two : List ℕ) where
  abbrev pub compared_fields : List ℕ
  compared_fields =
      let a = compare_captures r one two in
      refusal_number a ∷ faulty_recording a ∷ faulty_line a ∷ shared_count a ∷ differs_flag a ∷ differing_cycle a ∷ []

  abbrev pub agree : ℕ → Bool
  agree n = same compared_fields (0 ∷ 0 ∷ 0 ∷ n ∷ 0 ∷ 0 ∷ [])

  abbrev pub differ : ℕ → ℕ → Bool
  differ n c = same compared_fields (0 ∷ 0 ∷ 0 ∷ n ∷ 1 ∷ c ∷ [])

  abbrev pub refused : ℕ → ℕ → ℕ → Bool
  refused k i n = same compared_fields (k ∷ i ∷ n ∷ 0 ∷ 0 ∷ 0 ∷ [])
