-- The fields of a run's answer, and of a machine's, are the papers'. Assumes nothing.
use Prim.Native.Nat.{ℕ}
use mathlib.Core.List.{List}
use mathlib.Core.Path.{◌≡◌, refl, sym, ap, ◌∙◌, subst}
use lib.ListN.{take}
use Rattle.std.specs.Prelude.{Option, Some, None, Result, Ok, Err}
use Rattle.refusal.specs.declared.Refusal.{Refusal}
use Rattle.word.specs.RegisterFile.{file_words}
use Rattle.runs.specs.Runs.{start_at, Supply, Runner}
use Rattle.runs.specs.Operations.{answered, total_of, RunValues}
use Rattle.runs.specs.declared.RunEnd.{RunEnd}
use Rattle.runs.proofs.OperationLaws.{operation_values}
use Rattle.fsmd.specs.Run.{with_blocks}
use Rattle.fsmd.specs.declared.run.MachineRun.{MachineRun}
use Rattle.compiler.specs.Answers.{end_of, blocks_of}

pub run_values : (r : Runner) (ws : Supply) (buffer : List ℕ) (start budget : ℕ) (n : Option Refusal) (a : Result RunEnd Refusal)
    → a ≡ answered n r ws buffer start budget → RunValues n r ws budget (start_at start (take file_words buffer)) a
run_values r ws buffer start budget n a e =
    subst (RunValues n r ws budget (start_at start (take file_words buffer))) (sym e) (operation_values r ws buffer start budget n)

pub end_is : (a : Result RunEnd Refusal) (blocks : ℕ) → end_of (with_blocks a blocks) ≡ a
end_is (Ok end) blocks = refl
end_is (Err e) blocks = refl

-- a run that is refused counts none
pub blocks_are : (f : ℕ → ℕ → List ℕ → ℕ) (n : Option Refusal) (r : Runner) (ws : Supply) (buffer : List ℕ) (start budget : ℕ)
    → blocks_of (with_blocks (answered n r ws buffer start budget) (total_of f n r ws buffer start budget)) ≡ total_of f n r ws buffer start budget
unfolding answered total_of
blocks_are f None r ws buffer start budget = refl
blocks_are f (Some e) r ws buffer start budget = refl

pub machine_values : (r : Runner) (ws : Supply) (buffer : List ℕ) (start budget : ℕ) (n : Option Refusal) (a : Result MachineRun Refusal) (blocks : ℕ)
    → a ≡ with_blocks (answered n r ws buffer start budget) blocks → RunValues n r ws budget (start_at start (take file_words buffer)) (end_of a)
machine_values r ws buffer start budget n a blocks e =
    run_values r ws buffer start budget n (end_of a) (ap end_of e ∙ end_is (answered n r ws buffer start budget) blocks)
