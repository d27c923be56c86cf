-- The numbers of the refusals. Assumes nothing.
use Rattle.std.specs.Prelude.{ℕ}
use Rattle.refusal.specs.declared.Refusal.{Refusal}
use Rattle.refusal.specs.declared.Refusal.TheVariants.{LongText, NoForm, NotDue, NoRegister, NoTarget, BadGraph, ShortBuffer, ShortOutput, NoStart, BadMachine, BadStarters, NoWords, CrossedBounds, BadRecording, BadCycle}

-- each has a number of its own, none of them 0: that is of success
abbrev pub number : Refusal → ℕ
number LongText = 1
number NoForm = 2
number NotDue = 3
number NoRegister = 4
number NoTarget = 5
number BadGraph = 6
number ShortBuffer = 7
number ShortOutput = 8
number NoStart = 9
number BadMachine = 10
number BadStarters = 11
number NoWords = 12
number CrossedBounds = 13
number BadRecording = 17
number BadCycle = 18
