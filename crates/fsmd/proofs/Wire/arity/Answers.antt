-- `fsmd::Wire::arity` meets its contract: the codes that read three words, then the others as `word::arity` has them. Assumes nothing.
use native.Mathlib.Omega.{arith}
use mathlib.Core.Path.{sym, ◌∙◌}
use Rattle.word.specs.Word.{arity}
use Rattle.fsmd.specs.Machine.{wire_arity}
use Rattle.fsmd.proofs.WireReads.{other_reads}
use Rattle.fsmd.proofs.Wire.arity.Goals as goal

pub returns-in-3 : goal.returns-in-3
unfolding wire_arity
returns-in-3 c = rw c.in-3.is

pub returns-in-4 : goal.returns-in-4
unfolding wire_arity
returns-in-4 c = rw c.in-4.is

pub returns-in-19 : goal.returns-in-19
unfolding wire_arity arity
returns-in-19 c = rw c.in-19.is

pub returns-in_default : goal.returns-in_default
returns-in_default c = c.arity.ensures ∙ sym (other_reads c.args.code (λ e. absurd (omega arith)) (λ e. absurd (omega arith)))
