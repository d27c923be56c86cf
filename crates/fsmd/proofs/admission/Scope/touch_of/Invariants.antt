-- `fsmd::admission::Scope::touch_of` meets its contract: the references from i on are valid, and the word has their bits. Assumes nothing.
use Rattle.std.proofs.Common.{◌≡◌, true, drop}
use Rattle.runs.specs.Lists.{every}
use Rattle.fsmd.specs.Table.{valid_reference}
use Rattle.fsmd.proofs.TouchLaws.{bits_from}
use Rattle.fsmd.proofs.admission.Scope.touch_of.Given as goal

abbrev pub invariant-loop-i : goal.invariant-loop-i
invariant-loop-i l = record {
  valid : every (valid_reference l.self.registers l.self.wires) (drop l.i l.next) ≡ true;
  bits : l.touch ≡ bits_from l.next l.i;
}
