-- `fsmd::admission::Scope::touch_of` meets its contract: the references from i on are valid, and the word has their bits. Assumes nothing.
use Rattle.std.proofs.Common.{◌≡◌, ◌+◌, ◌-◌, ℕ, Bool, true, arith, sym, ap, ◌∙◌, length, drop}
use Rattle.std.proofs.Math.Numerals.{add-one}
use lib.Seq.{drop-cons, drop-length}
use Rattle.runs.specs.Lists.{every}
use Rattle.fsmd.specs.Table.{valid_reference}
use Rattle.fsmd.proofs.TouchLaws.{bits_from, bits_all, bits_none, bits_few, bits_step}
use Rattle.fsmd.proofs.admission.Scope.touch_of.Goals as goal

pub loop-i-init : goal.loop-i-init
loop-i-init c =
    let next = c.args.next.now in
    record {
      valid = ap (every (valid_reference c.args.self.registers c.args.self.wires)) (drop-length next);
      bits = sym (bits_none next (length next) (omega arith));
    }

pub with_bit-touch-requires-clause-bits_bound : goal.with_bit-touch-requires-clause-bits_bound
with_bit-touch-requires-clause-bits_bound c = omega (arith, c.loop-i.invariant.bits, bits_few c.args.next.now c.loop-i.i c.requires)

pub loop-i-preserved : goal.loop-i-preserved
loop-i-preserved c =
    let next = c.args.next.now in
    let i = c.loop-i.i - 1 in
    let p : ℕ → Bool = valid_reference c.args.self.registers c.args.self.wires in
    let back : i + 1 ≡ c.loop-i.i = omega arith in
    let here = sym c.has.ensures ∙ c.if-not-has.false in
    let rest : every p (drop (i + 1) next) ≡ true = ap (λ (n : ℕ). every p (drop n next)) back ∙ c.loop-i.invariant.valid in
    record {
      valid = rw (drop-cons next i 0 (omega arith), here) (rw add-one at rest);
      bits = c.with_bit-touch.ensures ∙ bits_step next c.loop-i.i c.loop-i.touch (omega arith) (omega arith) c.loop-i.invariant.bits;
    }

pub returns : goal.returns
returns c =
    let next = c.args.next.now in
    let zero : c.loop-i.i ≡ 0 = omega arith in
    let p : ℕ → Bool = valid_reference c.args.self.registers c.args.self.wires in (
      ap (λ (n : ℕ). every p (drop n next)) (sym zero) ∙ c.loop-i.invariant.valid,
      c.loop-i.invariant.bits ∙ ap (bits_from next) zero ∙ bits_all next,
    )
