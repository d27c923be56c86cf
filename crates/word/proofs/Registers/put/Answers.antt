-- Sixteen choices are one write. Assumes nothing.
use Rattle.std.proofs.Common.{ℕ, List, ap, arith}
use Rattle.word.specs.declared.Registers.{Registers}
use Rattle.word.proofs.RegisterLaws.{written}
use Rattle.word.proofs.Registers.put.Goals as goal

abbrev file : List ℕ → Registers
file l = record { words = l }

pub returns : goal.returns
returns c =
    let i = c.loop-i.invariant in
    ap file (written c.args.self.words c.loop-i.register-items c.args.index c.args.word i.2 (λ k h. i.0 k (omega arith)))
