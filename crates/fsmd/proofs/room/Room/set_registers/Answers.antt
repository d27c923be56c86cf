-- `fsmd::room::Room::set_registers` meets its contract: the first words are the registers', and the others are there already. Assumes nothing.
use Rattle.std.proofs.Common.{◌≡◌, ℕ, ◌+◌, ◌*◌, List, length, get_or, take, drop, ◌++◌, ap, sym, ◌∙◌, arith}
use lib.ListN.{set, length-set}
use borrow.Author.Rules.{rules}
use Rattle.fsmd.specs.Layout.{max_registers}
use Rattle.fsmd.proofs.RoomLaws.{four_more, rest_there}
use Rattle.fsmd.proofs.room.Room.set_registers.Goals as goal

pub loop-quarter-preserved : goal.loop-quarter-preserved
loop-quarter-preserved g c =
    let l = c.loop-quarter in
    let d = c.args.self.now.words in
    let s = c.args.registers.words in
    let i = 4 * l.quarter in
    let next : 4 * (l.quarter + 1) ≡ i + 4 = omega arith in
    let all : length s ≡ max_registers = search rules in
    let put : ℕ → List ℕ → List ℕ = λ j x. set x j (get_or s j 0) in (
      ap (λ (x : List ℕ). put (i + 3) (put (i + 2) (put (i + 1) (put i x)))) l.invariant.0
          ∙ four_more d s i (omega arith) (omega arith)
          ∙ ap (λ (j : ℕ). take j s ++ drop j d) (sym next),
      length-set (put (i + 2) (put (i + 1) (put i l.self.words))) (i + 3) (get_or s (i + 3) 0)
          ∙ length-set (put (i + 1) (put i l.self.words)) (i + 2) (get_or s (i + 2) 0)
          ∙ length-set (put i l.self.words) (i + 1) (get_or s (i + 1) 0)
          ∙ length-set l.self.words i (get_or s i 0)
          ∙ l.invariant.1,
    )

pub returns-then-count-at : goal.returns-then-count-at
returns-then-count-at g c =
    let l = c.loop-quarter in
    l.invariant.0 ∙ rest_there c.args.self.now.words c.args.registers.words (4 * l.quarter) c.args.count max_registers c.if-count-at.true (omega arith) (search rules) c.requires
