-- `fsmd::room::Room::of` meets its contract: the registers stand first. Assumes nothing.
use Rattle.std.proofs.Common.{◌≡◌, length, take, ap, ◌∙◌}
use lib.Seq.{take_at}
use borrow.Author.Rules.{rules}
use Rattle.fsmd.specs.Layout.{max_registers}
use Rattle.fsmd.proofs.room.Room.of.Goals as goal

pub returns : goal.returns
returns g c =
    let all : length c.args.registers.words ≡ max_registers = search rules in
    ap (take max_registers) c.store.ensures ∙ take_at c.args.registers.words _ max_registers all
