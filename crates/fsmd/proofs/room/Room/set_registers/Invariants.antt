-- `fsmd::room::Room::set_registers` meets its contract: the first words are the registers', and the others are there already. Assumes nothing.
use Rattle.std.proofs.Common.{◌≡◌, ◌*◌, ◌++◌, length, take, drop}
use Rattle.fsmd.proofs.room.Room.set_registers.Given as goal

abbrev pub invariant-loop-quarter : goal.invariant-loop-quarter
invariant-loop-quarter g l = (l.self.words ≡ take (4 * l.quarter) l.registers.words ++ drop (4 * l.quarter) l.initial.self.words) × (length l.self.words ≡ length l.initial.self.words)
