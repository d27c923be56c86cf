-- `synthesis::table::write_record` meets its contract. Assumes nothing.
use mathlib.Core.Path.{◌≡◌, ap₂, ◌∙◌}
use mathlib.Core.List.{List}
use native.Mathlib.Omega.{arith}
use Prim.Native.Nat.{ℕ, ◌+◌}
use lib.ListN.{length, take, set, length-set}
use Rattle.buffers.proofs.Copies.{sets_part}
use Rattle.fsmd.specs.Layout.{touch_offset, max_registers}
use Rattle.fsmd.specs.Touch.{touch_word}
use Rattle.synthesis.proofs.TableWrites.{record_written}
use Rattle.synthesis.proofs.table.write_record.Goals as goal

pub returns : goal.returns
returns c =
    let a = c.args in
    let m = a.made.now in
    let touch = touch_word (take a.registers m.registers) in
    let long : length m.registers ≡ max_registers = omega arith in
    ap₂ (λ (l : List ℕ) (v : ℕ). set l (a.at + touch_offset) v)
    (sets_part (set (set (set a.words.now a.at a.first) (a.at + 1) m.wires) (a.at + 2) m.next) m.registers c.copy_from_slice.new.self (a.at + 3) _ c.copy_from_slice.ensures.after (omega arith) (simp length-set (omega arith)))
    c.touch_word.ensures
    ∙ record_written a.words.now m.registers a.at a.first m.wires m.next touch long
