-- `synthesis::table::write_head` meets its contract. Assumes nothing.
use mathlib.Core.Path.{◌≡◌, ap, ◌∙◌}
use Rattle.std.proofs.Common.{rules}
use mathlib.Core.List.{List}
use Prim.Native.Nat.{ℕ}
use lib.ListN.{length, set, replicate}
use lib.Seq.{sets}
use Rattle.fsmd.specs.Layout.{starters_offset, block_states_offset}
use Rattle.synthesis.proofs.TableWrites.{head_written}
use Rattle.synthesis.proofs.table.write_head.Goals as goal

pub returns : goal.returns
returns c =
    let a = c.args in
    let p = c.requires in
    let z : c.fill.new.self ≡ replicate (length a.table.now) 0 = search rules in
    c.widen_bytes-2.ensures
    ∙ ap (λ (l : List ℕ). sets l block_states_offset a.states.now) (c.widen_bytes.ensures ∙ ap (λ (l : List ℕ). sets (set (set l 0 a.count) 1 a.registers) starters_offset a.starters.now) z)
    ∙ head_written (length a.table.now) a.count a.registers a.starters.now a.states.now p.0 p.1 p.2
