-- `synthesis::table::fill` meets its contract. Assumes nothing.
use mathlib.Core.Path.{◌≡◌, refl, sym, ◌∙◌}
use mathlib.Core.List.{List, ◌++◌}
use Prim.Native.Nat.{ℕ}
use native.Mathlib.Omega.{arith}
use lib.ListN.{length, take, drop, length-drop, length-append}
use lib.Seq.{length-take-le}
use Rattle.buffers.proofs.Copies.{sets_part}
use Rattle.fsmd.specs.Layout.{max_blocks, arrivals_offset, machine_words}
use Rattle.synthesis.proofs.TableFilled.{arrivals_behind}
use Rattle.synthesis.proofs.table.fill.Goals as goal

-- the words before the arrivals, and those behind them
front_length : (t : List ℕ) → length t ≡ machine_words → length (take arrivals_offset t) ≡ arrivals_offset
front_length t h = length-take-le arrivals_offset t (omega arith)

rest-length : (t : List ℕ) → length t ≡ machine_words → length (drop arrivals_offset t) ≡ max_blocks
rest-length t h = omega (arith, length-drop arrivals_offset t)

pub slice_bounds-fill_parts-end-2 : goal.slice_bounds-fill_parts-end-2
slice_bounds-fill_parts-end-2 c = sym (front_length c.args.table.now c.requires)

pub fill_parts-requires : goal.fill_parts-requires
fill_parts-requires c = (front_length c.args.table.now c.requires, refl)

pub returns : goal.returns
returns c =
    let f = c.fill_parts in
    let t = c.args.table.now in
    let many : length f.new.arrivals ≡ max_blocks = omega arith in
    let front : length f.new.table ≡ arrivals_offset = f.auto.table ∙ front_length t c.requires in
    sets_part (f.new.table ++ drop arrivals_offset t) f.new.arrivals c.copy_from_slice.new.self arrivals_offset max_blocks c.copy_from_slice.ensures.after (sym many)
    (omega (arith, length-append f.new.table (drop arrivals_offset t), front, many, rest-length t c.requires))
    ∙ arrivals_behind f.new.table (drop arrivals_offset t) f.new.arrivals front (many ∙ sym (rest-length t c.requires))
    ∙ f.ensures
