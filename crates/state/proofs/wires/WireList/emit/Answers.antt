-- `state::wires::WireList::emit` meets its contract. Assumes nothing.
use native.Mathlib.Omega.{arith}
use mathlib.Core.Path.{refl, ◌∙◌}
use Prim.Native.Nat.{◌*◌}
use borrow.Rule.Slice.PartMut.{same_len_mid}
use Rattle.fsmd.specs.Table.{wire_words_of}
use Rattle.state.proofs.StoredWires.{emitted, part_written}
use Rattle.state.proofs.wires.WireList.emit.Goals as goal

pub returns-clause-added : goal.returns-clause-added
returns-clause-added c =
    let s = c.args.self.now in
    let t = s.words.now in
    let e = part_written t (wire_words_of c.args.w) c.copy_from_slice.new.self (4 * s.count) _ c.copy_from_slice.ensures.after (omega arith) (omega (arith, c.requires.fits)) ∙ emitted s.count c.args.w t c.requires.fits in
    record {
      same = record { lent = refl; registers = refl; long = same_len_mid (4 * s.count) _ t c.copy_from_slice.new.self c.copy_from_slice.ensures.len };
      count = refl;
      words = e;
    }
