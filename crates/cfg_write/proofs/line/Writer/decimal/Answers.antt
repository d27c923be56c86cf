-- `cfg_write::line::Writer::decimal` meets its contract. Assumes nothing.
use mathlib.Core.Path.{refl}
use Rattle.cfg_write.proofs.PutLaws.{put_digits}
use Rattle.cfg_write.proofs.line.Writer.decimal.Goals as goal

pub returns : goal.returns
returns c =
    let w = c.args.self.now in
    record {
      same_buffer = refl;
      put = put_digits w.out.now c.put_decimal-self.new.out w.at c.args.n c.put_decimal-self.result c.ranges.n.fits c.put_decimal-self.ensures;
    }
