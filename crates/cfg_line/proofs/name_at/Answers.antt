-- Each byte of a name: the end, a byte too many, or one more. Assumes nothing.
use Rattle.std.proofs.Common.{◌≡◌, true, get_or, ◌∙◌, arith}
use Rattle.delimited.specs.Cursor.{stops}
use Rattle.cfg_line.proofs.Packing.{name_from_one, none_stops, none_at, end_at, long_at, more_at}
use Rattle.cfg_line.proofs.name_at.Goals as goal
use Rattle.cfg_line.proofs.name_at.Goals.{then-stop-eq44-via-then-stop-eq44, then-stop-eq44-via-else-stop-eq44+then-stop-eq10}

pub loop-i-init : goal.loop-i-init
loop-i-init c = (omega arith, name_from_one c.args.at _)

pub returns-then-stop-eq44 : goal.returns-then-stop-eq44
returns-then-stop-eq44 c =
    let l = c.loop-i in
    let s : stops (get_or c.args.text.now l.i 0) ≡ true = elim c.then-stop-eq44.branch [
      | then-stop-eq44-via-then-stop-eq44 w ↦ rw w.if-stop-eq44.true
      | then-stop-eq44-via-else-stop-eq44+then-stop-eq10 w ↦ rw w.if-stop-eq10.true
    ] in
    end_at l.key l.i c.args.text.now (omega arith) s l.invariant.0 ∙ l.invariant.1

pub returns-then-key-ge1099511627776 : goal.returns-then-key-ge1099511627776
returns-then-key-ge1099511627776 c =
    let l = c.loop-i in
    long_at l.key l.i c.args.text.now (omega arith) (none_stops _ c.if-stop-eq44.false c.if-stop-eq10.false) c.if-key-ge1099511627776.true ∙ l.invariant.1

pub loop-i-preserved : goal.loop-i-preserved
loop-i-preserved c =
    let l = c.loop-i in
    let b = c.type_inv.text l.i in (
      omega arith,
      rw c.from.ensures (more_at l.key l.i c.args.text.now (omega arith) (none_stops _ c.if-stop-eq44.false c.if-stop-eq10.false) ∙ l.invariant.1),
    )

pub returns : goal.returns
returns c = none_at c.loop-i.key c.loop-i.i c.args.text.now (omega arith) ∙ c.loop-i.invariant.1
