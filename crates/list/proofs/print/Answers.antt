-- A listing that was written is within the output. Assumes nothing.
use Rattle.std.proofs.Common.{arith, sym, ◌∙◌}
use Rattle.std.proofs.lemmas.List.{length-take-le}
use Rattle.listing.proofs.Answers.{listed-within}
use Rattle.list.proofs.print.Goals as goal

pub slice_bounds-out-end : goal.slice_bounds-out-end
slice_bounds-out-end g c =
    let fits = listed-within c.args.text.now _ c.in-Ok.count (sym c.list.ensures.value ∙ c.in-Ok.is) in
    omega (arith, fits, c.list.auto.out)

pub slice_bounds-write_all-end : goal.slice_bounds-write_all-end
slice_bounds-write_all-end g c =
    let fits = listed-within c.args.text.now _ c.in-Ok.count (sym c.list.ensures.value ∙ c.in-Ok.is) in
    sym (length-take-le _ _ (omega (arith, fits, c.list.auto.out)))
