-- `StateSearch::meet` meets its contract. Assumes nothing.
use mathlib.Core.Path.{◌≡◌, refl, sym, ap, ◌∙◌}
use mathlib.Core.Bool.{true, false}
use native.Mathlib.Omega.{arith}
use lib.Dec.{eqb}
use lib.ListN.{length-set, get_or}
use borrow.Author.Tests.{eq-eqb, ne_eqb}
use Rattle.runs.specs.Lists.{mem}
use Rattle.runs.proofs.Sets.{get_or-any}
use Rattle.fsmd.specs.Layout.{absent}
use Rattle.grouping.specs.declared.population.StateSearch.{StateSearch}
use Rattle.grouping.proofs.Blanks.{blanks_set}
use Rattle.grouping.proofs.population.StateSearchSearch.meet.Goals as goal

pub returns : goal.returns
returns c =
    let s : StateSearch = c.args.self.now in
    let new : get_or s.states c.args.block 0 ≡ absent = ap (λ k. get_or s.states k 0) (sym c.from.ensures) ∙ c.if-self-from.false in
    let blank : eqb (get_or s.states c.args.block absent) absent ≡ true = rw (get_or-any s.states c.args.block absent 0 (omega (arith, c.requires.ready.0, c.requires.low))) (eq-eqb _ _ new) in
    let other : mem c.args.block s.starters.now ≡ false = sym c.contains.ensures ∙ c.if-contains.false in
    let filled = blanks_set (λ k. eqb k absent) s.states c.args.block absent s.number (omega (arith, c.requires.ready.0, c.requires.low)) blank (ne_eqb s.number absent (λ e. omega (arith, c.requires.ready.1))) in
    rw c.from-2.ensures (λ path. (rw (blank, other) refl, refl, (length-set s.states c.args.block s.number ∙ c.requires.ready.0, c.requires.ready.1), omega (arith, filled)))
