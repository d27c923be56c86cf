-- `placement::place` meets its contract: what is placed so far, and what the counts choose of those left, are the whole. Assumes nothing.
use mathlib.Core.Path.{◌≡◌, sym, ap, ◌∙◌}
use native.Mathlib.Omega.{arith}
use lib.ListN.{length, drop, length-drop}
use lib.Seq.{length-take-le}
use Rattle.std.specs.Prelude.{Some, position}
use Rattle.placement.specs.PlacementBytes.{is_ready}
use Rattle.placement.proofs.PlacementSteps.{tail_of, placing_begins, stops_in, enough_in, on_in, written}
use Rattle.placement.proofs.place.Goals as goal

pub count-waits-requires : goal.count-waits-requires
count-waits-requires c = c.as_slice.ensures.fits

pub loop-i-init : goal.loop-i-init
loop-i-init c =
    let a = c.args in
    let m = c.members-blocks in
    placing_begins a.edges.now a.starts.now a.states.now a.k m.result.items c.count-waits.result (omega (arith, ap length c.as_slice.ensures.value, c.as_slice.ensures.fits)) m.ensures (rw c.as_slice.ensures.value at c.count-waits.ensures)

pub pass-requires : goal.pass-requires
pass-requires c =
    let l = c.loop-i in
    let s = c.as_slice-in-loop-i in
    let m = c.as_mut_slice in
    let chosen : position (is_ready l.waits) (drop l.count l.blocks.items) ≡ Some c.in-Some.i = ap (position (is_ready l.waits)) (sym (tail_of s.result.now l.blocks.items l.count s.ensures.value)) ∙ sym c.in-Some.ensures in
    let moved = rw (tail_of m.result.now l.blocks.items l.count m.ensures.value) at c.to_front.ensures in
    enough_in l.invariant c.in-Some.i chosen moved

pub loop-i-preserved : goal.loop-i-preserved
loop-i-preserved c =
    let l = c.loop-i in
    let s = c.as_slice-in-loop-i in
    let m = c.as_mut_slice in
    let chosen : position (is_ready l.waits) (drop l.count l.blocks.items) ≡ Some c.in-Some.i = ap (position (is_ready l.waits)) (sym (tail_of s.result.now l.blocks.items l.count s.ensures.value)) ∙ sym c.in-Some.ensures in
    let moved = rw (tail_of m.result.now l.blocks.items l.count m.ensures.value) at c.to_front.ensures in
    on_in l.invariant c.in-Some.i chosen moved _ (written l.blocks.items m.result.now c.to_front.new.left l.count m.ensures.value l.invariant.within (c.to_front.auto.left ∙ ap length (tail_of m.result.now l.blocks.items l.count m.ensures.value) ∙ length-drop l.count l.blocks.items)) c.pass.new.waits c.pass.ensures

pub returns-clause-few : goal.returns-clause-few
returns-clause-few c = let l = c.loop-i in omega (arith, ap length c.truncate.ensures.items, length-take-le l.count l.blocks.items l.invariant.within, l.invariant.few, l.invariant.within)

pub returns-clause-placed : goal.returns-clause-placed
returns-clause-placed c =
    let l = c.loop-i in
    let s = c.as_slice-in-loop-i in
    c.truncate.ensures.items ∙ stops_in l.invariant (ap (position (is_ready l.waits)) (sym (tail_of s.result.now l.blocks.items l.count s.ensures.value)) ∙ sym c.choose.ensures ∙ c.in_default.is)
