-- `grouping::population::populate` meets its contract: one state after another, as `PopulationTracks` has them. Assumes nothing.
use Prim.Native.Nat.{ℕ, ◌+◌, ◌<◌}
use mathlib.Core.Path.{◌≡◌, refl, sym, ap, ◌∙◌}
use mathlib.Core.Bool.{true}
use mathlib.Core.List.{List}
use native.Mathlib.Omega.{arith}
use lib.ListN.{length, get_or}
use Rattle.runs.specs.Lists.{mem}
use Rattle.runs.proofs.Sets.{get_or-in, In→mem}
use Rattle.cfg.specs.Layout.{max_blocks}
use Rattle.grouping.proofs.PopulationTracks.{Populating, populating_begins, populating_passes, populating_takes, populating_ends, room_left}
use Rattle.grouping.proofs.population.populate.Goals.{then-search-block, else-search-block}
use Rattle.grouping.proofs.population.populate.Goals as goal

pub loop-root-init : goal.loop-root-init
loop-root-init c = populating_begins c.args.edges.now c.args.starters.now _ refl refl refl

root_low : (items starters : List ℕ) (k : ℕ) → items ≡ starters → ((x : ℕ) → mem x starters ≡ true → x < max_blocks) → k < length items → get_or items k 0 < max_blocks
root_low items starters k e low h = low (get_or items k 0) (ap (mem (get_or items k 0)) (sym e) ∙ In→mem (get_or items k 0) items (get_or-in items k 0 h))

pub bounds-search-block : goal.bounds-search-block
bounds-search-block c = let l = c.list-root-items in rw c.from-block.ensures (root_low l.result.now _ _ l.ensures.list l.ensures.low c.loop-root-test.true)

pub visit-requires-clause-room : goal.visit-requires-clause-room
visit-requires-clause-room c =
    let l = c.list-root-items in
    let i = c.loop-root.invariant in
    let low : c.from-block.result < max_blocks = rw c.from-block.ensures (root_low l.result.now _ _ l.ensures.list l.ensures.low c.loop-root-test.true) in
    room_left c.loop-root.search.states c.from-block.result c.loop-root.search.number i.size low (omega (arith, i.number, c.loop-root-test.true, l.ensures.few, ap length l.ensures.list))

kept : (c : goal.Joined-search-block) → Populating c.args.edges.now c.args.starters.now (record { starters = c.if-search-block.search.starters; states = c.if-search-block.search.states; number = c.if-search-block.search.number + 1 }) (c.loop-root.root-index + 1)
kept c =
    let l = c.list-root-items in
    let i = c.loop-root.invariant in
    let k = c.loop-root.root-index in
    let is : get_or l.result.now k 0 ≡ get_or c.args.starters.now k 0 = ap (λ (s : List ℕ). get_or s k 0) l.ensures.list in
    let h : k < length c.args.starters.now = omega (arith, c.loop-root-test.true, ap length l.ensures.list) in
    let low : get_or l.result.now k 0 < max_blocks = root_low l.result.now _ _ l.ensures.list l.ensures.low c.loop-root-test.true in
    elim c.if-search-block.branch [
      | then-search-block w ↦ rw (w.search-is, w.visit.ensures, c.from-block.ensures) (populating_takes i (get_or l.result.now k 0) is h low (rw c.from-block.ensures at w.if-search-block.true) (omega (arith, h, l.ensures.few)))
      | else-search-block w ↦ rw w.search-is (populating_passes i (get_or l.result.now k 0) is h low (rw c.from-block.ensures at w.if-search-block.false))
    ]

pub overflow_add-search : goal.overflow_add-search
overflow_add-search c = omega (arith, (kept c).number, c.loop-root-test.true, c.list-root-items.ensures.few, ap length c.list-root-items.ensures.list)

pub loop-root-preserved : goal.loop-root-preserved
loop-root-preserved c = kept c

pub returns : goal.returns
returns c = populating_ends c.loop-root.invariant (omega (arith, c.loop-root-test.false, ap length c.list-root-items.ensures.list))
