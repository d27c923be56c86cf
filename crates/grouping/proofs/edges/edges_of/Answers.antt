-- `grouping::edges::edges_of` meets its contract. Assumes nothing.
use Prim.Native.Nat.{◌<◌}
use mathlib.Core.Path.{sym, ◌∙◌}
use native.Mathlib.Omega.{arith}
use lib.ListN.{get_or}
use Rattle.cfg.proofs.Admitted.{admitted_facts}
use Rattle.grouping.proofs.EdgeBytes.{copied_none, copied_all, goto_low, ite_low, copied_more}
use Rattle.grouping.proofs.edges.edges_of.Goals.{in-Goto, in-Ite, in-Halt}
use Rattle.grouping.proofs.edges.edges_of.Goals as goal

pub loop-n-init : goal.loop-n-init
loop-n-init c = copied_none c.args.graph.words.now

pub ending-requires : goal.ending-requires
ending-requires c = let a = admitted_facts c.args.graph.words.now c.args.graph.admitted in omega (arith, a.few_blocks, c.loop-n-test.true, c.blocks-n-end.ensures)

pub overflow_cast-edges : goal.overflow_cast-edges
overflow_cast-edges c =
    let a = admitted_facts c.args.graph.words.now c.args.graph.admitted in
    omega (arith, goto_low c.loop-n.invariant a (omega (arith, c.loop-n-test.true, c.blocks-n-end.ensures)) c.in-Goto.to (sym c.in-Goto.is ∙ c.ending.ensures))

pub overflow_cast-edges-in-Ite : goal.overflow_cast-edges-in-Ite
overflow_cast-edges-in-Ite c =
    let a = admitted_facts c.args.graph.words.now c.args.graph.admitted in
    let l = ite_low c.loop-n.invariant a (omega (arith, c.loop-n-test.true, c.blocks-n-end.ensures)) c.in-Ite.field-0 c.in-Ite.holds c.in-Ite.fails (sym c.in-Ite.is ∙ c.ending.ensures) in omega (arith, l.0, l.1)

pub overflow_cast-edges-in-Ite-2 : goal.overflow_cast-edges-in-Ite-2
overflow_cast-edges-in-Ite-2 c =
    let a = admitted_facts c.args.graph.words.now c.args.graph.admitted in
    let l = ite_low c.loop-n.invariant a (omega (arith, c.loop-n-test.true, c.blocks-n-end.ensures)) c.in-Ite.field-0 c.in-Ite.holds c.in-Ite.fails (sym c.in-Ite.is ∙ c.ending.ensures) in omega (arith, l.0, l.1)

pub bounds-edges-n : goal.bounds-edges-n
bounds-edges-n c = let a = admitted_facts c.args.graph.words.now c.args.graph.admitted in omega (arith, a.few_blocks, c.loop-n-test.true, c.blocks-n-end.ensures)

pub loop-n-preserved : goal.loop-n-preserved
loop-n-preserved c =
    let a = admitted_facts c.args.graph.words.now c.args.graph.admitted in
    let i = c.loop-n.invariant in
    let l : c.loop-n.n < get_or c.args.graph.words.now 0 0 = omega (arith, c.loop-n-test.true, c.blocks-n-end.ensures) in
    elim c.match-ending.branch [
      | in-Goto w ↦ rw w.edges-is (copied_more i a l _ (sym w.in-Goto.is ∙ c.ending.ensures))
      | in-Ite w ↦ rw w.edges-is (copied_more i a l _ (sym w.in-Ite.is ∙ c.ending.ensures))
      | in-Halt w ↦ rw w.edges-is (copied_more i a l _ (sym w.in-Halt.is ∙ c.ending.ensures))
    ]

pub returns : goal.returns
returns c = copied_all c.loop-n.invariant (admitted_facts c.args.graph.words.now c.args.graph.admitted) (omega (arith, c.loop-n-test.false, c.blocks-n-end.ensures))
