-- `state::joins::BlockProgress::assign_all` meets its contract. Assumes nothing.
use mathlib.Core.Path.{sym}
use native.Mathlib.Omega.{arith}
use Rattle.cfg.specs.Graph.{instructions_of}
use Rattle.cfg.specs.Table.{block_at}
use Rattle.state.specs.Wires.{assign, assigns}
use Rattle.state.specs.Steps.{block_in}
use Rattle.state.proofs.StepLaws.{walk_start}
use Rattle.state.proofs.AssignLaws.{grow_assign, assigns_fold, assigning_room, assigning_next, assigning_done}
use Rattle.state.proofs.joins.BlockProgress.assign_all.Goals as goal

pub loop-i-init : goal.loop-i-init
loop-i-init c =
    let a = c.args in
    let is = instructions_of (block_at a.graph.words.now a.x) in
    let p = block_in a.self.now a.wires.now in
    walk_start assign grow_assign is (assigns is p) a.self.now a.wires.now (sym (assigns_fold is p)) c.requires.room

pub assign-requires : goal.assign-requires
assign-requires c = assigning_room c.args.graph.words.now c.args.x c.requires.short c.loop-i.i c.loop-i.invariant c.loop-i-test.true c.requires.room

pub loop-i-preserved : goal.loop-i-preserved
loop-i-preserved c =
    assigning_next c.args.graph.words.now c.args.x c.requires.short c.loop-i.i c.loop-i.invariant c.instruction_at.result c.assign.new.self c.assign.new.wires
    c.loop-i-test.true c.instruction_at.ensures c.assign.ensures

pub returns : goal.returns
returns c = assigning_done c.args.graph.words.now c.args.x c.requires.short c.loop-i.i c.loop-i.invariant c.loop-i-test.false

pub overflow_mul-start : goal.overflow_mul-start
overflow_mul-start c = omega (arith, c.requires.known, c.args.graph.long)

pub overflow_add-start : goal.overflow_add-start
overflow_add-start c = omega (arith, c.requires.known, c.args.graph.long)

pub offset_bounds-graph-start : goal.offset_bounds-graph-start
offset_bounds-graph-start c = omega (arith, c.requires.known, c.args.graph.long)

pub bounds-graph-start : goal.bounds-graph-start
bounds-graph-start c = omega (arith, c.requires.known, c.args.graph.long)

pub instruction_at-requires : goal.instruction_at-requires
instruction_at-requires c = (omega (arith, c.requires.known, c.args.graph.long), omega (arith, c.requires.short, c.loop-i-test.true))
