-- `cfg::run::run_blocks` meets its contract: a turn of the outer loop is a step, the inner one runs the block's instructions. Assumes nothing.
use Prim.Native.Nat.{◌+◌, ◌<◌}
use native.Mathlib.Omega.{arith}
use mathlib.Core.Bool.{true, false}
use mathlib.Core.Path.{◌≡◌, refl, sym, ap, ◌∙◌}
use lib.ListN.{get_or, set, drop}
use lib.Seq.{get_or-take}
use borrow.Author.Tests.{le-ltb}
use Rattle.runs.proofs.RunLaws.{dry_ends, reached_start, reached_spent, registers_spent, reached_halted, reached_dry, registers_ended}
use Rattle.word.specs.declared.Registers.{Registers}
use Rattle.runs.specs.Runs.{halted, Configuration, stands_at, start_at, up_to}
use Rattle.cfg.specs.Steps.{Within, place_of, marked_runner}
use Rattle.cfg.specs.Table.{graph_of}
use Rattle.cfg.specs.Graph.{no_instruction, instructions_of, execute_all}
use Rattle.cfg.proofs.Running.{execute_is, over_is, code_next, flag_next}
use Rattle.cfg.proofs.Turns.{inside, Turned, turned}
use Rattle.cfg.proofs.Admitted.{admitted_facts}
use Rattle.cfg.proofs.run.run_blocks.Goals as goal
use Rattle.cfg.proofs.run.run_blocks.Goals.{After-loop-count, After-next_of, then-marks-t, else-marks-t}

-- what follows once a block has run and its ending is told
turned_at : (c : After-next_of) → Turned c.args.graph.words.now c.args.marks.now c.args.words.now c.args.limit c.args.budget c.args.start c.args.file.words c.loop-count.count c.loop-count.arrivals c.loop-next.registers.words c.loop-next.flag c.next_of.result
turned_at c =
    let k = c.args in
    let l = c.loop-count in
    let n = c.loop-next in
    turned k.graph.words.now k.marks.now k.words.now k.limit k.budget k.start k.file.words l.at l.count l.arrivals l.registers.words l.flag
    (record {
      good = k.graph.admitted;
      below = l.invariant.0;
      reached = l.invariant.2;
      left = omega (arith, c.loop-count-test.true);
      some = omega (arith, c.if-limit-arrivals.false);
    })
    n.registers.words n.flag c.next_of.result
    (record {
      block = c.block-block.result;
      block_is = c.block-block.ensures;
      sampled = c.sampled-sampled.result;
      sampled_is = c.sampled-sampled.ensures;
      done = n.next-index;
      all = omega (arith, c.loop-next-test.false);
      ran = n.invariant.0;
      flagged = n.invariant.1;
      condition = c.compared-c.result;
      condition_is = c.compared-c.ensures;
      leads = c.next_of.ensures;
    })

pub loop-count-init : goal.loop-count-init
loop-count-init c = (
  c.requires,
  omega arith,
  reached_start (marked_runner (graph_of c.args.graph.words.now) c.args.marks.now) (up_to c.args.limit c.args.words.now) c.args.budget (start_at c.args.start c.args.file.words),
)

pub returns-then-limit-arrivals-clause-end : goal.returns-then-limit-arrivals-clause-end
returns-then-limit-arrivals-clause-end c =
    let l = c.loop-count in
    let r = marked_runner (graph_of c.args.graph.words.now) c.args.marks.now in
    let ws = up_to c.args.limit c.args.words.now in
    let s = stands_at l.arrivals l.at (record { registers = l.registers.words; flag = l.flag }) in
    let d = dry_ends ws s l.at refl (le-ltb l.arrivals c.args.limit (omega (arith, c.if-limit-arrivals.true))) in
    sym (reached_dry r ws c.args.budget (start_at c.args.start c.args.file.words) l.count s l.invariant.2 d l.at refl (omega (arith, c.loop-count-test.true)))

pub returns-then-limit-arrivals-clause-registers : goal.returns-then-limit-arrivals-clause-registers
returns-then-limit-arrivals-clause-registers c =
    let l = c.loop-count in
    let r = marked_runner (graph_of c.args.graph.words.now) c.args.marks.now in
    let ws = up_to c.args.limit c.args.words.now in
    let s = stands_at l.arrivals l.at (record { registers = l.registers.words; flag = l.flag }) in
    let d = dry_ends ws s l.at refl (le-ltb l.arrivals c.args.limit (omega (arith, c.if-limit-arrivals.true))) in
    sym (registers_ended r ws c.args.budget (start_at c.args.start c.args.file.words) l.count s l.invariant.2 d)

pub block-block-requires : goal.block-block-requires
block-block-requires c = omega (arith, c.loop-count.invariant.0, (admitted_facts c.args.graph.words.now c.args.graph.admitted).few_blocks)

pub shared_ref_as_front-next-items : goal.shared_ref_as_front-next-items
shared_ref_as_front-next-items c =
    (inside c.args.graph.words.now c.args.graph.admitted c.loop-count.at c.loop-count.invariant.0 c.block-block.result c.block-block.ensures).few

pub loop-next-preserved : goal.loop-next-preserved
loop-next-preserved c =
    let b = c.block-block.result in
    let s = c.sampled-sampled.result in
    let l = c.loop-next in
    let rs = l.registers.words in
    let within = inside c.args.graph.words.now c.args.graph.admitted c.loop-count.at c.loop-count.invariant.0 b c.block-block.ensures in
    let below : l.next-index < b.count = omega (arith, c.loop-next-test.true) in
    let i = get_or (instructions_of b) l.next-index no_instruction in
    let w : Within i = rw (get_or-take b.count b.instructions l.next-index no_instruction below) (within.each l.next-index below) in
    let later = drop (l.next-index + 1) (instructions_of b) in
    let written = ap (λ (f : Registers). f.words) c.put-registers.ensures ∙ ap (set rs i.d) c.value_of-value.ensures in
    let run = execute_is s i rs w ∙ sym written in
    let raised = sym (c.over-flag.ensures ∙ over_is i rs w) in (
      l.invariant.0 ∙ code_next s b within.fits l.next-index rs below ∙ ap (execute_all s later) run,
      l.invariant.1 ∙ flag_next s b within.fits l.next-index rs l.flag below ∙ rw (run, raised),
    )

pub returns-in_default-clause-end : goal.returns-in_default-clause-end
returns-in_default-clause-end c =
    let k = c.args in
    let n = c.loop-next in
    let end : Configuration = record { place = halted; contents = record { registers = n.registers.words; flag = n.flag }; arrivals = c.loop-count.arrivals } in
    let h = (turned_at (goal.at.returns-in_default-clause-end c).After-next_of).halts (ap place_of c.in_default.is) in
    sym (reached_halted (marked_runner (graph_of k.graph.words.now) k.marks.now) (up_to k.limit k.words.now) k.budget (start_at k.start k.file.words) (c.loop-count.count + 1) end h refl refl)

pub returns-in_default-clause-registers : goal.returns-in_default-clause-registers
returns-in_default-clause-registers c =
    let k = c.args in
    let n = c.loop-next in
    let end : Configuration = record { place = halted; contents = record { registers = n.registers.words; flag = n.flag }; arrivals = c.loop-count.arrivals } in
    let h = (turned_at (goal.at.returns-in_default-clause-registers c).After-next_of).halts (ap place_of c.in_default.is) in
    sym (registers_ended (marked_runner (graph_of k.graph.words.now) k.marks.now) (up_to k.limit k.words.now) k.budget (start_at k.start k.file.words) (c.loop-count.count + 1) end h refl)

pub bounds-marks-t : goal.bounds-marks-t
bounds-marks-t c =
    let below = (turned_at (goal.at.bounds-marks-t c).After-next_of).next_is c.in-Some.t (ap place_of c.in-Some.is) in
    omega (arith, below, (admitted_facts c.args.graph.words.now c.args.graph.admitted).few_blocks)

pub loop-count-preserved : goal.loop-count-preserved
loop-count-preserved c =
    let h = turned_at (goal.at.loop-count-preserved c).After-next_of in
    let t = c.in-Some.t in
    let e = ap place_of c.in-Some.is in (
      h.next_is t e,
      elim c.if-marks-t.branch [ then-marks-t w ↦ omega (arith, c.loop-count.invariant.1) | else-marks-t w ↦ omega (arith, c.loop-count.invariant.1) ],
      elim c.if-marks-t.branch [
        | then-marks-t w ↦ rw w.arrivals-is (h.stands t true e w.if-marks-t.true)
        | else-marks-t w ↦ rw w.arrivals-is (h.stands t false e w.if-marks-t.false)
      ],
    )

pub returns-clause-end : goal.returns-clause-end
returns-clause-end c =
    let k = c.args in
    let l = c.loop-count in
    let s = stands_at l.arrivals l.at (record { registers = l.registers.words; flag = l.flag }) in
    let e : l.count ≡ k.budget = omega (arith, c.loop-count-test.false) in
    sym (rw e at (reached_spent (marked_runner (graph_of k.graph.words.now) k.marks.now) (up_to k.limit k.words.now) k.budget (start_at k.start k.file.words) l.count s l.invariant.2 l.at refl (omega (arith, c.loop-count-test.false))))

pub returns-clause-registers : goal.returns-clause-registers
returns-clause-registers c =
    let k = c.args in
    let l = c.loop-count in
    let s = stands_at l.arrivals l.at (record { registers = l.registers.words; flag = l.flag }) in
    sym (registers_spent (marked_runner (graph_of k.graph.words.now) k.marks.now) (up_to k.limit k.words.now) k.budget (start_at k.start k.file.words) l.count s l.invariant.2 (omega (arith, c.loop-count-test.false)))
