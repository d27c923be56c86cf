-- `grouping::loops::loop_starters` meets its contract. Assumes nothing.
use mathlib.Core.Path.{refl, ap, ◌∙◌}
use native.Mathlib.Omega.{arith}
use Rattle.grouping.specs.Marks.{blanks}
use Rattle.grouping.specs.declared.loops.LoopSearch.{LoopSearch}
use Rattle.grouping.proofs.LoopTracks.{loops_found}
use Rattle.grouping.proofs.loops.loop_starters.Goals as goal

pub visit-requires-clause-room : goal.visit-requires-clause-room
unfolding blanks
visit-requires-clause-room c = omega arith

pub returns : goal.returns
returns c = ap (λ (s : LoopSearch). s.starters) c.visit.ensures ∙ loops_found c.args.edges.now _ refl c.entry.ensures
