-- `fsmd::run::run_from` meets its contract: the run is made in a room that fits. Assumes nothing.
use mathlib.Core.Path.{sym, ◌∙◌}
use Rattle.fsmd.proofs.Machines.{small_roomy, admitted_roomy}
use Rattle.fsmd.proofs.run.run_from.Goals as goal

pub run_in_room-ran-requires-clause-roomy : goal.run_in_room-ran-requires-clause-roomy
run_in_room-ran-requires-clause-roomy c = small_roomy c.args.machine.table.words.now (sym c.fits_small.ensures ∙ c.if-fits_small.true)

pub run_in_room-ran-requires-else-fits_small-clause-roomy : goal.run_in_room-ran-requires-else-fits_small-clause-roomy
run_in_room-ran-requires-else-fits_small-clause-roomy c = let m = c.args.machine in admitted_roomy m.table.words.now m.admitted
