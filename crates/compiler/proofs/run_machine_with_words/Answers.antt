-- `run_machine_with_words` passes on what Run machine with words promises, and its answer's fields follow from it. Assumes nothing.
use Rattle.std.proofs.Common.{rules}
use Rattle.compiler.proofs.Runs.{machine_values}
use Rattle.compiler.proofs.run_machine_with_words.Goals as goal

pub returns-clause-run_values : goal.returns-clause-run_values
returns-clause-run_values c = search (rules, machine_values)
