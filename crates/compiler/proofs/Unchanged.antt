-- Every operation leaves registers from R up and words past a table's length as they are. Assumes nothing.
use Prim.Native.Nat.{ℕ}
use native.Mathlib.Omega.{arith}
use mathlib.Core.List.{List}
use mathlib.Core.Path.{◌≡◌}
use lib.ListN.{length}
use Rattle.bounds.specs.Values.{Long}
use Rattle.bounds.proofs.KeptWords.{lowest_kept, highest_kept}
use Rattle.bounds.proofs.PastTable.{past_bounds, past_lowest, past_highest}
use Rattle.cfg.proofs.KeptRegisters.{graph_keeps, graph_words_keep}
use Rattle.cfg.proofs.PastTable as graph
use Rattle.cfg_text.proofs.PastTable.{past_read_answer, past_read_words}
use Rattle.cfg_write.proofs.PastTable.{past_write_answer, past_write_bytes}
use Rattle.fsmd.specs.Layout.{machine_words, max_registers}
use Rattle.fsmd.proofs.KeptRegisters.{machine_keeps, machine_words_keep}
use Rattle.fsmd.proofs.PastTable as machine
use Rattle.touching.proofs.PastTable.{past_touches, past_first}
use Rattle.synthesis.proofs.PastTables.{past_synthesis_answer, past_synthesis_words}
use Rattle.compiler.specs.Unchanged.{RegistersKept, PastLengths}

pub registers_kept : RegistersKept
registers_kept = record {
  graph = graph_keeps;
  graph_with_words = graph_words_keep;
  machine = machine_keeps;
  machine_with_words = machine_words_keep;
  lowest = lowest_kept;
  highest = highest_kept;
}

long : (m ls hs : List ℕ) → length m ≡ machine_words → length ls ≡ max_registers → length hs ≡ max_registers → Long m ls hs
long m ls hs a b c = record { table = omega arith; lowest = omega arith; highest = omega arith }

pub past_lengths : PastLengths
past_lengths = record {
  answer_read = λ text t u h. past_read_answer text t u (omega arith);
  read_table = λ text t u h. past_read_words text t u (omega arith);
  write_answer_lem = λ t u out h. past_write_answer t u out (omega arith);
  write_output = λ t u out h. past_write_bytes t u out (omega arith);
  synthesis_answer_lem = λ t u m v h k. past_synthesis_answer t u m v (omega arith) (omega arith);
  synthesis_table = λ t u m v h k. past_synthesis_words t u m v (omega arith) (omega arith);
  graph_answer_lem = λ t u rs v h k start budget. graph.past_run_answer t u (omega arith) rs v (omega arith) start budget;
  graph_registers_lem = λ t u rs v h k start budget. graph.past_run_registers t u (omega arith) rs v (omega arith) start budget;
  graph_with_words_answer = λ t u rs v h k start budget words starters.
      graph.past_words_answer t u (omega arith) rs v (omega arith) start budget words starters;
  graph_with_words_registers = λ t u rs v h k start budget words starters.
      graph.past_words_registers t u (omega arith) rs v (omega arith) start budget words starters;
  machine_answer_lem = λ m u rs v h k start budget. machine.past_run_answer m u (omega arith) rs v (omega arith) start budget;
  machine_registers_lem = λ m u rs v h k start budget. machine.past_run_registers m u (omega arith) rs v (omega arith) start budget;
  machine_blocks_lem = λ m u rs v h k start budget. machine.past_run_blocks m u (omega arith) rs v (omega arith) start budget;
  machine_with_words_answer = λ m u rs v h k start budget words. machine.past_words_answer m u (omega arith) rs v (omega arith) start budget words;
  machine_with_words_registers = λ m u rs v h k start budget words. machine.past_words_registers m u (omega arith) rs v (omega arith) start budget words;
  machine_with_words_blocks = λ m u rs v h k start budget words. machine.past_words_blocks m u (omega arith) rs v (omega arith) start budget words;
  touches_answer_lem = λ m u h k i. past_touches m u (omega arith) i k;
  first_touching_answer_lem = λ m u h i. past_first m u (omega arith) i;
  bounds_answer_lem = λ m u ls v hs w a b c k. past_bounds m u ls v hs w (long m ls hs a b c) k;
  bounds_lowest = λ m u ls v hs w a b c k. past_lowest m u ls v hs w (long m ls hs a b c) k;
  bounds_highest = λ m u ls v hs w a b c k. past_highest m u ls v hs w (long m ls hs a b c) k;
}
