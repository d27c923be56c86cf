-- What operations leave as it is: registers from R up and words past a table's length (paper 01), and registers that a state does not touch (R-4 of paper 02). Assumes nothing.
use Rattle.std.specs.Prelude.{ℕ, false, List, ◌++◌, ◌≡◌, length, get_or, drop, Ok}
use Rattle.cfg.specs.Layout.{graph_words}
use Rattle.cfg.specs.Table.{graph_register_count}
use Rattle.cfg.specs.Run.{graph_answer, graph_registers, graph_words_answer, graph_words_registers}
use Rattle.cfg_text.specs.Read.{read_answer, read_words}
use Rattle.cfg_write.specs.Write.{write_answer, write_bytes}
use Rattle.fsmd.specs.Layout.{machine_words, max_registers}
use Rattle.fsmd.specs.Machine.{machine_runner}
use Rattle.fsmd.specs.Table.{machine_register_count, machine_of}
use Rattle.fsmd.specs.Run.{machine_answer, machine_registers, machine_blocks, machine_words_answer, machine_words_registers, machine_words_blocks}
use Rattle.synthesis.specs.Synthesis.{synthesis_answer, synthesis_words}
use Rattle.bounds.specs.Operation.{bounds_answer, lowest_left, highest_left}
use Rattle.touching.specs.Touching.{touches_answer, first_touching_answer}

-- "Registers from R up keep their words." R is the table's word 1; a table that is not admitted is refused, and so keeps them all.
pub record RegistersKept : Type 0 where
  pub graph : (t rs : List ℕ) (start budget : ℕ) → drop (graph_register_count t) (graph_registers t rs start budget) ≡ drop (graph_register_count t) rs
  pub graph_with_words : (t rs : List ℕ) (start budget : ℕ) (words starters : List ℕ)
      → drop (graph_register_count t) (graph_words_registers t rs start budget words starters) ≡ drop (graph_register_count t) rs
  pub machine : (t rs : List ℕ) (start budget : ℕ) → drop (machine_register_count t) (machine_registers t rs start budget) ≡ drop (machine_register_count t) rs
  pub machine_with_words : (t rs : List ℕ) (start budget : ℕ) (words : List ℕ)
      → drop (machine_register_count t) (machine_words_registers t rs start budget words) ≡ drop (machine_register_count t) rs
  pub lowest : (t ls hs : List ℕ) (k : ℕ) → drop (machine_register_count t) (lowest_left t ls hs k) ≡ drop (machine_register_count t) ls
  pub highest : (t ls hs : List ℕ) (k : ℕ) → drop (machine_register_count t) (highest_left t ls hs k) ≡ drop (machine_register_count t) hs

-- "In every operation, words past a table's length are neither read nor changed": not read, as the answer and what is left in front are
-- the same whatever stands there; not changed, as it still stands there at the end. t is the graph's table, m the machine's, and rs the
-- registers, each of its length; u and v are words past it.
pub record PastLengths : Type 0 where
  pub answer_read : (text t u : List ℕ) → length t ≡ graph_words → read_answer text (t ++ u) ≡ read_answer text t
  pub read_table : (text t u : List ℕ) → length t ≡ graph_words → read_words text (t ++ u) ≡ read_words text t ++ u
  pub write_answer_lem : (t u out : List ℕ) → length t ≡ graph_words → write_answer (t ++ u) out ≡ write_answer t out
  pub write_output : (t u out : List ℕ) → length t ≡ graph_words → write_bytes (t ++ u) out ≡ write_bytes t out
  pub synthesis_answer_lem : (t u m v : List ℕ) → length t ≡ graph_words → length m ≡ machine_words
      → synthesis_answer (t ++ u) (m ++ v) ≡ synthesis_answer t m
  pub synthesis_table : (t u m v : List ℕ) → length t ≡ graph_words → length m ≡ machine_words
      → synthesis_words (t ++ u) (m ++ v) ≡ synthesis_words t m ++ v
  pub graph_answer_lem : (t u rs v : List ℕ) → length t ≡ graph_words → length rs ≡ max_registers → (start budget : ℕ)
      → graph_answer (t ++ u) (rs ++ v) start budget ≡ graph_answer t rs start budget
  pub graph_registers_lem : (t u rs v : List ℕ) → length t ≡ graph_words → length rs ≡ max_registers → (start budget : ℕ)
      → graph_registers (t ++ u) (rs ++ v) start budget ≡ graph_registers t rs start budget ++ v
  pub graph_with_words_answer : (t u rs v : List ℕ) → length t ≡ graph_words → length rs ≡ max_registers → (start budget : ℕ) (words starters : List ℕ)
      → graph_words_answer (t ++ u) (rs ++ v) start budget words starters ≡ graph_words_answer t rs start budget words starters
  pub graph_with_words_registers : (t u rs v : List ℕ) → length t ≡ graph_words → length rs ≡ max_registers → (start budget : ℕ) (words starters : List ℕ)
      → graph_words_registers (t ++ u) (rs ++ v) start budget words starters ≡ graph_words_registers t rs start budget words starters ++ v
  pub machine_answer_lem : (m u rs v : List ℕ) → length m ≡ machine_words → length rs ≡ max_registers → (start budget : ℕ)
      → machine_answer (m ++ u) (rs ++ v) start budget ≡ machine_answer m rs start budget
  pub machine_registers_lem : (m u rs v : List ℕ) → length m ≡ machine_words → length rs ≡ max_registers → (start budget : ℕ)
      → machine_registers (m ++ u) (rs ++ v) start budget ≡ machine_registers m rs start budget ++ v
  pub machine_blocks_lem : (m u rs v : List ℕ) → length m ≡ machine_words → length rs ≡ max_registers → (start budget : ℕ)
      → machine_blocks (m ++ u) (rs ++ v) start budget ≡ machine_blocks m rs start budget
  pub machine_with_words_answer : (m u rs v : List ℕ) → length m ≡ machine_words → length rs ≡ max_registers → (start budget : ℕ) (words : List ℕ)
      → machine_words_answer (m ++ u) (rs ++ v) start budget words ≡ machine_words_answer m rs start budget words
  pub machine_with_words_registers : (m u rs v : List ℕ) → length m ≡ machine_words → length rs ≡ max_registers → (start budget : ℕ) (words : List ℕ)
      → machine_words_registers (m ++ u) (rs ++ v) start budget words ≡ machine_words_registers m rs start budget words ++ v
  pub machine_with_words_blocks : (m u rs v : List ℕ) → length m ≡ machine_words → length rs ≡ max_registers → (start budget : ℕ) (words : List ℕ)
      → machine_words_blocks (m ++ u) (rs ++ v) start budget words ≡ machine_words_blocks m rs start budget words
  pub touches_answer_lem : (m u : List ℕ) → length m ≡ machine_words → (k i : ℕ) → touches_answer (m ++ u) k i ≡ touches_answer m k i
  pub first_touching_answer_lem : (m u : List ℕ) → length m ≡ machine_words → (i : ℕ) → first_touching_answer (m ++ u) i ≡ first_touching_answer m i
  pub bounds_answer_lem : (m u ls v hs w : List ℕ) → length m ≡ machine_words → length ls ≡ max_registers → length hs ≡ max_registers → (k : ℕ)
      → bounds_answer (m ++ u) (ls ++ v) (hs ++ w) k ≡ bounds_answer m ls hs k
  pub bounds_lowest : (m u ls v hs w : List ℕ) → length m ≡ machine_words → length ls ≡ max_registers → length hs ≡ max_registers → (k : ℕ)
      → lowest_left (m ++ u) (ls ++ v) (hs ++ w) k ≡ lowest_left m ls hs k ++ v
  pub bounds_highest : (m u ls v hs w : List ℕ) → length m ≡ machine_words → length ls ≡ max_registers → length hs ≡ max_registers → (k : ℕ)
      → highest_left (m ++ u) (ls ++ v) (hs ++ w) k ≡ highest_left m ls hs k ++ w

-- What a touch word is for, "the states that may change a register": where the answer is that state k does not touch register i, every cycle of the
-- state leaves that register as it is, whatever the registers and the sampled word.
abbrev pub UntouchedKept : Type 0
UntouchedKept =
    (t : List ℕ) (k i : ℕ) → touches_answer t k i ≡ Ok false → (sampled : ℕ) (rs : List ℕ) → length rs ≡ max_registers
    → get_or ((machine_runner (machine_of t)).unit sampled k rs).registers i 0 ≡ get_or rs i 0
