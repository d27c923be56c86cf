-- "Synthesise" of paper 01: the machine of a graph, the answer and the final machine table, on all inputs. Assumes nothing.
use Rattle.std.specs.Prelude.{ℕ, not, ◌||◌, List, ◌++◌, map, length, drop, ltb, Result, Ok, Err}
use Rattle.refusal.specs.declared.Refusal.{Refusal}
use Rattle.refusal.specs.declared.Refusal.TheVariants.{BadGraph, ShortBuffer}
use Rattle.refusal.specs.Refusal.{number}
use Rattle.word.specs.Word.{choose}
use Rattle.runs.specs.Lists.{up_from}
use Rattle.cfg.specs.Layout.{graph_words}
use Rattle.cfg.specs.Graph.{CFG}
use Rattle.cfg.specs.Table.{graph_of, admitted_graph}
use Rattle.fsmd.specs.Layout.{machine_words}
use Rattle.fsmd.specs.Machine.{FSMD}
use Rattle.fsmd.specs.Table.{machine_table_of}
use Rattle.grouping.specs.Grouping.{Groups, groups}
use Rattle.state.specs.Wires.{state_made, arrival_made}

-- the machine of a graph whose grouping is s
unfoldable pub machine_for : CFG → Groups → FSMD
unfolding state_made arrival_made
machine_for g s =
    record {
      registers = g.registers;
      starters = s.starters;
      block_states = s.states;
      arrivals = map (arrival_made g s) (up_from 0 (length s.states));
      states = map (state_made g s) (up_from 0 (length s.starters));
    }

unfoldable pub machine : CFG → FSMD
unfolding machine_for groups
machine g = machine_for g (groups g)

-- a short table is refused before a graph table that is not admitted
unfoldable pub synthesis_answer : List ℕ → List ℕ → Result (Unit {0}) Refusal
unfolding admitted_graph
synthesis_answer t m =
    choose (ltb (length t) graph_words || ltb (length m) machine_words) (Err ShortBuffer)
    (choose (not (admitted_graph t)) (Err BadGraph) (Ok tt))

abbrev pub made : Result (Unit {0}) Refusal → List ℕ → List ℕ → List ℕ
made (Err refusal) new old = old
made (Ok done) new old = new

-- the words past the table stay
unfoldable pub synthesis_words : List ℕ → List ℕ → List ℕ
unfolding synthesis_answer machine graph_of machine_table_of
synthesis_words t m = made (synthesis_answer t m) (machine_table_of (machine (graph_of t)) ++ drop machine_words m) m

-- paper 01's field of the answer: its number
abbrev pub synthesis_number : Result (Unit {0}) Refusal → ℕ
synthesis_number (Err refusal) = number refusal
synthesis_number (Ok done) = 0
