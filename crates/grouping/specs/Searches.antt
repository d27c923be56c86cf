-- Loop detection and population as visitors on the values of the code. Assumes nothing.
use Rattle.std.specs.Prelude.{ℕ, Bool, true, false, not, ◌||◌, get_or, set, eqb}
use Rattle.runs.specs.Lists.{mem}
use Rattle.fsmd.specs.Layout.{absent}
use Rattle.grouping.specs.declared.loops.Mark.{Mark}
use Rattle.grouping.specs.declared.loops.Mark.TheVariants.{New, OnPath, Finished}
use Rattle.grouping.specs.declared.loops.LoopSearch.{LoopSearch}
use Rattle.grouping.specs.declared.population.StateSearch.{StateSearch}
use Rattle.grouping.specs.Visit.{Visitor}
use Rattle.grouping.specs.Bytes.{with_starter}

-- ---- loop detection

abbrev pub is_new : Mark → Bool
is_new New = true
is_new OnPath = false
is_new Finished = false

abbrev pub met_again : Mark → ℕ → LoopSearch → LoopSearch
met_again New x s = s
met_again OnPath x s = record { marks = s.marks; starters = with_starter x s.starters }
met_again Finished x s = s

abbrev pub loop_search : Visitor LoopSearch
loop_search =
    record {
      stop = λ path x s. not (is_new (get_or s.marks x New));
      skip = λ path x s. met_again (get_or s.marks x New) x s;
      enter = λ x s. record { marks = set s.marks x OnPath; starters = s.starters };
      finish = λ x s. record { marks = set s.marks x Finished; starters = s.starters };
    }

-- ---- population

abbrev pub state_search : Visitor StateSearch
state_search =
    record {
      stop = λ path x s. not (eqb (get_or s.states x absent) absent) || mem x s.starters.now;
      skip = λ path x s. s;
      enter = λ x s. record { starters = s.starters; states = set s.states x s.number; number = s.number };
      finish = λ x s. s;
    }
