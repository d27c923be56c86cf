-- Texts of paper 01 that are refused or read, and lines of R-1 of paper 02, computed. Assumes nothing.
use Prim.Native.Nat.{ℕ}
use mathlib.Core.Bool.{Bool, false}
use mathlib.Core.List.{List, [], ◌∷◌, ◌++◌}
use Prim.Native.String.{String}
use lib.Dec.{T}
use Rattle.runs.specs.Lists.{every, same, concat_map}
use Rattle.cfg.specs.Graph.{valid_graph}
use Rattle.delimited.specs.Parts.{bytes}
use Rattle.std.specs.Prelude.{Ok, Err}
use Rattle.refusal.specs.Refusal.{number}
use Rattle.cfg_text.specs.Walk.{Reading}
use Rattle.cfg_text.specs.Read.{read_text}

-- lines, each with its line feed
abbrev lines : List String → List ℕ
lines = concat_map (λ (l : String). bytes l ++ (10 ∷ []))

abbrev refused_at : ℕ → ℕ → Reading → Bool
refused_at k n (Err e) = same (number e.refusal ∷ e.line ∷ []) (k ∷ n ∷ [])
refused_at k n (Ok g) = false

abbrev accepted : Reading → Bool
accepted (Err e) = false
accepted (Ok g) = valid_graph g

unfoldable pub examples : List Bool
unfolding read_text concat_map valid_graph
examples =
    refused_at 3 1 (read_text [])
    ∷ refused_at 2 1 (read_text (lines ("graph,65,1" ∷ [])))
    ∷ refused_at 3 2 (read_text (lines ("graph,64,1" ∷ [])))
    ∷ refused_at 5 3 (read_text (lines ("graph,2,1" ∷ "block,0" ∷ "goto,2" ∷ [])))
    ∷ refused_at 3 4 (read_text (lines ("graph,2,1" ∷ "block,0" ∷ "goto,1" ∷ [])))
    ∷ accepted (read_text (lines ("graph,2,1" ∷ "block,0" ∷ "goto,1" ∷ "block,1" ∷ "halt" ∷ [])))
    ∷ refused_at 2 2 (read_text (lines ("graph,1,1" ∷ []) ++ bytes "block,0"))
    ∷ refused_at 4 3 (read_text (lines ("graph,1,1" ∷ "block,0" ∷ "set,1,-1" ∷ [])))
    ∷ refused_at 4 3 (read_text (lines ("graph,1,1" ∷ "block,0" ∷ "ite,ltu,0,1,7,0" ∷ [])))
    ∷ refused_at 2 3 (read_text (lines ("graph,1,1" ∷ "block,0" ∷ "set,0,-0" ∷ [])))
    ∷ refused_at 2 3 (read_text (lines ("graph,1,1" ∷ "block,0" ∷ "set,0,2147483648" ∷ [])))
    ∷ refused_at 2 2 (read_text (lines ("graph,1,1" ∷ "block,00" ∷ [])))
    ∷ accepted (read_text (lines ("graph,1,1" ∷ "block,0" ∷ "set,0,-2147483648" ∷ "sx,0,0" ∷ "xor,0,0,0" ∷ "ite,geu,0,0,0,0" ∷ [])))
    ∷ refused_at 3 2 (read_text (lines ("graph,1,1" ∷ "graph,1,1" ∷ [])))
    ∷ refused_at 3 4 (read_text (lines ("graph,1,1" ∷ "block,0" ∷ "halt" ∷ "block,1" ∷ [])))
    ∷ refused_at 3 11 (read_text (lines ("graph,1,1" ∷ "block,0" ∷ "sx,0,0" ∷ "sx,0,0" ∷ "sx,0,0" ∷ "sx,0,0" ∷ "sx,0,0" ∷ "sx,0,0" ∷ "sx,0,0" ∷ "sx,0,0" ∷ "sx,9,0" ∷ [])))
    ∷ accepted (read_text (lines ("graph,1,16" ∷ "block,0" ∷ "in,0" ∷ "in,15" ∷ "halt" ∷ [])))
    ∷ refused_at 2 3 (read_text (lines ("graph,1,1" ∷ "block,0" ∷ "in" ∷ [])))
    ∷ refused_at 2 3 (read_text (lines ("graph,1,1" ∷ "block,0" ∷ "in," ∷ [])))
    ∷ refused_at 2 3 (read_text (lines ("graph,1,1" ∷ "block,0" ∷ "in,0,0" ∷ [])))
    ∷ refused_at 2 3 (read_text (lines ("graph,1,1" ∷ "block,0" ∷ "in,256" ∷ [])))
    ∷ refused_at 4 3 (read_text (lines ("graph,1,1" ∷ "block,0" ∷ "in,16" ∷ [])))
    ∷ refused_at 3 2 (read_text (lines ("graph,1,1" ∷ "in,0" ∷ [])))
    ∷ refused_at 3 11 (read_text (lines ("graph,1,1" ∷ "block,0" ∷ "in,0" ∷ "in,0" ∷ "in,0" ∷ "in,0" ∷ "in,0" ∷ "in,0" ∷ "in,0" ∷ "in,0" ∷ "in,16" ∷ [])))
    ∷ []

pub examples_hold : T (every (λ b. b) examples)
unfolding examples
examples_hold = tt
