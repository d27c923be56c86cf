-- The texts of the worked examples: graphs and recordings. Assumes nothing.
use Rattle.std.specs.Prelude.{ℕ, List, [], ◌∷◌, ◌++◌}
use Prim.Native.String.{String}
use Rattle.delimited.specs.Parts.{bytes}

-- lines, each with its line feed
abbrev pub lines : List String → List ℕ
lines [] = []
lines (l ∷ ls) = bytes l ++ (10 ∷ lines ls)

-- P3: two blocks, of which the first goes to block 2, and to block 1
unfoldable pub goto_two : List ℕ
goto_two = lines ("graph,2,1" ∷ "block,0" ∷ "goto,2" ∷ "block,1" ∷ "halt" ∷ [])

unfoldable pub goto_one : List ℕ
goto_one = lines ("graph,2,1" ∷ "block,0" ∷ "goto,1" ∷ "block,1" ∷ "halt" ∷ [])

-- a block of eight instructions, and one of nine
unfoldable pub eight : List ℕ
eight =
    lines (
    "graph,1,1" ∷ "block,0" ∷ "set,0,1" ∷ "set,0,2" ∷ "set,0,3" ∷ "set,0,4" ∷ "set,0,5" ∷ "set,0,6" ∷ "set,0,7" ∷ "set,0,-8" ∷ "halt" ∷ [])

unfoldable pub nine : List ℕ
nine =
    lines (
    "graph,1,1" ∷ "block,0" ∷ "set,0,1" ∷ "set,0,2" ∷ "set,0,3" ∷ "set,0,4" ∷ "set,0,5" ∷ "set,0,6" ∷ "set,0,7" ∷ "set,0,-8" ∷ "set,0,9" ∷ "halt" ∷ [])

-- P7 as text
unfoldable pub p7_text : List ℕ
p7_text =
    lines (
    "graph,6,2"
    ∷ "block,0"
    ∷ "goto,1"
    ∷ "block,1"
    ∷ "ite,ne,0,1,2,5"
    ∷ "block,2"
    ∷ "ite,ltu,0,1,3,4"
    ∷ "block,3"
    ∷ "sub,1,1,0"
    ∷ "goto,1"
    ∷ "block,4"
    ∷ "sub,0,0,1"
    ∷ "goto,1"
    ∷ "block,5"
    ∷ "halt"
    ∷ [])

-- P9 to P12 as text
unfoldable pub p9_text : List ℕ
p9_text =
    lines (
    "graph,5,2" ∷ "block,0" ∷ "ite,eq,0,1,1,2" ∷ "block,1" ∷ "ite,eq,0,1,1,3" ∷ "block,2" ∷ "ite,eq,0,1,3,4" ∷ "block,3" ∷ "goto,4" ∷ "block,4" ∷ "halt" ∷ [])

unfoldable pub p10_text : List ℕ
p10_text =
    lines (
    "graph,4,2" ∷ "block,0" ∷ "ite,eq,0,1,1,2" ∷ "block,1" ∷ "ite,eq,0,1,2,3" ∷ "block,2" ∷ "goto,1" ∷ "block,3" ∷ "halt" ∷ [])

unfoldable pub p11_text : List ℕ
p11_text = lines ("graph,1,1" ∷ "block,0" ∷ "goto,0" ∷ [])

unfoldable pub p12_text : List ℕ
p12_text = lines ("graph,3,1" ∷ "block,0" ∷ "goto,1" ∷ "block,1" ∷ "halt" ∷ "block,2" ∷ "goto,1" ∷ [])

-- R-12: a recording of one register, and one of sixteen
unfoldable pub recorded : List ℕ
recorded = lines ("0,0,7" ∷ "2,1,8" ∷ "5,0,9" ∷ [])

unfoldable pub sixteen : List ℕ
sixteen = lines ("0,1,0,1,2,3,4,5,6,7,8,9,10,11,12,13,14,15" ∷ [])
