-- The starters in an array, and that the array, how many they are and their marks are had back from them. Assumes nothing.
use Rattle.std.specs.Prelude.{ℕ, ◌≤◌, ◌≡◌, Bool, false, List, map, length, take}
use Rattle.std.proofs.Common.{sym, ap, subst, ◌∙◌, length-take-le}
use lib.Seq.{ext_get_or}
use Rattle.runs.specs.Lists.{up_from, mem, padded}
use Rattle.runs.proofs.ListLaws.{length_padded, get_or-map-up_from}
use Rattle.cfg.specs.Layout.{max_blocks}
use Rattle.grouping.specs.Marks.{Marking}

-- the starters are the first `count` of `list`, which is 0 behind them
pub record Listed (list : List ℕ) (count : ℕ) (marks : List Bool) : Type 0 where
  pub few : count ≤ max_blocks
  pub blank : list ≡ padded max_blocks 0 (take count list)
  pub marking : Marking (take count list) marks

-- whether each block is one
abbrev pub marks_of : List ℕ → List Bool
marks_of starters = map (λ x. mem x starters) (up_from 0 max_blocks)

module _ {list : List ℕ} {count : ℕ} {marks : List Bool} (i : Listed list count marks) where
  whole : length list ≡ max_blocks
  whole = ap length i.blank ∙ length_padded max_blocks 0 (take count list)

  pub list_back : padded max_blocks 0 (take count list) ≡ list
  list_back = sym i.blank

  pub count_back : length (take count list) ≡ count
  count_back = length-take-le count list (subst (λ (n : ℕ). count ≤ n) (sym whole) i.few)

  pub marks_back : marks_of (take count list) ≡ marks
  marks_back =
      ext_get_or false (marks_of (take count list)) marks (sym i.marking.marks_64)
      (λ x h. get_or-map-up_from (λ (y : ℕ). mem y (take count list)) max_blocks x false h ∙ i.marking.marked x h)
