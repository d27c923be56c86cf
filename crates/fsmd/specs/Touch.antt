-- Which registers a state touches, and its touch word (R-4 of paper 02). Assumes nothing.
use Rattle.std.specs.Prelude.{ℕ, ◌+◌, ◌*◌, ◌/◌, ◌%◌, ◌^◌, Bool, not, ◌&&◌, List, [], ◌∷◌, map, eqb, ltb, length, get_or}
use Rattle.word.specs.Word.{truth}
use Rattle.runs.specs.Lists.{up_from}

-- next references, one for each register below R, touch register i: "i is below R and the next reference of register i is anything but i itself"
abbrev pub touches : List ℕ → ℕ → Bool
touches next i = ltb i (length next) && not (eqb (get_or next i 0) i)

-- the word whose bits, from the lowest, are set where the list has true
unfoldable pub bits_of : List Bool → ℕ
bits_of [] = 0
bits_of (b ∷ bs) = truth b + 2 * bits_of bs

-- bit i of a word
abbrev pub bit : ℕ → ℕ → Bool
bit w i = eqb (w / 2 ^ i % 2) 1

-- the word whose bit i says whether register i is touched; bits from R up are 0
unfoldable pub touch_word : List ℕ → ℕ
unfolding bits_of
touch_word next = bits_of (map (touches next) (up_from 0 (length next)))
