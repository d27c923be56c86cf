-- "Listing" of paper 01: its bytes, the answer and the final output, on all inputs. Assumes nothing.
use Rattle.std.specs.Prelude.{ℕ, List, [], ◌∷◌, ◌++◌, length, get_or, drop, eqb, ltb, Result, Ok, Err}
use Rattle.refusal.specs.declared.Refusal.TheVariants.{LongText}
use Rattle.refusal.specs.Refusal.{number}
use Rattle.word.specs.Word.{choose}
use Rattle.runs.specs.Lists.{up_from, only, concat_map}
use Rattle.decimal.specs.Decimal.{decimal_of}
use Rattle.delimited.specs.Parts.{bytes, parted}
use Rattle.cfg_text.specs.Walk.{Reading, refused}
use Rattle.cfg_text.specs.Read.{max_text, read_text}
use Rattle.fsmd.specs.Machine.{FSMD, state_of, wire_count}
use Rattle.synthesis.specs.Synthesis.{machine}
use Rattle.listing.specs.declared.ShortOutput.{ShortOutput}

-- no listing is longer
abbrev pub max_listing : ℕ
max_listing = 4096

-- fields parted by commas, then a line feed
abbrev pub listing_line : List (List ℕ) → List ℕ
listing_line fs = parted 44 fs ++ (10 ∷ [])

-- how many blocks state k has
abbrev pub blocks_in : FSMD → ℕ → ℕ
blocks_in m k = length (only (eqb k) m.block_states)

-- how many wires there are in all
abbrev pub all_wires : FSMD → ℕ
all_wires m = wire_count m.states

-- the word, states, wires in all
unfoldable pub head_line : FSMD → List ℕ
unfolding parted decimal_of wire_count
head_line m = listing_line (bytes "states" ∷ decimal_of (length m.states) ∷ decimal_of (all_wires m) ∷ [])

-- state, starter, blocks, wires
unfoldable pub state_line : FSMD → ℕ → List ℕ
unfolding parted decimal_of
state_line m k =
    listing_line (decimal_of k ∷ decimal_of (get_or m.starters k 0) ∷ decimal_of (blocks_in m k) ∷ decimal_of (length (state_of m k).wires) ∷ [])

unfoldable pub machine_listing : FSMD → List ℕ
unfolding head_line state_line concat_map
machine_listing m = head_line m ++ concat_map (state_line m) (up_from 0 (length m.states))

-- the number and the line of a refusal
unfoldable pub refused_line : ℕ → ℕ → List ℕ
unfolding parted decimal_of
refused_line n line = listing_line (bytes "refused" ∷ decimal_of n ∷ decimal_of line ∷ [])

abbrev pub listing_of : Reading → List ℕ
listing_of (Err e) = refused_line (number e.refusal) e.line
listing_of (Ok g) = machine_listing (machine g)

-- the listing of a text; one too long is refused at line 0
unfoldable pub listing : List ℕ → List ℕ
unfolding read_text refused_line machine_listing machine
listing text = listing_of (choose (ltb max_text (length text)) (refused LongText 0) (read_text text))

-- ---- bytes for an output: all of them where they fit, else none

-- their number, which is what is needed where the output is shorter
abbrev pub answer_for : List ℕ → List ℕ → Result ℕ ShortOutput
answer_for new out = choose (ltb (length out) (length new)) (Err (record { needed = length new })) (Ok (length new))

-- bytes past them stay
abbrev pub output_for : List ℕ → List ℕ → List ℕ
output_for new out = choose (ltb (length out) (length new)) out (new ++ drop (length new) out)

-- ---- the operation

unfoldable pub list_answer : List ℕ → List ℕ → Result ℕ ShortOutput
unfolding listing
list_answer text out = answer_for (listing text) out

unfoldable pub list_bytes : List ℕ → List ℕ → List ℕ
unfolding listing
list_bytes text out = output_for (listing text) out
