-- Machine tables made by hand, and which of them Run machine refuses with 10 (paper 01), a row a case. Assumes nothing.
use Rattle.std.specs.Prelude.{ℕ, Bool, List, [], ◌∷◌, ◌++◌, replicate, set}
use Rattle.word.specs.Word.{eval_of}
use Rattle.runs.specs.Lists.{same, padded}
use Rattle.runs.specs.Operations.{answered, registers_left}
use Rattle.fsmd.specs.Layout.{max_states, max_blocks, max_registers, touch_offset, all_record_words, all_wire_words, absent}
use Rattle.fsmd.specs.Machine.{clock}
use Rattle.fsmd.specs.Table.{machine_of, admitted_machine}
use Rattle.fsmd.specs.Run.{machine_refusal, machine_answer, machine_registers, machine_words_refusal, machine_words_answer}
use Rattle.worked_examples.specs.Rows.{Row, row, fields, refused_with, regs}

-- N, R, no starters, no blocks, the words of records and of wires
abbrev pub by_hand : ℕ → ℕ → List ℕ → List ℕ → List ℕ
by_hand n r records wires = n ∷ r ∷ (replicate max_states 0 ++ (replicate max_blocks absent ++ (padded all_record_words 0 records ++ (padded all_wire_words 0 wires ++ replicate max_blocks 0))))

-- first wire, wire count, next state and next registers; the touch word is 0
abbrev pub state : ℕ → ℕ → ℕ → List ℕ → List ℕ
state start count next registers = start ∷ count ∷ next ∷ (padded max_registers 0 registers ++ (0 ∷ []))

-- a record with another touch word
abbrev pub touching : ℕ → List ℕ → List ℕ
touching w words = set words touch_offset w

-- without wires: r0 is the next state and the next r0
abbrev bare : ℕ → List ℕ
bare start = state start 0 0 (0 ∷ [])

-- one state with R = 1 and these wires, whose next state is the register or wire x
abbrev with : ℕ → ℕ → List ℕ → List ℕ
with count x wires = by_hand 1 1 (state 0 count x (0 ∷ [])) wires

-- one cycle from state 0 with r0 = 0 is refused with 10
abbrev ten : List ℕ → Bool
ten t = refused_with 10 (machine_answer t (regs 0 7) 0 1)

-- or it is run, and the next state is 0
abbrev runs : List ℕ → Bool
runs t = same (fields (machine_answer t (regs 0 7) 0 1)) (0 ∷ 0 ∷ 1 ∷ 0 ∷ 0 ∷ [])

unfoldable pub admission : List Row
unfolding eval_of answered registers_left machine_refusal machine_words_refusal machine_of admitted_machine clock
admission =
    row "N = 0: 10" (ten (by_hand 0 1 [] []))
    ∷ row "N = 64" (runs (by_hand 64 1 [] []))
    ∷ row "N = 65: 10" (ten (by_hand 65 1 [] []))
    ∷ row "R = 0: 10" (ten (by_hand 1 0 [] []))
    ∷ row "R = 16, all next registers r0" (runs (by_hand 1 16 (touching 65534 (state 0 0 0 [])) []))
    ∷ row "R = 17: 10" (ten (by_hand 1 17 (touching 65534 (state 0 0 0 [])) []))
    -- the space of 3,072 wires
    ∷ row "no wires from 3,072 on" (runs (by_hand 1 1 (bare 3072) []))
    ∷ row "no wires from 3,073 on: 10" (ten (by_hand 1 1 (bare 3073) []))
    ∷ row "no wires from 3,073 on in a state that is not run: 10" (ten (by_hand 2 1 (bare 0 ++ bare 3073) []))
    ∷ row "the last wire" (runs (by_hand 1 1 (state 3071 1 0 []) (replicate 12284 0 ++ (1 ∷ []))))
    ∷ row "one past the last: 10" (ten (by_hand 1 1 (state 3072 1 0 []) (replicate 12284 0 ++ (1 ∷ []))))
    ∷ row "first wire and count are not wrapped: 10" (ten (by_hand 1 1 (state 4294967295 1 0 []) (1 ∷ [])))
    -- wires of two states
    ∷ row "states side by side" (runs (by_hand 2 1 (state 0 1 0 [] ++ state 1 1 0 []) (1 ∷ 0 ∷ 0 ∷ 0 ∷ 1 ∷ [])))
    ∷ row "the later state's wires first" (runs (by_hand 2 1 (state 1 1 0 [] ++ state 0 1 0 []) (1 ∷ 0 ∷ 0 ∷ 0 ∷ 1 ∷ [])))
    ∷ row "one wire shared: 10" (ten (by_hand 2 1 (state 0 2 0 [] ++ state 1 1 0 []) (1 ∷ 0 ∷ 0 ∷ 0 ∷ 1 ∷ [])))
    ∷ row "no wires inside another's" (runs (by_hand 2 1 (state 0 2 0 [] ++ bare 1) (1 ∷ 0 ∷ 0 ∷ 0 ∷ 1 ∷ [])))
    ∷ row "no wires inside a later one's" (runs (by_hand 2 1 (bare 1 ++ state 0 2 0 []) (1 ∷ 0 ∷ 0 ∷ 0 ∷ 1 ∷ [])))
    -- codes
    ∷ row "code 0: 10" (ten (with 1 0 []))
    ∷ row "code 19" (runs (with 1 0 (19 ∷ [])))
    ∷ row "code 20, with words" (same (fields (machine_words_answer (with 1 0 (20 ∷ [])) (regs 0 7) 0 1 (5 ∷ []))) (0 ∷ 0 ∷ 1 ∷ 0 ∷ 0 ∷ []))
    ∷ row "code 21: 10" (ten (with 1 0 (21 ∷ [])))
    ∷ row "code 21, with words: 10" (refused_with 10 (machine_words_answer (with 1 0 (21 ∷ [])) (regs 0 7) 0 1 (5 ∷ [])))
    -- references
    ∷ row "a register at R: 10" (ten (with 1 0 (2 ∷ 1 ∷ [])))
    ∷ row "a wire that reads itself: 10" (ten (with 1 0 (2 ∷ 16 ∷ [])))
    ∷ row "an earlier wire" (runs (with 2 0 (1 ∷ 5 ∷ 0 ∷ 0 ∷ 3 ∷ 16 ∷ 16 ∷ [])))
    ∷ row "a later wire: 10" (ten (with 2 0 (3 ∷ 0 ∷ 17 ∷ 0 ∷ 1 ∷ [])))
    ∷ row "the third operand of 19: 10" (ten (with 1 0 (19 ∷ 0 ∷ 0 ∷ 1 ∷ [])))
    ∷ row "the last wire as the next state" (runs (with 2 17 (1 ∷ 5 ∷ 0 ∷ 0 ∷ 1 ∷ 0 ∷ [])))
    ∷ row "one past it: 10" (ten (with 1 17 (1 ∷ 0 ∷ [])))
    ∷ row "a register at R as the next state: 10" (ten (with 1 1 (1 ∷ 0 ∷ [])))
    ∷ row "as a next register: 10" (ten (by_hand 1 1 (touching 1 (state 0 0 0 (1 ∷ []))) []))
    -- what is not read
    ∷ row "starters" (runs (set (by_hand 1 1 [] []) 2 99))
    ∷ row "records from N up" (runs (by_hand 1 1 (bare 0 ++ state 4000 9 99 (99 ∷ [])) []))
    ∷ row "next references from R up" (runs (by_hand 1 1 (state 0 0 0 (0 ∷ 99 ∷ [])) []))
    ∷ row "wires of no state" (runs (with 1 0 (1 ∷ 0 ∷ 0 ∷ 0 ∷ 99 ∷ 99 ∷ 99 ∷ 99 ∷ [])))
    ∷ row "words that a code does not use" (runs (with 2 0 (1 ∷ 5 ∷ 99 ∷ 99 ∷ 2 ∷ 0 ∷ 99 ∷ 99 ∷ [])))
    -- a next state not below N halts, and the registers are taken all the same
    ∷ row "a next state at N" (same (fields (machine_answer (with 1 16 (1 ∷ 1 ∷ [])) (regs 0 7) 0 9)) (0 ∷ 1 ∷ 1 ∷ 255 ∷ 0 ∷ []))
    ∷ row "its registers" (same (machine_registers (by_hand 1 1 (touching 1 (state 0 1 16 (16 ∷ []))) (1 ∷ 5 ∷ [])) (regs 0 7) 0 9) (regs 5 7))
    ∷ []
