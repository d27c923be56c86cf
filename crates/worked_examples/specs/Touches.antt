-- R-4 of paper 02: touch words, the two questions about them and their refusals, a row a case. Assumes nothing.
use Rattle.std.specs.Prelude.{ℕ, zero, suc, Bool, ◌&&◌, List, [], ◌∷◌, ◌++◌, length, get_or, take, drop, replicate, eqb}
use Rattle.word.specs.Word.{eval_of}
use Rattle.runs.specs.Lists.{same, every, concat_map}
use Rattle.runs.specs.Operations.{answered}
use Rattle.cfg.specs.Graph.{CFG}
use Rattle.fsmd.specs.Layout.{records_offset, record_words, touch_offset}
use Rattle.fsmd.specs.Machine.{clock}
use Rattle.fsmd.specs.Table.{machine_table_of, machine_of, admitted_machine}
use Rattle.fsmd.specs.Run.{machine_refusal, machine_answer, machine_words_refusal, machine_words_answer}
use Rattle.grouping.specs.Grouping.{groups}
use Rattle.synthesis.specs.Synthesis.{machine}
use Rattle.touching.specs.Touching.{touches_answer, first_touching_answer, touches_number, touched_field, first_number, first_state}
use Rattle.worked_examples.specs.Graphs.{P7, P9, P10, P11, P12, Rates}
use Rattle.worked_examples.specs.Rows.{Row, row, no_machine, fields, refused_with, regs}
use Rattle.worked_examples.specs.Admission.{by_hand, state, touching}

-- the touch words of n records
abbrev last_words : ℕ → List ℕ → List ℕ
last_words zero records = []
last_words (suc n) records = get_or records touch_offset 0 ∷ last_words n (drop record_words records)

abbrev made : CFG → List ℕ
made g = machine_table_of (machine g)

abbrev touch_words : CFG → List ℕ
touch_words g = last_words (length (machine g).states) (drop records_offset (made g))

-- the number and the field that a question answers
abbrev asked : List ℕ → ℕ → ℕ → List ℕ
asked t k i = let a = touches_answer t k i in touches_number a ∷ touched_field a ∷ []

abbrev first_asked : List ℕ → ℕ → List ℕ
first_asked t i = let a = first_touching_answer t i in first_number a ∷ first_state a ∷ []

abbrev is : List ℕ → ℕ → ℕ → Bool
is answer number value = same answer (number ∷ value ∷ [])

-- one state with R = 3: r0 stays, r1 takes r0, r2 a set of 5; the next state is r0
abbrev three : ℕ → List ℕ
three w = by_hand 1 3 (touching w (state 0 1 0 (0 ∷ 0 ∷ 16 ∷ []))) (1 ∷ 5 ∷ [])

-- three states with R = 2, of which one touches r1: state k
abbrev only : List ℕ → List ℕ
only words = by_hand 3 2 (concat_map (λ w. touching w (state 0 0 0 (0 ∷ get_or (1 ∷ 0 ∷ 0 ∷ []) w 0 ∷ []))) words) []

-- a table is refused with 10 by both questions and both runs
abbrev ten : List ℕ → Bool
ten t =
    is (asked t 0 0) 10 0 && is (first_asked t 0) 10 0
    && refused_with 10 (machine_answer t (regs 0 7) 0 1) && refused_with 10 (machine_words_answer t (regs 0 7) 0 1 (5 ∷ []))

unfoldable pub touch_rows : List Row
unfolding concat_map eval_of groups machine answered machine_refusal machine_words_refusal machine_of machine_table_of admitted_machine clock touches_answer first_touching_answer P7 P9 P10 P11 P12 Rates
touch_rows =
    -- what synthesis writes: a state with several ways out makes every register a choice, another touches what its blocks write
    row "P7 touch words" (same (touch_words P7) (0 ∷ 3 ∷ []))
    ∷ row "P7 where they stand: 149 and 169" (eqb (get_or (made P7) 149 9) 0 && eqb (get_or (made P7) 169 9) 3)
    ∷ row "P7 records from N up have none" (same (last_words 62 (drop 170 (made P7))) (replicate 62 0))
    ∷ row "P9 touch words" (same (touch_words P9) (3 ∷ 3 ∷ 0 ∷ 0 ∷ []))
    ∷ row "P10 touch words" (same (touch_words P10) (3 ∷ 3 ∷ 0 ∷ []))
    ∷ row "P11 touch words" (same (touch_words P11) (0 ∷ []))
    ∷ row "P12 touch words" (same (touch_words P12) (0 ∷ []))
    ∷ row "both blocks write: 3" (same (touch_words Rates) (3 ∷ []))
    -- one state
    ∷ row "P7 state 0 touches nothing" (every (λ i. is (asked (made P7) 0 i) 0 0) (0 ∷ 1 ∷ 2 ∷ []))
    ∷ row "P7 state 1 touches r0 and r1" (every (λ i. is (asked (made P7) 1 i) 0 1) (0 ∷ 1 ∷ []))
    ∷ row "registers from R up" (every (λ i. is (asked (made P7) 1 i) 0 0) (2 ∷ 15 ∷ 16 ∷ 31 ∷ []))
    ∷ row "32 and 33, whose numbers are 32 too large" (every (λ i. is (asked (made P7) 1 i) 0 0) (32 ∷ 33 ∷ []))
    ∷ row "2147483648 and 4294967295" (every (λ i. is (asked (made P7) 1 i) 0 0) (2147483648 ∷ 4294967295 ∷ []))
    -- the first state
    ∷ row "P7 the first is state 1" (every (λ i. is (first_asked (made P7) i) 0 1) (0 ∷ 1 ∷ []))
    ∷ row "P9 the first of two" (every (λ i. is (first_asked (made P9) i) 0 0) (0 ∷ 1 ∷ []))
    ∷ row "none" (is (first_asked (made P11) 0) 0 255)
    ∷ row "none for registers from R up" (every (λ i. is (first_asked (made P9) i) 0 255) (2 ∷ 15 ∷ 16 ∷ 31 ∷ 32 ∷ 33 ∷ 4294967295 ∷ []))
    -- tables made by hand: references that are another register, and those of a wire
    ∷ row "r0 kept, r1 and r2 touched" (same (last_words 1 (drop records_offset (three 6))) (6 ∷ []) && is (asked (three 6) 0 0) 0 0 && is (asked (three 6) 0 1) 0 1 && is (asked (three 6) 0 2) 0 1)
    ∷ row "it runs" (same (fields (machine_answer (three 6) (regs 0 7) 0 1)) (0 ∷ 0 ∷ 1 ∷ 0 ∷ 0 ∷ []))
    ∷ row "each bit wrong: 10" (every (λ w. ten (three w)) (7 ∷ 4 ∷ 2 ∷ []))
    ∷ row "a bit at R, 16 or 31: 10" (every (λ w. ten (three w)) (14 ∷ 65542 ∷ 2147483654 ∷ []))
    ∷ row "no bit, all bits, those of registers kept: 10" (every (λ w. ten (three w)) (0 ∷ 4294967295 ∷ 1 ∷ []))
    ∷ row "a wrong word of another state: 10" (ten (by_hand 2 1 (state 0 0 0 (0 ∷ []) ++ touching 1 (state 0 0 0 (0 ∷ []))) []))
    ∷ row "a wrong word from N up" (is (asked (by_hand 1 1 (state 0 0 0 (0 ∷ []) ++ touching 1 (state 0 0 0 (0 ∷ []))) []) 0 0) 0 0)
    ∷ row "the last state alone" (is (first_asked (only (0 ∷ 0 ∷ 2 ∷ [])) 1) 0 2)
    ∷ row "the first of the last two" (is (first_asked (only (0 ∷ 2 ∷ 2 ∷ [])) 1) 0 1)
    -- refusals: 7, 10, 9
    ∷ row "7: 13,761 words" (is (asked (take 13761 (made P7)) 0 0) 7 0 && is (first_asked (take 13761 (made P7)) 0) 7 0)
    ∷ row "7: the 13,634 words of tables before" (is (asked (take 13634 (made P7)) 0 0) 7 0 && is (first_asked (take 13634 (made P7)) 0) 7 0)
    ∷ row "7 before 10" (is (asked (take 13761 no_machine) 0 0) 7 0 && is (first_asked (take 13761 no_machine) 0) 7 0)
    ∷ row "7 before 9" (is (asked (take 13761 (made P7)) 2 0) 7 0)
    ∷ row "10 before 9" (is (asked (three 7) 1 0) 10 0)
    ∷ row "9: states from N up" (every (λ k. is (asked (made P7) k 0) 9 0) (2 ∷ 63 ∷ 64 ∷ 255 ∷ 4294967295 ∷ []))
    ∷ row "9 also for a register from R up" (is (asked (made P7) 2 4294967295) 9 0)
    ∷ []
