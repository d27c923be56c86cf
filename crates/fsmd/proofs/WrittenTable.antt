-- The words of a machine's table, state by state: what `machine_table_of` writes is read there, whatever follows the table. Assumes nothing.
use Prim.Native.Nat.{ℕ, zero, suc, ◌+◌, ◌-◌, ◌*◌, ◌<◌, ◌≤◌}
use native.Mathlib.Nat.{add-zero}
use native.Mathlib.Omega.{arith}
use mathlib.Core.List.{List, [], ◌∷◌, ◌++◌, map, append_assoc}
use mathlib.Core.Path.{◌≡◌, refl, sym, ap, ap₂, ◌∙◌}
use lib.ListN.{length, get_or, take, drop, replicate, length-append}
use lib.Seq.{drop-append-add, drop-drop, take_at, get_or_at, get_or-drop}
use Rattle.runs.proofs.ListLaws.{padded_append, length_padded}
use Rattle.runs.specs.Lists.{up_from, padded, concat_map}
use Rattle.fsmd.specs.Layout.{max_states, max_blocks, max_registers, max_wires, wire_words, record_words, all_record_words, all_wire_words, starters_offset, block_states_offset, records_offset, wires_offset, machine_words, record_offset, next_state_offset, next_registers_offset, touch_offset, wire_offset, arrivals_offset, absent}
use Rattle.fsmd.specs.Machine.{State, wire_count, FSMD, empty_state, state_of}
use Rattle.fsmd.specs.Table.{wire_words_of, record_of, records_of, wires_of, machine_table_of, wire_at, first_wire_at, wire_count_at, state_at, touch_at}
use Rattle.fsmd.specs.Touch.{touch_word}
use Rattle.fsmd.specs.declared.Wire.{Wire}

-- ---- counting wires

-- the wires before state k
unfoldable pub wires_before : List State → ℕ → ℕ
wires_before [] k = 0
wires_before (q ∷ qs) zero = 0
wires_before (q ∷ qs) (suc k) = length q.wires + wires_before qs k

abbrev pub at : List State → ℕ → State
at qs k = get_or qs k empty_state

pub before_room : (qs : List State) (k : ℕ) → k < length qs → wires_before qs k + length (at qs k).wires ≤ wire_count qs
unfolding wire_count wires_before
before_room [] k h = absurd (omega arith)
before_room (q ∷ qs) zero h = omega arith
before_room (q ∷ qs) (suc k) h = let e = before_room qs k (omega arith) in omega arith

pub before_less : (qs : List State) (j k : ℕ) → j < k → k < length qs → wires_before qs j + length (at qs j).wires ≤ wires_before qs k
unfolding wires_before
before_less [] j k h b = absurd (omega arith)
before_less (q ∷ qs) j zero h b = absurd (omega arith)
before_less (q ∷ qs) zero (suc k) h b = omega arith
before_less (q ∷ qs) (suc j) (suc k) h b = let e = before_less qs j k (omega arith) (omega arith) in omega arith

-- ---- words of a table from an index on

drop_past : (xs ys : List ℕ) (n k : ℕ) → length xs ≡ n → drop (n + k) (xs ++ ys) ≡ drop k ys
drop_past xs ys n k e = ap (λ (i : ℕ). drop (i + k) (xs ++ ys)) (sym e) ∙ drop-append-add xs ys k

-- what stands at p + i, from the words that p drops to
word_from : (t l : List ℕ) (p i : ℕ) → drop p t ≡ l → get_or t (p + i) 0 ≡ get_or l i 0
word_from t l p i e = sym (get_or-drop p t i 0) ∙ ap (λ (d : List ℕ). get_or d i 0) e

first_from : (t l : List ℕ) (p : ℕ) → drop p t ≡ l → get_or t p 0 ≡ get_or l 0 0
first_from t l p e = ap (λ (i : ℕ). get_or t i 0) (sym (add-zero p)) ∙ word_from t l p 0 e

drop_from : (t l : List ℕ) (p i : ℕ) → drop p t ≡ l → drop (p + i) t ≡ drop i l
drop_from t l p i e = sym (drop-drop i p t) ∙ ap (drop i) e

-- ---- wires

abbrev words_of : List Wire → List ℕ
words_of ws = concat_map wire_words_of ws

pub length-words_of : (ws : List Wire) → length (words_of ws) ≡ wire_words * length ws
unfolding concat_map
length-words_of [] = refl
length-words_of (w ∷ ws) = let e = length-words_of ws in omega arith

-- wires that stand in a table one after another are read there
wires_read : (t : List ℕ) (ws : List Wire) (f : ℕ) (r : List ℕ) → drop (wire_offset f) t ≡ words_of ws ++ r → map (wire_at t) (up_from f (length ws)) ≡ ws
unfolding concat_map wire_at
wires_read t [] f r e = refl
wires_read t (w ∷ ws) f r e =
    let p = wire_offset f in
    let l = words_of (w ∷ ws) ++ r in
    let n : wire_offset (suc f) ≡ p + wire_words = omega arith in
    let w' : wire_at t f ≡ w = ap₂ {C = Wire} (λ (x y : ℕ × ℕ). record { code = x.0; a = x.1; b = y.0; c = y.1 })
    (ap₂ {C = ℕ × ℕ} (λ (x y : ℕ). (x, y)) (first_from t l p e) (word_from t l p 1 e))
    (ap₂ {C = ℕ × ℕ} (λ (x y : ℕ). (x, y)) (word_from t l p 2 e) (word_from t l p 3 e)) in
    ap₂ {C = List Wire} (λ (x : Wire) (xs : List Wire). x ∷ xs) w'
    (wires_read t ws (suc f) r (ap (λ (i : ℕ). drop i t) n ∙ drop_from t l p wire_words e))

pub length-wires_of : (qs : List State) → length (wires_of qs) ≡ wire_words * wire_count qs
unfolding wires_of concat_map wire_count
length-wires_of [] = refl
length-wires_of (q ∷ qs) = omega (arith, length-append (words_of q.wires) (wires_of qs), length-words_of q.wires, length-wires_of qs)

-- the wires of state k, after those of the states before it
wires_drop : (qs : List State) (k : ℕ) (l : List ℕ) → k < length qs
    → (r : List ℕ) × (drop (wire_words * wires_before qs k) (wires_of qs ++ l) ≡ words_of (at qs k).wires ++ r)
unfolding wires_of concat_map wires_before
wires_drop [] k l h = absurd (omega arith)
wires_drop (q ∷ qs) zero l h = (wires_of qs ++ l, append_assoc (words_of q.wires) (wires_of qs) l)
wires_drop (q ∷ qs) (suc k) l h =
    let r = wires_drop qs k l (omega arith) in
    let e : wire_words * (length q.wires + wires_before qs k) ≡ wire_words * length q.wires + wire_words * wires_before qs k = omega arith in (
      r.0,
      ap (λ (i : ℕ). drop i (wires_of (q ∷ qs) ++ l)) e
          ∙ ap (drop (wire_words * length q.wires + wire_words * wires_before qs k)) (append_assoc (words_of q.wires) (wires_of qs) l)
          ∙ drop_past (words_of q.wires) (wires_of qs ++ l) (wire_words * length q.wires) (wire_words * wires_before qs k) (length-words_of q.wires)
          ∙ r.1,
    )

-- ---- records

pub length-record_of : (n : ℕ) (q : State) → length (record_of n q) ≡ record_words
length-record_of n q =
    let l = padded max_registers 0 q.next_registers in
    omega (arith, length_padded max_registers 0 q.next_registers, length-append l (touch_word q.next_registers ∷ []))

pub length-records_of : (n : ℕ) (qs : List State) → length (records_of n qs) ≡ record_words * length qs
unfolding records_of
length-records_of n [] = refl
length-records_of n (q ∷ qs) =
    let m = n + length q.wires in
    omega (arith, length-append (record_of n q) (records_of m qs), length-record_of n q, length-records_of m qs)

records_drop : (qs : List State) (n k : ℕ) (l : List ℕ) → k < length qs
    → (r : List ℕ) × (drop (record_words * k) (records_of n qs ++ l) ≡ record_of (n + wires_before qs k) (at qs k) ++ r)
unfolding records_of wires_before
records_drop [] n k l h = absurd (omega arith)
records_drop (q ∷ qs) n zero l h = (
  records_of (n + length q.wires) qs ++ l,
  ap₂ {C = List ℕ} (λ (a : ℕ) (b : List ℕ). a ∷ length q.wires ∷ q.next ∷ b) (omega arith)
      (append_assoc (padded max_registers 0 q.next_registers ++ (touch_word q.next_registers ∷ [])) (records_of (n + length q.wires) qs) l),
)
records_drop (q ∷ qs) n (suc k) l h =
    let r = records_drop qs (n + length q.wires) k l (omega arith) in
    let e : record_words * suc k ≡ record_words + record_words * k = omega arith in
    let f : n + length q.wires + wires_before qs k ≡ n + (length q.wires + wires_before qs k) = omega arith in (
      r.0,
      ap (λ (i : ℕ). drop i (records_of n (q ∷ qs) ++ l)) e
          ∙ ap (drop (record_words + record_words * k)) (append_assoc (record_of n q) (records_of (n + length q.wires) qs) l)
          ∙ drop_past (record_of n q) (records_of (n + length q.wires) qs ++ l) record_words (record_words * k) (length-record_of n q)
          ∙ r.1 ∙ ap (λ (i : ℕ). record_of i (at qs k) ++ r.0) f,
    )

-- ---- the table of a machine, and what may follow it

module _ (m : FSMD) (rest : List ℕ) where
  abbrev table : List ℕ
  table = machine_table_of m ++ rest

  abbrev starter_words : List ℕ
  starter_words = padded max_states 0 m.starters

  abbrev block_words : List ℕ
  block_words = padded max_blocks absent m.block_states

  abbrev record_space : List ℕ
  record_space = padded all_record_words 0 (records_of 0 m.states)

  abbrev wire_space : List ℕ
  wire_space = padded all_wire_words 0 (wires_of m.states)

  abbrev arrival_words : List ℕ
  arrival_words = padded max_blocks 0 m.arrivals

  -- what follows the wires
  abbrev after : List ℕ
  after = arrival_words ++ rest

  pub count_is : get_or table 0 0 ≡ length m.states
  unfolding machine_table_of
  count_is = refl

  pub registers_are : get_or table 1 0 ≡ m.registers
  unfolding machine_table_of
  registers_are = refl

  from_starters : (i : ℕ) → drop (starters_offset + i) table ≡ drop i (starter_words ++ (block_words ++ (record_space ++ (wire_space ++ after))))
  unfolding machine_table_of
  from_starters i =
      let e : starters_offset + i ≡ suc (suc i) = omega arith in
      let wires = wire_space ++ arrival_words in
      let records = record_space ++ wires in
      let blocks = block_words ++ records in
      ap (λ (j : ℕ). drop j table) e
      ∙ ap (drop i) (append_assoc starter_words blocks rest
      ∙ ap (λ (l : List ℕ). starter_words ++ l) (append_assoc block_words records rest
      ∙ ap (λ (l : List ℕ). block_words ++ l) (append_assoc record_space wires rest
      ∙ ap (λ (l : List ℕ). record_space ++ l) (append_assoc wire_space arrival_words rest))))

  from_blocks : (i : ℕ) → drop (block_states_offset + i) table ≡ drop i (block_words ++ (record_space ++ (wire_space ++ after)))
  from_blocks i =
      let e : block_states_offset + i ≡ starters_offset + (max_states + i) = omega arith in
      ap (λ (j : ℕ). drop j table) e ∙ from_starters (max_states + i)
      ∙ drop_past starter_words (block_words ++ (record_space ++ (wire_space ++ after))) max_states i (length_padded max_states 0 m.starters)

  from_records : (i : ℕ) → drop (records_offset + i) table ≡ drop i (record_space ++ (wire_space ++ after))
  from_records i =
      let e : records_offset + i ≡ block_states_offset + (max_blocks + i) = omega arith in
      ap (λ (j : ℕ). drop j table) e ∙ from_blocks (max_blocks + i)
      ∙ drop_past block_words (record_space ++ (wire_space ++ after)) max_blocks i (length_padded max_blocks absent m.block_states)

  from_wires : (i : ℕ) → drop (wires_offset + i) table ≡ drop i (wire_space ++ after)
  from_wires i =
      let e : wires_offset + i ≡ records_offset + (all_record_words + i) = omega arith in
      ap (λ (j : ℕ). drop j table) e ∙ from_records (all_record_words + i)
      ∙ drop_past record_space (wire_space ++ after) all_record_words i (length_padded all_record_words 0 (records_of 0 m.states))

  from_arrivals : drop arrivals_offset table ≡ after
  from_arrivals =
      from_wires all_wire_words
      ∙ drop_past wire_space after all_wire_words 0 (length_padded all_wire_words 0 (wires_of m.states))

  pub back_starters : length m.starters ≡ length m.states → length m.states ≤ max_states → take (get_or table 0 0) (drop starters_offset table) ≡ m.starters
  back_starters e few =
      let l = m.starters in
      let behind = block_words ++ (record_space ++ (wire_space ++ after)) in
      let pad = replicate {A = ℕ} (max_states - length l) 0 in
      let p : starter_words ≡ l ++ pad = padded_append max_states 0 l (omega arith) in
      ap₂ (λ (n : ℕ) (d : List ℕ). take n d) count_is (from_starters 0)
      ∙ ap (λ (d : List ℕ). take (length m.states) (d ++ behind)) p
      ∙ ap (take (length m.states)) (append_assoc l pad behind)
      ∙ take_at l (pad ++ behind) (length m.states) e

  pub back_blocks : take max_blocks (drop block_states_offset table) ≡ padded max_blocks absent m.block_states
  back_blocks = ap (take max_blocks) (from_blocks 0) ∙ take_at block_words (record_space ++ (wire_space ++ after)) max_blocks (length_padded max_blocks absent m.block_states)

  pub back_arrivals : take max_blocks (drop arrivals_offset table) ≡ padded max_blocks 0 m.arrivals
  back_arrivals = ap (take max_blocks) from_arrivals ∙ take_at arrival_words rest max_blocks (length_padded max_blocks 0 m.arrivals)

  module _ (few : length m.states ≤ max_states) (room : wire_count m.states ≤ max_wires) (k : ℕ) (h : k < length m.states) where
    -- the words from state k's record on
    at_record : (r : List ℕ) × (drop (record_offset k) table ≡ record_of (wires_before m.states k) (at m.states k) ++ r)
    at_record =
        let recs = records_of 0 m.states in
        let pad = replicate {A = ℕ} (all_record_words - length recs) 0 in
        let p : record_space ≡ recs ++ pad = padded_append all_record_words 0 recs (omega (arith, length-records_of 0 m.states)) in
        let d = records_drop m.states 0 k (pad ++ (wire_space ++ after)) h in
        let z : 0 + wires_before m.states k ≡ wires_before m.states k = omega arith in (
          d.0,
          from_records (record_words * k)
              ∙ ap (λ (l : List ℕ). drop (record_words * k) (l ++ (wire_space ++ after))) p
              ∙ ap (drop (record_words * k)) (append_assoc recs pad (wire_space ++ after))
              ∙ d.1 ∙ ap (λ (n : ℕ). record_of n (at m.states k) ++ d.0) z,
        )

    -- the words from its first wire on
    at_wires : (r : List ℕ) × (drop (wire_offset (wires_before m.states k)) table ≡ words_of (at m.states k).wires ++ r)
    at_wires =
        let all = wires_of m.states in
        let pad = replicate {A = ℕ} (all_wire_words - length all) 0 in
        let p : wire_space ≡ all ++ pad = padded_append all_wire_words 0 all (omega (arith, length-wires_of m.states)) in
        let i = wire_words * wires_before m.states k in
        let d = wires_drop m.states k (pad ++ after) h in (
          d.0,
          from_wires i ∙ ap (λ (l : List ℕ). drop i (l ++ after)) p ∙ ap (drop i) (append_assoc all pad after) ∙ d.1,
        )

    pub back_first : first_wire_at table k ≡ wires_before m.states k
    back_first = first_from table _ (record_offset k) at_record.1

    pub back_count : wire_count_at table k ≡ length (state_of m k).wires
    back_count = word_from table _ (record_offset k) 1 at_record.1

    back_next : get_or table (record_offset k + next_state_offset) 0 ≡ (state_of m k).next
    back_next = word_from table _ (record_offset k) next_state_offset at_record.1

    back_wires : map (wire_at table) (up_from (first_wire_at table k) (wire_count_at table k)) ≡ (state_of m k).wires
    back_wires =
        ap₂ (λ (f n : ℕ). map (wire_at table) (up_from f n)) back_first back_count
        ∙ wires_read table (state_of m k).wires (wires_before m.states k) at_wires.0 at_wires.1

    back_registers : m.registers ≤ max_registers → length (state_of m k).next_registers ≡ m.registers
        → take (get_or table 1 0) (drop (record_offset k + next_registers_offset) table) ≡ (state_of m k).next_registers
    back_registers small e =
        let l = (state_of m k).next_registers in
        let r = at_record.0 in
        let pad = replicate {A = ℕ} (max_registers - length l) 0 in
        let p : padded max_registers 0 l ≡ l ++ pad = padded_append max_registers 0 l (omega arith) in
        ap₂ (λ (n : ℕ) (d : List ℕ). take n d) registers_are (drop_from table _ (record_offset k) next_registers_offset at_record.1)
        ∙ ap (λ (d : List ℕ). take m.registers ((d ++ (touch_word l ∷ [])) ++ r)) p
        ∙ ap (take m.registers) (append_assoc (l ++ pad) (touch_word l ∷ []) r ∙ append_assoc l pad (touch_word l ∷ r))
        ∙ take_at l (pad ++ (touch_word l ∷ r)) m.registers e

    pub back_touch : touch_at table k ≡ touch_word (state_of m k).next_registers
    back_touch =
        let l = (state_of m k).next_registers in
        let sixteen = padded max_registers 0 l in
        let r = at_record.0 in
        word_from table _ (record_offset k) touch_offset at_record.1
        ∙ ap (λ (d : List ℕ). get_or d max_registers 0) (append_assoc sixteen (touch_word l ∷ []) r)
        ∙ get_or_at sixteen (touch_word l) r 0 max_registers (length_padded max_registers 0 l)

    pub back_state : m.registers ≤ max_registers → length (state_of m k).next_registers ≡ m.registers → state_at table k ≡ state_of m k
    unfolding state_at
    back_state small e =
        ap₂ {C = State} (λ (ws : List Wire) (p : ℕ × List ℕ). record { wires = ws; next = p.0; next_registers = p.1 }) back_wires
        (ap₂ {C = ℕ × List ℕ} (λ (n : ℕ) (l : List ℕ). (n, l)) back_next (back_registers small e))

-- ---- the length of a machine's table

lengths : (a b c d e : List ℕ) (i j k l n : ℕ) → length a ≡ i → length b ≡ j → length c ≡ k → length d ≡ l → length e ≡ n
    → length (a ++ (b ++ (c ++ (d ++ e)))) ≡ i + (j + (k + (l + n)))
lengths a b c d e i j k l n ea eb ec ed ee =
    omega (arith, length-append a (b ++ (c ++ (d ++ e))), length-append b (c ++ (d ++ e)), length-append c (d ++ e), length-append d e)

pub table_length : (m : FSMD) → length (machine_table_of m) ≡ machine_words
unfolding machine_table_of
table_length m =
    ap (λ (n : ℕ). suc (suc n))
    (lengths (starter_words m []) (block_words m []) (record_space m []) (wire_space m []) (arrival_words m []) max_states max_blocks all_record_words all_wire_words max_blocks
    (length_padded max_states 0 m.starters) (length_padded max_blocks absent m.block_states) (length_padded all_record_words 0 (records_of 0 m.states))
    (length_padded all_wire_words 0 (wires_of m.states)) (length_padded max_blocks 0 m.arrivals))
