-- One state put into the table: its wires, then its record. Assumes nothing.
use Prim.Native.Nat.{ℕ, zero, suc, ◌+◌, ◌-◌, ◌*◌, ◌≤◌, ◌<◌}
use native.Mathlib.Omega.{arith}
use mathlib.Core.Bool.{true}
use mathlib.Core.Path.{◌≡◌, refl, sym, ◌∙◌, ap, ap₂, subst}
use mathlib.Core.List.{List, [], ◌∷◌, ◌++◌, append_assoc, append-nil}
use lib.ListN.{length, get_or, take, drop, replicate, length-drop, drop_of_length-le}
use lib.Seq.{take_all, take_at, length-take-le, drop-drop, drop-append-add, sets, sets-eq}
use Rattle.runs.specs.Lists.{padded, concat_map}
use Rattle.runs.proofs.ListLaws.{padded_append}
use Rattle.cfg.specs.Table.{graph_of, admitted_graph}
use Rattle.cfg.proofs.Admitted.{admitted_facts, valid_graph_lem, admitted_halves, registers_are}
use Rattle.fsmd.specs.Layout.{max_states, max_registers, max_wires, wire_words, records_offset, record_offset, wire_offset, absent}
use Rattle.fsmd.specs.declared.Wire.{Wire}
use Rattle.fsmd.specs.Machine.{State, wire_count}
use Rattle.fsmd.specs.Touch.{touch_word}
use Rattle.fsmd.specs.Table.{wire_words_of, record_of}
use Rattle.fsmd.proofs.WrittenTable.{length-words_of}
use Rattle.grouping.specs.Grouping.{Groups}
use Rattle.grouping.proofs.Reach.{admitted_closed}
use Rattle.grouping.proofs.GroupingLaws.{Grouped}
use Rattle.state.specs.Wires.{BlockBuild}
use Rattle.state.specs.Making.{wires_in, stored, Room, Held, GroupedBytes}
use Rattle.state.proofs.StoredWires.{length-wires_in}
use Rattle.synthesis.specs.StateWords.{with_states, first_states, Filled}
use Rattle.synthesis.proofs.SynthesisedMachine.{made_valid}
use Rattle.synthesis.proofs.StateBlocks.{point_of}
use Rattle.synthesis.proofs.TableWords.{state_written}
use Rattle.synthesis.proofs.MachineTable.{nth, first_more, first_length, first_count, first_room}

module _ (q : State) (old new : List ℕ) (next : ℕ) (values : List ℕ) (n : ℕ) (h : Held (point_of q) old next values n new) where
  its_wires : wires_in n new ≡ q.wires
  its_wires = ap (λ (p : BlockBuild). p.wires) h.point

  pub its_count : n ≡ length q.wires
  its_count = sym (length-wires_in n new) ∙ ap length its_wires

  pub its_next : next ≡ q.next
  its_next = ap (λ (p : BlockBuild). p.arrival) h.point

  pub its_registers : values ≡ q.next_registers
  its_registers = ap (λ (p : BlockBuild). p.values) h.point

  -- the words behind those before it
  its_words : (table : List ℕ) (at : ℕ) → old ≡ drop at table → at + wire_words * length q.wires ≤ length table → take at table ++ new ≡ sets table at (concat_map wire_words_of q.wires)
  unfolding stored
  its_words table at e fits =
      let w : new ≡ concat_map wire_words_of q.wires ++ drop (wire_words * length q.wires) old = h.rest ∙ ap (λ (ws : List Wire). stored ws old) its_wires in
      let m : wire_words * length q.wires ≡ length (concat_map wire_words_of q.wires) = sym (length-words_of q.wires) in
      ap (λ (l : List ℕ). take at table ++ l) (w ∙ ap (λ (l : List ℕ). concat_map wire_words_of q.wires ++ l) (ap (λ (l : List ℕ). drop (wire_words * length q.wires) l) e ∙ drop-drop (wire_words * length q.wires) at table ∙ ap (λ (i : ℕ). drop (at + i) table) m))
      ∙ sym (sets-eq (concat_map wire_words_of q.wires) table at (omega arith) ∙ append_assoc (take at table) (concat_map wire_words_of q.wires) (drop (at + length (concat_map wire_words_of q.wires)) table))

-- all registers are taken
registers_all : (r : ℕ) (values regs : List ℕ) (m : ℕ) → length values ≡ r → m ≤ r → length regs ≡ r → take m values ≡ regs → values ≡ regs
registers_all r values regs m l k e t =
    let f : m ≡ r = let c = ap length t in let d = length-take-le m values (omega arith) in omega arith in
    sym (take_all m values (omega arith)) ∙ t

-- registers behind which the rest of the 16 is 0
pub registers_padded : (r : ℕ) (values rest regs : List ℕ) (m : ℕ) → length values ≡ r → r ≤ max_registers → m ≤ r → length regs ≡ r → take m values ≡ regs → rest ≡ replicate (max_registers - r) 0 → values ++ rest ≡ padded max_registers 0 regs
registers_padded r values rest regs m l h k e t z =
    let v : values ≡ regs = registers_all r values regs m l k e t in
    let n : max_registers - r ≡ max_registers - length regs = omega arith in
    ap (λ (x : List ℕ). x ++ rest) v ∙ ap (λ (x : List ℕ). regs ++ x) (z ∙ ap (λ (i : ℕ). replicate {A = ℕ} i 0) n) ∙ sym (padded_append max_registers 0 regs (omega arith))

module _ (t : List ℕ) (a : admitted_graph t ≡ true) (s : Groups) (G : Grouped (graph_of t) s) (table : List ℕ) (k first : ℕ) (f : Filled t s table k first) (below : k < length s.starters) where
  pub put_room : first + length (nth t s k).wires ≤ max_wires
  put_room = let r = first_room t a s G k below in let p = f.passed in omega arith

  pub put_registers : length (nth t s k).next_registers ≡ get_or t 1 0
  put_registers = (made_valid (graph_of t) (valid_graph_lem (graph_of t) (admitted_halves t a).0) s G k below).registers ∙ registers_are t

  module _ (new : List ℕ) (next : ℕ) (values : List ℕ) (n : ℕ) (h : Held (point_of (nth t s k)) (drop (wire_offset first) table) next values n new) where
    pub put_next : first + n ≡ wire_count (first_states t s (k + 1))
    put_next = let c = first_count t s k in let e = its_count (nth t s k) (drop (wire_offset first) table) new next values n h in let p = f.passed in omega arith

    pub put_words : (behind : List ℕ) → behind ≡ padded max_registers 0 (nth t s k).next_registers ++ (touch_word (nth t s k).next_registers ∷ [])
        → sets (take (wire_offset first) table ++ new) (record_offset k) (first ∷ n ∷ next ∷ behind) ≡ with_states (take records_offset table) (first_states t s (k + 1))
    put_words behind e =
        let q = nth t s k in
        let last = padded max_registers 0 q.next_registers ++ (touch_word q.next_registers ∷ []) in
        let old = drop (wire_offset first) table in
        let l = first_length t s k in
        let c = admitted_closed t a in
        let d = G.few_states_lem in
        let b = c.few_blocks_lem in
        let few : length (first_states t s k) < max_states = omega arith in
        let room : wire_count (first_states t s k) + length q.wires ≤ max_wires = first_room t a s G k below in
        let whole : length (take records_offset table) ≡ records_offset = length-take-le records_offset table (omega (arith, f.all)) in
        ap (λ (x : List ℕ). sets (take (wire_offset first) table ++ new) (record_offset k) (first ∷ n ∷ next ∷ x)) e
        ∙ ap (λ (x : List ℕ). sets x (record_offset k) (first ∷ n ∷ next ∷ last)) (its_words q old new next values n h table (wire_offset first) refl (omega (arith, f.all, f.passed)))
        ∙ ap (λ (i : ℕ). sets (sets table (wire_offset first) (concat_map wire_words_of q.wires)) (record_offset k) (first ∷ i ∷ next ∷ last)) (its_count q old new next values n h)
        ∙ ap (λ (i : ℕ). sets (sets table (wire_offset first) (concat_map wire_words_of q.wires)) (record_offset k) (first ∷ length q.wires ∷ i ∷ last)) (its_next q old new next values n h)
        ∙ ap (λ (i : ℕ). sets (sets table (wire_offset i) (concat_map wire_words_of q.wires)) (record_offset k) (record_of i q)) f.passed
        ∙ ap (λ (i : ℕ). sets (sets table (wire_offset (wire_count (first_states t s k))) (concat_map wire_words_of q.wires)) (record_offset i) (record_of (wire_count (first_states t s k)) q)) (sym (first_length t s k))
        ∙ state_written (take records_offset table) (first_states t s k) q whole few room table f.words
        ∙ ap (with_states (take records_offset table)) (sym (first_more t s k))

-- ---- what making a state asks

-- an admitted graph table, whose grouping s is at hand in two lists
pub record Known (t : List ℕ) (s : Groups) (starters states : List ℕ) : Type 0 where
  pub admits : admitted_graph t ≡ true
  pub its_starters : starters ≡ s.starters
  pub its_states : states ≡ s.states

pub groups_held : (t : List ℕ) (s : Groups) → Grouped (graph_of t) s → (starters states : List ℕ) → Known t s starters states
    → GroupedBytes starters states
groups_held t s G starters states p =
    let c = admitted_closed t p.admits in
    let b = c.few_blocks_lem in
    let n = G.few_states_lem in
    let m = G.all_blocks in
    let e = ap length p.its_starters in
    let f = ap length p.its_states in
    record { owned = λ k h. rw (p.its_states, p.its_starters) (G.starter_home k absent (omega arith)); few = omega arith; known = omega arith }

pub drop_zeros : (r n : ℕ) → r ≤ n → drop r (replicate {A = ℕ} n 0) ≡ replicate (n - r) 0
drop_zeros zero n h = let e : n - 0 ≡ n = omega arith in rw e refl
drop_zeros (suc r) zero h = absurd (omega arith)
drop_zeros (suc r) (suc n) h = let e : suc n - suc r ≡ n - r = omega arith in rw e (drop_zeros r n (omega arith))

-- behind the registers that are used stand zeros
pub zeros_behind : (r m : ℕ) (regs : List ℕ) → m ≤ r → r ≤ max_registers → length regs ≡ max_registers → regs ≡ take m regs ++ replicate (max_registers - m) 0 → drop r regs ≡ replicate (max_registers - r) 0
zeros_behind r m regs few small long e =
    let l : length (take m regs) ≡ m = length-take-le m regs (omega arith) in
    let n : length (take m regs) + (r - m) ≡ r = omega (arith, l) in
    let k : max_registers - m - (r - m) ≡ max_registers - r = omega arith in
    ap (drop r) e
    ∙ ap (λ (i : ℕ). drop i (take m regs ++ replicate (max_registers - m) 0)) (sym n)
    ∙ drop-append-add (take m regs) (replicate (max_registers - m) 0) (r - m)
    ∙ drop_zeros (r - m) (max_registers - m) (omega arith)
    ∙ ap (λ (i : ℕ). replicate {A = ℕ} i 0) k

-- ---- a state made and put

module _ (t : List ℕ) (s : Groups) (G : Grouped (graph_of t) s) (starters states : List ℕ) (p : Known t s starters states) (table : List ℕ) (k first : ℕ) (f : Filled t s table k first) (low : k < length starters) where
  pub below : k < length s.starters
  below = let e = ap length p.its_starters in omega arith

  pub few_states_lem : k < max_states
  few_states_lem =
      let b = (admitted_closed t p.admits).few_blocks_lem in
      let n = G.few_states_lem in
      let l = below in
      omega arith

  pub first_low : first ≤ max_wires
  first_low = let r = put_room t p.admits s G table k first f below in omega arith

  pub registers_low : get_or t 1 0 ≤ max_registers
  registers_low = (admitted_facts t p.admits).few_registers

  -- the words from the state's first wire on
  pub rest_of : take (length table - (wire_offset first)) (drop (wire_offset first) table) ≡ drop (wire_offset first) table
  rest_of = take_all (length table - (wire_offset first)) (drop (wire_offset first) table) (let l = length-drop (wire_offset first) table in omega arith)

  pub room_for : (point : BlockBuild) → point ≡ point_of (nth t s k) → Room (length point.wires) (take (length table - (wire_offset first)) (drop (wire_offset first) table))
  room_for point is =
      let e : length point.wires ≡ length (nth t s k).wires = ap (λ (x : BlockBuild). length x.wires) is in
      let r = put_room t p.admits s G table k first f below in
      let l = ap length rest_of ∙ length-drop (wire_offset first) table in
      let a = f.all in
      record { fits = omega arith; few = omega arith }

  module _ (point : BlockBuild) (is : point ≡ point_of (nth t s k)) (new values : List ℕ) (m n next : ℕ) (h : Held point (take (length table - (wire_offset first)) (drop (wire_offset first) table)) next (take m values) n new)
      (as_many : length values ≡ get_or t 1 0) (m-low : m ≤ get_or t 1 0) where
    held : Held (point_of (nth t s k)) (drop (wire_offset first) table) next (take m values) n new
    held = subst (λ (l : List ℕ). Held (point_of (nth t s k)) l next (take m values) n new) rest_of (subst (λ (x : BlockBuild). Held x (take (length table - (wire_offset first)) (drop (wire_offset first) table)) next (take m values) n new) is h)

    pub made_low : first + n ≤ max_wires
    made_low = let r = put_room t p.admits s G table k first f below in let c = its_count (nth t s k) (drop (wire_offset first) table) new next (take m values) n held in omega arith

    pub made_count : first + n ≡ wire_count (first_states t s (k + 1))
    made_count = put_next t p.admits s G table k first f below new next (take m values) n held

    -- all of the table with the state's wires
    pub made_table : new ++ drop (length table - (wire_offset first)) (drop (wire_offset first) table) ≡ new
    made_table =
        let l = length-drop (wire_offset first) table in
        ap (λ (x : List ℕ). new ++ x) (drop_of_length-le (drop (wire_offset first) table) {i = length table - (wire_offset first)} (omega arith)) ∙ append-nil new

    pub made_words : (rest table' last : List ℕ) → rest ≡ replicate (max_registers - get_or t 1 0) 0 → table' ≡ take (wire_offset first) table ++ new
        → last ≡ sets table' (record_offset k) (first ∷ n ∷ next ∷ ((values ++ rest) ++ (touch_word (take (get_or t 1 0) (values ++ rest)) ∷ []))) → last ≡ with_states (take records_offset table) (first_states t s (k + 1))
    made_words rest table' last z e w =
        let v : values ++ rest ≡ padded max_registers 0 (nth t s k).next_registers =
        registers_padded (get_or t 1 0) values rest (nth t s k).next_registers m as_many registers_low m-low (put_registers t p.admits s G table k first f below)
        (its_registers (nth t s k) (drop (wire_offset first) table) new next (take m values) n held) z in
        let all = registers_all (get_or t 1 0) values (nth t s k).next_registers m as_many m-low (put_registers t p.admits s G table k first f below)
        (its_registers (nth t s k) (drop (wire_offset first) table) new next (take m values) n held) in
        let touch : touch_word (take (get_or t 1 0) (values ++ rest)) ≡ touch_word (nth t s k).next_registers = ap touch_word (take_at values rest (get_or t 1 0) as_many ∙ all) in
        let behind = (values ++ rest) ++ (touch_word (take (get_or t 1 0) (values ++ rest)) ∷ []) in
        w ∙ ap (λ (l : List ℕ). sets l (record_offset k) (first ∷ n ∷ next ∷ behind)) e
        ∙ put_words t p.admits s G table k first f below new next (take m values) n held behind (ap₂ (λ (l : List ℕ) (x : ℕ). l ++ (x ∷ [])) v touch)
