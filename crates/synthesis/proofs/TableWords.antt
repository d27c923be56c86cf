-- How the words of a machine table grow by a state. Assumes nothing.
use Prim.Native.Nat.{ℕ, ◌+◌, ◌-◌, ◌≤◌, ◌<◌}
use native.Mathlib.Omega.{arith}
use mathlib.Core.Path.{◌≡◌, refl, sym, ◌∙◌, ap}
use mathlib.Core.List.{List, [], ◌∷◌, ◌++◌, append_assoc, append-nil}
use lib.ListN.{length, replicate, length-append, length-replicate, replicate-append-replicate}
use lib.Seq.{sets}
use Rattle.buffers.proofs.Copies.{sets_over, sets_left, sets_right}
use Rattle.runs.specs.Lists.{padded, concat_map}
use Rattle.runs.proofs.ListLaws.{padded_append, length_padded, concat_one}
use Rattle.fsmd.specs.Layout.{max_states, max_wires, all_record_words, all_wire_words, records_offset, arrivals_offset, record_offset, wire_offset}
use Rattle.fsmd.specs.Machine.{State, wire_count}
use Rattle.fsmd.specs.Table.{wire_words_of, record_of, records_of, wires_of}
use Rattle.fsmd.proofs.WrittenTable.{length-words_of, length-wires_of, length-record_of, length-records_of}
use Rattle.synthesis.specs.StateWords.{with_states}

-- the first of the zeros behind a list
padded_more : (n : ℕ) (l v : List ℕ) → length l + length v ≤ n → (at : ℕ) → at ≡ length l → sets (padded n 0 l) at v ≡ padded n 0 (l ++ v)
padded_more n l v h at e =
    let z : n - length l ≡ length v + (n - (length l + length v)) = omega arith in
    let m : length (l ++ v) ≡ length l + length v = length-append l v in
    ap (λ (t : List ℕ). sets t at v)
    (padded_append n 0 l (omega arith) ∙ ap (λ (i : ℕ). l ++ replicate i 0) z
    ∙ ap (λ (t : List ℕ). l ++ t) (sym (replicate-append-replicate (length v) (n - (length l + length v)) 0)))
    ∙ sets_over l (replicate (length v) 0) (replicate (n - (length l + length v)) 0) v at (sym e) (length-replicate (length v) 0)
    ∙ sym (append_assoc l v (replicate (n - (length l + length v)) 0))
    ∙ ap (λ (i : ℕ). (l ++ v) ++ replicate (n - i) 0) (sym m)
    ∙ sym (padded_append n 0 (l ++ v) (omega arith))

-- ---- one state more

wires_more : (qs : List State) (q : State) → wires_of (qs ++ (q ∷ [])) ≡ wires_of qs ++ concat_map wire_words_of q.wires
unfolding wires_of
wires_more qs q = concat_one (λ (q : State). concat_map wire_words_of q.wires) qs q

pub count_more : (qs : List State) (q : State) → wire_count (qs ++ (q ∷ [])) ≡ wire_count qs + length q.wires
unfolding wire_count
count_more [] q = omega arith
count_more (p ∷ qs) q = let e = count_more qs q in omega arith

records_more : (n : ℕ) (qs : List State) (q : State) → records_of n (qs ++ (q ∷ [])) ≡ records_of n qs ++ record_of (n + wire_count qs) q
unfolding records_of wire_count
records_more n [] q = let e : n + 0 ≡ n = omega arith in rw e (append-nil (record_of n q))
records_more n (p ∷ qs) q =
    let m = n + length p.wires in
    let e : m + wire_count qs ≡ n + (length p.wires + wire_count qs) = omega arith in
    ap (λ (l : List ℕ). record_of n p ++ l) (records_more m qs q ∙ ap (λ (i : ℕ). records_of m qs ++ record_of i q) e)
    ∙ sym (append_assoc (record_of n p) (records_of m qs) (record_of (n + (length p.wires + wire_count qs)) q))

-- with any room for records and wires
parts : ℕ → ℕ → List ℕ → List ℕ → List ℕ → List ℕ
parts m n head records wires = head ++ (padded m 0 records ++ padded n 0 wires)

module _ (m n : ℕ) (head records wires : List ℕ) (head-whole : length head ≡ records_offset) where
  parts_wires : (ws : List ℕ) → length wires + length ws ≤ n → (at : ℕ) → at ≡ records_offset + (m + length wires)
      → sets (parts m n head records wires) at ws ≡ parts m n head records (wires ++ ws)
  unfolding parts
  parts_wires ws h at e =
      sets_right head (padded m 0 records ++ padded n 0 wires) ws (m + length wires) at (omega arith)
      ∙ ap (λ (l : List ℕ). head ++ l)
      (sets_right (padded m 0 records) (padded n 0 wires) ws (length wires) (m + length wires) (rw length_padded refl)
      ∙ ap (λ (l : List ℕ). padded m 0 records ++ l) (padded_more n wires ws h (length wires) refl))

  parts_record : (r : List ℕ) → length records + length r ≤ m → (at : ℕ) → at ≡ records_offset + length records
      → sets (parts m n head records wires) at r ≡ parts m n head (records ++ r) wires
  unfolding parts
  parts_record r h at e =
      let l : length (padded m 0 records) ≡ m = length_padded m 0 records in
      sets_right head (padded m 0 records ++ padded n 0 wires) r (length records) at (omega arith)
      ∙ ap (λ (l : List ℕ). head ++ l)
      (sets_left (padded m 0 records) (padded n 0 wires) r (length records) (omega arith)
      ∙ ap (λ (l : List ℕ). l ++ padded n 0 wires) (padded_more m records r h (length records) refl))

parts_none : (m n k : ℕ) (head : List ℕ) → k ≡ m + n → head ++ replicate k 0 ≡ parts m n head [] []
unfolding parts
parts_none m n k head e =
    let z : (i : ℕ) → i - 0 ≡ i = λ i. omega arith in
    ap (λ (l : List ℕ). head ++ l)
    (ap (λ (i : ℕ). replicate i 0) e ∙ sym (replicate-append-replicate m n 0)
    ∙ sym (ap (λ (l : List ℕ). l ++ padded n 0 []) (padded_append m 0 [] (omega arith) ∙ ap (λ (i : ℕ). replicate i 0) (z m))
    ∙ ap (λ (l : List ℕ). replicate m 0 ++ l) (padded_append n 0 [] (omega arith) ∙ ap (λ (i : ℕ). replicate i 0) (z n))))

-- a table with no state yet
pub no_states : (head : List ℕ) (k : ℕ) → k ≡ arrivals_offset - records_offset → head ++ replicate k 0 ≡ with_states head []
unfolding with_states parts records_of wires_of concat_map
no_states head k e = parts_none all_record_words all_wire_words k head e

-- the wires and then the record of a state put into a table of the states before it
module _ (head : List ℕ) (qs : List State) (q : State) (head-whole : length head ≡ records_offset) (few : length qs < max_states) (room : wire_count qs + length q.wires ≤ max_wires) where
  pub state_written : (t : List ℕ) → t ≡ with_states head qs
      → sets (sets t (wire_offset (wire_count qs)) (concat_map wire_words_of q.wires)) (record_offset (length qs)) (record_of (wire_count qs) q)
      ≡ with_states head (qs ++ (q ∷ []))
  unfolding with_states parts
  state_written t e =
      let w = concat_map wire_words_of q.wires in
      let a = length-wires_of qs in
      let b = length-words_of q.wires in
      let c = length-records_of 0 qs in
      let r = length-record_of (wire_count qs) q in
      ap (λ (l : List ℕ). sets (sets l (wire_offset (wire_count qs)) w) (record_offset (length qs)) (record_of (wire_count qs) q)) e
      ∙ ap (λ (l : List ℕ). sets l (record_offset (length qs)) (record_of (wire_count qs) q))
      (parts_wires all_record_words all_wire_words head (records_of 0 qs) (wires_of qs) head-whole w (omega arith) (wire_offset (wire_count qs)) (omega arith))
      ∙ parts_record all_record_words all_wire_words head (records_of 0 qs) (wires_of qs ++ w) head-whole (record_of (wire_count qs) q) (omega arith) (record_offset (length qs)) (omega arith)
      ∙ ap (λ (l : List ℕ). parts all_record_words all_wire_words head l (wires_of qs ++ w)) (sym (records_more 0 qs q ∙ ap (λ (i : ℕ). records_of 0 qs ++ record_of i q) (omega arith)))
      ∙ ap (λ (l : List ℕ). parts all_record_words all_wire_words head (records_of 0 (qs ++ (q ∷ []))) l) (sym (wires_more qs q))
