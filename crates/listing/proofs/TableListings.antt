-- The listing by a machine table's words is that of the machine whose table it is. Assumes nothing.
use Prim.Native.Nat.{ℕ, zero, suc, ◌+◌, ◌-◌, ◌≤◌, ◌<◌}
use native.Mathlib.Omega.{arith}
use mathlib.Core.Path.{◌≡◌, refl, sym, ap, ap₂, ◌∙◌}
use mathlib.Core.Bool.{false}
use mathlib.Core.List.{List, [], ◌∷◌, ◌++◌, append-nil}
use lib.ListN.{length, get_or, drop, replicate, length-append}
use lib.Seq.{get_or-take, get_or-drop}
use lib.Dec.{eqb}
use borrow.Author.Tests.{ne_eqb}
use Rattle.runs.specs.Lists.{up_from, only, padded, concat_map, occurrences}
use Rattle.runs.proofs.ListLaws.{only_append, padded_append}
use Rattle.fsmd.specs.Layout.{max_states, max_blocks, starters_offset, absent}
use Rattle.fsmd.specs.Machine.{State, wire_count, FSMD, state_of, empty_state}
use Rattle.fsmd.specs.Table.{machine_table_of, wire_count_at}
use Rattle.fsmd.proofs.WrittenTable.{wires_before, count_is, back_starters, back_blocks, back_first, back_count, table_length}
use Rattle.synthesis.proofs.SynthesisedMachine.{MachineFits}
use Rattle.listing.specs.Listing.{blocks_in, all_wires, head_line, state_line, machine_listing}
use Rattle.listing.specs.Words.{starter_at, blocks_at, wires_at, head_line_at, state_line_at, state_lines_at, table_listing, Listable}

-- ---- counting

-- no word of a list of one word that is another
no_other : (k n x : ℕ) → eqb k x ≡ false → only (eqb k) (replicate n x) ≡ []
no_other k zero x e = refl
no_other k (suc n) x e = rw e (no_other k n x e)

-- padding is no block of a state
padded_blocks : (k : ℕ) (l : List ℕ) → k < max_states → length l ≤ max_blocks → occurrences k (padded max_blocks absent l) ≡ occurrences k l
padded_blocks k l h few =
    let n = max_blocks - length l in
    let pad = no_other k n absent (ne_eqb k absent (λ q. absurd (omega arith))) in
    ap (occurrences k) (padded_append max_blocks absent l few)
    ∙ (ap length (only_append (eqb k) l (replicate n absent)) ∙ rw (pad, append-nil) refl)

-- the wires of all states are those before the last and its own
wires_last : (qs : List State) (k : ℕ) → length qs ≡ suc k → wires_before qs k + length (get_or qs k empty_state).wires ≡ wire_count qs
unfolding wire_count wires_before
wires_last [] k e = absurd (omega arith)
wires_last (q ∷ []) zero e = omega arith
wires_last (q ∷ []) (suc k) e = absurd (omega arith)
wires_last (q ∷ r ∷ qs) zero e = absurd (omega arith)
wires_last (q ∷ r ∷ qs) (suc k) e = let i = wires_last (r ∷ qs) k (omega arith) in omega arith

concat_same : (f g : ℕ → List ℕ) (j n : ℕ) → ((k : ℕ) → j ≤ k → k < j + n → f k ≡ g k) → concat_map f (up_from j n) ≡ concat_map g (up_from j n)
unfolding concat_map
concat_same f g j zero e = refl
concat_same f g j (suc n) e =
    ap₂ {C = List ℕ} (λ (x y : List ℕ). x ++ y) (e j (omega arith) (omega arith)) (concat_same f g (suc j) n (λ k p h. e k (omega arith) (omega arith)))

-- ---- the words of a machine's table

module _ (m : FSMD) (rest : List ℕ) (f : MachineFits m) where
  abbrev table : List ℕ
  table = machine_table_of m ++ rest

  starter_back : (k : ℕ) → k < length m.states → starter_at table k ≡ get_or m.starters k 0
  starter_back k h =
      let n = get_or table 0 0 in
      let part = drop starters_offset table in
      sym (get_or-drop starters_offset table k 0) ∙ sym (get_or-take n part k 0 (rw (count_is m rest) h))
      ∙ ap (λ (l : List ℕ). get_or l k 0) (back_starters m rest f.starters_count f.few_states)

  blocks_back : (k : ℕ) → k < length m.states → blocks_at table k ≡ blocks_in m k
  blocks_back k h = let few = f.few_states in ap (occurrences k) (back_blocks m rest) ∙ padded_blocks k m.block_states (omega arith) f.few_blocks

  wires_back : (k : ℕ) → k < length m.states → wire_count_at table k ≡ length (state_of m k).wires
  wires_back k h = back_count m rest f.few_states f.room k h

  all_wires_lem : wires_at table ≡ all_wires m
  all_wires_lem =
      let some = f.some_state in
      let last = length m.states - 1 in
      let h : last < length m.states = omega arith in
      let n = count_is m rest in
      rw n (rw (back_first m rest f.few_states f.room last h, back_count m rest f.few_states f.room last h)
      (wires_last m.states last (omega arith)))

  state_line_lem : (k : ℕ) → k < length m.states → state_line_at table k ≡ state_line m k
  unfolding state_line_at state_line
  state_line_lem k h = rw (starter_back k h, blocks_back k h, wires_back k h) refl

  head_line_lem : head_line_at table ≡ head_line m
  unfolding head_line_at head_line
  head_line_lem = rw (all_wires_lem, count_is m rest) refl

  pub table_listing_lem : table_listing table ≡ machine_listing m
  unfolding table_listing machine_listing state_lines_at
  table_listing_lem =
      ap₂ {C = List ℕ} (λ (x y : List ℕ). x ++ y) head_line_lem
      (ap (λ (n : ℕ). concat_map (state_line_at table) (up_from 0 n)) (count_is m rest)
      ∙ concat_same (state_line_at table) (state_line m) 0 (length m.states) (λ k p h. state_line_lem k (omega arith)))

  pub table_listable : Listable table
  table_listable =
      let n = count_is m rest in
      record {
        long = omega (arith, length-append (machine_table_of m) rest, table_length m);
        some_state = rw n f.some_state;
        few_states = rw n f.few_states;
        few_wires = rw all_wires_lem f.room;
      }
