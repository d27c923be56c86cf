-- The table that is filled state by state is the table of the machine of the graph and its grouping. Assumes nothing.
use Prim.Native.Nat.{ℕ, zero, suc, ◌+◌, ◌-◌, ◌≤◌, ◌<◌}
use native.Mathlib.Numerals.{add-one}
use native.Mathlib.Omega.{arith}
use mathlib.Core.Bool.{true}
use mathlib.Core.Path.{◌≡◌, refl, sym, ◌∙◌, ap}
use mathlib.Core.List.{List, [], ◌∷◌, ◌++◌, map, append_assoc}
use lib.ListN.{length, take, replicate, length-map}
use lib.Seq.{take_at, length-take-le}
use Rattle.runs.specs.Lists.{up_from, padded}
use Rattle.runs.proofs.ListLaws.{padded_append, length-up_from}
use Rattle.cfg.specs.Table.{graph_of, admitted_graph}
use Rattle.cfg.proofs.Admitted.{ValidGraph, valid_graph_lem, admitted_halves}
use Rattle.fsmd.specs.Layout.{max_states, max_blocks, max_wires, all_record_words, all_wire_words, records_offset, arrivals_offset, absent}
use Rattle.fsmd.specs.Machine.{State, wire_count}
use Rattle.fsmd.specs.Table.{records_of, wires_of, machine_table_of}
use Rattle.grouping.specs.Grouping.{Groups, groups}
use Rattle.grouping.specs.Answer.{answer_of, grouping_of}
use Rattle.grouping.proofs.Reach.{admitted_closed}
use Rattle.grouping.proofs.GroupingLaws.{Grouped, grouped}
use Rattle.state.specs.Wires.{state_made, arrival_made}
use Rattle.synthesis.specs.Synthesis.{machine_for}
use Rattle.synthesis.specs.StateWords.{with_states, first_states, Filled}
use Rattle.synthesis.proofs.SynthesisedMachine.{made_fits}
use Rattle.synthesis.proofs.TableWords.{count_more}

-- ---- the first states

abbrev pub nth : List ℕ → Groups → ℕ → State
nth t s k = state_made (graph_of t) s k

map_up_more : {A : Type 0} (f : ℕ → A) (n k : ℕ) → map f (up_from n (suc k)) ≡ map f (up_from n k) ++ (f (n + k) ∷ [])
map_up_more {A = A} f n zero = let e : n + 0 ≡ n = omega arith in rw e refl
map_up_more {A = A} f n (suc k) =
    let e : suc n + k ≡ n + suc k = omega arith in
    ap (λ (l : List A). f n ∷ l) (map_up_more f (suc n) k ∙ ap (λ (m : ℕ). map f (up_from (suc n) k) ++ (f m ∷ [])) e)

module _ (t : List ℕ) (s : Groups) where
  first_none : first_states t s 0 ≡ []
  unfolding first_states
  first_none = refl

  pub first_more : (k : ℕ) → first_states t s (k + 1) ≡ first_states t s k ++ (nth t s k ∷ [])
  unfolding first_states
  first_more k =
      let e : zero + k ≡ k = omega arith in
      ap (λ (n : ℕ). map (nth t s) (up_from 0 n)) (add-one k) ∙ map_up_more (nth t s) 0 k ∙ ap (λ (n : ℕ). map (nth t s) (up_from 0 k) ++ (nth t s n ∷ [])) e

  pub first_length : (k : ℕ) → length (first_states t s k) ≡ k
  unfolding first_states
  first_length k = length-map (up_from 0 k) (nth t s) ∙ length-up_from 0 k

  pub first_count : (k : ℕ) → wire_count (first_states t s (k + 1)) ≡ wire_count (first_states t s k) + length (nth t s k).wires
  first_count k = ap wire_count (first_more k) ∙ count_more (first_states t s k) (nth t s k)

  count_grows : (k d : ℕ) → wire_count (first_states t s k) ≤ wire_count (first_states t s (k + d))
  count_grows k zero = let e : k + 0 ≡ k = omega arith in rw e (omega arith)
  count_grows k (suc d) =
      let e : k + suc d ≡ k + d + 1 = omega arith in
      let h = count_grows k d in
      let f = first_count (k + d) in
      rw e (omega arith)

regrouped : (a b c d e : List ℕ) → ((a ++ b) ++ (c ++ d)) ++ e ≡ a ++ (b ++ (c ++ (d ++ e)))
regrouped a b c d e =
    append_assoc (a ++ b) (c ++ d) e ∙ append_assoc a b ((c ++ d) ++ e) ∙ ap (λ (l : List ℕ). a ++ (b ++ l)) (append_assoc c d e)

-- of any finished grouping
module _ (t : List ℕ) (a : admitted_graph t ≡ true) (s : Groups) (G : Grouped (graph_of t) s) where
  valid : ValidGraph (graph_of t)
  valid = valid_graph_lem (graph_of t) (admitted_halves t a).0

  all_first : first_states t s (length s.starters) ≡ (machine_for (graph_of t) s).states
  unfolding first_states machine_for
  all_first = refl

  -- the wires of the first states fit
  pub first_room : (k : ℕ) → k < length s.starters → wire_count (first_states t s k) + length (nth t s k).wires ≤ max_wires
  first_room k h =
      let n = length s.starters in
      let e : k + 1 + (n - (k + 1)) ≡ n = omega arith in
      let g = count_grows t s (k + 1) (n - (k + 1)) in
      let f = first_count t s k in
      let r = (made_fits (graph_of t) valid s G).room in
      let w : wire_count (first_states t s n) ≡ wire_count (machine_for (graph_of t) s).states = ap wire_count all_first in
      let c : wire_count (first_states t s (k + 1 + (n - (k + 1)))) ≡ wire_count (first_states t s n) = ap (λ (m : ℕ). wire_count (first_states t s m)) e in
      omega arith

  pub machine_table_lem : (n r : ℕ) → n ≡ length s.starters → r ≡ (graph_of t).registers
      → with_states (n ∷ r ∷ (padded max_states 0 s.starters ++ padded max_blocks absent s.states)) (first_states t s n) ++ padded max_blocks 0 (machine_for (graph_of t) s).arrivals
      ≡ machine_table_of (machine_for (graph_of t) s)
  unfolding with_states machine_table_of machine_for first_states wires_of
  machine_table_lem n r e f =
      let g = graph_of t in
      let l : length (map (state_made g s) (up_from 0 (length s.starters))) ≡ length s.starters = length-map (up_from 0 (length s.starters)) (state_made g s) ∙ length-up_from 0 (length s.starters) in
      rw (e, f, l)
      (ap (λ (x : List ℕ). length s.starters ∷ g.registers ∷ x)
      (regrouped (padded max_states 0 s.starters) (padded max_blocks absent s.states)
      (padded all_record_words 0 (records_of 0 (map (state_made g s) (up_from 0 (length s.starters))))) (padded all_wire_words 0 (wires_of (map (state_made g s) (up_from 0 (length s.starters)))))
      (padded max_blocks 0 (map (arrival_made g s) (up_from 0 (length s.states))))))

-- ---- filling

head_kept : (h t : List ℕ) (qs : List State) → length h ≡ records_offset → t ≡ with_states h qs → take records_offset t ≡ h
unfolding with_states
head_kept h t qs e f = ap (take records_offset) f ∙ take_at h (padded all_record_words 0 (records_of 0 qs) ++ padded all_wire_words 0 (wires_of qs)) records_offset e

none_counted : wire_count [] ≡ 0
unfolding wire_count
none_counted = refl

pub filled_none : (t : List ℕ) (s : Groups) (table h : List ℕ) → length table ≡ arrivals_offset → length h ≡ records_offset → table ≡ with_states h [] → Filled t s table 0 0 × (take records_offset table ≡ h)
filled_none t s table h l e f =
    let k = head_kept h table [] e f in (
      record { all = l; words = f ∙ ap (λ (x : List ℕ). with_states x []) (sym k) ∙ ap (with_states (take records_offset table)) (sym (first_none t s)); passed = sym (ap wire_count (first_none t s) ∙ none_counted) },
      k,
    )

pub filled_on : (t : List ℕ) (s : Groups) (table : List ℕ) (k first : ℕ) → Filled t s table k first → (last : List ℕ) (r : ℕ) → length last ≡ length table
    → last ≡ with_states (take records_offset table) (first_states t s (k + 1)) → r ≡ wire_count (first_states t s (k + 1)) → Filled t s last (k + 1) r × (take records_offset last ≡ take records_offset table)
filled_on t s table k first f last r l e g =
    let h = head_kept (take records_offset table) last (first_states t s (k + 1)) (length-take-le records_offset table (omega (arith, f.all))) e in (
      record { all = l ∙ f.all; words = e ∙ ap (λ (x : List ℕ). with_states x (first_states t s (k + 1))) (sym h); passed = g },
      h,
    )

-- ---- the answer of grouping

-- the grouping, which is finished
abbrev pub its : List ℕ → Groups
its t = groups (graph_of t)

pub finished : (t : List ℕ) → admitted_graph t ≡ true → Grouped (graph_of t) (its t)
finished t a = grouped (graph_of t) (admitted_closed t a)

pub grouping_is : (t : List ℕ) → grouping_of t ≡ answer_of (its t)
unfolding grouping_of
grouping_is t = refl

pub take_padded : (n d : ℕ) (l : List ℕ) (k : ℕ) → length l ≤ n → k ≡ length l → take k (padded n d l) ≡ l
take_padded n d l k h e = ap (take k) (padded_append n d l h) ∙ take_at l (replicate (n - length l) d) k (sym e)
