-- What the table code has in hand: the groups in bytes, the filled table, the answer of synthesis. Assumes nothing.
use Prim.Native.Nat.{ℕ, ◌-◌, ◌≤◌, ◌<◌}
use native.Mathlib.Omega.{arith}
use mathlib.Core.Bool.{Bool, true, false, not, ◌||◌}
use mathlib.Core.Path.{◌≡◌, refl, sym, ◌∙◌, ap, ap₂}
use mathlib.Core.List.{List, [], ◌∷◌, ◌++◌}
use lib.Dec.{ltb}
use lib.ListN.{length, get_or, take, drop, replicate, length-append}
use lib.Seq.{sets}
use borrow.Author.Tests.{lt-ltb, le-ltb}
use Rattle.buffers.proofs.Copies.{sets_right, sets_whole}
use Rattle.runs.specs.Lists.{padded}
use Rattle.runs.proofs.ListLaws.{length_padded, padded_append}
use Rattle.cfg.specs.Layout.{graph_words}
use Rattle.cfg.specs.Table.{graph_of, admitted_graph}
use Rattle.cfg.proofs.Admitted.{admitted_facts, blocks_length, registers_are}
use Rattle.fsmd.specs.Layout.{max_states, max_blocks, records_offset, arrivals_offset, machine_words, absent}
use Rattle.fsmd.specs.Table.{machine_table_of}
use Rattle.grouping.specs.declared.Grouping.{Grouping}
use Rattle.grouping.specs.Grouping.{Groups}
use Rattle.grouping.specs.Answer.{answer_of}
use Rattle.grouping.proofs.Reach.{Closed, admitted_closed}
use Rattle.grouping.proofs.GroupingLaws.{Grouped}
use Rattle.std.specs.Prelude.{Option, Some, None, Result, Ok, Err}
use Rattle.std.proofs.Common.{rules}
use Rattle.word.specs.Word.{choose}
use Rattle.cfg.specs.Admission.{table_refusal}
use Rattle.refusal.specs.declared.Refusal.{Refusal}
use Rattle.refusal.specs.declared.Refusal.TheVariants.{BadGraph, ShortBuffer}
use Rattle.synthesis.specs.Synthesis.{machine_for, machine, synthesis_answer, synthesis_words}
use Rattle.synthesis.specs.StateWords.{with_states, first_states, first_arrivals, Filled}
use Rattle.synthesis.proofs.ArrivalWords.{all_listed}
use Rattle.synthesis.proofs.MachineTable.{machine_table_lem, filled_none, take_padded}
use Rattle.synthesis.proofs.MadeTable.{answer_words, made_words, admitted_made}

-- ---- the groups in bytes

-- the starters as they stand in a table
abbrev pub bytes_of : Grouping → List ℕ
bytes_of r = r.starters ++ replicate (max_states - length r.starters) 0

pub record GroupsListed (t : List ℕ) (s : Groups) (r : Grouping) : Type 0 where
  pub starters_64 : length (bytes_of r) ≡ max_states
  pub states_64 : length r.states ≡ max_blocks
  pub few_states_lem : length r.starters ≤ max_states
  pub few_blocks_lem : get_or t 0 0 ≤ max_blocks
  pub long : graph_words ≤ length t
  pub starters : r.starters ≡ s.starters
  pub states : take (get_or t 0 0) r.states ≡ s.states

-- of any finished grouping
module _ (t : List ℕ) (a : admitted_graph t ≡ true) (s : Groups) (G : Grouped (graph_of t) s) (r : Grouping) (e : r ≡ answer_of s) where
  closed : Closed (graph_of t)
  closed = admitted_closed t a

  r_starters : r.starters ≡ s.starters
  r_starters = ap (λ (x : Grouping). x.starters) e

  r_states : r.states ≡ padded max_blocks absent s.states
  r_states = ap (λ (x : Grouping). x.states) e

  few : length s.starters ≤ max_states
  few = let n = G.few_states_lem in let b = closed.few_blocks_lem in omega arith

  r_bytes : bytes_of r ≡ padded max_states 0 s.starters
  r_bytes = rw r_starters (sym (padded_append max_states 0 s.starters few))

  states_are : get_or t 0 0 ≡ length s.states
  states_are = sym (G.all_blocks ∙ blocks_length t)

  pub groups_listed : GroupsListed t s r
  groups_listed =
      let d = admitted_facts t a in
      let n = d.few_blocks in
      record {
        starters_64 = ap length r_bytes ∙ length_padded max_states 0 s.starters;
        states_64 = ap length r_states ∙ length_padded max_blocks absent s.states;
        few_states_lem = let f = few in let c = ap length r_starters in omega arith;
        few_blocks_lem = d.few_blocks;
        long = d.long;
        starters = r_starters;
        states = ap (take (get_or t 0 0)) r_states ∙ take_padded max_blocks absent s.states (get_or t 0 0) (let z = states_are in omega arith) states_are;
      }

  abbrev pub head : List ℕ
  head = length r.starters ∷ get_or t 1 0 ∷ (bytes_of r ++ r.states)

  -- the head, then the states
  pub begun : (table : List ℕ) → length table ≡ arrivals_offset → table ≡ with_states head [] → Filled t s table 0 0 × (take records_offset table ≡ head)
  begun table l f =
      let g = groups_listed in
      filled_none t s table head l (omega (arith, length-append (bytes_of r) r.states, g.starters_64, g.states_64)) f

  states_filled : (table last : List ℕ) → length table ≡ arrivals_offset → table ≡ with_states head [] → last ≡ with_states (take records_offset table) (first_states t s (length r.starters))
      → last ≡ with_states (length s.starters ∷ get_or t 1 0 ∷ (padded max_states 0 s.starters ++ padded max_blocks absent s.states)) (first_states t s (length s.starters))
  states_filled table last l f g =
      g
      ∙ ap (λ (h : List ℕ). with_states h (first_states t s (length r.starters))) (begun table l f).1
      ∙ ap (λ (m : ℕ). with_states (m ∷ get_or t 1 0 ∷ (bytes_of r ++ r.states)) (first_states t s m)) (ap length r_starters)
      ∙ ap (λ (x : List ℕ). with_states (length s.starters ∷ get_or t 1 0 ∷ (x ++ r.states)) (first_states t s (length s.starters))) r_bytes
      ∙ ap (λ (x : List ℕ). with_states (length s.starters ∷ get_or t 1 0 ∷ (padded max_states 0 s.starters ++ x)) (first_states t s (length s.starters))) r_states

  arrivals_filled : (arrivals : List ℕ) → arrivals ≡ first_arrivals t s (length r.starters) → arrivals ≡ padded max_blocks 0 (machine_for (graph_of t) s).arrivals
  arrivals_filled arrivals e = e ∙ ap (λ (l : List ℕ). first_arrivals t s (length l)) r_starters ∙ all_listed t a s G

  pub parts_filled : (table last arrivals : List ℕ) → length table ≡ arrivals_offset → table ≡ with_states head []
      → last ≡ with_states (take records_offset table) (first_states t s (length r.starters))
      → arrivals ≡ first_arrivals t s (length r.starters) → last ++ arrivals ≡ machine_table_of (machine_for (graph_of t) s)
  parts_filled table last arrivals l f g h =
      ap₂ (λ (x y : List ℕ). x ++ y) (states_filled table last l f g) (arrivals_filled arrivals h)
      ∙ machine_table_lem t a s G (length s.starters) (get_or t 1 0) refl (sym (registers_are t))

-- the arrivals written behind the other words, over what stood there
pub arrivals_behind : (front rest arrivals : List ℕ) → length front ≡ arrivals_offset → length arrivals ≡ length rest → sets (front ++ rest) arrivals_offset arrivals ≡ front ++ arrivals
arrivals_behind front rest arrivals e f =
    sets_right front rest arrivals 0 arrivals_offset (omega arith) ∙ ap (λ (x : List ℕ). front ++ x) (sets_whole rest arrivals f)

-- ---- the answer

module _ (t m : List ℕ) where
  abbrev Both : Result (Unit {0}) Refusal → List ℕ → Type 0
  Both r w = (r ≡ synthesis_answer t m) × (w ≡ synthesis_words t m)

  refused_with_lem : (refusal : Refusal) → synthesis_answer t m ≡ Err refusal → Both (Err refusal) m
  refused_with_lem refusal e = (sym e, sym (answer_words t m (Err refusal) e))

  pub short_machine_lem : length m < machine_words → Both (Err ShortBuffer) m
  unfolding synthesis_answer
  short_machine_lem l = go (ltb (length t) graph_words) refl
    where
      go : (b : Bool) → ltb (length t) graph_words ≡ b → Both (Err ShortBuffer) m
      go true e = refused_with_lem ShortBuffer (rw e refl)
      go false e = refused_with_lem ShortBuffer (rw (e, lt-ltb (length m) machine_words l) refl)

  -- what the graph table is refused with
  pub refused_table : machine_words ≤ length m → (refusal : Refusal) → table_refusal t ≡ Some refusal → Both (Err refusal) m
  unfolding synthesis_answer
  refused_table l refusal e = refused_with_lem refusal (rw (le-ltb (length m) machine_words l) (go (ltb (length t) graph_words) (admitted_graph t) e))
    where
      go : (short ok : Bool) → choose {X = Option Refusal} short (Some ShortBuffer) (choose (not ok) (Some BadGraph) None) ≡ Some refusal
          → choose {X = Result (Unit {0}) Refusal} (short || false) (Err ShortBuffer) (choose (not ok) (Err BadGraph) (Ok tt)) ≡ Err refusal
      go true ok e = cc
      go false true e = absurd (search (e, rules))
      go false false e = cc

  pub not_admitted : graph_words ≤ length t → machine_words ≤ length m → admitted_graph t ≡ false → Both (Err BadGraph) m
  unfolding synthesis_answer
  not_admitted h l e = refused_with_lem BadGraph (rw (le-ltb (length t) graph_words h, le-ltb (length m) machine_words l, e) refl)

  pub machine_made : machine_words ≤ length m → admitted_graph t ≡ true → (w : List ℕ) → w ≡ machine_table_of (machine (graph_of t)) → Both (Ok tt) (w ++ drop machine_words m)
  machine_made l e w f = let d = admitted_made t m e l in (sym d, ap (λ (x : List ℕ). x ++ drop machine_words m) f ∙ sym (made_words t m d))
