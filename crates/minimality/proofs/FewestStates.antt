-- The machine table that Synthesise makes has the fewest states. Assumes nothing.
use Prim.Native.Nat.{ℕ, ◌≤◌, ◌<◌}
use native.Mathlib.Omega.{arith}
use native.Mathlib.Decide.{dec_lt}
use mathlib.Core.Bool.{true}
use mathlib.Core.Path.{◌≡◌, sym, ◌∙◌, ap, subst, fun_ext}
use mathlib.Core.List.{List, ◌++◌}
use lib.ListN.{length, get_or, drop, get_or-eq_default}
use Rattle.std.specs.Prelude.{Ok}
use Rattle.runs.specs.Lists.{padded}
use Rattle.runs.proofs.ListLaws.{length_padded, get_or-padded}
use Rattle.cfg.specs.Graph.{CFG}
use Rattle.cfg.specs.Table.{graph_of, admitted_graph}
use Rattle.cfg.proofs.Admitted.{valid_graph_lem, admitted_halves}
use Rattle.fsmd.specs.Layout.{max_states, max_blocks, machine_words, absent}
use Rattle.fsmd.specs.Machine.{FSMD}
use Rattle.fsmd.specs.Table.{machine_table_of, machine_of}
use Rattle.fsmd.proofs.Machines.{states_length}
use Rattle.fsmd.proofs.WrittenTable.{count_is, back_starters, back_blocks}
use Rattle.grouping.specs.Grouping.{groups}
use Rattle.grouping.proofs.Reach.{admitted_closed}
use Rattle.grouping.proofs.PopulationLaws.{state_in}
use Rattle.synthesis.specs.Synthesis.{machine, synthesis_answer, synthesis_words}
use Rattle.synthesis.proofs.SynthesisedMachine.{starters_are, block_states_are, machine_is, machine_fits}
use Rattle.synthesis.proofs.MadeTable.{made_words, made_admitted}
use Rattle.minimality.specs.Division.{FewestStates}
use Rattle.minimality.proofs.Divisions.{division_fit}
use Rattle.minimality.proofs.LeastStarters.{groups_division, least_fit}

-- ---- the starters and block states that a machine's table gives back

module _ (m : FSMD) (rest : List ℕ) where
  read_starters : length m.starters ≡ length m.states → length m.states ≤ max_states → (machine_of (machine_table_of m ++ rest)).starters ≡ m.starters
  unfolding machine_of
  read_starters e few = back_starters m rest e few

  -- an absent block's state is none, in the table and past it
  read_block_state : length m.block_states ≤ max_blocks → (b : ℕ) → get_or (machine_of (machine_table_of m ++ rest)).block_states b absent ≡ get_or m.block_states b absent
  unfolding machine_of
  read_block_state few b = rw (back_blocks m rest) (go (dec_lt b max_blocks))
    where
      go : Dec (b < max_blocks) → get_or (padded max_blocks absent m.block_states) b absent ≡ get_or m.block_states b absent
      go (yes h) = get_or-padded max_blocks absent m.block_states b h
      go (no h) =
          get_or-eq_default (padded max_blocks absent m.block_states) absent {n = b} (omega (arith, length_padded max_blocks absent m.block_states))
          ∙ sym (get_or-eq_default m.block_states absent {n = b} (omega arith))

-- ---- the table that Synthesise makes

machine_starters : (g : CFG) → (machine g).starters ≡ (groups g).starters
machine_starters g = ap (λ (m : FSMD). m.starters) (machine_is g) ∙ starters_are g (groups g)

machine_blocks_lem : (g : CFG) → (machine g).block_states ≡ (groups g).states
machine_blocks_lem g = ap (λ (m : FSMD). m.block_states) (machine_is g) ∙ block_states_are g (groups g)

made_fewest : (t rest : List ℕ) → admitted_graph t ≡ true → FewestStates t (machine_table_of (machine (graph_of t)) ++ rest)
made_fewest t rest ok =
    let g = graph_of t in
    let a = admitted_closed t ok in
    let m = machine g in
    let f = machine_fits g (valid_graph_lem g (admitted_halves t ok).0) in
    let table = machine_table_of m ++ rest in
    let starters : (machine_of table).starters ≡ (groups g).starters = read_starters m rest f.starters_count f.few_states ∙ machine_starters g in
    let states : (λ b. get_or (machine_of table).block_states b absent) ≡ state_in (groups g).states =
    fun_ext (λ b. read_block_state m rest f.few_blocks b ∙ ap (λ (l : List ℕ). get_or l b absent) (machine_blocks_lem g)) in
    let count : length (groups g).starters ≡ length (machine_of table).states =
    ap length (sym (machine_starters g)) ∙ f.starters_count ∙ sym (count_is m rest) ∙ sym (states_length table) in
    record {
      each = ap length starters ∙ count;
      least = rw starters (least_fit g a);
      divided = rw (starters, states) (groups_division g a);
      fewest = λ others state d. subst (λ (n : ℕ). n ≤ length others) count ((least_fit g a).least.fewest others (division_fit g a others state d));
    }

pub fewest_states : (t old : List ℕ) → synthesis_answer t old ≡ Ok tt → FewestStates t (synthesis_words t old)
fewest_states t old e = rw (made_words t old e) (made_fewest t (drop machine_words old) (made_admitted t old e))
