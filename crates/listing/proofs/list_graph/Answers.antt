-- `listing::list_graph` meets its contract: the words that synthesis leaves give the machine's listing. Assumes nothing.
use Prim.Native.Nat.{ℕ, ◌≤◌}
use mathlib.Core.List.{List}
use mathlib.Core.Path.{ap, ◌∙◌}
use lib.ListN.{length, replicate, length-replicate}
use native.Mathlib.Omega.{arith}
use Rattle.fsmd.specs.Layout.{machine_words}
use Rattle.listing.specs.Listing.{answer_for, output_for}
use Rattle.listing.proofs.GraphListings.{made_listable, made_listing}
use Rattle.listing.proofs.list_graph.Goals as goal

-- the local table is long enough
long : machine_words ≤ length (replicate {A = ℕ} machine_words 0)
long = omega (arith, length-replicate {A = ℕ} machine_words 0)

pub invariant_of-list_machine : goal.invariant_of-list_machine
invariant_of-list_machine c =
    let l = made_listable c.args.graph.words.now _ c.args.graph.admitted long _ c.synthesise.ensures.1 in
    record { some_state = l.some_state; few_states = l.few_states; few_wires = l.few_wires }

pub returns : goal.returns
returns c =
    let same = made_listing c.args.graph.words.now _ c.args.graph.admitted long _ c.synthesise.ensures.1 in
    let got = c.list_machine.ensures in
    record {
      value = got.value ∙ ap (λ (l : List ℕ). answer_for l c.args.out.now) same;
      out_after = got.out_after ∙ ap (λ (l : List ℕ). output_for l c.args.out.now) same;
      graph_len_bound = omega (arith, got.machine_len_bound, ap length same);
    }
