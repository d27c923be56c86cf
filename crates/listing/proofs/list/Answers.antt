-- `listing::list` meets its contract: a refusal of reading, or the machine of the table that reading made. Assumes nothing.
use Prim.Native.Nat.{ℕ, ◌≤◌}
use native.Mathlib.Omega.{arith}
use mathlib.Core.Bool.{true}
use mathlib.Core.List.{List}
use mathlib.Core.Path.{◌≡◌, sym, ap, ◌∙◌}
use lib.ListN.{length, replicate, length-replicate}
use Rattle.cfg.specs.Layout.{graph_words}
use Rattle.cfg.specs.Table.{graph_of, admitted_graph}
use Rattle.cfg.proofs.Admitted.{admitted_facts}
use Rattle.synthesis.specs.Synthesis.{machine}
use Rattle.listing.specs.Listing.{machine_listing, answer_for, output_for, list_answer, list_bytes}
use Rattle.listing.proofs.TextListings.{refused_listing, read_listing}
use Rattle.listing.proofs.list.Goals as goal

-- the local table is long enough
long : graph_words ≤ length (replicate {A = ℕ} graph_words 0)
long = omega (arith, length-replicate {A = ℕ} graph_words 0)

pub invariant_of-list_graph : goal.invariant_of-list_graph
invariant_of-list_graph c =
    let got = c.in-Ok.ensures in
    let l = read_listing c.args.text.now _ (sym got.value) in
    let ok : admitted_graph c.read_text.new.table ≡ true = rw got.table_after l.accepted in
    record { long = (admitted_facts c.read_text.new.table ok).long; admitted = ok }

pub returns-in-Err : goal.returns-in-Err
unfolding list_answer list_bytes
returns-in-Err c =
    let same = refused_listing c.args.text.now _ long c.in-Err.error (sym c.in-Err.ensures.value) in
    let got = c.list_refusal.ensures in
    record {
      value = got.value ∙ ap (λ (l : List ℕ). answer_for l c.args.out.now) (sym same);
      out_after = got.out_after ∙ ap (λ (l : List ℕ). output_for l c.args.out.now) (sym same);
      text_len_bound = omega (arith, got.line_len_bound, ap length same);
    }

pub returns-in-Ok : goal.returns-in-Ok
unfolding list_answer list_bytes
returns-in-Ok c =
    let l = read_listing c.args.text.now _ (sym c.in-Ok.ensures.value) in
    let same = l.same ∙ ap (λ (t : List ℕ). machine_listing (machine (graph_of t))) (sym c.in-Ok.ensures.table_after) in
    let got = c.list_graph.ensures in
    record {
      value = got.value ∙ ap (λ (l : List ℕ). answer_for l c.args.out.now) (sym same);
      out_after = got.out_after ∙ ap (λ (l : List ℕ). output_for l c.args.out.now) (sym same);
      text_len_bound = omega (arith, got.graph_len_bound, ap length same);
    }
