-- The words that Synthesise leaves of an admitted graph table give the listing of that graph's machine. Assumes nothing.
use Prim.Native.Nat.{ℕ, ◌≤◌}
use mathlib.Core.Path.{◌≡◌}
use mathlib.Core.Bool.{true}
use mathlib.Core.List.{List, ◌++◌}
use lib.ListN.{length, drop}
use Rattle.cfg.specs.Table.{graph_of, admitted_graph}
use Rattle.cfg.proofs.Admitted.{valid_graph_lem, admitted_halves}
use Rattle.fsmd.specs.Layout.{machine_words}
use Rattle.fsmd.specs.Table.{machine_table_of}
use Rattle.synthesis.specs.Synthesis.{machine, synthesis_words}
use Rattle.synthesis.proofs.SynthesisedMachine.{MachineFits, machine_fits}
use Rattle.synthesis.proofs.MadeTable.{made_words, admitted_made}
use Rattle.listing.specs.Listing.{machine_listing}
use Rattle.listing.specs.Words.{table_listing, Listable}
use Rattle.listing.proofs.TableListings.{table_listing_lem, table_listable}

module _ (t old : List ℕ) (ok : admitted_graph t ≡ true) (long : machine_words ≤ length old) where
  words_made : synthesis_words t old ≡ machine_table_of (machine (graph_of t)) ++ drop machine_words old
  words_made = made_words t old (admitted_made t old ok long)

  fits : MachineFits (machine (graph_of t))
  fits = machine_fits (graph_of t) (valid_graph_lem (graph_of t) (admitted_halves t ok).0)

  module _ (words : List ℕ) (e : words ≡ synthesis_words t old) where
    pub made_listable : Listable words
    made_listable = rw (e, words_made) (table_listable (machine (graph_of t)) (drop machine_words old) fits)

    pub made_listing : table_listing words ≡ machine_listing (machine (graph_of t))
    made_listing = rw (e, words_made) (table_listing_lem (machine (graph_of t)) (drop machine_words old) fits)
