-- The listing of a text by what reading answers. Assumes nothing.
use Prim.Native.Nat.{ℕ, ◌≤◌, ◌<◌}
use mathlib.Core.Path.{◌≡◌, refl, ap, ◌∙◌}
use mathlib.Core.Bool.{true}
use mathlib.Core.List.{List}
use lib.ListN.{length, drop}
use lib.Dec.{ltb}
use borrow.Author.Tests.{lt-ltb, le-ltb}
use Rattle.word.specs.Word.{choose}
use Rattle.cfg.specs.Layout.{graph_words}
use Rattle.cfg.specs.Graph.{CFG}
use Rattle.cfg.specs.Table.{graph_of, admitted_graph}
use Rattle.std.specs.Prelude.{Ok, Err}
use Rattle.std.proofs.Common.{rules}
use Rattle.refusal.specs.declared.Refusal.TheVariants.{LongText}
use Rattle.refusal.specs.Refusal.{number}
use Rattle.cfg_text.specs.declared.ReadError.{ReadError}
use Rattle.cfg_text.specs.Walk.{Reading, refused}
use Rattle.cfg_text.specs.Read.{max_text, read_text, reading, reading_answer, read_answer, read_words}
use Rattle.cfg_write.proofs.RoundTrip.{read_whole}
use Rattle.cfg_write.proofs.AnswerLaws.{took_of, words_are, begins_graph, begins_admitted}
use Rattle.synthesis.specs.Synthesis.{machine}
use Rattle.listing.specs.Listing.{refused_line, listing_of, machine_listing, listing}

by_answer : (r : Reading) (e : ReadError) → reading_answer r ≡ Err e → listing_of r ≡ refused_line (number e.refusal) e.line
by_answer (Err x) e h = ap (λ (y : ReadError). refused_line (number y.refusal) y.line) (search (h, rules))
by_answer (Ok g) e h = absurd (search (h, rules))

short_listing : (text : List ℕ) (g : CFG) → length text ≤ max_text → read_text text ≡ Ok g → listing text ≡ machine_listing (machine g)
unfolding listing
short_listing text g h e = rw (le-ltb max_text (length text) h) (ap listing_of e)

-- a text too long is refused whatever it says, so a part of it that is still too long has the same listing
pub long_listing : (text : List ℕ) → max_text < length text → listing text ≡ refused_line 1 0
unfolding listing
long_listing text h = rw (lt-ltb max_text (length text) h) refl

module _ (text table : List ℕ) where
  -- a text that is refused
  pub refused_listing : graph_words ≤ length table → (e : ReadError) → read_answer text table ≡ Err e → listing text ≡ refused_line (number e.refusal) e.line
  unfolding read_answer reading listing
  refused_listing long e h = by_answer (choose (ltb max_text (length text)) (refused LongText 0) (read_text text)) e (rw (le-ltb (length table) graph_words long) at h)

  -- one that is read
  pub record Listed : Type 0 where
    pub accepted : admitted_graph (read_words text table) ≡ true
    pub same : listing text ≡ machine_listing (machine (graph_of (read_words text table)))

  pub read_listing : read_answer text table ≡ Ok tt → Listed
  read_listing e =
      let k = took_of text table e in
      let g = k.graph in
      let w = read_whole text g k.took in
      let s = drop graph_words table in
      let words = words_are text table g k.short k.long k.took in
      record { accepted = rw words (begins_admitted g s w); same = short_listing text g k.short k.took ∙ rw (words, begins_graph g s w) refl }
