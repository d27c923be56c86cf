-- Reading and writing undo each other, on graphs, texts and tables: the theorems. Assumes nothing.
use Prim.Native.Nat.{ℕ, ◌≤◌}
use mathlib.Core.Logic.{◌↔◌}
use mathlib.Core.Path.{◌≡◌, refl, sym, ap, ◌∙◌}
use mathlib.Core.Bool.{true}
use mathlib.Core.List.{List, [], ◌++◌, append-nil}
use lib.ListN.{length, take, drop, take-append-drop}
use Rattle.cfg.specs.Layout.{graph_words}
use Rattle.cfg.specs.Graph.{CFG}
use Rattle.cfg.specs.Table.{graph_table_of, graph_of, admitted_graph}
use Rattle.cfg.proofs.Admitted.{admitted_halves, admitted_facts}
use Rattle.std.specs.Prelude.{Ok}
use Rattle.cfg_text.specs.Read.{max_text, read_text, read_answer, read_words, Readable}
use Rattle.cfg_write.specs.Write.{text_of, write_answer, write_bytes}
use Rattle.cfg_write.specs.RoundTrip.{ReadAgain, WrittenAgain}
use Rattle.cfg_write.proofs.Whole.{all_words, Whole}
use Rattle.cfg_write.proofs.GraphLaws.{graph_read, graph_short_lem, accepted_whole, accepted_text}
use Rattle.cfg_write.proofs.AnswerLaws.{admitted_whole, begins_graph, begins_admitted, took_of, answer_read_lem, words_are, answer_written, bytes_written, wrote_of, took_bytes}

-- ---- graphs and texts

-- the text of a graph is read as that graph
pub text_read : (g : CFG) → Whole g → read_text (text_of g) ≡ Ok g
text_read = graph_read

-- and it is not too long
pub text_short : (g : CFG) → Whole g → length (text_of g) ≤ max_text
text_short = graph_short_lem

-- what reading makes of a text is a graph that a table can hold
pub read_whole : (text : List ℕ) (g : CFG) → read_text text ≡ Ok g → Whole g
read_whole = accepted_whole

-- and it is written as that text
pub read_text_lem : (text : List ℕ) (g : CFG) → read_text text ≡ Ok g → text_of g ≡ text
read_text_lem = accepted_text

-- ---- graphs and tables

-- a graph's words are those of that graph
pub words_read : (g : CFG) → Whole g → graph_of (graph_table_of g) ≡ g
words_read g w = ap graph_of (sym (append-nil (graph_table_of g))) ∙ begins_graph g [] w

-- ---- the tables that reading makes are the admitted ones

admitted_readable : (t : List ℕ) → all_words t ≡ true → admitted_graph t ≡ true → Readable t
admitted_readable t h a =
    let g = graph_of t in
    let w = admitted_whole t h a in
    let long = (admitted_facts t a).long in
    let short = graph_short_lem g w in
    let e = graph_read g w in
    record {
      text = text_of g;
      accepted = answer_read_lem (text_of g) t g short long e;
      made =
          words_are (text_of g) t g short long e
          ∙ (ap (λ (l : List ℕ). l ++ drop graph_words t) (admitted_halves t a).1 ∙ take-append-drop graph_words t);
    }

readable_admitted : (t : List ℕ) → Readable t → admitted_graph t ≡ true
readable_admitted t r =
    let k = took_of r.text t r.accepted in
    let g = k.graph in
    let w = accepted_whole r.text g k.took in
    let e = words_are r.text t g k.short k.long k.took in
    let b = begins_admitted g (drop graph_words t) w in
    rw (sym e ∙ r.made) at b

pub admitted_iff : (t : List ℕ) → all_words t ≡ true → (admitted_graph t ≡ true) ↔ Readable t
admitted_iff t h = (admitted_readable t h, readable_admitted t)

-- ---- the operations undo each other

-- a table that was written and is read again is the same table
pub write_then_read :
    (table out again : List ℕ) (n : ℕ) → all_words table ≡ true → graph_words ≤ length again → write_answer table out ≡ Ok n
    → ReadAgain table again (take n (write_bytes table out))
write_then_read table out again n h long e =
    let o = wrote_of table out n e in
    let g = graph_of table in
    let w = admitted_whole table h o.is_admitted in
    let b = took_bytes table out n e o.size in
    let short = graph_short_lem g w in
    let t = graph_read g w in
    record {
      accepted = rw b (answer_read_lem (text_of g) again g short long t);
      words = rw b (words_are (text_of g) again g short long t ∙ ap (λ (l : List ℕ). l ++ drop graph_words again) (admitted_halves table o.is_admitted).1);
    }

-- a text that was read and is written again is the same text
pub read_then_write :
    (text table out : List ℕ) → read_answer text table ≡ Ok tt → length text ≤ length out → WrittenAgain text (read_words text table) out
read_then_write text table out h room =
    let k = took_of text table h in
    let g = k.graph in
    let s = drop graph_words table in
    let w = accepted_whole text g k.took in
    let t = accepted_text text g k.took in
    let e = words_are text table g k.short k.long k.took in
    let room' : length (text_of g) ≤ length out = rw t room in
    record {
      accepted = rw e (answer_written g s out w room' ∙ rw t refl);
      bytes = rw e (bytes_written g s out w room' ∙ rw t refl);
    }
