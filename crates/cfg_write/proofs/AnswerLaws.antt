-- Admitted tables, and the answers of reading and writing where they do not refuse. Assumes nothing.
use Prim.Native.Nat.{ℕ, zero, suc, ◌+◌, ◌*◌, ◌^◌, ◌≤◌}
use native.Mathlib.Omega.{arith}
use mathlib.Core.Path.{◌≡◌, refl, sym, ap, ◌∙◌}
use mathlib.Core.Bool.{Bool, true, false, not}
use mathlib.Core.List.{List, [], ◌∷◌, ◌++◌, map}
use lib.Dec.{ltb}
use lib.ListN.{length, get_or, take, drop, length-append}
use lib.Seq.{take_at}
use borrow.Author.Tests.{le-ltb, ltb-false}
use Rattle.word.specs.Word.{choose}
use Rattle.runs.specs.Lists.{every, same, up_from}
use Rattle.runs.proofs.ListLaws.{and_left, and_right, and_both, same_refl}
use Rattle.cfg.proofs.Lengths.{table_length}
use Rattle.cfg.proofs.Words.{admitted_is}
use Rattle.cfg.specs.Layout.{max_instructions, graph_words, block_offset}
use Rattle.cfg.specs.declared.Instruction.{Instruction}
use Rattle.cfg.specs.Graph.{CFG, valid_graph}
use Rattle.cfg.specs.Table.{graph_table_of, instruction_at, block_at, graph_of, admitted_graph}
use Rattle.cfg.proofs.Admitted.{valid_graph_lem, admitted_halves}
use Rattle.std.specs.Prelude.{Result, Ok, Err}
use Rattle.refusal.specs.declared.Refusal.TheVariants.{LongText, ShortBuffer, BadGraph, ShortOutput}
use Rattle.cfg_text.specs.Walk.{Reading, refused}
use Rattle.cfg_text.specs.Read.{max_text, read_text, reading, reading_answer, words_after, read_answer, read_words}
use Rattle.cfg_write.specs.Write.{text_of, bytes_after, write_answer, write_bytes}
use Rattle.cfg_write.specs.declared.WriteError.{WriteError}
use Rattle.cfg_write.proofs.Whole.{all_words, proper, Whole}
use Rattle.cfg_write.proofs.TableLaws.{table_read}

-- ---- tables

word_at : (t : List ℕ) (k : ℕ) → all_words t ≡ true → ltb (get_or t k 0) (2 ^ 32) ≡ true
word_at [] k h = refl
word_at (x ∷ t) zero h = and_left (ltb x (2 ^ 32)) (all_words t) h
word_at (x ∷ t) (suc k) h = word_at t k (and_right (ltb x (2 ^ 32)) (all_words t) h)

module _ {A : Type 0} (p : A → Bool) (f : ℕ → A) (h : (j : ℕ) → p (f j) ≡ true) where
  every_of : (l : List ℕ) → every p (map f l) ≡ true
  every_of [] = refl
  every_of (x ∷ l) = and_both (p (f x)) (every p (map f l)) (h x) (every_of l)

  every_taken : (n : ℕ) (l : List ℕ) → every p (take n (map f l)) ≡ true
  every_taken zero l = refl
  every_taken (suc n) [] = refl
  every_taken (suc n) (x ∷ l) = and_both (p (f x)) (every p (take n (map f l))) (h x) (every_taken n l)

table_proper : (t : List ℕ) → all_words t ≡ true → every proper (graph_of t).blocks ≡ true
unfolding graph_of block_at
table_proper t h = every_of proper (block_at t) at (up_from 0 (get_or t 0 0))
  where
    literal : (o i : ℕ) → ltb (instruction_at t o i).a (2 ^ 32) ≡ true
    literal o i = word_at t (o + 1 + 4 * i + 2) h

    at : (n : ℕ) → proper (block_at t n) ≡ true
    at n = every_taken (λ (i : Instruction). ltb i.a (2 ^ 32)) (instruction_at t (block_offset n)) (literal (block_offset n)) (get_or t (block_offset n) 0) (up_from 0 max_instructions)

-- an admitted table's graph
pub admitted_whole : (t : List ℕ) → all_words t ≡ true → admitted_graph t ≡ true → Whole (graph_of t)
admitted_whole t h a = record { valid = (admitted_halves t a).0; properly = table_proper t h }

-- a table that begins with a graph's words
module _ (g : CFG) (s : List ℕ) (w : Whole g) where
  pub begins_graph : graph_of (graph_table_of g ++ s) ≡ g
  begins_graph = table_read g s w.properly (valid_graph_lem g w.valid).few_blocks

  pub begins_words : take graph_words (graph_table_of g ++ s) ≡ graph_table_of g
  begins_words = take_at (graph_table_of g) s graph_words (table_length g)

  pub begins_long : graph_words ≤ length (graph_table_of g ++ s)
  begins_long = let n = table_length g in let e = length-append (graph_table_of g) s in omega arith

  pub begins_admitted : admitted_graph (graph_table_of g ++ s) ≡ true
  begins_admitted =
      admitted_is (graph_table_of g ++ s)
      ∙ rw (begins_graph, begins_words) (and_both (valid_graph g) (same (graph_table_of g) (graph_table_of g)) w.valid (same_refl (graph_table_of g)))

-- ---- reading's answer

-- a text that fits is read as its lines say, into a table that is long enough
reading_is : (text table : List ℕ) → length text ≤ max_text → graph_words ≤ length table → reading text table ≡ read_text text
unfolding reading
reading_is text table h k = rw (le-ltb max_text (length text) h, le-ltb (length table) graph_words k)

-- what an accepted text was read as
pub record Took (text table : List ℕ) : Type 0 where
  pub graph : CFG
  pub short : length text ≤ max_text
  pub long : graph_words ≤ length table
  pub took : read_text text ≡ Ok graph

pub took_of : (text table : List ℕ) → read_answer text table ≡ Ok tt → Took text table
unfolding read_answer reading
took_of text table h = by (ltb max_text (length text)) refl (ltb (length table) graph_words) refl (read_text text) refl h
  where
    by :
        (p : Bool) → ltb max_text (length text) ≡ p → (q : Bool) → ltb (length table) graph_words ≡ q → (x : Reading) → read_text text ≡ x
        → reading_answer (choose p (refused LongText 0) (choose q (refused ShortBuffer 0) x)) ≡ Ok tt → Took text table
    by true e q d x c h = absurd (cc)
    by false e true d x c h = absurd (cc)
    by false e false d (Err k) c h = absurd (cc)
    by false e false d (Ok g) c h =
        record { graph = g; short = ltb-false max_text (length text) e; long = ltb-false (length table) graph_words d; took = c }

module _ (text table : List ℕ) (g : CFG) (short : length text ≤ max_text) (long : graph_words ≤ length table) (e : read_text text ≡ Ok g) where
  pub answer_read_lem : read_answer text table ≡ Ok tt
  unfolding read_answer
  answer_read_lem = ap reading_answer (reading_is text table short long ∙ e)

  pub words_are : read_words text table ≡ graph_table_of g ++ drop graph_words table
  unfolding read_words
  words_are = ap (λ (r : Reading). words_after r table) (reading_is text table short long ∙ e)

-- ---- writing's answer

pub answer_is :
    (table out : List ℕ)
    → write_answer table out
    ≡ choose (ltb (length table) graph_words) (Err (record { refusal = ShortBuffer; length = 0 }))
    (choose (not (admitted_graph table)) (Err (record { refusal = BadGraph; length = 0 }))
    (choose (ltb (length out) (length (text_of (graph_of table)))) (Err (record { refusal = ShortOutput; length = length (text_of (graph_of table)) })) (Ok (length (text_of (graph_of table))))))
unfolding write_answer
answer_is table out = refl

pub bytes_are : (table out : List ℕ) → write_bytes table out ≡ bytes_after (write_answer table out) (text_of (graph_of table)) out
unfolding write_bytes
bytes_are table out = refl

module _ (g : CFG) (s out : List ℕ) (w : Whole g) (room : length (text_of g) ≤ length out) where
  pub answer_written : write_answer (graph_table_of g ++ s) out ≡ Ok (length (text_of g))
  answer_written =
      answer_is (graph_table_of g ++ s) out
      ∙ rw (le-ltb (length (graph_table_of g ++ s)) graph_words (begins_long g s w), begins_admitted g s w, begins_graph g s w, le-ltb (length out) (length (text_of g)) room)

  pub bytes_written : write_bytes (graph_table_of g ++ s) out ≡ text_of g ++ drop (length (text_of g)) out
  bytes_written = bytes_are (graph_table_of g ++ s) out ∙ rw (answer_written, begins_graph g s w)

-- what a table that was written holds
pub record Wrote (table out : List ℕ) (n : ℕ) : Type 0 where
  pub is_admitted : admitted_graph table ≡ true
  pub fits : length (text_of (graph_of table)) ≤ length out
  pub size : n ≡ length (text_of (graph_of table))

pub wrote_of : (table out : List ℕ) (n : ℕ) → write_answer table out ≡ Ok n → Wrote table out n
wrote_of table out n h = by (ltb (length table) graph_words) (admitted_graph table) refl (ltb (length out) (length (text_of (graph_of table)))) refl (sym (answer_is table out) ∙ h)
  where
    by :
        (p : Bool) (q : Bool) → admitted_graph table ≡ q → (x : Bool) → ltb (length out) (length (text_of (graph_of table))) ≡ x
        → choose {X = Result ℕ WriteError} p (Err (record { refusal = ShortBuffer; length = 0 })) (choose (not q) (Err (record { refusal = BadGraph; length = 0 })) (choose x (Err (record { refusal = ShortOutput; length = length (text_of (graph_of table)) })) (Ok (length (text_of (graph_of table)))))) ≡ Ok n
        → Wrote table out n
    by true q e x d h = absurd (cc)
    by false false e x d h = absurd (cc)
    by false true e true d h = absurd (cc)
    by false true e false d h =
        record { is_admitted = e; fits = ltb-false (length out) (length (text_of (graph_of table))) d; size = cc }

pub took_bytes :
    (table out : List ℕ) (n : ℕ) → write_answer table out ≡ Ok n → n ≡ length (text_of (graph_of table))
    → take n (write_bytes table out) ≡ text_of (graph_of table)
took_bytes table out n e s = rw (bytes_are table out, e) (take_at (text_of (graph_of table)) (drop n out) n (sym s))
