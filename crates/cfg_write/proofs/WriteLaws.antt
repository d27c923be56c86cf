-- What writing answers and leaves, case by case. Assumes nothing.
use Prim.Native.Nat.{ℕ, ◌+◌, ◌≤◌, ◌<◌, ◌^◌}
use native.Mathlib.Omega.{arith}
use mathlib.Core.Path.{◌≡◌, refl, sym, ap, ◌∙◌}
use mathlib.Core.Bool.{Bool, true, false, not}
use mathlib.Core.List.{List, ◌++◌}
use lib.ListN.{length, get_or, take, drop}
use lib.Seq.{sets, sets-eq, take_at}
use lib.Dec.{ltb}
use borrow.Author.Tests.{lt-ltb, le-ltb}
use Rattle.word.specs.Word.{choose}
use Rattle.cfg.specs.Layout.{graph_words}
use Rattle.cfg.specs.Table.{graph_of, admitted_graph}
use Rattle.cfg.proofs.Admitted.{admitted_facts}
use Rattle.cfg_text.specs.Read.{max_text}
use Rattle.std.specs.Prelude.{Option, Some, None, Result, Ok, Err}
use Rattle.std.proofs.Common.{rules}
use Rattle.refusal.specs.declared.Refusal.{Refusal}
use Rattle.refusal.specs.declared.Refusal.TheVariants.{ShortBuffer, BadGraph, ShortOutput}
use Rattle.cfg.specs.Admission.{table_refusal}
use Rattle.cfg_write.specs.declared.WriteError.{WriteError}
use Rattle.cfg_write.specs.Write.{text_of, bytes_after, write_answer, write_bytes}
use Rattle.cfg_write.proofs.Whole.{all_words_lem}
use Rattle.cfg_write.proofs.GraphLaws.{graph_short_lem}
use Rattle.cfg_write.proofs.AnswerLaws.{admitted_whole, answer_is, bytes_are}

-- the answer r and the bytes b are those of writing
abbrev pub Writes : List ℕ → List ℕ → Result ℕ WriteError → List ℕ → Type 0
Writes table out r b = (r ≡ write_answer table out) × (b ≡ write_bytes table out)

abbrev refusing : Refusal → Result ℕ WriteError
refusing e = Err (record { refusal = e; length = 0 })

by_answer : (table out : List ℕ) (r : Result ℕ WriteError) → write_answer table out ≡ r → Writes table out r (bytes_after r (text_of (graph_of table)) out)
by_answer table out r e = (sym e, sym (bytes_are table out ∙ ap (λ (a : Result ℕ WriteError). bytes_after a (text_of (graph_of table)) out) e))

module _ (table out : List ℕ) where
  pub table_refused : (e : Refusal) → table_refusal table ≡ Some e → Writes table out (Err (record { refusal = e; length = 0 })) out
  table_refused e h = by_answer table out (Err (record { refusal = e; length = 0 })) (answer_is table out ∙ go (ltb (length table) graph_words) (admitted_graph table) h)
    where
      needed : ℕ
      needed = length (text_of (graph_of table))

      go : (s g : Bool) → choose {X = Option Refusal} s (Some ShortBuffer) (choose (not g) (Some BadGraph) None) ≡ Some e
          → choose {X = Result ℕ WriteError} s (Err (record { refusal = ShortBuffer; length = 0 })) (choose (not g) (Err (record { refusal = BadGraph; length = 0 })) (choose (ltb (length out) needed) (Err (record { refusal = ShortOutput; length = needed })) (Ok needed)))
          ≡ Err (record { refusal = e; length = 0 })
      go true g h = ap refusing (search (h, rules))
      go false true h = absurd (search (h, rules))
      go false false h = ap refusing (search (h, rules))

  module _ (n : ℕ) (h : admitted_graph table ≡ true) (e : n ≡ 0 + length (text_of (graph_of table))) where
    size : length (text_of (graph_of table)) ≡ n
    size = omega arith

    pub out_short : length out < n → Writes table out (Err (record { refusal = ShortOutput; length = n })) out
    out_short l =
        let long = (admitted_facts table h).long in
        by_answer table out (Err (record { refusal = ShortOutput; length = n }))
        (answer_is table out ∙ rw (le-ltb (length table) graph_words long, h, size, lt-ltb (length out) n l))

    written : n ≤ length out → Writes table out (Ok n) (text_of (graph_of table) ++ drop n out)
    written l =
        let long = (admitted_facts table h).long in
        by_answer table out (Ok n)
        (answer_is table out ∙ rw (le-ltb (length table) graph_words long, h, size, le-ltb (length out) n l))

    -- copied from a buffer that holds the text
    pub copied :
        (text after b : List ℕ) → after ≡ sets text 0 (text_of (graph_of table)) → n ≤ length text → n ≤ length out
        → b ≡ take n after ++ drop (length (take n after)) out → Writes table out (Ok n) b
    copied text after b s l m c =
        let t = text_of (graph_of table) in
        let i : 0 + length t ≤ length text = omega arith in
        let f : take n after ≡ t = rw (s, sets-eq t text 0 i) (take_at t (drop (0 + length t) text) n size) in
        let w = written m in
        (w.0, c ∙ (rw (f, size) refl ∙ w.1))

-- ---- the text of an admitted table of words fits

pub text_fits : (t : List ℕ) → ((i : ℕ) → get_or t i 0 < 2 ^ 32) → admitted_graph t ≡ true → length (text_of (graph_of t)) ≤ max_text
text_fits t w h = graph_short_lem (graph_of t) (admitted_whole t (all_words_lem t w) h)
