-- A line of a capture, field by field: the cycle, then as many words as are left. Assumes nothing.
use mathlib.Core.Path.{◌≡◌, refl}
use mathlib.Core.List.{List, ◌∷◌}
use Rattle.std.specs.Prelude.{Option, None, Some}
use Prim.Native.Nat.{ℕ, suc}
use lib.ListN.{drop}
use Rattle.delimited.specs.Parts.{Fields}
use Rattle.delimited.specs.Cursor.{found, field_at, front_line}
use Rattle.capture.specs.declared.recording.Line.{Line}
use Rattle.capture.specs.Capture.{as_word, in_front, words_of, as_entry}
use Rattle.capture.specs.Steps.{line_of, scanned, scan_at}
use Rattle.delimited.proofs.Lines.{on, last, not_on, not_last}

abbrev cycled : ℕ → Option (List ℕ) → ℕ → Option Line
cycled c None next = None
cycled c (Some ws) next = line_of c next

-- n words behind the cycle c
abbrev pub behind_cycle : ℕ → ℕ → Fields → ℕ → Option Line
behind_cycle c n fs next = cycled c (words_of n fs) next

-- a word that is missing or too many
short : (o : Option ℕ) → in_front o None ≡ None
short None = refl
short (Some v) = refl

module _ (r : ℕ) (at : ℕ) where
  abbrev whole : Fields → ℕ → Option Line
  whole fs next = scanned (as_entry (words_of (suc (suc r)) fs)) next

  unread : (f : List ℕ) (fs : Fields) (m : ℕ) → as_word f ≡ None → whole (f ∷ fs) m ≡ None
  unfolding words_of
  unread f fs m e = rw e

  pub cycle_missing : (s : List ℕ) → field_at as_word 44 at s ≡ None → scan_at r at s ≡ None
  unfolding scan_at words_of
  cycle_missing s = not_on None whole as_word at s unread (λ f m. rw (short (as_word f)))

  pub cycle_read : (text : List ℕ) {c n : ℕ} → field_at as_word 44 at (drop at text) ≡ found c n
      → scan_at r at (drop at text) ≡ front_line None (behind_cycle c (suc r)) n (drop n text)
  unfolding scan_at words_of
  cycle_read text {c} = on None whole as_word text at (behind_cycle c (suc r)) (λ f fs m e. rw e (by (words_of (suc r) fs) m))
    where
      by : (o : Option (List ℕ)) (m : ℕ) → scanned (as_entry (in_front (Some c) o)) m ≡ cycled c o m
      by None m = refl
      by (Some ws) m = refl

module _ (c n : ℕ) (at : ℕ) where
  unread_word : (f : List ℕ) (fs : Fields) (m : ℕ) → as_word f ≡ None → behind_cycle c (suc n) (f ∷ fs) m ≡ None
  unfolding words_of
  unread_word f fs m e = rw e

  pub word_read : (text : List ℕ) {v next : ℕ} → field_at as_word 44 at (drop at text) ≡ found v next
      → front_line None (behind_cycle c (suc n)) at (drop at text) ≡ front_line None (behind_cycle c n) next (drop next text)
  unfolding words_of
  word_read text {v} = on None (behind_cycle c (suc n)) as_word text at (behind_cycle c n) (λ f fs m e. rw e (by (words_of n fs) m))
    where
      by : (o : Option (List ℕ)) (m : ℕ) → cycled c (in_front (Some v) o) m ≡ cycled c o m
      by None m = refl
      by (Some ws) m = refl

pub word_missing : (c n at : ℕ) (s : List ℕ) → field_at as_word 44 at s ≡ None → front_line None (behind_cycle c (suc (suc n))) at s ≡ None
unfolding words_of
word_missing c n at s = not_on None (behind_cycle c (suc (suc n))) as_word at s (unread_word c (suc n) at) (λ f m. rw (short (as_word f)))

pub last_read : (c at : ℕ) (text : List ℕ) {v next : ℕ} → field_at as_word 10 at (drop at text) ≡ found v next
    → front_line None (behind_cycle c 1) at (drop at text) ≡ line_of c next
unfolding words_of
last_read c at text {v} = last None (behind_cycle c 1) as_word text at {v = v} (line_of c) (λ f m e. rw e)

pub last_missing : (c at : ℕ) (s : List ℕ) → field_at as_word 10 at s ≡ None → front_line None (behind_cycle c 1) at s ≡ None
unfolding words_of
last_missing c at s = not_last None (behind_cycle c 1) as_word at s (unread_word c 0 at) (λ f g fs m. rw (short (as_word f)))
