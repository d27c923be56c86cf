-- Wires at the front of some words: storing, reading back, appending. Assumes nothing.
use Prim.Native.Nat.{ℕ, zero, suc, ◌+◌, ◌-◌, ◌*◌, ◌≤◌}
use native.Mathlib.Omega.{arith}
use mathlib.Core.Path.{◌≡◌, refl, sym, ap, ◌∙◌}
use mathlib.Core.List.{List, [], ◌∷◌, ◌++◌, append_assoc, append-nil}
use lib.ListN.{length, take, drop, length-append, length-drop}
use lib.Seq.{sets, sets-eq, drop-append-add, drop-drop, take_at}
use borrow.Rule.Slice.PartMut.{put_mid}
use Rattle.runs.proofs.ListLaws.{concat_append}
use Rattle.runs.specs.Lists.{concat_map}
use Rattle.fsmd.specs.declared.Wire.{Wire}
use Rattle.fsmd.specs.Layout.{wire_words}
use Rattle.fsmd.specs.Table.{wire_words_of}
use Rattle.fsmd.proofs.WrittenTable.{length-words_of}
use Rattle.state.specs.Making.{wires_in, stored, appended}

abbrev words : List Wire → List ℕ
words = concat_map wire_words_of

pub length-wires_in : (n : ℕ) (t : List ℕ) → length (wires_in n t) ≡ n
unfolding wires_in
length-wires_in zero t = refl
length-wires_in (suc n) t = ap suc (length-wires_in n (drop wire_words t))

-- what was stored is read back
read_back : (ws : List Wire) (t : List ℕ) → wires_in (length ws) (words ws ++ t) ≡ ws
unfolding wires_in concat_map
read_back [] t = refl
read_back (w ∷ ws) t = ap (λ (r : List Wire). w ∷ r) (read_back ws t)

pub wires_in_stored : (ws : List Wire) (t : List ℕ) → wires_in (length ws) (stored ws t) ≡ ws
unfolding stored
wires_in_stored ws t = read_back ws (drop (wire_words * length ws) t)

-- what is read is there
words_wires_in : (n : ℕ) (t : List ℕ) → wire_words * n ≤ length t → words (wires_in n t) ++ drop (wire_words * n) t ≡ t
unfolding wires_in concat_map
words_wires_in zero t h = refl
words_wires_in (suc n) [] h = absurd (omega arith)
words_wires_in (suc n) (a ∷ []) h = absurd (omega arith)
words_wires_in (suc n) (a ∷ b ∷ []) h = absurd (omega arith)
words_wires_in (suc n) (a ∷ b ∷ c ∷ []) h = absurd (omega arith)
words_wires_in (suc n) (a ∷ b ∷ c ∷ d ∷ t) h =
    let e : wire_words * suc n ≡ suc (suc (suc (suc (wire_words * n)))) = omega arith in
    rw e (ap (λ (r : List ℕ). a ∷ b ∷ c ∷ d ∷ r) (words_wires_in n t (omega arith)))

pub length_stored : (ws : List Wire) (t : List ℕ) → wire_words * length ws ≤ length t → length (stored ws t) ≡ length t
unfolding stored
length_stored ws t h = omega (arith, length-append (words ws) (drop (wire_words * length ws) t), length-words_of ws, length-drop (wire_words * length ws) t)

-- storing anew, and no fewer
pub stored_again : (ws vs : List Wire) (t : List ℕ) → length ws ≤ length vs → stored vs (stored ws t) ≡ stored vs t
unfolding stored
stored_again ws vs t h =
    let k = wire_words * (length vs - length ws) in
    let e : wire_words * length vs ≡ length (words ws) + k = omega (arith, length-words_of ws) in
    let f : wire_words * length ws + k ≡ wire_words * length vs = omega arith in
    ap (λ (r : List ℕ). words vs ++ r)
    (ap (λ (n : ℕ). drop n (words ws ++ drop (wire_words * length ws) t)) e
    ∙ drop-append-add (words ws) (drop (wire_words * length ws) t) k
    ∙ drop-drop k (wire_words * length ws) t
    ∙ ap (λ (n : ℕ). drop n t) f)

-- appending to what was stored
pub stored_more : (ws vs : List Wire) (t : List ℕ) → appended (length ws) vs (stored ws t) ≡ stored (ws ++ vs) t
stored_more ws vs t =
    ap (λ (r : List Wire). stored (r ++ vs) (stored ws t)) (wires_in_stored ws t)
    ∙ stored_again ws (ws ++ vs) t (omega (arith, length-append ws vs))

pub appended_more : (n : ℕ) (ws vs : List Wire) (t : List ℕ) → appended (n + length ws) vs (appended n ws t) ≡ appended n (ws ++ vs) t
appended_more n ws vs t =
    ap (λ (k : ℕ). appended k vs (appended n ws t)) (omega (arith, length-append (wires_in n t) ws, length-wires_in n t))
    ∙ stored_more (wires_in n t ++ ws) vs t
    ∙ ap (λ (l : List Wire). stored l t) (append_assoc (wires_in n t) ws vs)

pub stored_none : (n : ℕ) (t : List ℕ) → wire_words * n ≤ length t → stored (wires_in n t) t ≡ t
unfolding stored
stored_none n t h = rw (length-wires_in n t) (words_wires_in n t h)

pub appended_none : (n : ℕ) (t : List ℕ) → wire_words * n ≤ length t → appended n [] t ≡ t
appended_none n t h = ap (λ (r : List Wire). stored r t) (append-nil (wires_in n t)) ∙ stored_none n t h

-- one wire, word by word
pub emitted : (n : ℕ) (w : Wire) (t : List ℕ) → wire_words * (n + 1) ≤ length t → sets t (wire_words * n) (wire_words_of w) ≡ appended n (w ∷ []) t
unfolding stored concat_map
emitted n w t h =
    let e : wire_words * length (wires_in n t ++ (w ∷ [])) ≡ wire_words * n + 4 = omega (arith, length-append (wires_in n t) (w ∷ []), length-wires_in n t) in
    let front : take (wire_words * n) t ≡ words (wires_in n t) =
    sym (ap (take (wire_words * n)) (words_wires_in n t (omega arith)))
    ∙ take_at (words (wires_in n t)) (drop (wire_words * n) t) (wire_words * n) (length-words_of (wires_in n t) ∙ ap (λ (k : ℕ). wire_words * k) (length-wires_in n t)) in
    sets-eq (wire_words_of w) t (wire_words * n) (omega arith)
    ∙ rw (front, e, concat_append wire_words_of (wires_in n t) (w ∷ []))

-- words written over a part
pub part_written : (l s t : List ℕ) (at n : ℕ) → t ≡ s → n ≡ length s → at + length s ≤ length l → put_mid at n l t ≡ sets l at s
part_written l s t at n e m h =
    rw (e, m) (ap (λ (r : List ℕ). take at l ++ (s ++ r)) (drop-drop (length s) at l) ∙ sym (append_assoc (take at l) s (drop (at + length s) l)) ∙ sym (sets-eq s l at h))
