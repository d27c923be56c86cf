-- Lines compared by their bytes: two lines of one cycle say the same where their bytes are the same. Assumes nothing.
use mathlib.Core.Path.{◌≡◌, ◌∙◌, refl, sym, ap}
use mathlib.Core.List.{List, [], ◌∷◌, ◌++◌, append_cancel_right}
use Rattle.std.specs.Prelude.{Option, None, Some}
use Rattle.std.proofs.lemmas.Option.{none-some}
use Prim.Native.Nat.{ℕ, zero, suc}
use Rattle.runs.specs.Lists.{same}
use Rattle.runs.proofs.ListLaws.{same_test, same_eq, same_refl}
use Rattle.decimal.specs.Decimal.{decimal_of}
use Rattle.delimited.specs.Parts.{Fields, split_at}
use Rattle.delimited.proofs.Split.{same_split}
use Rattle.delimited.proofs.Written.{number_written}
use Rattle.capture.specs.Capture.{as_word, in_front, words_of, Entry, as_entry, line_entry}

-- ---- a line's bytes and its words

record Read (o : Option ℕ) (p : Option (List ℕ)) (ws : List ℕ) : Type 0 where
  word : ℕ
  rest : List ℕ
  one : o ≡ Some word
  others : p ≡ Some rest
  all : ws ≡ word ∷ rest

read : (o : Option ℕ) (p : Option (List ℕ)) (ws : List ℕ) → in_front o p ≡ Some ws → Read o p ws
read None p ws e = absurd (none-some ws e)
read (Some v) None ws e = absurd (none-some ws e)
read (Some v) (Some vs) ws e = record { word = v; rest = vs; one = refl; others = refl; all = cc }

-- fields of the same words are the same
same_fields : (n : ℕ) (fs gs : Fields) (ws : List ℕ) → words_of n fs ≡ Some ws → words_of n gs ≡ Some ws → fs ≡ gs
unfolding words_of
same_fields zero [] [] ws e h = refl
same_fields zero [] (g ∷ gs) ws e h = absurd (none-some ws h)
same_fields zero (f ∷ fs) gs ws e h = absurd (none-some ws e)
same_fields (suc n) [] gs ws e h = absurd (none-some ws e)
same_fields (suc n) (f ∷ fs) [] ws e h = absurd (none-some ws h)
same_fields (suc n) (f ∷ fs) (g ∷ gs) ws e h =
    let a = read (as_word f) (words_of n fs) ws e in
    let b = read (as_word g) (words_of n gs) ws h in
    let v : a.word ≡ b.word = cc in
    let vs : b.rest ≡ a.rest = cc in
    let f-is = (number_written _ a.word f a.one).field in
    let g-is = (number_written _ b.word g b.one).field in
    let i = same_fields n fs gs a.rest a.others (b.others ∙ ap Some vs) in
    let j : f ≡ g = f-is ∙ ap decimal_of v ∙ sym g-is in
    cc

entry_words : (o : Option (List ℕ)) (e : Entry) → as_entry o ≡ Some e → o ≡ Some (e.cycle ∷ e.words)
entry_words None e h = absurd (none-some e h)
entry_words (Some []) e h = absurd (none-some e h)
entry_words (Some (c ∷ ws)) e h = ap (λ (x : Option Entry). words x) h
  where
    words : Option Entry → Option (List ℕ)
    words None = None
    words (Some e) = Some (e.cycle ∷ e.words)

same_line : (r : ℕ) (l k : List ℕ) (e : Entry) → line_entry r l ≡ Some e → line_entry r k ≡ Some e → l ≡ k
unfolding line_entry
same_line r l k e p q =
    same_split 44 l k
    (same_fields (suc (suc r)) (split_at 44 l) (split_at 44 k) (e.cycle ∷ e.words)
    (entry_words (words_of (suc (suc r)) (split_at 44 l)) e p)
    (entry_words (words_of (suc (suc r)) (split_at 44 k)) e q))

module _ (r c : ℕ) (us vs : List ℕ) (l k : List ℕ) where
  pub same_words :
      line_entry r l ≡ Some (record { cycle = c; words = us }) → line_entry r k ≡ Some (record { cycle = c; words = vs })
      → same (l ++ (10 ∷ [])) (k ++ (10 ∷ [])) ≡ same us vs
  same_words p q =
      same_test (same (l ++ (10 ∷ [])) (k ++ (10 ∷ []))) (same us vs)
      (λ h.
      let e = append_cancel_right l k (10 ∷ []) (same_eq (l ++ (10 ∷ [])) (k ++ (10 ∷ [])) h) in
      let w : us ≡ vs = words_of_lem (sym p ∙ ap (line_entry r) e ∙ q) in
      ap (same us) (sym w) ∙ same_refl us)
      (λ h.
      let w = same_eq us vs h in
      let e = same_line r l k (record { cycle = c; words = us }) p (q ∙ ap (λ (x : List ℕ). Some (record { cycle = c; words = x })) (sym w)) in
      ap (λ (x : List ℕ). same (l ++ (10 ∷ [])) (x ++ (10 ∷ []))) (sym e) ∙ same_refl (l ++ (10 ∷ [])))
    where
      words_of_lem : ◌≡◌ {A = Option Entry} (Some (record { cycle = c; words = us })) (Some (record { cycle = c; words = vs })) → us ≡ vs
      words_of_lem e = ap (λ (x : Option Entry). elim x [ None ↦ [] | Some y ↦ y.words ]) e
