-- What an answer says of two recordings: the first faulty line, or the cycles that both hold and the lowest at which they differ. Assumes nothing.
use mathlib.Core.Path.{◌≡◌, ◌∙◌, refl, sym, ap, subst}
use mathlib.Core.List.{List, [], ◌∷◌, ◌++◌, map, append-nil, append_assoc, map-append}
use lib.ListN.{length, length-map, length-append}
use mathlib.Core.Bool.{Bool, true, false, not, ◌&&◌, ◌||◌, and_assoc}
use Rattle.std.specs.Prelude.{Option, None, Some}
use Rattle.std.proofs.lemmas.Option.{none-some}
use Rattle.refusal.specs.declared.Refusal.TheVariants.{BadCycle}
use Prim.Native.Nat.{ℕ, suc}
use native.Mathlib.Omega.{arith}
use lib.Dec.{eqb, ltb}
use borrow.Author.Tests.{eq-eqb, ne_eqb, ltb-true, ltb-false, le-ltb}
use Rattle.word.specs.Word.{choose}
use Rattle.runs.specs.Lists.{same, mem, keep, only, first}
use Rattle.runs.proofs.Tests.{Compared, same as equal, other, compared}
use Rattle.capture.specs.declared.recording.Fault.{Fault}
use Rattle.capture.specs.Capture.{at_line, Entry, fault_from, entries_of, Shared, entry_at, shared_with, shared, differs, cycle_of, comparison, judged, fault_of, recording, compare_lines, compare_captures}
use Rattle.capture.specs.Meaning.{cycles, rising, Sound, FirstFault, Agrees, Lowest, Says, MeansOf, Means}
use Rattle.capture.proofs.Merging.{at_fault, above, absent}

-- the shared cycles are those of the first recording that stand in the second
pub shared_cycles : (es bs : List Entry) → map (λ s. s.cycle) (shared es bs) ≡ only (λ c. mem c (cycles bs)) (cycles es)
unfolding shared
shared_cycles [] bs = refl
shared_cycles (e ∷ es) bs = by (entry_at e.cycle bs) (mem e.cycle (cycles bs)) (held e.cycle bs) (shared_cycles es bs)
  where
    Held : Option Entry → Bool → Type 0
    Held None b = b ≡ false
    Held (Some x) b = b ≡ true

    held : (c : ℕ) (bs : List Entry) → Held (entry_at c bs) (mem c (cycles bs))
    held c [] = refl
    held c (b ∷ bs) = go (eqb c b.cycle) (held c bs)
      where
        go : (t : Bool) → Held (entry_at c bs) (mem c (cycles bs)) → Held (Rattle.runs.specs.Lists.or_else t b (entry_at c bs)) (t || mem c (cycles bs))
        go true h = refl
        go false h = h

    by :
        (o : Option Entry) (t : Bool) → Held o t
        → map (λ s. s.cycle) (shared es bs) ≡ only (λ c. mem c (cycles bs)) (cycles es)
        → map (λ s. s.cycle) (shared_with e o (shared es bs)) ≡ keep t e.cycle (only (λ c. mem c (cycles bs)) (cycles es))
    by None t h i = rw h i
    by (Some b) t h i = rw h (ap (λ (l : List ℕ). e.cycle ∷ l) i)

-- ---- the first difference

module _ (bs : List Entry) where
  -- a first entry that agrees with the second recording, or is not in it
  module _ (e : Entry) (es : List Entry) (agrees : (b : Entry) → entry_at e.cycle bs ≡ Some b → same e.words b.words ≡ true)
      (once : entry_at e.cycle es ≡ None) where
    agrees_too : (k : ℕ) → Agrees es bs k → Agrees (e ∷ es) bs k
    agrees_too k h w = go (compared k e.cycle)
      where
        go : Compared k e.cycle → same w.one.words w.two.words ≡ true
        go (equal t q) =
            let x : e ≡ w.one = some_is (rw t at w.in_first) in
            rw (sym x) (agrees w.two (rw q at w.in_second))
          where
            some_is : ◌≡◌ {A = Option Entry} (Some e) (Some w.one) → e ≡ w.one
            some_is p = cc
        go (other t q) = h record { one = w.one; two = w.two; in_first = rw t at w.in_first; in_second = w.in_second }

    says_too : (d : Option ℕ) → Says es bs d → Says (e ∷ es) bs d
    says_too None h = λ k. agrees_too k (h k)
    says_too (Some c) h = go (compared c e.cycle)
      where
        go : Compared c e.cycle → Lowest (e ∷ es) bs c
        go (equal t q) = absurd (none-some h.here.one (sym once ∙ ap (λ (k : ℕ). entry_at k es) (sym q) ∙ h.here.in_first))
        go (other t q) =
            record {
              here = record { one = h.here.one; two = h.here.two; in_first = rw t h.here.in_first; in_second = h.here.in_second };
              differ = h.differ;
              below = λ k l. agrees_too k (h.below k l);
            }

  pub says : (least n : ℕ) (ls : List (Option Entry)) → fault_from least n ls ≡ None
      → Says (entries_of ls) bs (cycle_of (first differs (shared (entries_of ls) bs)))
  unfolding fault_from shared
  says least n [] h = λ k w. absurd (none-some w.one w.in_first)
  says least n (None ∷ ls) h = at_fault h
  says least n (Some e ∷ ls) h =
      let r = above least n e ls h in
      by r.1 (entry_at e.cycle bs) refl (says (suc e.cycle) (suc n) ls r.1)
    where
      es : List Entry
      es = entries_of ls

      later : Option Shared
      later = first differs (shared es bs)

      by :
          fault_from (suc e.cycle) (suc n) ls ≡ None → (o : Option Entry) → entry_at e.cycle bs ≡ o → Says es bs (cycle_of later)
          → Says (e ∷ es) bs (cycle_of (first differs (shared_with e o (shared es bs))))
      by r None q i = says_too e es (λ b p. absurd (none-some b (sym q ∙ p))) (absent e.cycle (suc e.cycle) (suc n) ls r (omega arith)) (cycle_of later) i
      by r (Some b) q i = on (same e.words b.words) refl
        where
          on :
              (t : Bool) → same e.words b.words ≡ t
              → Says (e ∷ es) bs (cycle_of (Rattle.runs.specs.Lists.or_else (not t) (record { cycle = e.cycle; one = e.words; two = b.words }) later))
          on true p =
              says_too e es
              (λ x y.
              let z : Some x ≡ Some b = sym y ∙ q in
              let w : x ≡ b = cc in
              rw w p)
              (absent e.cycle (suc e.cycle) (suc n) ls r (omega arith))
              (cycle_of later)
              i
          on false p =
              record {
                here = record { one = e; two = b; in_first = rw (eq-eqb e.cycle e.cycle refl); in_second = q };
                differ = p;
                below =
                    λ k l w.
                    absurd
                    (none-some w.one
                    (sym (absent k (suc e.cycle) (suc n) ls r (omega arith)) ∙ (rw (ne_eqb k e.cycle (λ z. omega arith)) at w.in_first)));
              }

-- ---- faults

-- the least cycle that is above all of rising cycles
abbrev bound : List ℕ → ℕ
bound [] = 0
bound (c ∷ []) = suc c
bound (c ∷ d ∷ cs) = bound (d ∷ cs)

rising_snoc : (cs : List ℕ) (c : ℕ) → rising (cs ++ (c ∷ [])) ≡ rising cs && not (ltb c (bound cs))
rising_snoc [] c = rw (le-ltb c 0 (omega arith))
rising_snoc (d ∷ []) c = go (ltb d c) refl (ltb c (suc d)) refl
  where
    go : (s : Bool) → ltb d c ≡ s → (t : Bool) → ltb c (suc d) ≡ t → ltb d c && true ≡ true && not (ltb c (suc d))
    go true e true f = let l = ltb-true d c e in let k = ltb-true c (suc d) f in absurd (omega arith)
    go true e false f = rw (e, f)
    go false e true f = rw (e, f)
    go false e false f = let l = ltb-false d c e in let k = ltb-false c (suc d) f in absurd (omega arith)
rising_snoc (d ∷ e ∷ cs) c = rw (rising_snoc (e ∷ cs) c) (sym (and_assoc (ltb d e) (rising (e ∷ cs)) (not (ltb c (bound (e ∷ cs))))))

bound_snoc : (cs : List ℕ) (c : ℕ) → bound (cs ++ (c ∷ [])) ≡ suc c
bound_snoc [] c = refl
bound_snoc (d ∷ []) c = refl
bound_snoc (d ∷ e ∷ cs) c = bound_snoc (e ∷ cs) c

-- what a fault says of the lines, or none
abbrev Judges : List (Option Entry) → Option Fault → Type 0
Judges ls None = Sound ls
Judges ls (Some f) = FirstFault ls f.refusal f.line

-- sound entries, and the lines behind them
judges_behind :
    (before : List Entry) (least n : ℕ) (ls : List (Option Entry)) → least ≡ bound (cycles before) → n ≡ suc (length before)
    → rising (cycles before) ≡ true → Judges (map Some before ++ ls) (fault_from least n ls)
unfolding fault_from
judges_behind before least n [] l m h = record { entries = before; lines = append-nil (map Some before); rise = h }
judges_behind before least n (None ∷ ls) l m h =
    record { before = before; line = None; behind = ls; lines = refl; number = m; rise = h; faulty = refl }
judges_behind before least n (Some e ∷ ls) l m h = go (ltb e.cycle least) refl (judges_behind (before ++ (e ∷ [])) (suc e.cycle) (suc n) ls)
  where
    snoc : rising (cycles before ++ (e.cycle ∷ [])) ≡ not (ltb e.cycle least)
    snoc = rising_snoc (cycles before) e.cycle ∙ rw (h, l)

    go :
        (t : Bool) → ltb e.cycle least ≡ t
        → (suc e.cycle ≡ bound (cycles (before ++ (e ∷ []))) → suc n ≡ suc (length (before ++ (e ∷ [])))
        → rising (cycles (before ++ (e ∷ []))) ≡ true → Judges (map Some (before ++ (e ∷ [])) ++ ls) (fault_from (suc e.cycle) (suc n) ls))
        → Judges (map Some before ++ (Some e ∷ ls)) (choose t (at_line BadCycle n) (fault_from (suc e.cycle) (suc n) ls))
    go true q on =
        record { before = before; line = Some e; behind = ls; lines = refl; number = m; rise = h; faulty = (refl, snoc ∙ rw q) }
    go false q on =
        let c : cycles (before ++ (e ∷ [])) ≡ cycles before ++ (e.cycle ∷ []) = map-append (λ (x : Entry). x.cycle) before (e ∷ []) in
        let s : map Some (before ++ (e ∷ [])) ++ ls ≡ map Some before ++ (Some e ∷ ls) =
        ap (λ (x : List (Option Entry)). x ++ ls) (map-append Some before (e ∷ [])) ∙ append_assoc (map Some before) (Some e ∷ []) ls in
        subst (λ x. Judges x (fault_from (suc e.cycle) (suc n) ls)) s
        (on (sym (ap bound c ∙ bound_snoc (cycles before) e.cycle)) (ap suc (m ∙ longer)) (ap rising c ∙ snoc ∙ rw q))
      where
        longer : suc (length before) ≡ length (before ++ (e ∷ []))
        longer = rw length-append (omega arith)

judges : (ls : List (Option Entry)) → Judges ls (fault_of ls)
judges ls = judges_behind [] 0 1 ls refl refl refl

entries_of_lem : (es : List Entry) → entries_of (map Some es) ≡ es
entries_of_lem [] = refl
entries_of_lem (e ∷ es) = ap (λ (l : List Entry). e ∷ l) (entries_of_lem es)

sound_entries : (ls : List (Option Entry)) (s : Sound ls) → entries_of ls ≡ s.entries
sound_entries ls s = ap entries_of s.lines ∙ entries_of_lem s.entries

-- ---- the whole answer

means_lines : (ls ms : List (Option Entry)) → MeansOf ls ms (compare_lines ls ms)
unfolding compare_lines comparison
means_lines ls ms = by (fault_of ls) refl (judges ls) (fault_of ms) (judges ms)
  where
    by :
        (f : Option Fault) → fault_of ls ≡ f → Judges ls f → (g : Option Fault) → Judges ms g
        → MeansOf ls ms (judged f g (comparison (shared (entries_of ls) (entries_of ms))))
    by (Some f) q j g i = j
    by None q s (Some f) i = (s, i)
    by None q s None t =
        let es = sound_entries ls s in
        let bs = sound_entries ms t in
        let found = shared (entries_of ls) (entries_of ms) in
        record {
          first = s;
          second = t;
          count =
              sym (length-map found (λ x. x.cycle))
              ∙ ap length (shared_cycles (entries_of ls) (entries_of ms))
              ∙ rw (es, bs);
          lowest = subst (λ x. Says x t.entries (cycle_of (first differs found))) es
              (subst (λ x. Says (entries_of ls) x (cycle_of (first differs found))) bs (says (entries_of ms) 0 1 ls q));
        }

pub means : (r : ℕ) (one two : List ℕ) → Means r one two (compare_captures r one two)
unfolding compare_captures
means r one two =
    record {
      compared = λ h. rw h (means_lines (recording r one) (recording r two));
      refused = λ h. rw h;
    }
