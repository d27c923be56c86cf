-- What two recordings share, by their next entries: for strictly rising recordings a merge finds it. Assumes nothing.
use mathlib.Core.Path.{◌≡◌, refl, sym}
use mathlib.Core.List.{List, [], ◌∷◌}
use mathlib.Core.Bool.{Bool, true, false}
use Rattle.std.specs.Prelude.{Option, None, Some}
use Rattle.std.proofs.lemmas.Option.{none-some}
use Rattle.refusal.specs.declared.Refusal.TheVariants.{BadCycle}
use Prim.Native.Nat.{ℕ, suc, ◌≤◌, ◌<◌}
use native.Mathlib.Omega.{arith}
use lib.Dec.{ltb}
use borrow.Author.Tests.{ltb-false, eq-eqb, ne_eqb}
use Rattle.word.specs.Word.{choose}
use Rattle.capture.specs.declared.recording.Fault.{Fault}
use Rattle.capture.specs.Capture.{at_line, Entry, fault_from, entries_of, entry_at, shared}

pub at_fault : {X : Type 0} {f : Fault} → Some f ≡ None → X
at_fault e = absurd (none-some _ (sym e))

-- lines without a fault: the first cycle is not below `least`, and the others are above it
pub above : (least n : ℕ) (e : Entry) (ls : List (Option Entry)) → fault_from least n (Some e ∷ ls) ≡ None
    → (least ≤ e.cycle) × (fault_from (suc e.cycle) (suc n) ls ≡ None)
unfolding fault_from
above least n e ls h = go (ltb e.cycle least) refl h
  where
    go :
        (b : Bool) → ltb e.cycle least ≡ b → choose b (at_line BadCycle n) (fault_from (suc e.cycle) (suc n) ls) ≡ None
        → (least ≤ e.cycle) × (fault_from (suc e.cycle) (suc n) ls ≡ None)
    go true l g = at_fault g
    go false l g = (ltb-false e.cycle least l, g)

-- no entry is below `least`
pub absent : (c least n : ℕ) (ls : List (Option Entry)) → fault_from least n ls ≡ None → c < least → entry_at c (entries_of ls) ≡ None
unfolding fault_from
absent c least n [] h l = refl
absent c least n (None ∷ ls) h l = at_fault h
absent c least n (Some e ∷ ls) h l =
    let r = above least n e ls h in
    let low = r.0 in
    rw (ne_eqb c e.cycle (λ q. omega arith), absent c (suc e.cycle) (suc n) ls r.1 (omega arith))

-- an entry of the second recording below all of the first is not shared
unshared : (b : Entry) (bs : List Entry) (least n : ℕ) (ls : List (Option Entry)) → fault_from least n ls ≡ None → b.cycle < least
    → shared (entries_of ls) (b ∷ bs) ≡ shared (entries_of ls) bs
unfolding fault_from shared
unshared b bs least n [] h l = refl
unshared b bs least n (None ∷ ls) h l = at_fault h
unshared b bs least n (Some e ∷ ls) h l =
    let r = above least n e ls h in
    let low = r.0 in
    rw (ne_eqb e.cycle b.cycle (λ q. omega arith), unshared b bs (suc e.cycle) (suc n) ls r.1 (omega arith))

-- ---- the next entries a and b, with the lines behind them

module _ (a b : Entry) (n : ℕ) where
  pub first_alone : (es : List Entry) (ms : List (Option Entry)) → a.cycle < b.cycle → fault_from (suc b.cycle) n ms ≡ None
      → shared (a ∷ es) (b ∷ entries_of ms) ≡ shared es (b ∷ entries_of ms)
  unfolding shared
  first_alone es ms l h =
      rw (ne_eqb a.cycle b.cycle (λ q. omega arith), absent a.cycle (suc b.cycle) n ms h (omega arith))

  module _ (ls : List (Option Entry)) (bs : List Entry) (h : fault_from (suc a.cycle) n ls ≡ None) where
    pub second_alone : b.cycle < a.cycle → shared (a ∷ entries_of ls) (b ∷ bs) ≡ shared (a ∷ entries_of ls) bs
    unfolding shared
    second_alone l =
        rw (ne_eqb a.cycle b.cycle (λ q. omega arith), unshared b bs (suc a.cycle) n ls h (omega arith))

    pub both : a.cycle ≡ b.cycle
        → shared (a ∷ entries_of ls) (b ∷ bs)
        ≡ record { cycle = a.cycle; one = a.words; two = b.words } ∷ shared (entries_of ls) bs
    unfolding shared
    both e = rw (eq-eqb a.cycle b.cycle e, unshared b bs (suc a.cycle) n ls h (omega arith))

pub none_shared : (es : List Entry) → shared es [] ≡ []
unfolding shared
none_shared [] = refl
none_shared (e ∷ es) = none_shared es
