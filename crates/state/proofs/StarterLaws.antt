-- A block is a starter where it is its own state's. Assumes nothing.
use Prim.Native.Nat.{ℕ, zero, suc, ◌≤◌, ◌<◌}
use native.Mathlib.Omega.{arith}
use mathlib.Core.Path.{◌≡◌, refl, sym, ap, ◌∙◌}
use mathlib.Core.Bool.{Bool, true, false, ◌||◌, false≢true}
use mathlib.Core.List.{List, [], ◌∷◌}
use lib.ListN.{length, get_or, get_or-eq_default}
use lib.Dec.{eqb}
use borrow.Author.Tests.{eq-eqb, eqb-true}
use Rattle.std.specs.Prelude.{Option, Some, None, MatchOption, nat_eq}
use Rattle.std.specs.Option.{option_eq}
use Rattle.runs.proofs.Tests.{or_right}
use Rattle.runs.specs.Lists.{mem}
use Rattle.runs.proofs.ListLaws.{same_test}
use Rattle.fsmd.specs.Layout.{absent}
use Rattle.state.specs.Making.{GroupedBytes}

mem_cons : (y x : ℕ) (l : List ℕ) → (mem y l ≡ true → (k : ℕ) × (k < length l) × (get_or l k absent ≡ y)) → (b : Bool) → eqb y x ≡ b → (b || mem y l) ≡ true
    → (k : ℕ) × (k < length (x ∷ l)) × (get_or (x ∷ l) k absent ≡ y)
mem_cons y x l ih true e h = (0, omega arith, sym (eqb-true y x e))
mem_cons y x l ih false e h = let r = ih h in (suc r.0, omega (arith, r.1), r.2)

-- where a number stands in a list
mem_at : (y : ℕ) (l : List ℕ) → mem y l ≡ true → (k : ℕ) × (k < length l) × (get_or l k absent ≡ y)
mem_at y [] h = absurd (false≢true h)
mem_at y (x ∷ l) h = mem_cons y x l (mem_at y l) (eqb y x) refl h

at_mem : (l : List ℕ) (k y : ℕ) → k < length l → get_or l k absent ≡ y → mem y l ≡ true
at_mem [] k y h e = absurd (omega arith)
at_mem (x ∷ l) zero y h e = rw (eq-eqb y x (sym e))
at_mem (x ∷ l) (suc k) y h e = or_right (eqb y x) (mem y l) (at_mem l k y (omega arith) e)

module _ (starters states : List ℕ) (h : GroupedBytes starters states) where
  -- a starter is the one of its own state
  pub starter_test : (y : ℕ) (b : Bool) → (b ≡ true → (k : ℕ) × (k < length starters) × (get_or starters k absent ≡ y))
      → ((k : ℕ) → k ≡ get_or states y absent → k < length starters → get_or starters k absent ≡ y → b ≡ true) → b ≡ mem y starters
  starter_test y b there back =
      same_test b (mem y starters)
      (λ e. let r = there e in at_mem starters r.0 y r.1 r.2)
      (λ e.
      let r = mem_at y starters e in
      back r.0 (sym (h.owned r.0 r.1) ∙ ap (λ (z : ℕ). get_or states z absent) r.2) r.1 r.2)

  -- a block of no state is no starter
  pub no_starter : (y : ℕ) → length states ≤ y → mem y starters ≡ false
  no_starter y le = sym (starter_test y false (λ e. absurd (false≢true e)) (λ k e lt f. absurd (let g : get_or states y absent ≡ absent = get_or-eq_default states absent le in omega (arith, h.few))))

-- whether a block is a starter, as the code finds it: k is its state
pub own_starter : (starters states : List ℕ) (y k : ℕ) (o : Option ℕ) (b : Bool) → GroupedBytes starters states → k ≡ get_or states y absent
    → MatchOption o (length starters ≤ k) (λ n. (k < length starters) × (n ≡ get_or starters k absent)) → b ≡ option_eq nat_eq o (Some y) → b ≡ mem y starters
own_starter starters states y k None b h ek m e =
    starter_test starters states h y b (λ t. absurd (false≢true (sym e ∙ t))) (λ j ej lt f. absurd (omega (arith, m)))
own_starter starters states y k (Some n) b h ek m e =
    starter_test starters states h y b
    (λ t. (k, m.0, sym m.1 ∙ eqb-true n y (sym e ∙ t)))
    (λ j ej lt f. e ∙ eq-eqb n y (m.1 ∙ ap (λ (i : ℕ). get_or starters i absent) (ek ∙ sym ej) ∙ f))
