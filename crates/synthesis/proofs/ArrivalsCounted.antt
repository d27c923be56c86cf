-- How many of a list of references read nonzero, as the environment of a cycle grows. Assumes nothing.
use Prim.Native.Nat.{ℕ, suc, ◌+◌, ◌<◌}
use native.Mathlib.Omega.{arith}
use mathlib.Core.Path.{◌≡◌, refl, ap, ◌∙◌}
use mathlib.Core.Bool.{Bool, true, false, not}
use mathlib.Core.List.{List, [], ◌∷◌, ◌++◌}
use lib.ListN.{length, length-append, get_or-append}
use lib.Dec.{eqb}
use Rattle.word.specs.Word.{choose, truth}
use Rattle.runs.specs.Lists.{keep, only}
use Rattle.runs.proofs.ListLaws.{only_append}
use Rattle.fsmd.specs.Machine.{nonzero}
use Rattle.synthesis.proofs.Environments.{at, Below, below_mono, Grows}

-- in the environment E are the references refs, and n of them read nonzero
pub record Counted (E refs : List ℕ) (n : ℕ) : Type 0 where
  pub low : Below (length E) refs
  pub count : nonzero E refs ≡ n

nonzero_append : (E F refs : List ℕ) → Below (length E) refs → nonzero (E ++ F) refs ≡ nonzero E refs
nonzero_append E F [] b = refl
nonzero_append E F (x ∷ refs) b = rw (get_or-append E F 0 x b.0) (go (not (eqb (at E x) 0)) (nonzero_append E F refs b.1))
  where
    go : (c : Bool) → nonzero (E ++ F) refs ≡ nonzero E refs
        → length (keep c x (only (λ x. not (eqb (at (E ++ F) x) 0)) refs)) ≡ length (keep c x (only (λ x. not (eqb (at E x) 0)) refs))
    go true e = ap suc e
    go false e = e

-- what is put behind changes no reading
pub counted_grow : {E E' refs : List ℕ} {n : ℕ} → Grows E E' → Counted E refs n → Counted E' refs n
counted_grow {E} {E'} {refs} g c =
    rw g.1 (record {
      low = below_mono (length E) (length (E ++ g.0)) refs (omega (arith, length-append E g.0)) c.low;
      count = nonzero_append E g.0 refs c.low ∙ c.count;
    })

pub counted_none : (E : List ℕ) → Counted E [] 0
counted_none E = record { low = tt; count = refl }

below_snoc : (n : ℕ) (refs : List ℕ) (x : ℕ) → Below n refs → x < n → Below n (refs ++ (x ∷ []))
below_snoc n [] x b h = (h, tt)
below_snoc n (y ∷ refs) x b h = (b.0, below_snoc n refs x b.1 h)

-- one more, which reads whether a test holds
nonzero_more : (E refs : List ℕ) (x : ℕ) (b : Bool) → at E x ≡ truth b → nonzero E (refs ++ (x ∷ [])) ≡ choose b (suc (nonzero E refs)) (nonzero E refs)
nonzero_more E refs x b e =
    let t : ℕ → Bool = λ x. not (eqb (at E x) 0) in
    ap length (only_append t refs (x ∷ [])) ∙ length-append (only t refs) (only t (x ∷ [])) ∙ go b e
  where
    go : (b : Bool) → at E x ≡ truth b → nonzero E refs + nonzero E (x ∷ []) ≡ choose b (suc (nonzero E refs)) (nonzero E refs)
    go true e = rw e (omega arith)
    go false e = rw e (omega arith)

pub counted_more : {E refs : List ℕ} {n : ℕ} (x : ℕ) (b : Bool) → Counted E refs n → x < length E → at E x ≡ truth b → Counted E (refs ++ (x ∷ [])) (choose b (suc n) n)
counted_more {E} {refs} {n} x b c h e = record {
  low = below_snoc (length E) refs x c.low h;
  count = nonzero_more E refs x b e ∙ ap (λ (k : ℕ). choose b (suc k) k) c.count;
}
