-- Laws that wires go by: the operands that a code reads, the sampled word, and codes 5, 6, 18 and 19 at truth values. Assumes nothing.
use Rattle.std.proofs.Common.{◌≡◌, ℕ, zero, suc, ◌+◌, ◌-◌, ◌<◌, ◌≤◌, Bool, true, false, not, ◌&&◌, ◌||◌, eqb, ltb, List, [], ◌∷◌, get_or, drop, sym, refl, ap, ◌∙◌, ap₂, arith, lit<, get_or-drop, get_or-take, ltb-false, ltb-true}
use lib.Bits.{bit_and, bit_or, bit_xor}
use Rattle.word.specs.declared.Comparison.TheVariants.{Eq, Ne, Lt, Ge, Ltu, Geu}
use Rattle.word.specs.Word.{choose, add_of, sub_of, shl_of, shr_of, sar_of, sx_of, and_not_of, compare_of, truth, in_code, results, eval_of, arities, arity}

module _ (s a b c a' b' c' : ℕ) where
  -- x and y are the same where the first n operands are
  abbrev Rule : ℕ → ℕ → ℕ → Type 0
  Rule n x y = (0 < n → a ≡ a') → (1 < n → b ≡ b') → (2 < n → c ≡ c') → x ≡ y

  -- the rule at every place of three tables: arities, results and results
  data Rules : List ℕ → List ℕ → List ℕ → Type 0 where
    end : Rules [] [] []
    ◌then◌ : {n x y : ℕ} {ns l m : List ℕ} → Rule n x y → Rules ns l m → Rules (n ∷ ns) (x ∷ l) (y ∷ m)

  infixr 67 ◌then◌
  at : {ns l m : List ℕ} → Rules ns l m → (k : ℕ) → Rule (get_or ns k 0) (get_or l k 0) (get_or m k 0)
  at end k p q r = refl
  at (h then t) zero p q r = h p q r
  at (h then t) (suc k) p q r = at t k p q r

  none : (x : ℕ) → Rule 0 x x
  none x p q r = refl

  one : (f : ℕ → ℕ) → Rule 1 (f a) (f a')
  one f p q r = ap f (p (lit< tt))

  two : (f : ℕ → ℕ → ℕ) → Rule 2 (f a b) (f a' b')
  two f p q r = ap₂ f (p (lit< tt)) (q (lit< tt))

  three : (f : ℕ → ℕ → ℕ → ℕ) → Rule 3 (f a b c) (f a' b' c')
  three f p q r = rw (p (lit< tt), q (lit< tt), r (lit< tt))

  test : (f : ℕ → ℕ → Bool) → Rule 2 (truth (f a b)) (truth (f a' b'))
  test f = two (λ x y. truth (f x y))

  -- operands past a code's arity do not matter
  pub eval_uses : (k : ℕ) → (0 < arity k → a ≡ a') → (1 < arity k → b ≡ b') → (2 < arity k → c ≡ c') → eval_of s k a b c ≡ eval_of s k a' b' c'
  unfolding eval_of arity
  eval_uses =
      at {ns = arities} {l = results s a b c} {m = results s a' b' c'} (
      none 0
      then one (λ x. x)
      then one (λ x. x)
      then two add_of
      then two sub_of
      then two bit_and
      then two bit_or
      then two bit_xor
      then two shl_of
      then two shr_of
      then two sar_of
      then one sx_of
      then test (compare_of Eq)
      then test (compare_of Ne)
      then test (compare_of Lt)
      then test (compare_of Ge)
      then test (compare_of Ltu)
      then test (compare_of Geu)
      then two and_not_of
      then three (λ x y z. choose (eqb x 0) z y)
      then none s
      then end)

-- ---- the sampled word

-- `in` stands last and reads no operand
operands_before_in : (k : ℕ) → in_code ≤ k → arity k ≡ 0
unfolding arity
operands_before_in k h =
    let e : in_code + (k - in_code) ≡ k = omega arith in
    ap (λ (i : ℕ). get_or arities i 0) (sym e) ∙ sym (get_or-drop in_code arities (k - in_code) 0) ∙ go (k - in_code)
  where
    go : (i : ℕ) → get_or (drop in_code arities) i 0 ≡ 0
    go zero = refl
    go (suc i) = refl

-- so a code that reads an operand does not read the sampled word
pub eval_unsampled : (s s' k a b c : ℕ) → 0 < arity k → eval_of s k a b c ≡ eval_of s' k a b c
unfolding eval_of
eval_unsampled s s' k a b c h = go (ltb k in_code) refl
  where
    go : (t : Bool) → ltb k in_code ≡ t → eval_of s k a b c ≡ eval_of s' k a b c
    go true e =
        let l = ltb-true k in_code e in
        sym (get_or-take in_code (results s a b c) k 0 l) ∙ get_or-take in_code (results s' a b c) k 0 l
    go false e = absurd (let z = operands_before_in k (ltb-false k in_code e) in omega arith)

-- ---- at truth values

pub and_truth : (w : ℕ) (s t : Bool) → eval_of w 5 (truth s) (truth t) 0 ≡ truth (s && t)
unfolding eval_of
and_truth w true true = refl
and_truth w true false = refl
and_truth w false t = refl

pub or_truth : (w : ℕ) (s t : Bool) → eval_of w 6 (truth s) (truth t) 0 ≡ truth (s || t)
unfolding eval_of
or_truth w true true = refl
or_truth w true false = refl
or_truth w false t = refl

pub and_not_truth : (w : ℕ) (s t : Bool) → eval_of w 18 (truth s) (truth t) 0 ≡ truth (s && not t)
unfolding eval_of
and_not_truth w true true = refl
and_not_truth w true false = refl
and_not_truth w false t = refl

pub select_truth : (w : ℕ) (s : Bool) (x y : ℕ) → eval_of w 19 (truth s) x y ≡ choose s x y
unfolding eval_of
select_truth w true x y = refl
select_truth w false x y = refl
