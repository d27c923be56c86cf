-- Lists with the same words in front: what is read there is the same, whatever follows. Assumes nothing.
use Prim.Native.Nat.{ℕ, zero, suc, ◌+◌, ◌≤◌, ◌<◌}
use native.Mathlib.Omega.{arith}
use mathlib.Core.List.{List, ◌∷◌, ◌++◌, map}
use mathlib.Core.Path.{◌≡◌, refl, sym, ap, ◌∙◌}
use lib.ListN.{length, get_or, take, drop, length-drop, get_or-append}
use lib.Seq.{take-append-le, drop-append-le}
use Rattle.runs.specs.Lists.{up_from}

-- the first m words
pub record SameFront (m : ℕ) (t t' : List ℕ) : Type 0 where
  pub word : (i : ℕ) → i < m → get_or t i 0 ≡ get_or t' i 0
  pub words : (p n : ℕ) → p + n ≤ m → take n (drop p t) ≡ take n (drop p t')

pub front_past : (m : ℕ) (t u : List ℕ) → m ≤ length t → SameFront m (t ++ u) t
front_past m t u l = record {
  word = λ i h. get_or-append t u 0 i (omega arith);
  words = λ p n h. ap (take n) (drop-append-le p t u (omega arith)) ∙ take-append-le n (drop p t) u (rw length-drop (omega arith));
}

pub front_sym : {m : ℕ} {t t' : List ℕ} → SameFront m t t' → SameFront m t' t
front_sym f = record { word = λ i h. sym (f.word i h); words = λ p n h. sym (f.words p n h) }

-- two functions that agree on the numbers counted up
pub map_same {ℓ} : {B : Type ℓ} (f g : ℕ → B) (k n : ℕ) → ((i : ℕ) → k ≤ i → i < k + n → f i ≡ g i) → map f (up_from k n) ≡ map g (up_from k n)
map_same f g k zero h = refl
map_same {B = B} f g k (suc n) h =
    ap (λ (x : B). x ∷ map f (up_from (suc k) n)) (h k (omega arith) (omega arith))
    ∙ ap (λ (r : List B). g k ∷ r) (map_same f g (suc k) n (λ i lo hi. h i (omega arith) (omega arith)))
