-- What holds of every list of n words, shown by naming the words. Assumes nothing.
use Prim.Native.Nat.{ℕ, zero, suc}
use native.Mathlib.Omega.{arith}
use mathlib.Core.Path.{◌≡◌}
use mathlib.Core.List.{List, [], ◌∷◌}
use lib.ListN.{length}

abbrev pub ByWord : ℕ → (List ℕ → Type 0) → Type 0
ByWord zero P = P []
ByWord (suc n) P = (x : ℕ) → ByWord n (λ l. P (x ∷ l))

pub by_word : (n : ℕ) (P : List ℕ → Type 0) → ByWord n P → (l : List ℕ) → length l ≡ n → P l
by_word zero P h [] e = h
by_word zero P h (x ∷ l) e = absurd (omega arith)
by_word (suc n) P h [] e = absurd (omega arith)
by_word (suc n) P h (x ∷ l) e = by_word n (λ l. P (x ∷ l)) (h x) l (omega arith)
