-- What `all` answers over a range of numbers and over a slice, as the definitions say it: by `every`. Assumes nothing.
use Rattle.std.proofs.Common.{◌≡◌, ℕ, zero, suc, Bool, true, false, ◌&&◌, List, [], ◌∷◌, refl, ap, ◌∙◌, arith, MatchOption, Option}
use Rattle.std.proofs.Math.Numerals.{add-one}
use Rattle.std.specs.Slice.Iter.{iter_rest}
use Rattle.std.specs.declared.slice.Iter.{Iter}
use denote.Ref.{Bor}
use Rattle.std.proofs.iter.Yields.{fronts, nat_range_steps}
use Rattle.std.proofs.lemmas.Iterator.{YieldsList-from_range, YieldsList-from_slice}
use Rattle.std.proofs.lemmas.Iterator.Search.{all_from_yields_List}
use Rattle.std.specs.Fn.{Called}
use Rattle.std.specs.Iterator.{YieldsThen}
use Rattle.std.specs.List.{FoldsTo, list_all, range_with_len}
use Rattle.std.specs.declared.ops.Range.{Range}
use denote.Param.Members.{Mut}
use Rattle.runs.specs.Lists.{up_from, every}

all_in_range : (p : ℕ → Bool) (a n : ℕ) → list_all p (range_with_len a n) ≡ every p (up_from a n)
all_in_range p a zero = refl
all_in_range p a (suc n) = rw add-one (ap (λ b. p a && b) (all_in_range p (suc a) n))

-- where the closure computes the test, and m is the range's end by another name
pub all_below : {F : Type 0} {g : Mut F (ℕ × Unit {0}) Bool} {s : Range ℕ} (test : ℕ → Bool) (n m : ℕ) (u : Range ℕ) (f : F) (r : Bool)
    → (xs : List ℕ) × (o : Option ℕ) × (j : F) × YieldsThen nat_range_steps s xs o u × FoldsTo (λ p x q. Called g p (x, tt) true q) f xs j × MatchOption o (r ≡ true) (λ x. (r ≡ false) × ((h : F) × Called g j (x, tt) false h))
    → s ≡ record { start = 0; end = n } → n ≡ m
    → ((x : ℕ) (b : Bool) (q : F) → Called g f (x, tt) b q → (q ≡ f) × (b ≡ test x))
    → r ≡ every test (up_from 0 m)
all_below test n m u f r ran e same k =
    all_from_yields_List test u f r ran (YieldsList-from_range 0 n n e (omega arith)) k
    ∙ all_in_range test 0 n
    ∙ ap (λ i. every test (up_from 0 i)) same

list_all_every : {A : Type 0} (p : A → Bool) (xs : List A) → list_all p xs ≡ every p xs
list_all_every p [] = refl
list_all_every p (x ∷ xs) = ap (λ b. p x && b) (list_all_every p xs)

-- the same over the elements of a slice
pub all_of : {F A : Type 0} {g : Mut F (Bor A × Unit {0}) Bool} {s : Iter A} (test : A → Bool) (l : List A) (u : Iter A) (f : F) (r : Bool)
    → (xs : List (Bor A)) × (o : Option (Bor A)) × (j : F) × YieldsThen fronts s xs o u × FoldsTo (λ p x q. Called g p (x, tt) true q) f xs j × MatchOption o (r ≡ true) (λ x. (r ≡ false) × ((h : F) × Called g j (x, tt) false h))
    → iter_rest s ≡ l
    → ((x : Bor A) (b : Bool) (q : F) → Called g f (x, tt) b q → (q ≡ f) × (b ≡ test x.now))
    → r ≡ every test l
all_of test l u f r ran e k = all_from_yields_List test u f r ran (YieldsList-from_slice l e) k ∙ list_all_every test l
