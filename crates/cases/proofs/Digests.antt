-- A digest is worked out from the front: what is done is the digest of the first elements' numbers. Assumes nothing.
use Rattle.std.proofs.Common.{◌≡◌, ℕ, suc, ◌+◌, ◌%◌, ◌<◌, ◌≤◌, List, [], ◌∷◌, ◌++◌, length, get_or, take, refl, sym, ap, ◌∙◌, arith}
use Rattle.std.specs.List.{AllZip}
use Rattle.std.proofs.lemmas.List.{take_more, take_all}
use Rattle.cases.specs.Digest.{modulus, digest_step, digest_from, digest_of, IsDigestOf}

digest_snoc : (h : ℕ) (xs : List ℕ) (x : ℕ) → digest_from h (xs ++ (x ∷ [])) ≡ digest_step (digest_from h xs) x
unfolding digest_from
digest_snoc h [] x = refl
digest_snoc h (y ∷ xs) x = digest_snoc (digest_step h y) xs x

module _ {A : Type 0} (gives : A → ℕ → Type 0) where
  zip_length : (s : List A) (xs : List ℕ) → AllZip gives s xs → length xs ≡ length s
  zip_length [] [] z = refl
  zip_length [] (x ∷ xs) z = elim z [ ]
  zip_length (a ∷ s) [] z = elim z [ ]
  zip_length (a ∷ s) (x ∷ xs) z = ap suc (zip_length s xs z.1)

  zip_snoc : (s : List A) (xs : List ℕ) (a : A) (x : ℕ) → AllZip gives s xs → gives a x → AllZip gives (s ++ (a ∷ [])) (xs ++ (x ∷ []))
  zip_snoc [] [] a x z g = (g, tt)
  zip_snoc [] (y ∷ xs) a x z g = elim z [ ]
  zip_snoc (b ∷ s) [] a x z g = elim z [ ]
  zip_snoc (b ∷ s) (y ∷ xs) a x z g = (z.0, zip_snoc s xs a x z.1 g)

  -- h stands for the first i elements of s
  pub record Done (s : List A) (h i : ℕ) : Type 0 where
    pub small : h < modulus
    pub numbers : List ℕ
    pub given : AllZip gives (take i s) numbers
    pub same : h ≡ digest_from (length s % modulus) numbers

  pub none_done : (s : List A) → Done s (length s % modulus) 0
  unfolding digest_from
  none_done s = record { small = omega arith; numbers = []; given = tt; same = refl }

  -- k is the digest behind the element y, of which x is the number
  pub one_done : (s : List A) (h i x k : ℕ) (y : A) → Done s h i → i < length s → y ≡ get_or s i y → gives y x → k ≡ digest_step h x → Done s k (i + 1)
  one_done s h i x k y l p e g n =
      record {
        small = omega arith;
        numbers = l.numbers ++ (x ∷ []);
        given = rw (take_more s i y p, sym e) (zip_snoc (take i s) l.numbers y x l.given g);
        same = n ∙ ap (λ (m : ℕ). digest_step m x) l.same ∙ sym (digest_snoc (length s % modulus) l.numbers x);
      }

  pub all_done : (s : List A) (h i : ℕ) → Done s h i → length s ≤ i → IsDigestOf gives s h
  unfolding digest_of
  all_done s h i l p =
      let g = rw (take_all i s p) at l.given in
      let n = zip_length s l.numbers g in
      (l.numbers, g, l.same ∙ ap (λ (k : ℕ). digest_from (k % modulus) l.numbers) (sym n))

-- of words, and of bytes, which are the numbers that they give, it is their own digest
pub digest_same : (s : List ℕ) (d : ℕ) → IsDigestOf (λ x y. y ≡ x) s d → d ≡ digest_of s
digest_same s d h = h.2 ∙ ap digest_of (same s h.0 h.1)
  where
    same : (s xs : List ℕ) → AllZip (λ (x y : ℕ). y ≡ x) s xs → xs ≡ s
    same [] [] z = refl
    same [] (x ∷ xs) z = elim z [ ]
    same (a ∷ s) [] z = elim z [ ]
    same (a ∷ s) (x ∷ xs) z = rw (z.0, same s xs z.1)
