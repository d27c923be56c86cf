-- The digest of a sequence, by which buffers are compared. Assumes nothing.
use Rattle.std.specs.Prelude.{◌≡◌, ℕ, ◌+◌, ◌*◌, ◌%◌, List, [], ◌∷◌, length}
use Rattle.std.specs.List.{AllZip}

abbrev pub modulus : ℕ
modulus = 4294967291

abbrev pub digest_step : ℕ → ℕ → ℕ
digest_step h x = (h * 1000003 + x) % modulus

-- each element makes the next of h
unfoldable pub digest_from : ℕ → List ℕ → ℕ
digest_from h [] = h
digest_from h (x ∷ xs) = digest_from (digest_step h x) xs

-- the length first
unfoldable pub digest_of : List ℕ → ℕ
unfolding digest_from
digest_of xs = digest_from (length xs % modulus) xs

-- d is the digest of numbers that the elements give, each in its place
abbrev pub IsDigestOf : {A : Type 0} → (A → ℕ → Type 0) → List A → ℕ → Type 0
IsDigestOf gives elements d = (xs : List ℕ) × AllZip gives elements xs × (d ≡ digest_of xs)
