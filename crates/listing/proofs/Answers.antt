-- What an answer of the listing says of the output. Assumes nothing.
use Prim.Native.Nat.{ℕ, ◌≤◌}
use native.Mathlib.Omega.{arith}
use mathlib.Core.Path.{◌≡◌, refl}
use mathlib.Core.Bool.{Bool, true, false}
use mathlib.Core.List.{List}
use lib.ListN.{length}
use lib.Dec.{ltb}
use borrow.Author.Tests.{ltb-false}
use Rattle.word.specs.Word.{choose}
use Rattle.listing.specs.Listing.{listing, list_answer}
use Rattle.std.specs.Prelude.{Result, Ok, Err}
use Rattle.std.proofs.Common.{rules}
use Rattle.listing.specs.declared.ShortOutput.{ShortOutput}

by-test : (short : Bool) (size n : ℕ) → choose {X = Result ℕ ShortOutput} short (Err (record { needed = size })) (Ok size) ≡ Ok n → (short ≡ false) × (size ≡ n)
by-test true size n e = absurd (search (e, rules))
by-test false size n e = (refl, search (e, rules))

-- a listing that was written is within the output
pub listed-within : (text out : List ℕ) (n : ℕ) → list_answer text out ≡ Ok n → n ≤ length out
unfolding list_answer
listed-within text out n e =
    let size = length (listing text) in
    let t = by-test (ltb (length out) size) size n e in
    omega (arith, ltb-false (length out) size t.0, t.1)
