-- `listing::list_machine` meets its contract: what was written into the local buffer is handed over. Assumes nothing.
use Prim.Native.Nat.{ℕ, ◌≤◌}
use native.Mathlib.Omega.{arith}
use mathlib.Core.List.{List}
use mathlib.Core.Path.{ap, ◌∙◌}
use lib.ListN.{length, replicate, length-replicate}
use Rattle.listing.proofs.Puts.{put_front}
use Rattle.listing.specs.Listing.{max_listing, output_for}
use Rattle.listing.proofs.list_machine.Goals as goal

pub returns-clause-out_after : goal.returns-clause-out_after
returns-clause-out_after c =
    let put = c.put_listing-n in
    let room : put.result ≤ length (replicate {A = ℕ} max_listing 0) = rw (length-replicate max_listing) (omega (arith, put.ensures.near)) in
    c.hand_over.ensures.out_after ∙ ap (λ (l : List ℕ). output_for l c.args.out.now) (put_front put.ensures room)
