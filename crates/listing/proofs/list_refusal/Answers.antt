-- `listing::list_refusal` meets its contract: what was written into the local buffer is handed over. Assumes nothing.
use Prim.Native.Nat.{ℕ, ◌≤◌}
use native.Mathlib.Omega.{arith}
use mathlib.Core.List.{List}
use mathlib.Core.Path.{ap, ◌∙◌}
use lib.ListN.{length, replicate, length-replicate}
use Rattle.listing.proofs.Puts.{put_front}
use Rattle.listing.specs.Listing.{output_for}
use Rattle.listing.proofs.list_refusal.Goals as goal

pub returns-clause-out_after : goal.returns-clause-out_after
returns-clause-out_after c =
    let room : c.put_refused-n.result ≤ length (replicate {A = ℕ} 32 0) = rw (length-replicate 32) (omega (arith, c.put_refused-n.ensures.near)) in
    rw c.from.ensures at (c.hand_over.ensures.out_after ∙ ap (λ (l : List ℕ). output_for l c.args.out.now) (put_front c.put_refused-n.ensures room))
