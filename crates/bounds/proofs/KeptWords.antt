-- Both buffers keep their words from R up, whatever the table, the buffers and the state. Assumes nothing.
use Rattle.std.proofs.Common.{◌≡◌, ℕ, List, Result, Ok, Err, length, drop, refl, drop_at}
use Rattle.refusal.specs.declared.Refusal.{Refusal}
use Rattle.fsmd.specs.Table.{machine_register_count}
use Rattle.bounds.specs.Operation.{bounds_answer, bounds_after, left, lowest_left, highest_left}
use Rattle.bounds.proofs.Answers.{accepted, after-count}

-- a buffer of which at most the first r words are new
left_keeps : (a : Result (Unit {0}) Refusal) (r : ℕ) (new old : List ℕ) → (a ≡ Ok tt → length new ≡ r) → drop r (left a r new old) ≡ drop r old
left_keeps (Err refusal) r new old h = refl
left_keeps (Ok tt) r new old h = drop_at new (drop r old) r (h refl)

module _ (t ls hs : List ℕ) (k : ℕ) where
  pub lowest_kept : drop (machine_register_count t) (lowest_left t ls hs k) ≡ drop (machine_register_count t) ls
  unfolding lowest_left
  lowest_kept = left_keeps (bounds_answer t ls hs k) (machine_register_count t) (bounds_after t ls hs k).lowest ls (λ e. (after-count t ls hs k (accepted t ls hs k e)).0)

  pub highest_kept : drop (machine_register_count t) (highest_left t ls hs k) ≡ drop (machine_register_count t) hs
  unfolding highest_left
  highest_kept = left_keeps (bounds_answer t ls hs k) (machine_register_count t) (bounds_after t ls hs k).highest hs (λ e. (after-count t ls hs k (accepted t ls hs k e)).1)
