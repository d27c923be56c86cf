-- The number answered is the request's, case by case. Assumes nothing.
use Rattle.std.proofs.Common.{◌≡◌, ℕ, ◌<◌, Bool, true, false, not, List, get_or, sym, refl, ap, ◌∙◌, true≢false}
use lib.Signed.{lt_z}
use Rattle.word.specs.Word.{signed_of, compare_of}
use Rattle.word.specs.declared.Comparison.TheVariants.{Ge}
use Rattle.word.proofs.Levels.{ge_z_not}
use Rattle.runs.proofs.Every.{below_at, below_of}
use Rattle.fsmd.specs.Table.{machine_register_count}
use Rattle.bounds.specs.Operation.{ordered, bounds_answer, bounds_number}
use Rattle.bounds.specs.Values.{BoundsValues}
use Rattle.bounds.proofs.Answers.{short_table, short_lowest, short_highest, not_admitted, no_state, crossed, not_refused}

-- one lowest above its highest is enough
not_ordered : (n : ℕ) (ls hs : List ℕ) (i : ℕ) → i < n → lt_z (signed_of (get_or hs i 0)) (signed_of (get_or ls i 0)) ≡ true → ordered n ls hs ≡ false
not_ordered n ls hs i h e = go (ordered n ls hs) refl
  where
    go : (b : Bool) → ordered n ls hs ≡ b → b ≡ false
    go false f = refl
    go true f =
        absurd (true≢false (sym (below_at (λ j. compare_of Ge (get_or hs j 0) (get_or ls j 0)) n i f h) ∙ ge_z_not (signed_of (get_or hs i 0)) (signed_of (get_or ls i 0)) ∙ ap not e))

module _ (t ls hs : List ℕ) (k : ℕ) where
  pub bounds_values : BoundsValues t ls hs k (bounds_answer t ls hs k)
  bounds_values =
      record {
        short_table = λ h. ap bounds_number (short_table t ls hs k h);
        short_lowest = λ h. ap bounds_number (short_lowest t ls hs k h);
        short_highest = λ h. ap bounds_number (short_highest t ls hs k h);
        other = λ l f. ap bounds_number (not_admitted t ls hs k l f);
        no_state = λ l g h. ap bounds_number (no_state t ls hs k l g h);
        crossed = λ l g h i b e. ap bounds_number (crossed t ls hs k l g h (not_ordered (machine_register_count t) ls hs i b e));
        bounded = λ l g h f. ap bounds_number (not_refused t ls hs k l g h (below_of (λ i. compare_of Ge (get_or hs i 0) (get_or ls i 0)) (machine_register_count t) f));
      }
