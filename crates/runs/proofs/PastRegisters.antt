-- An operation that runs, on a buffer with words past the registers: it reads none of them and leaves them. Assumes nothing.
use Prim.Native.Nat.{ℕ, ◌≤◌}
use mathlib.Core.List.{List, ◌++◌, append_assoc}
use mathlib.Core.Path.{◌≡◌, refl, sym, ap, ap₂, ◌∙◌}
use lib.ListN.{length, take, drop}
use lib.Seq.{take-append-le, drop-append-le}
use Rattle.std.specs.Prelude.{Option, Some, None, Ok}
use Rattle.refusal.specs.declared.Refusal.{Refusal}
use Rattle.word.specs.RegisterFile.{file_words}
use Rattle.runs.specs.Runs.{start_at, Supply, Runner, answer, registers_after, total}
use Rattle.runs.specs.Operations.{answered, registers_left, total_of}
use Rattle.runs.proofs.OperationLaws.{refused, refused_left, refused_total, accepted, accepted_left, accepted_total}

-- two that are refused alike, and run the same where they are not
module _ (n m : Option Refusal) (same : n ≡ m) (r q : Runner) (alike : m ≡ None → r ≡ q) (ws : Supply) (rs v : List ℕ) (long : file_words ≤ length rs) (start budget : ℕ) where
  pub past_answered : answered n r ws (rs ++ v) start budget ≡ answered m q ws rs start budget
  past_answered = go m refl
    where
      go : (k : Option Refusal) → m ≡ k → answered n r ws (rs ++ v) start budget ≡ answered m q ws rs start budget
      go None e =
          accepted r ws (rs ++ v) start budget n (same ∙ e)
          ∙ ap₂ (λ (x : Runner) (l : List ℕ). Ok (answer x ws budget (start_at start l))) (alike e) (take-append-le file_words rs v long)
          ∙ sym (accepted q ws rs start budget m e)
      go (Some k) e = refused r ws (rs ++ v) start budget n k (same ∙ e) ∙ sym (refused q ws rs start budget m k e)

  pub past_left : registers_left n r ws (rs ++ v) start budget ≡ registers_left m q ws rs start budget ++ v
  past_left = go m refl
    where
      go : (k : Option Refusal) → m ≡ k → registers_left n r ws (rs ++ v) start budget ≡ registers_left m q ws rs start budget ++ v
      go None e =
          accepted_left r ws (rs ++ v) start budget n (same ∙ e)
          ∙ ap₂ (λ (x : Runner) (l : List ℕ). registers_after x ws budget (start_at start l) ++ drop file_words (rs ++ v)) (alike e) (take-append-le file_words rs v long)
          ∙ ap (λ (l : List ℕ). registers_after q ws budget (start_at start (take file_words rs)) ++ l) (drop-append-le file_words rs v long)
          ∙ sym (append_assoc (registers_after q ws budget (start_at start (take file_words rs))) (drop file_words rs) v)
          ∙ ap (λ (l : List ℕ). l ++ v) (sym (accepted_left q ws rs start budget m e))
      go (Some k) e =
          refused_left r ws (rs ++ v) start budget n k (same ∙ e)
          ∙ ap (λ (l : List ℕ). l ++ v) (sym (refused_left q ws rs start budget m k e))

  -- and what they count, where they count the same
  pub past_total : (f g : ℕ → ℕ → List ℕ → ℕ) → (m ≡ None → f ≡ g) → total_of f n r ws (rs ++ v) start budget ≡ total_of g m q ws rs start budget
  past_total f g h = go m refl
    where
      go : (k : Option Refusal) → m ≡ k → total_of f n r ws (rs ++ v) start budget ≡ total_of g m q ws rs start budget
      go None e =
          accepted_total f r ws (rs ++ v) start budget n (same ∙ e)
          ∙ ap₂ (λ (x : Runner) (l : List ℕ). total x ws f budget (start_at start l)) (alike e) (take-append-le file_words rs v long)
          ∙ ap (λ (x : ℕ → ℕ → List ℕ → ℕ). total q ws x budget (start_at start (take file_words rs))) (h e)
          ∙ sym (accepted_total g q ws rs start budget m e)
      go (Some k) e = refused_total f r ws (rs ++ v) start budget n k (same ∙ e) ∙ sym (refused_total g q ws rs start budget m k e)
