-- The two readings of fitness: where fewer paths count, a fit set stays fit. Assumes nothing.
use Prim.Native.Nat.{ℕ}
use mathlib.Core.Bool.{true}
use mathlib.Core.Path.{◌≡◌, sym, ◌∙◌}
use mathlib.Core.List.{List}
use Rattle.runs.specs.Lists.{mem}
use Rattle.cfg.specs.Graph.{CFG}
use Rattle.grouping.proofs.Reach.{Closed}
use Rattle.minimality.specs.Fit.{Reachable, From, FitWhere, Fit, FitFromAll}
use Rattle.minimality.proofs.Paths.{reached, zero_in, some_starter}

module _ (g : CFG) (a : Closed g) (set : List ℕ) where
  -- those of reachable starters count in any case
  fewer_count : (Fewer More : ℕ → Type 0) → ((s : ℕ) → Reachable g s → Fewer s) → ((s : ℕ) → mem s set ≡ true → Fewer s → More s)
      → FitWhere g More set → FitWhere g Fewer set
  fewer_count Fewer More counted wider fit = record {
    holds = fit.holds;
    one = λ x r o.
        let only = (fit.one x r o).2 in
        let s = some_starter g Fewer counted set (zero_in g a set fit.holds) (reached r) in
        (s.0, s.1, λ t k. only t (more k) ∙ sym (only s.0 (more s.1)));
  }
    where
      more : {s x : ℕ} → From g Fewer set s x → From g More set s x
      more {s} f = record { starter = f.starter; counts = wider s f.starter f.counts; path = f.path }

  pub fit_from_all : FitFromAll g set → Fit g set
  fit_from_all = fewer_count (Reachable g) (λ s. Unit {0}) (λ s r. r) (λ s e r. tt)

  -- a set of reachable blocks is fit by both or by neither
  pub fit_of_reachable : ((s : ℕ) → mem s set ≡ true → Reachable g s) → Fit g set → FitFromAll g set
  fit_of_reachable known = fewer_count (λ s. Unit {0}) (Reachable g) (λ s r. tt) (λ s e c. known s e)
