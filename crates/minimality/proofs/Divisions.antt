-- A list of starters without repeats is fit exactly when it has a division. Assumes nothing.
use Prim.Native.Nat.{ℕ, ◌<◌}
use mathlib.Core.Bool.{true, false, true≢false}
use mathlib.Core.Logic.{◌⊎◌, inl, inr}
use mathlib.Core.Path.{◌≡◌, refl, sym, ◌∙◌}
use mathlib.Core.List.{List}
use lib.ListN.{length, get_or}
use Rattle.runs.specs.Lists.{mem}
use Rattle.runs.proofs.Sets.{In, Distinct, Found, there, missing, mem→In, found, get_or-in, get_or-any, in-get_or, distinct_at}
use Rattle.cfg.specs.Graph.{CFG, successors}
use Rattle.fsmd.specs.Layout.{absent}
use Rattle.grouping.specs.Grouping.{loops}
use Rattle.grouping.proofs.Reach.{Closed, Reached, along}
use Rattle.grouping.proofs.LoopLaws.{looped}
use Rattle.minimality.specs.Fit.{Through, here, on, Reachable, From, Fit}
use Rattle.minimality.specs.Division.{Division}
use Rattle.minimality.proofs.Paths.{through_reached, reached, reachable, path_keeps, zero_in, onward, some_starter}

module _ (g : CFG) (a : Closed g) where
  -- ---- the starters of a division are fit

  module _ (starters : List ℕ) (state : ℕ → ℕ) (d : Division g starters state) where
    -- a path through blocks that are no starters stays in its state
    stays : {s x : ℕ} → Reached g s → Through g starters s x → state x ≡ state s
    stays r p = path_keeps g starters state (λ u v k e o. go v o (d.legal u v (reachable k) e)) r p
      where
        go : {Stays : Type 0} (v : ℕ) → mem v starters ≡ false → (mem v starters ≡ true) ⊎ Stays → Stays
        go v o (inl e) = absurd (true≢false (sym e ∙ o))
        go v o (inr q) = q

    home : (s : ℕ) → mem s starters ≡ true → s ≡ get_or starters (state s) absent
    home s e = let k = in-get_or s starters absent (mem→In s starters e) in sym (rw (← k.2, d.own k.0 absent k.1) refl)

    -- so a block comes from the starter of its state
    starter_of : {s x : ℕ} → From g (Reachable g) starters s x → s ≡ get_or starters (state x) absent
    starter_of {s} f = rw (stays (reached f.counts) f.path) (home s f.starter)

    pub division_fit : Fit g starters
    division_fit = record {
      holds = d.holds;
      one = λ x r o.
          let f = some_starter g (Reachable g) (λ s p. p) starters (zero_in g a starters d.holds) (reached r) in
          (f.0, f.1, λ t k. starter_of k ∙ sym (starter_of f.1));
    }

  -- ---- a fit set has a division: each block belongs to the one starter that it is reached from

  only_itself : {set : List ℕ} {s x : ℕ} → mem x set ≡ true → Through g set s x → s ≡ x
  only_itself e here = refl
  only_itself e (on p i o) = absurd (true≢false (sym e ∙ o))

  module _ (set : List ℕ) (distinct : Distinct set) (fit : Fit g set) where
    -- the place in the set of x, or of the starter that x is reached from
    record Owner (x : ℕ) : Type 0 where
      place : ℕ
      low : Reached g x → place < length set
      own : In x set → (place < length set) × (get_or set place absent ≡ x)
      from : (s : ℕ) → From g (Reachable g) set s x → get_or set place absent ≡ s

    owner : (x : ℕ) → Owner x
    owner x = go (found x set) (found x (loops g).finished)
      where
        go : Found x set → Found x (loops g).finished → Owner x
        go (there e i) q =
            let k = in-get_or x set absent i in
            record { place = k.0; low = λ r. k.1; own = λ j. (k.1, k.2); from = λ s f. k.2 ∙ sym (only_itself e f.path) }
        go (missing e f) (there b j) =
            let one = fit.one x (reachable ((looped g a).only x j)) e in
            let k = in-get_or one.0 set absent (mem→In one.0 set one.1.starter) in
            record { place = k.0; low = λ r. k.1; own = λ i. absurd (f i); from = λ s h. k.2 ∙ sym (one.2 s h) }
        go (missing e f) (missing b h) =
            let out : Reached g x → ⊥ = λ r. h ((looped g a).all x r) in
            record {
              place = 0;
              low = λ r. absurd (out r);
              own = λ i. absurd (f i);
              from = λ s k. absurd (out (through_reached (reached k.counts) k.path));
            }

    pub fit_division : (state : ℕ → ℕ) × Division g set state
    fit_division = (λ x. (owner x).place, record { holds = fit.holds; own = own; legal = legal })
      where
        own : (k d : ℕ) → k < length set → (owner (get_or set k d)).place ≡ k
        own k d h =
            let o = owner (get_or set k d) in
            let i = o.own (get_or-in set k d h) in
            distinct_at set o.place k absent distinct i.0 h (i.1 ∙ get_or-any set k d absent h)

        legal : (u v : ℕ) → Reachable g u → mem v (successors g u) ≡ true → (mem v set ≡ true) ⊎ ((owner v).place ≡ (owner u).place)
        legal u v r e = go (found v set)
          where
            go : Found v set → (mem v set ≡ true) ⊎ ((owner v).place ≡ (owner u).place)
            go (there b i) = inl b
            go (missing b f) =
                let i = mem→In v (successors g u) e in
                let s = some_starter g (Reachable g) (λ t p. p) set (zero_in g a set fit.holds) (reached r) in
                let t = onward g (Reachable g) (λ t p. p) set s.1 i b in
                inr (distinct_at set (owner v).place (owner u).place absent distinct ((owner v).low (along (reached r) i)) ((owner u).low (reached r))
                ((owner v).from s.0 t ∙ sym ((owner u).from s.0 s.1)))
