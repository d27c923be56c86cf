-- A block that is no starter has an incoming edge when it is placed, and every state has an exit: the clauses of `arrive` and `close_state`
-- for no edge are never used. Assumes nothing.
use Prim.Native.Nat.{ℕ}
use mathlib.Core.Path.{◌≡◌, refl, sym, ap, ◌∙◌}
use mathlib.Core.Logic.{◌⊎◌, inl, inr, ◌≢◌}
use mathlib.Core.Bool.{Bool, true, false, not, false≢true}
use mathlib.Core.List.{List, [], ◌∷◌, ◌++◌}
use borrow.Author.Tests.{eqb-true, eq-eqb, ne_eqb}
use Rattle.runs.specs.Lists.{mem, keep}
use Rattle.runs.specs.Runs.{Place, standing, halted}
use Rattle.runs.proofs.Sets.{In, Distinct, in_right}
use Rattle.cfg.specs.declared.Ending.{Ending}
use Rattle.cfg.specs.declared.Ending.TheVariants.{Goto, Ite, Halt}
use Rattle.cfg.specs.Graph.{CFG, block_of, targets, successors}
use Rattle.grouping.specs.Grouping.{Groups}
use Rattle.placement.specs.Placement.{order}
use Rattle.state.specs.Wires.{Edge, BlockBuild, StateBuild, close, leads_to, towards, after, put, build, leaves}
use Rattle.placement.proofs.StateOrder.{Ahead, Ordered, StateOrder}

-- some edge's target passes a test
abbrev Some : (Place → Bool) → List Edge → Type 0
Some p [] = ⊥
Some p (e ∷ es) = (p e.target ≡ true) ⊎ Some p es

-- an edge is found
abbrev pub Found : (Place → Bool) → List Edge → Type 0
Found p es = (e : Edge) × (rest : List Edge) × (towards p es ≡ e ∷ rest)

some_found : (p : Place → Bool) (es : List Edge) → Some p es → Found p es
some_found p [] h = absurd h
some_found p (e ∷ es) (inl h) = (e, towards p es, rw h)
some_found p (e ∷ es) (inr h) = go (p e.target) (some_found p es h)
  where
    go : (b : Bool) → Found p es → (f : Edge) × (rest : List Edge) × (keep b e (towards p es) ≡ f ∷ rest)
    go true r = (e, towards p es, refl)
    go false r = r

some_behind : (p : Place → Bool) (es fs : List Edge) → Some p fs → Some p (es ++ fs)
some_behind p [] fs h = h
some_behind p (e ∷ es) fs h = inr (some_behind p es fs h)

some_before : (p : Place → Bool) (es fs : List Edge) → Some p es → Some p (es ++ fs)
some_before p [] fs h = absurd h
some_before p (e ∷ es) fs (inl h) = inl h
some_before p (e ∷ es) fs (inr h) = inr (some_before p es fs h)

-- a test that is passed by all that pass p keeps one
some_kept : (p q : Place → Bool) → ((x : Place) → p x ≡ true → q x ≡ true) → (es : List Edge) → Some p es → Some p (towards q es)
some_kept p q f [] h = absurd h
some_kept p q f (e ∷ es) (inl h) = rw (f e.target h) (inl h)
some_kept p q f (e ∷ es) (inr h) = go (q e.target) (some_kept p q f es h)
  where
    go : (b : Bool) → Some p (towards q es) → Some p (keep b e (towards q es))
    go true r = inr r
    go false r = r

-- ---- incoming edges

module _ (g : CFG) (s : Groups) (x : ℕ) where
  close_leads : (e : Ending) (p : BlockBuild) → In x (targets e) → Some (leads_to x) (close e p).edges
  unfolding close
  close_leads (Goto t) p (inl h) = inl (eq-eqb t x (sym h))
  close_leads (Goto t) p (inr h) = absurd h
  close_leads (Ite c t f) p (inl h) = inl (eq-eqb t x (sym h))
  close_leads (Ite c t f) p (inr (inl h)) = inr (inl (eq-eqb f x (sym h)))
  close_leads (Ite c t f) p (inr (inr h)) = absurd h
  close_leads Halt p h = absurd h

  -- an edge to x stays while other blocks are placed
  leads_elsewhere : (z : ℕ) → x ≢ z → (p : Place) → leads_to x p ≡ true → not (leads_to z p) ≡ true
  leads_elsewhere z d (standing y) h = ap not (ne_eqb y z (λ e. d (sym (eqb-true y x h) ∙ e)))
  leads_elsewhere z d halted h = absurd (false≢true h)

  put_keeps : (z : ℕ) (b : StateBuild) → x ≢ z → Some (leads_to x) b.edges → Some (leads_to x) (put g s z b).edges
  unfolding put after
  put_keeps z b d h =
      some_before (leads_to x) (towards (λ p. not (leads_to z p)) b.edges) _
      (some_kept (leads_to x) (λ p. not (leads_to z p)) (leads_elsewhere z d) b.edges h)

  put_leads : (z : ℕ) (b : StateBuild) → In x (successors g z) → Some (leads_to x) (put g s z b).edges
  unfolding put after
  put_leads z b h =
      some_behind (leads_to x) (towards (λ p. not (leads_to z p)) b.edges) _ (close_leads (block_of g z).ending _ h)

  build_keeps : (zs : List ℕ) (b : StateBuild) → (In x zs → ⊥) → Some (leads_to x) b.edges → Some (leads_to x) (build g s zs b).edges
  unfolding build
  build_keeps [] b d h = h
  build_keeps (z ∷ zs) b d h = build_keeps zs (put g s z b) (λ i. d (inr i)) (put_keeps z b (λ e. d (inl e)) h)

  build_leads : (zs : List ℕ) (b : StateBuild) (u : ℕ) → In u zs → In x (successors g u) → (In x zs → ⊥) → Some (leads_to x) (build g s zs b).edges
  unfolding build
  build_leads [] b u i h d = absurd i
  build_leads (z ∷ zs) b u (inl e) h d = build_keeps zs (put g s z b) (λ i. d (inr i)) (put_leads z b (rw e at h))
  build_leads (z ∷ zs) b u (inr i) h d = build_leads zs (put g s z b) u i h (λ i. d (inr i))

distinct_before : (xs : List ℕ) (x : ℕ) (ys : List ℕ) → Distinct (xs ++ (x ∷ ys)) → In x xs → ⊥
distinct_before [] x ys d i = i
distinct_before (z ∷ xs) x ys d (inl e) = d.0 (rw (← e) (in_right x xs (x ∷ ys) (inl refl)))
distinct_before (z ∷ xs) x ys d (inr i) = distinct_before xs x ys d.1 i

-- ---- exits: the edges of the block that is placed last

to_starter : (s : Groups) (t : ℕ) → (mem t s.starters ≡ true) ⊎ (mem t [] ≡ true) → leaves s (standing t) ≡ true
to_starter s t (inl h) = h
to_starter s t (inr h) = absurd (false≢true h)

close_leaves : (s : Groups) (e : Ending) (p : BlockBuild) → Ahead s.starters [] (targets e) → Some (leaves s) (close e p).edges
unfolding close
close_leaves s (Goto t) p a = inl (to_starter s t a.0)
close_leaves s (Ite c t f) p a = inl (to_starter s t a.0)
close_leaves s Halt p a = inl refl

build_leaves : (g : CFG) (s : Groups) (x : ℕ) (xs : List ℕ) (b : StateBuild) → Ahead s.starters xs (successors g x) → Ordered g s.starters xs
    → Some (leaves s) (build g s (x ∷ xs) b).edges
unfolding build put after
build_leaves g s x [] b a o =
    some_behind (leaves s) (towards (λ p. not (leads_to x p)) b.edges) _ (close_leaves s (block_of g x).ending _ a)
build_leaves g s x (y ∷ ys) b a o = build_leaves g s y ys (put g s x b) o.1 o.2

pub exit_found : (g : CFG) (s : Groups) (k y : ℕ) → StateOrder g s k y → Found (leaves s) (build g s (order g s k) (record { wires = []; edges = [] })).edges
exit_found g s k y o =
    let none : StateBuild = record { wires = []; edges = [] } in
    some_found (leaves s) (build g s (order g s k) none).edges
    (rw o.order_is (build_leaves g s y o.others none o.ahead o.ordered))
