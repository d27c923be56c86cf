-- What references read as wires are added: the environment of a cycle grows, and what stood in it stays. Assumes nothing.
use Prim.Native.Nat.{ℕ, zero, suc, ◌+◌, ◌≤◌, ◌<◌}
use native.Mathlib.Omega.{arith}
use mathlib.Core.Path.{◌≡◌, refl, sym, ap, ap₂, ◌∙◌}
use mathlib.Core.Bool.{Bool, true, false}
use mathlib.Core.List.{List, [], ◌∷◌, ◌++◌, map, append_assoc, append-nil}
use lib.ListN.{length, get_or, set, take, drop, length-append, get_or-append, take-append-drop}
use lib.Seq.{append_snoc, get_or-append_seam, length-take-le}
use Rattle.word.specs.Word.{choose, truth}
use Rattle.runs.specs.Lists.{up_from}
use Rattle.fsmd.specs.declared.Wire.{Wire}
use Rattle.fsmd.specs.Machine.{wire_value, worked}
use Rattle.state.specs.Wires.{selects, select_wire}
use Rattle.synthesis.proofs.WireValues.{select_value}

abbrev pub at : List ℕ → ℕ → ℕ
at E r = get_or E r 0

-- references below n
abbrev pub Below : ℕ → List ℕ → Type 0
Below n [] = Unit {0}
Below n (v ∷ vs) = (v < n) × Below n vs

-- ---- wires one after another

pub worked_append : (sampled : ℕ) (E : List ℕ) (ws vs : List Wire) → worked sampled E (ws ++ vs) ≡ worked sampled (worked sampled E ws) vs
unfolding worked
worked_append sampled E [] vs = refl
worked_append sampled E (w ∷ ws) vs = worked_append sampled (E ++ (wire_value sampled (at E) w ∷ [])) ws vs

pub worked_nil : (sampled : ℕ) (E : List ℕ) → worked sampled E [] ≡ E
unfolding worked
worked_nil sampled E = refl

pub worked_cons : (sampled : ℕ) (E : List ℕ) (w : Wire) (ws : List Wire) (x : ℕ) → wire_value sampled (at E) w ≡ x → worked sampled E (w ∷ ws) ≡ worked sampled (E ++ (x ∷ [])) ws
unfolding worked
worked_cons sampled E w ws x e = ap (λ (y : ℕ). worked sampled (E ++ (y ∷ [])) ws) e

pub snoc_length : (E : List ℕ) (x : ℕ) → length (E ++ (x ∷ [])) ≡ suc (length E)
snoc_length E x = simp length-append (omega arith)

pub length_worked : (sampled : ℕ) (E : List ℕ) (ws : List Wire) → length (worked sampled E ws) ≡ length E + length ws
unfolding worked
length_worked sampled E [] = omega arith
length_worked sampled E (w ∷ ws) = omega (arith, length_worked sampled (E ++ (wire_value sampled (at E) w ∷ [])) ws, snoc_length E (wire_value sampled (at E) w))

-- E is the beginning of E'
abbrev pub Grows : List ℕ → List ℕ → Type 0
Grows E E' = (F : List ℕ) × (E' ≡ E ++ F)

pub grows_refl : (E : List ℕ) → Grows E E
grows_refl E = ([], sym (append-nil E))

pub grows_trans : (E F G : List ℕ) → Grows E F → Grows F G → Grows E G
grows_trans E F G a b = (a.0 ++ b.0, b.1 ∙ ap (λ (l : List ℕ). l ++ b.0) a.1 ∙ append_assoc E a.0 b.0)

pub worked_grows : (sampled : ℕ) (E : List ℕ) (ws : List Wire) → Grows E (worked sampled E ws)
unfolding worked
worked_grows sampled E [] = grows_refl E
worked_grows sampled E (w ∷ ws) =
    let F = E ++ (wire_value sampled (at E) w ∷ []) in
    grows_trans E F (worked sampled E (w ∷ ws)) (wire_value sampled (at E) w ∷ [], refl) (worked_grows sampled F ws)

pub wires_grow : (sampled : ℕ) (rs : List ℕ) (ws vs : List Wire) → Grows (worked sampled rs ws) (worked sampled rs (ws ++ vs))
wires_grow sampled rs ws vs = rw (worked_append sampled rs ws vs) (worked_grows sampled (worked sampled rs ws) vs)

-- ---- lists of references

pub below_mono : (n m : ℕ) (vs : List ℕ) → n ≤ m → Below n vs → Below m vs
below_mono n m [] h b = tt
below_mono n m (v ∷ vs) h b = (let k = b.0 in omega arith, below_mono n m vs h b.1)

pub below_set : (n : ℕ) (vs : List ℕ) (i a : ℕ) → Below n vs → a < n → Below n (set vs i a)
below_set n [] i a b h = tt
below_set n (v ∷ vs) zero a b h = (h, b.1)
below_set n (v ∷ vs) (suc i) a b h = (b.0, below_set n vs i a b.1 h)

pub below_up_from : (m n k : ℕ) → n + k ≤ m → Below m (up_from n k)
below_up_from m n zero h = tt
below_up_from m n (suc k) h = (omega arith, below_up_from m (suc n) k (omega arith))

-- references of E read in a longer environment what they read in E
pub map-append : (E F vs : List ℕ) → Below (length E) vs → map (at (E ++ F)) vs ≡ map (at E) vs
map-append E F [] b = refl
map-append E F (v ∷ vs) b = rw (get_or-append E F 0 v b.0, map-append E F vs b.1)

pub map_set : (f : ℕ → ℕ) (l : List ℕ) (i a : ℕ) → map f (set l i a) ≡ set (map f l) i (f a)
map_set f [] i a = refl
map_set f (x ∷ xs) zero a = refl
map_set f (x ∷ xs) (suc i) a = ap (λ (l : List ℕ). f x ∷ l) (map_set f xs i a)

pub get_or-map : (f : ℕ → ℕ) (l : List ℕ) (i : ℕ) → i < length l → get_or (map f l) i 0 ≡ f (get_or l i 0)
get_or-map f [] i h = omega arith
get_or-map f (x ∷ xs) zero h = refl
get_or-map f (x ∷ xs) (suc i) h = get_or-map f xs i (omega arith)

-- the references of what is put behind E read it
pub map-up_from : (E L : List ℕ) → map (at (E ++ L)) (up_from (length E) (length L)) ≡ L
map-up_from E [] = refl
map-up_from E (x ∷ L) =
    ap₂ (λ (a : ℕ) (l : List ℕ). a ∷ l) (get_or-append_seam E x L 0)
    (rw (append_snoc E x L, snoc_length E x) at (map-up_from (E ++ (x ∷ [])) L))

pub map_behind : (E : List ℕ) (x : ℕ) (L : List ℕ) (r : ℕ) → length L ≡ r → map (at (E ++ x ∷ L)) (up_from (suc (length E)) r) ≡ L
map_behind E x L r h = rw (← append_snoc E x L, ← snoc_length E x, ← h) (map-up_from (E ++ (x ∷ [])) L)

pub map_registers : (rs : List ℕ) (r : ℕ) → r ≤ length rs → map (at rs) (up_from 0 r) ≡ take r rs
map_registers rs r h =
    let e : length (take r rs) ≡ r = length-take-le r rs h in
    ap (λ (l : List ℕ). map (at l) (up_from 0 r)) (sym (take-append-drop r rs))
    ∙ map-append (take r rs) (drop r rs) (up_from 0 r) (below_up_from (length (take r rs)) 0 r (omega arith))
    ∙ (rw e at (map-up_from [] (take r rs)))

-- ---- selections: each reads only what stands before them all

choose_none : (f : ℕ → ℕ) (b : Bool) → map f (choose b [] []) ≡ []
choose_none f true = refl
choose_none f false = refl

choose_map : (f : ℕ → ℕ) (b : Bool) (v s : ℕ) (vs ss : List ℕ) → map f (choose b (v ∷ vs) (s ∷ ss)) ≡ choose b (f v) (f s) ∷ map f (choose b vs ss)
choose_map f true v s vs ss = refl
choose_map f false v s vs ss = refl

select_old : (sampled : ℕ) (E F : List ℕ) (t v s : ℕ) (b : Bool) → t < length E → v < length E → s < length E → at E t ≡ truth b
    → wire_value sampled (at (E ++ F)) (select_wire t v s) ≡ choose b (at E v) (at E s)
select_old sampled E F t v s b h k l p =
    select_value sampled (at (E ++ F)) t v s b (get_or-append E F 0 t h ∙ p)
    ∙ ap₂ (λ (x y : ℕ). choose b x y) (get_or-append E F 0 v k) (get_or-append E F 0 s l)

selects_behind : (sampled : ℕ) (E F : List ℕ) (t : ℕ) (b : Bool) (vs ss : List ℕ) → t < length E → at E t ≡ truth b → Below (length E) vs → Below (length E) ss
    → length vs ≡ length ss → worked sampled (E ++ F) (selects t vs ss) ≡ E ++ F ++ map (at E) (choose b vs ss)
selects_behind sampled E F t b [] [] h p k l e = worked_nil sampled (E ++ F) ∙ rw (choose_none (at E) b) (sym (append-nil (E ++ F)))
selects_behind sampled E F t b [] (s ∷ ss) h p k l e = absurd (omega arith)
selects_behind sampled E F t b (v ∷ vs) [] h p k l e = absurd (omega arith)
selects_behind sampled E F t b (v ∷ vs) (s ∷ ss) h p k l e =
    let x = choose b (at E v) (at E s) in
    worked_cons sampled (E ++ F) (select_wire t v s) (selects t vs ss) x (select_old sampled E F t v s b h k.0 l.0 p)
    ∙ rw (choose_map (at E) b v s vs ss, append_assoc E F (x ∷ [])) (selects_behind sampled E (F ++ (x ∷ [])) t b vs ss h p k.1 l.1 (omega arith)
    ∙ simp append_assoc)

-- a wire of value x and the selections
pub worked_selects : (sampled : ℕ) (E : List ℕ) (w : Wire) (x t : ℕ) (b : Bool) (vs ss : List ℕ) → wire_value sampled (at E) w ≡ x → t < length E → at E t ≡ truth b
    → Below (length E) vs → Below (length E) ss → length vs ≡ length ss
    → worked sampled E (w ∷ selects t vs ss) ≡ E ++ x ∷ map (at E) (choose b vs ss)
worked_selects sampled E w x t b vs ss e h p k l c =
    worked_cons sampled E w (selects t vs ss) x e ∙ selects_behind sampled E (x ∷ []) t b vs ss h p k l c ∙ append_snoc E x (map (at E) (choose b vs ss))
