-- The bounds of a cycle, wire by wire as the code works them out, and those of a table's state. Assumes nothing.
use Rattle.std.proofs.Common.{◌≡◌, ℕ, zero, suc, ◌+◌, ◌<◌, ◌≤◌, eqb, List, [], ◌∷◌, ◌++◌, map, length, get_or, take, drop, set, sym, ap, ◌∙◌, ap₂, add-one, arith, length-take-le, eq-eqb, ne_eqb}
use Rattle.std.proofs.lemmas.List.{map-append, take_more_set}
use lib.ListN.{get_or-eq_default}
use Rattle.word.specs.Word.{choose, set_code}
use Rattle.fsmd.specs.declared.Wire.{Wire}
use Rattle.fsmd.specs.Layout.{max_registers, record_offset, next_registers_offset}
use Rattle.fsmd.specs.Table.{machine_register_count, wire_at, state_at, first_wire_at, wire_count_at}
use Rattle.fsmd.proofs.Windows.{wires_from, wires_next, wires_end}
use Rattle.bounds.specs.declared.Range.{Range}
use Rattle.bounds.specs.Range.{exact, range_of}
use Rattle.bounds.proofs.RuleLaws.{range_literal}
use Rattle.bounds.specs.Bounds.{Bounds, range_at, first_bounds, with_range, wire_range, bounded, next_bounds}
use Rattle.bounds.specs.Operation.{bounds_after}
use Rattle.bounds.specs.Cycle.{bounds_of, Cycled}

-- a reference past the first n reads 0
pub read_past : (l : List ℕ) (n x : ℕ) → n ≤ length l → n ≤ x → get_or (take n l) x 0 ≡ 0
read_past l n x h k = get_or-eq_default (take n l) 0 {n = x} (let e = length-take-le n l h in omega arith)

-- ---- a wire

module _ (at : ℕ → Range) (w : Wire) where
  -- a set's literal
  pub range_set : w.code ≡ set_code → exact w.a ≡ wire_range at w
  unfolding wire_range
  range_set h =
      let first : choose (eqb w.code set_code) (exact w.a) (at w.a) ≡ exact w.a = rw (eq-eqb w.code set_code h) in
      sym (ap₂ (λ (k : ℕ) (r : Range). range_of k r (at w.b) (at w.c)) h first ∙ range_literal w.a (at w.b) (at w.c))

  -- any other code, where x, y and z are what its references read
  pub range_other : (x y z : Range) → x ≡ at w.a → y ≡ at w.b → z ≡ at w.c → (w.code ≡ set_code → ⊥) → range_of w.code x y z ≡ wire_range at w
  unfolding wire_range
  range_other x y z ex ey ez d =
      let first : choose (eqb w.code set_code) (exact w.a) (at w.a) ≡ at w.a = rw (ne_eqb w.code set_code d) in
      ap (λ (r : Range). range_of w.code r y z) (ex ∙ sym first)
      ∙ ap₂ (range_of w.code (choose (eqb w.code set_code) (exact w.a) (at w.a))) ey ez

-- ---- the ranges of the room, one after another

-- one range more
bounds_more : (rs : List Range) (i : ℕ) (r : Range) → i < length rs → bounds_of (take (i + 1) (set rs i r)) ≡ with_range (bounds_of (take i rs)) r
bounds_more rs i r h = ap bounds_of (take_more_set rs i r h) ∙ simp map-append

-- ---- the wires from `first` on, one after another

-- wire n of those from `first` on is worked out, after the ranges before it
pub bound_next : (t : List ℕ) (first count n : ℕ) (rs : List Range) (v : Range) → n < count → max_registers + n < length rs
    → v ≡ wire_range (range_at (bounds_of (take (max_registers + n) rs))) (wire_at t (first + n))
    → bounded (bounds_of (take (max_registers + n) rs)) (drop n (wires_from t first count))
    ≡ bounded (bounds_of (take (max_registers + (n + 1)) (set rs (max_registers + n) v))) (drop (n + 1) (wires_from t first count))
unfolding bounded
bound_next t first count n rs v h i e =
    let b = bounds_of (take (max_registers + n) rs) in
    let rest = drop (n + 1) (wires_from t first count) in
    let one : max_registers + (n + 1) ≡ max_registers + n + 1 = omega arith in
    ap (bounded b) (wires_next t first count n h)
    ∙ ap (λ (x : Range). bounded (with_range b x) rest) (sym e)
    ∙ ap (λ (c : Bounds). bounded c rest) (sym (bounds_more rs (max_registers + n) v i))
    ∙ ap (λ (j : ℕ). bounded (bounds_of (take j (set rs (max_registers + n) v))) rest) (sym one)

pub bound_done : (t : List ℕ) (first count n : ℕ) (e : Bounds) → count ≤ n → bounded e (drop n (wires_from t first count)) ≡ e
unfolding bounded
bound_done t first count n e h = rw (wires_end t first count n h)

-- ---- the next registers, word by word

-- f of one element more, put over the front of a buffer
put_suc : (f : ℕ → ℕ) (xs d : List ℕ) (i v : ℕ) → i < length xs → i < length d → v ≡ f (get_or xs i 0)
    → set (map f (take i xs) ++ drop i d) i v ≡ map f (take (suc i) xs) ++ drop (suc i) d
put_suc f [] d i v h k e = absurd (omega arith)
put_suc f (x ∷ xs) [] i v h k e = absurd (omega arith)
put_suc f (x ∷ xs) (y ∷ d) zero v h k e = ap (λ (w : ℕ). w ∷ d) e
put_suc f (x ∷ xs) (y ∷ d) (suc i) v h k e = ap (λ (l : List ℕ). f x ∷ l) (put_suc f xs d i v (omega arith) (omega arith) e)

pub put_more : (f : ℕ → ℕ) (xs d : List ℕ) (i v : ℕ) → i < length xs → i < length d → v ≡ f (get_or xs i 0)
    → set (map f (take i xs) ++ drop i d) i v ≡ map f (take (i + 1) xs) ++ drop (i + 1) d
put_more f xs d i v h k e = rw add-one (put_suc f xs d i v h k e)

-- ---- the cycle of state k, from the ranges f that its references read; `next` are the references of the next registers

pub cycled : (t : List ℕ) (k : ℕ) {first count at r : ℕ} → first ≡ first_wire_at t k → count ≡ wire_count_at t k → at ≡ record_offset k → r ≡ machine_register_count t
    → (ls hs : List ℕ) (f : Bounds) (next : List ℕ) {low high : List ℕ}
    → f ≡ bounded (first_bounds max_registers ls hs) (wires_from t first count)
    → next ≡ take r (drop (at + next_registers_offset) t) → length next ≡ r
    → low ≡ map (λ x. get_or f.lowest x 0) next ++ drop (length next) ls
    → high ≡ map (λ x. get_or f.highest x 0) next ++ drop (length next) hs
    → Cycled t k ls hs low high
unfolding bounds_after next_bounds state_at
cycled t k ef ec ea er ls hs f next eb en el low high = record { lowest = rw (low, el, en, eb, ef, ec, ea, er); highest = rw (high, el, en, eb, ef, ec, ea, er) }
