-- Parts of a table, element by element: words from an index on, and the wires of a state. Assumes nothing.
use Prim.Native.Nat.{ℕ, zero, suc, ◌+◌, ◌<◌, ◌≤◌}
use native.Mathlib.Numerals.{add-one}
use native.Mathlib.Omega.{arith}
use mathlib.Core.Bool.{Bool, true, false, ◌&&◌}
use mathlib.Core.List.{List, [], ◌∷◌, ◌++◌, map}
use mathlib.Core.Path.{◌≡◌, refl, sym, ap, ◌∙◌}
use lib.ListN
use lib.ListN.{length, get_or, take, drop, set, length-drop, length-map, drop_of_length-le}
use lib.Seq.{drop-cons, length-take-le, take_all, get_or-take, get_or-drop}
use Rattle.runs.proofs.ListLaws.{length-up_from, get_or-up_from, get_or-map, copied_more}
use Rattle.runs.proofs.Sets.{get_or-any}
use Rattle.runs.specs.Lists.{up_from, every}
use Rattle.fsmd.specs.Table.{wire_at, valid_wire, valid_wires}
use Rattle.fsmd.specs.declared.Wire.{Wire}

-- ---- n words from an index on

module _ (t : List ℕ) (at n : ℕ) where
  pub window_length : at + n ≤ length t → length (take n (drop at t)) ≡ n
  window_length h = length-take-le n (drop at t) (rw length-drop (omega arith))

  pub window_at : (i : ℕ) → i < n → get_or (take n (drop at t)) i 0 ≡ get_or t (at + i) 0
  window_at i h = get_or-take n (drop at t) i 0 h ∙ get_or-drop at t i 0

  -- with any other word for what is past the end
  pub window_any : (i d : ℕ) → i < n → at + n ≤ length t → get_or (take n (drop at t)) i d ≡ get_or t (at + i) 0
  window_any i d h room = get_or-any (take n (drop at t)) i d 0 (rw (window_length room) h) ∙ window_at i h

-- f of each of these words, put over the front of a list one after another
module _ (t : List ℕ) (at n : ℕ) (room : at + n ≤ length t) (f : ℕ → ℕ) where
  put_length : length (map f (take n (drop at t))) ≡ n
  put_length = length-map (take n (drop at t)) f ∙ window_length t at n room

  pub put_all : (d : List ℕ) (i : ℕ) → i ≡ n → take i (map f (take n (drop at t))) ++ drop i d ≡ map f (take n (drop at t)) ++ drop n d
  put_all d i e = let m = put_length in rw (e, take_all n (map f (take n (drop at t))) (omega arith))

  pub put_more : (d : List ℕ) (i v : ℕ) → i < n → n ≤ length d → v ≡ f (get_or t (at + i) 0)
      → set (take i (map f (take n (drop at t))) ++ drop i d) i v ≡ take (i + 1) (map f (take n (drop at t))) ++ drop (i + 1) d
  put_more d i v h k e =
      let l = window_length t at n room in
      let m = put_length in
      ap (set (take i (map f (take n (drop at t))) ++ drop i d) i) (e ∙ ap f (sym (window_at t at n i h)) ∙ sym (get_or-map f (take n (drop at t)) i 0 0 (omega arith)))
      ∙ copied_more d (map f (take n (drop at t))) i (omega arith) (omega arith)

-- ---- the wires from a first one on

module _ (t : List ℕ) (first count : ℕ) where
  abbrev pub wires_from : List Wire
  wires_from = map (wire_at t) (up_from first count)

  pub wires_length : length wires_from ≡ count
  wires_length = length-map (up_from first count) (wire_at t) ∙ length-up_from first count

  pub wires_next : (n : ℕ) → n < count → drop n wires_from ≡ wire_at t (first + n) ∷ drop (n + 1) wires_from
  wires_next n h =
      rw (add-one n)
      (drop-cons wires_from n (wire_at t 0) (rw wires_length h)
      ∙ ap (λ (w : Wire). w ∷ drop (suc n) wires_from) (ListN.get_or-map (wire_at t) (up_from first count) n 0 ∙ ap (wire_at t) (get_or-up_from first count n 0 h)))

  pub wires_end : (n : ℕ) → count ≤ n → drop n wires_from ≡ []
  wires_end n h = drop_of_length-le wires_from {i = n} (rw wires_length h)

  -- a loop's pass over the wires: wire n decides, or the rest does
  module _ (r n : ℕ) where
    pub wires_fail : n < count → valid_wire r n (wire_at t (first + n)) ≡ false → valid_wires r n (drop n wires_from) ≡ false
    unfolding valid_wires
    wires_fail h e = rw (wires_next n h, e)

    pub wires_pass : n < count → valid_wire r n (wire_at t (first + n)) ≡ true → valid_wires r n (drop n wires_from) ≡ valid_wires r (n + 1) (drop (n + 1) wires_from)
    unfolding valid_wires
    wires_pass h e = ap (valid_wires r n) (wires_next n h) ∙ rw (e, add-one n)

    -- so where the rest is valid, wire n is
    pub wire_valid : n < count → valid_wires r n (drop n wires_from) ≡ true → valid_wire r n (wire_at t (first + n)) ≡ true
    wire_valid h e = go (valid_wire r n (wire_at t (first + n))) refl
      where
        go : (b : Bool) → valid_wire r n (wire_at t (first + n)) ≡ b → b ≡ true
        go true q = refl
        go false q = sym (wires_fail h q) ∙ e

-- the wires from wire n on, each tested by its number
tested_from : (t : List ℕ) (r first n count : ℕ) → valid_wires r n (map (wire_at t) (up_from (first + n) count)) ≡ every (λ i. valid_wire r i (wire_at t (first + i))) (up_from n count)
unfolding valid_wires
tested_from t r first n zero = refl
tested_from t r first n (suc c) =
    ap (λ (b : Bool). valid_wire r n (wire_at t (first + n)) && b)
    (ap (λ (m : ℕ). valid_wires r (suc n) (map (wire_at t) (up_from m c))) (omega arith) ∙ tested_from t r first (suc n) c)

pub wires_tested : (t : List ℕ) (r first count : ℕ) → every (λ i. valid_wire r i (wire_at t (first + i))) (up_from 0 count) ≡ valid_wires r 0 (wires_from t first count)
wires_tested t r first count =
    let e : first + 0 ≡ first = omega arith in
    sym (tested_from t r first 0 count) ∙ ap (λ (m : ℕ). valid_wires r 0 (wires_from t m count)) e

-- the wires from a first one on, each tested by itself
each_from : (t : List ℕ) (p : Wire → Bool) (first n count : ℕ) → every (λ i. p (wire_at t (first + i))) (up_from n count) ≡ every p (map (wire_at t) (up_from (first + n) count))
each_from t p first n zero = refl
each_from t p first n (suc c) =
    ap (λ (b : Bool). p (wire_at t (first + n)) && b) (each_from t p first (suc n) c ∙ ap (λ (m : ℕ). every p (map (wire_at t) (up_from m c))) (omega arith))

pub every_wire : (t : List ℕ) (p : Wire → Bool) (first count : ℕ) → every (λ i. p (wire_at t (first + i))) (up_from 0 count) ≡ every p (wires_from t first count)
every_wire t p first count =
    let e : first + 0 ≡ first = omega arith in
    each_from t p first 0 count ∙ ap (λ (m : ℕ). every p (wires_from t m count)) e
