-- The selections of a join, register by register. Assumes nothing.
use Prim.Native.Nat.{ℕ, suc, ◌+◌, ◌≤◌, ◌<◌}
use native.Mathlib.Nat.{add_assoc}
use native.Mathlib.Numerals.{add-one}
use native.Mathlib.Omega.{arith}
use mathlib.Core.Path.{◌≡◌, refl, sym, ap, ◌∙◌}
use mathlib.Core.List.{List, [], ◌∷◌, ◌++◌, append_assoc}
use lib.ListN.{length, get_or, take, drop, set, length-append, length-set}
use lib.Seq.{take-suc, drop-cons, get_or_at, length-take-le, take_all}
use Rattle.runs.specs.Lists.{up_from}
use Rattle.runs.proofs.ListLaws.{length-up_from}
use Rattle.fsmd.specs.declared.Wire.{Wire}
use Rattle.fsmd.specs.Layout.{max_registers}
use Rattle.state.specs.Wires.{select_wire, selects}
use Rattle.state.specs.Making.{wires_in, stored, appended, Room}
use Rattle.state.proofs.Counting.{counted_more, counted_all}
use Rattle.state.proofs.StoredWires.{length-wires_in, length_stored, stored_more, appended_none}

pub length_selects : (t : ℕ) (vs ss : List ℕ) → length vs ≡ length ss → length (selects t vs ss) ≡ length vs
length_selects t [] ss h = refl
length_selects t (v ∷ vs) [] h = omega arith
length_selects t (v ∷ vs) (s ∷ ss) h = ap suc (length_selects t vs ss (omega arith))

pub selects_short : (t : ℕ) (vs ss : List ℕ) → length (selects t vs ss) ≤ length vs
selects_short t [] ss = omega arith
selects_short t (v ∷ vs) [] = omega arith
selects_short t (v ∷ vs) (s ∷ ss) = omega (arith, selects_short t vs ss)

selects_more : (t v s : ℕ) (vs ss : List ℕ) → length vs ≡ length ss → selects t (vs ++ (v ∷ [])) (ss ++ (s ∷ [])) ≡ selects t vs ss ++ (select_wire t v s ∷ [])
selects_more t v s [] [] h = refl
selects_more t v s [] (x ∷ ss) h = absurd (omega arith)
selects_more t v s (x ∷ vs) [] h = absurd (omega arith)
selects_more t v s (x ∷ vs) (y ∷ ss) h = ap (λ (r : List Wire). select_wire t x y ∷ r) (selects_more t v s vs ss (omega arith))

-- the first r registers are selected
pub record Selected (t₀ : List ℕ) (at taken : ℕ) (source values₀ t values : List ℕ) (r : ℕ) : Type 0 where
  pub small : r ≤ length values₀
  pub sized : length values ≡ length values₀
  pub kept : length t ≡ length t₀
  pub table : t ≡ appended at (selects taken (take r source) (take r values₀)) t₀
  pub filled : values ≡ up_from (max_registers + at) r ++ drop r values₀

module _ (t₀ : List ℕ) (at taken : ℕ) (source values₀ : List ℕ) (same : length source ≡ length values₀) (room : Room (at + length values₀) t₀) where
  pub selected_none : Selected t₀ at taken source values₀ t₀ values₀ 0
  selected_none =
      record {
        small = omega arith;
        sized = refl;
        kept = refl;
        table = sym (appended_none at t₀ (omega arith));
        filled = refl;
      }

  module _ (t values : List ℕ) (r : ℕ) (h : Selected t₀ at taken source values₀ t values r) where
    -- the register's value so far is the one at the start
    pub selected_value : r < length values₀ → get_or values r 0 ≡ get_or values₀ r 0
    selected_value lt =
        ap (λ (l : List ℕ). get_or l r 0) (h.filled ∙ ap (λ (l : List ℕ). up_from (max_registers + at) r ++ l) (drop-cons values₀ r 0 lt))
        ∙ get_or_at (up_from (max_registers + at) r) (get_or values₀ r 0) (drop (suc r) values₀) 0 r (length-up_from (max_registers + at) r)

    pub selected_more : (w : Wire) (t₁ : List ℕ) (v : ℕ) → r < length values₀ → w ≡ select_wire taken (get_or source r 0) (get_or values r 0)
        → t₁ ≡ appended (at + r) (w ∷ []) t → v ≡ max_registers + (at + r) → Selected t₀ at taken source values₀ t₁ (set values r v) (r + 1)
    selected_more w t₁ v lt ew et ev =
        let front = selects taken (take r source) (take r values₀) in
        let e : length (wires_in at t₀ ++ front) ≡ at + r =
        omega (arith, length-append (wires_in at t₀) front, length-wires_in at t₀, length_selects taken (take r source) (take r values₀) (length-take-le r source (omega arith) ∙ sym (length-take-le r values₀ (omega arith))), length-take-le r source (omega arith)) in
        let s : selects taken (take (suc r) source) (take (suc r) values₀) ≡ front ++ (w ∷ []) =
        rw (take-suc source r 0 (omega arith), take-suc values₀ r 0 lt, ew, selected_value lt)
        (selects_more taken (get_or source r 0) (get_or values₀ r 0) (take r source) (take r values₀) (length-take-le r source (omega arith) ∙ sym (length-take-le r values₀ (omega arith)))) in
        let tb : t₁ ≡ appended at (front ++ (w ∷ [])) t₀ =
        et
        ∙ ap (λ (l : List ℕ). appended (at + r) (w ∷ []) l) h.table
        ∙ ap (λ (n : ℕ). appended n (w ∷ []) (stored (wires_in at t₀ ++ front) t₀)) (sym e)
        ∙ stored_more (wires_in at t₀ ++ front) (w ∷ []) t₀
        ∙ ap (λ (l : List Wire). stored l t₀) (append_assoc (wires_in at t₀) front (w ∷ [])) in
        record {
          small = omega arith;
          sized = length-set values r v ∙ h.sized;
          kept = ap length tb ∙ length_stored (wires_in at t₀ ++ (front ++ (w ∷ []))) t₀ (omega (arith, length-append (wires_in at t₀) (front ++ (w ∷ [])), length-append front (w ∷ []), e, length-append (wires_in at t₀) front));
          table = rw (add-one r) (rw s tb);
          filled = rw (add-one r)
              (ap (λ (l : List ℕ). set l r v) h.filled
              ∙ ap (set (up_from (max_registers + at) r ++ drop r values₀) r) (ev ∙ sym (add_assoc max_registers at r))
              ∙ counted_more (max_registers + at) r values₀ lt);
        }

    pub selected_table : length values₀ ≤ r → t ≡ appended at (selects taken source values₀) t₀
    selected_table le =
        h.table
        ∙ ap (λ (l : List ℕ). appended at (selects taken l (take r values₀)) t₀) (take_all r source (omega arith))
        ∙ ap (λ (l : List ℕ). appended at (selects taken source l) t₀) (take_all r values₀ le)

    pub selected_values : length values₀ ≤ r → values ≡ up_from (max_registers + at) (length source)
    selected_values le =
        let e : r ≡ length source = omega arith in
        h.filled ∙ counted_all (max_registers + at) r values₀ le ∙ ap (up_from (max_registers + at)) e
