-- What the code holds of a block in the making, carried from step to step. Assumes nothing.
use Prim.Native.Nat.{ℕ, ◌≤◌}
use native.Mathlib.Omega.{arith}
use mathlib.Core.Path.{◌≡◌, sym, ap, ◌∙◌}
use mathlib.Core.List.{List}
use lib.ListN.{length}
use Rattle.fsmd.specs.declared.Wire.{Wire}
use Rattle.state.specs.Wires.{BlockBuild}
use Rattle.state.specs.Making.{wires_in, stored, block_build_in, Held}
use Rattle.state.proofs.StoredWires.{length-wires_in, wires_in_stored, stored_again}

module _ {p : BlockBuild} {t₀ : List ℕ} {a : ℕ} {v : List ℕ} {n : ℕ} {t : List ℕ} (h : Held p t₀ a v n t) where
  pub held_wires : wires_in n t ≡ p.wires
  held_wires = ap (λ (q : BlockBuild). q.wires) h.point

  pub held_count : n ≡ length p.wires
  held_count = sym (length-wires_in n t) ∙ ap length held_wires

  -- another step after it
  pub held_on : {q : BlockBuild} {a' : ℕ} {v' : List ℕ} {n' : ℕ} {t' : List ℕ} → n ≤ n' → Held q t a' v' n' t' → Held q t₀ a' v' n' t'
  held_on {n' = n'} {t' = t'} le k =
      record {
        point = k.point;
        rest = k.rest
            ∙ ap (stored (wires_in n' t')) h.rest
            ∙ stored_again (wires_in n t) (wires_in n' t') t₀ (omega (arith, length-wires_in n t, length-wires_in n' t'));
      }

pub held_by : (p : BlockBuild) (t₀ : List ℕ) (a : ℕ) (v : List ℕ) (n : ℕ) (t : List ℕ)
    → a ≡ p.arrival → v ≡ p.values → n ≡ length p.wires → t ≡ stored p.wires t₀ → Held p t₀ a v n t
held_by p t₀ a v n t ea ev en et =
    let w : wires_in n t ≡ p.wires = ap (λ (k : ℕ). wires_in k t) en ∙ ap (wires_in (length p.wires)) et ∙ wires_in_stored p.wires t₀ in
    record {
      point = ap (λ (x : ℕ). block_build_in x v n t) ea
          ∙ ap (λ (x : List ℕ). block_build_in p.arrival x n t) ev
          ∙ ap (λ (x : List Wire). record { arrival = p.arrival; values = p.values; wires = x }) w;
      rest = et ∙ ap (λ (x : List Wire). stored x t₀) (sym w);
    }
