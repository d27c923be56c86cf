-- Steps of the code on a state in the making: wires added one after another, a block that takes one step for each of a list. Assumes nothing.
use Prim.Native.Nat.{ℕ, ◌≤◌}
use native.Mathlib.Omega.{arith}
use mathlib.Core.Path.{◌≡◌, refl, sym, ap, subst, ◌∙◌}
use mathlib.Core.List.{List, [], ◌∷◌, ◌++◌}
use lib.ListN.{length, length-append}
use Rattle.fsmd.specs.declared.Wire.{Wire}
use Rattle.state.specs.declared.joins.BlockProgress.{BlockProgress}
use Rattle.state.specs.declared.wires.WireList.{WireList}
use Rattle.state.specs.Wires.{BlockBuild}
use Rattle.state.specs.Making.{wires_in, stored, appended, Room, Held}
use Rattle.state.specs.Steps.{SameWords, Adds, Becomes, values_of, block_in}
use Rattle.state.proofs.StoredWires.{length-wires_in, stored_none, appended_more}
use Rattle.state.proofs.Points.{held_by, held_count, held_on}

pub same_on : {a b c : WireList} → SameWords a b → SameWords b c → SameWords a c
same_on h k = record { lent = k.lent ∙ h.lent; registers = k.registers ∙ h.registers; long = k.long ∙ h.long }

pub same_self : (a : WireList) → SameWords a a
same_self a = record { lent = refl; registers = refl; long = refl }

pub adds_on : {ws vs : List Wire} {a b c : WireList} → Adds ws a b → Adds vs b c → Adds (ws ++ vs) a c
adds_on {ws} {vs} {a} {b} {c} h k =
    record {
      same = same_on h.same k.same;
      count = omega (arith, h.count, k.count, length-append ws vs);
      words = k.words ∙ ap (λ (l : List ℕ). appended b.count vs l) h.words
          ∙ ap (λ (n : ℕ). appended n vs (appended a.count ws a.words.now)) h.count
          ∙ appended_more a.count ws vs a.words.now;
    }

pub adds_same : {ws vs : List Wire} {a b : WireList} → ws ≡ vs → Adds ws a b → Adds vs a b
adds_same {ws} {vs} {a} {b} e h = subst (λ (l : List Wire). Adds l a b) e h

-- room for fewer wires, in as many words
pub room_le : (m n : ℕ) {t s : List ℕ} → m ≤ n → length s ≡ length t → Room n t → Room m s
room_le m n le e h = record { fits = omega (arith, h.fits); few = omega (arith, h.few) }

pub adds_room : {ws : List Wire} {a b : WireList} (m n : ℕ) → Adds ws a b → m ≤ n → Room n a.words.now → Room m b.words.now
adds_room m n h le room = room_le m n le h.same.long room

-- the block in the making is p, by its parts
pub becomes_by : (p : BlockBuild) (r : ℕ) (b : BlockProgress) (old new : WireList) (ws : List Wire) → Adds ws old new
    → b.registers ≡ r → b.arrival ≡ p.arrival → values_of b ≡ p.values → wires_in old.count old.words.now ++ ws ≡ p.wires → Becomes p r b old new
becomes_by p r b old new ws h er ea ev ew =
    record {
      same = h.same;
      registers = er;
      held = held_by p old.words.now b.arrival (values_of b) new.count new.words.now ea ev
          (omega (arith, h.count, length-append (wires_in old.count old.words.now) ws, length-wires_in old.count old.words.now, ap length ew))
          (h.words ∙ ap (λ (l : List Wire). stored l old.words.now) ew);
    }

-- ---- one step for each of a list

abbrev pub fold : {E : Type 0} → (E → BlockBuild → BlockBuild) → List E → BlockBuild → BlockBuild
fold step [] p = p
fold step (e ∷ es) p = fold step es (step e p)

-- a step takes no wire away
abbrev pub Grows : {E : Type 0} → (E → BlockBuild → BlockBuild) → Type 0
Grows {E} step = (e : E) (p : BlockBuild) → length p.wires ≤ length (step e p).wires

pub grow_fold : {E : Type 0} (step : E → BlockBuild → BlockBuild) → Grows step → (es : List E) (p : BlockBuild) → length p.wires ≤ length (fold step es p).wires
grow_fold step grow [] p = omega arith
grow_fold step grow (e ∷ es) p = omega (arith, grow e p, grow_fold step grow es (step e p))

-- the steps that are left lead to `final`, and past its wires the words are those of the start
pub record Walking {E : Type 0} (step : E → BlockBuild → BlockBuild) (es : List E) (final : BlockBuild) (r : ℕ) (old : WireList) (b : BlockProgress) (w : WireList) : Type 0 where
  pub same : SameWords old w
  pub registers : b.registers ≡ r
  pub grown : old.count ≤ w.count
  pub left : fold step es (block_in b w) ≡ final
  pub rest : w.words.now ≡ stored (wires_in w.count w.words.now) old.words.now

module _ {E : Type 0} (step : E → BlockBuild → BlockBuild) (grow : Grows step) where
  pub walk_start : (es : List E) (final : BlockBuild) (b : BlockProgress) (w : WireList) → fold step es (block_in b w) ≡ final → Room (length final.wires) w.words.now
      → Walking step es final b.registers w b w
  walk_start es final b w e room =
      let n = length-wires_in w.count w.words.now in
      let le = grow_fold step grow es (block_in b w) in
      record {
        same = same_self w;
        registers = refl;
        grown = omega arith;
        left = e;
        rest = sym (stored_none w.count w.words.now (omega (arith, ap (λ (p : BlockBuild). length p.wires) e, room.fits)));
      }

  module _ (e : E) (es : List E) (final : BlockBuild) (r : ℕ) (old : WireList) (b : BlockProgress) (w : WireList) (h : Walking step (e ∷ es) final r old b w) where
    -- a step's wires are among the final ones
    pub walk_room : Room (length final.wires) old.words.now → Room (length (step e (block_in b w)).wires) w.words.now
    walk_room room =
        room_le (length (step e (block_in b w)).wires) (length final.wires)
        (omega (arith, grow_fold step grow es (step e (block_in b w)), ap (λ (q : BlockBuild). length q.wires) h.left))
        h.same.long room

    pub walk_next : (b' : BlockProgress) (w' : WireList) → Becomes (step e (block_in b w)) b.registers b' w w' → Walking step es final r old b' w'
    walk_next b' w' k =
        let le : w.count ≤ w'.count = omega (arith, length-wires_in w.count w.words.now, grow e (block_in b w), held_count k.held) in
        let g : Held (block_in b w) old.words.now b.arrival (values_of b) w.count w.words.now = record { point = refl; rest = h.rest } in
        record {
          same = same_on h.same k.same;
          registers = k.registers ∙ h.registers;
          grown = omega (arith, h.grown);
          left = ap (fold step es) k.held.point ∙ h.left;
          rest = (held_on g le k.held).rest;
        }

  pub walk_done : (final : BlockBuild) (r : ℕ) (old : WireList) (b : BlockProgress) (w : WireList) → Walking step [] final r old b w → Becomes final r b old w
  walk_done final r old b w h = record { same = h.same; registers = h.registers; held = record { point = h.left; rest = h.rest } }
