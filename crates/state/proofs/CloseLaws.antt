-- A block's ending as the code makes its wires and edges. Assumes nothing.
use Prim.Native.Nat.{ℕ, ◌+◌, ◌*◌, ◌≤◌}
use native.Mathlib.Omega.{arith}
use mathlib.Core.Path.{◌≡◌, refl, sym, ap, subst, ◌∙◌}
use mathlib.Core.List.{List, [], ◌∷◌, ◌++◌, append_assoc, append-nil}
use lib.ListN.{length, get_or, length-append}
use Rattle.word.specs.Word.{comparison_code}
use Rattle.cfg.specs.declared.Condition.{Condition}
use Rattle.cfg.specs.declared.Ending.{Ending}
use Rattle.cfg.specs.declared.Ending.TheVariants.{Goto, Ite, Halt}
use Rattle.fsmd.specs.declared.Wire.{Wire}
use Rattle.fsmd.specs.Layout.{max_registers, wire_words}
use Rattle.state.specs.declared.edges.Target.TheVariants as Target
use Rattle.state.specs.declared.edges.EdgeEntry.{EdgeEntry}
use Rattle.state.specs.declared.edges.Edges.{Edges}
use Rattle.state.specs.declared.joins.BlockProgress.{BlockProgress}
use Rattle.state.specs.declared.wires.WireList.{WireList}
use Rattle.state.specs.Wires.{wire, and_wire, and_not_wire, Edge, BlockBuild, StateBuild, close, after}
use Rattle.state.specs.Making.{wires_in, stored, Room}
use Rattle.state.specs.EdgeList.{edge_of, pending}
use Rattle.state.specs.Steps.{Adds, Grown, values_of, block_in}
use Rattle.state.proofs.StoredWires.{length-wires_in, wires_in_stored, appended_none}
use Rattle.state.proofs.StepLaws.{same_self, room_le}

-- the state in the making is b, by its parts
pub grown_by : (b : StateBuild) (es : Edges) (old new : WireList) (ws : List Wire) → Adds ws old new → pending old.registers es ≡ b.edges
    → wires_in old.count old.words.now ++ ws ≡ b.wires → Grown b es old new
grown_by b es old new ws h ee ew =
    let k : new.count ≡ length b.wires =
    omega (arith, h.count, length-append (wires_in old.count old.words.now) ws, length-wires_in old.count old.words.now, ap length ew) in
    let t : new.words.now ≡ stored b.wires old.words.now = h.words ∙ ap (λ (l : List Wire). stored l old.words.now) ew in
    let w : wires_in new.count new.words.now ≡ b.wires =
    ap (λ (m : ℕ). wires_in m new.words.now) k ∙ ap (wires_in (length b.wires)) t ∙ wires_in_stored b.wires old.words.now in
    record {
      same = h.same;
      build = ap (λ (es : List Edge). record { wires = wires_in new.count new.words.now; edges = es }) ee ∙ ap (λ (ws : List Wire). record { wires = ws; edges = b.edges }) w;
      rest = t ∙ ap (λ (ws : List Wire). stored ws old.words.now) (sym w);
    }

-- no wire more
pub adds_none : (w : WireList) → wire_words * w.count ≤ length w.words.now → Adds [] w w
adds_none w h = record { same = same_self w; count = omega arith; words = sym (appended_none w.count w.words.now h) }

pub grow_close : (e : Ending) (p : BlockBuild) → length p.wires ≤ length (close e p).wires
unfolding close
grow_close (Goto t) p = omega arith
grow_close (Ite c t f) p = rw (close, length-append) (omega arith)
grow_close Halt p = omega arith

module _ (b : BlockProgress) (w : WireList) (es es' : Edges) (same : b.registers ≡ w.registers) where
  abbrev P : BlockBuild
  P = block_in b w

  abbrev So : List Edge
  So = pending w.registers es

  as_many : (new : List Edge) → pending b.registers es' ≡ pending b.registers es ++ new → pending w.registers es' ≡ So ++ new
  as_many new h = subst (λ (n : ℕ). pending n es' ≡ pending n es ++ new) same h

  fits : (e : Ending) → Room (length (close e P).wires) w.words.now → wire_words * w.count ≤ length w.words.now
  fits e h = omega (arith, h.fits, grow_close e P, length-wires_in w.count w.words.now)

  pub close_goto : (e : Ending) (y : ℕ) (o : EdgeEntry) → e ≡ Goto y → Room (length (close e P).wires) w.words.now
      → o ≡ record { target = Target.Block y; taken = b.arrival; values = b.values } → pending b.registers es' ≡ pending b.registers es ++ (edge_of b.registers o ∷ [])
      → Grown (after So (close e P)) es' w w
  unfolding close after
  close_goto e y o ee room eo ep =
      let h = adds_none w (fits e room) in
      rw ee
      (grown_by (after So (close (Goto y) P)) es' w w [] h (as_many _ (ep ∙ ap (λ (q : EdgeEntry). pending b.registers es ++ (edge_of b.registers q ∷ [])) eo)) (append-nil (wires_in w.count w.words.now)))

  pub close_halt : (e : Ending) (o : EdgeEntry) → e ≡ Halt → Room (length (close e P).wires) w.words.now
      → o ≡ record { target = Target.Halt; taken = b.arrival; values = b.values } → pending b.registers es' ≡ pending b.registers es ++ (edge_of b.registers o ∷ [])
      → Grown (after So (close e P)) es' w w
  unfolding close after
  close_halt e o ee room eo ep =
      let h = adds_none w (fits e room) in
      rw ee
      (grown_by (after So (close Halt P)) es' w w [] h (as_many _ (ep ∙ ap (λ (q : EdgeEntry). pending b.registers es ++ (edge_of b.registers q ∷ [])) eo)) (append-nil (wires_in w.count w.words.now)))

  abbrev pub three : Condition → List Wire
  three c =
      wire (comparison_code c.comparison) (get_or (values_of b) c.a 0) (get_or (values_of b) c.b 0) 0
      ∷ and_wire b.arrival (max_registers + w.count)
      ∷ and_not_wire b.arrival (max_registers + w.count)
      ∷ []

  pub ite_room : (e : Ending) (c : Condition) (y f : ℕ) → e ≡ Ite c y f → Room (length (close e P).wires) w.words.now → Room (w.count + 3) w.words.now
  unfolding close
  ite_room e c y f ee h =
      let l : length (close e P).wires ≡ w.count + 3 = rw (ee, close, length-append) (omega (arith, length-wires_in w.count w.words.now)) in
      room_le (w.count + 3) (length (close e P).wires) (omega arith) refl h

  pub close_ite : (e : Ending) (c : Condition) (y f : ℕ) (w' : WireList) (es₁ : Edges) (holds fails : ℕ) (o o' : EdgeEntry) → e ≡ Ite c y f → Adds (three c) w w'
      → holds ≡ 1 + (max_registers + w.count) → fails ≡ 2 + (max_registers + w.count)
      → o ≡ record { target = Target.Block y; taken = holds; values = b.values } → pending b.registers es₁ ≡ pending b.registers es ++ (edge_of b.registers o ∷ [])
      → o' ≡ record { target = Target.Block f; taken = fails; values = b.values } → pending b.registers es' ≡ pending b.registers es₁ ++ (edge_of b.registers o' ∷ [])
      → Grown (after So (close e P)) es' w w'
  unfolding close after
  close_ite e c y f w' es₁ holds fails o o' ee h ey en eo ep eo' ep' =
      let l = length-wires_in w.count w.words.now in
      rw ee
      (grown_by (after So (close (Ite c y f) P)) es' w w' (three c) h
      (as_many _
      (ep' ∙ ap (λ (q : List Edge). q ++ (edge_of b.registers o' ∷ [])) ep
      ∙ append_assoc (pending b.registers es) (edge_of b.registers o ∷ []) (edge_of b.registers o' ∷ [])
      ∙ rw (eo, eo', ey, en, l) refl))
      (rw l refl))
