-- Exits as the code makes them, one after another. Assumes nothing.
use Prim.Native.Nat.{ℕ, ◌+◌, ◌-◌, ◌*◌, ◌≤◌}
use native.Mathlib.Omega.{arith}
use mathlib.Core.Path.{◌≡◌, refl, sym, ap, subst, ◌∙◌}
use mathlib.Core.List.{List, [], ◌∷◌, ◌++◌}
use lib.ListN.{length, get_or, take, drop, length-append}
use lib.Seq.{length-take-le}
use Rattle.std.specs.Prelude.{Some, None}
use Rattle.std.specs.List.{position}
use Rattle.runs.specs.Lists.{up_from}
use Rattle.fsmd.specs.declared.Wire.{Wire}
use Rattle.fsmd.specs.Layout.{max_registers, wire_words}
use Rattle.grouping.specs.Grouping.{Groups}
use Rattle.state.specs.declared.edges.Target.TheVariants.{Halt}
use Rattle.state.specs.declared.edges.EdgeEntry.{EdgeEntry}
use Rattle.state.specs.declared.edges.Edges.{Edges}
use Rattle.state.specs.declared.joins.BlockProgress.{BlockProgress}
use Rattle.state.specs.declared.wires.WireList.{WireList}
use Rattle.state.specs.Wires.{set_wire, select_wire, selects, fresh, Edge, BlockBuild, exit, exits, close_state, leaves, next_state_of, towards}
use Rattle.state.specs.Making.{wires_in, Room, Held}
use Rattle.state.specs.EdgeList.{place_of, edge_of, entries, passes, leading, pending}
use Rattle.state.specs.Steps.{Adds, Becomes, values_of, block_in}
use Rattle.state.proofs.StoredWires.{length-wires_in, stored_none}
use Rattle.state.proofs.Points.{held_count, held_on}
use Rattle.state.proofs.Selections.{length_selects}
use Rattle.state.proofs.StepLaws.{adds_on, becomes_by, room_le, fold, grow_fold}
use Rattle.state.proofs.EdgeLaws.{towards_pending, leading_found, leading_not_found}
use Rattle.state.proofs.EnterLaws.{slice_all}

abbrev pub no_entry : EdgeEntry
no_entry = record { target = Halt; taken = 0; values = [] }

module _ (s : Groups) where
  -- ---- one exit

  pub length_exit : (e : Edge) (p : BlockBuild) → length e.values ≡ length p.values → length (exit s e p).wires ≡ length p.wires + 2 + length p.values
  unfolding exit
  length_exit e p h =
      omega (arith, length-append p.wires (set_wire (next_state_of s e.target) ∷ select_wire e.taken (max_registers + length p.wires) p.arrival ∷ selects e.taken e.values p.values), length_selects e.taken e.values p.values h)

  pub grow_exit : (e : Edge) (p : BlockBuild) → length p.wires ≤ length (exit s e p).wires
  unfolding exit
  grow_exit e p =
      omega (arith, length-append p.wires (set_wire (next_state_of s e.target) ∷ select_wire e.taken (max_registers + length p.wires) p.arrival ∷ selects e.taken e.values p.values))

  pub exit_room : (b : BlockProgress) (w : WireList) (e : EdgeEntry) → length b.values ≡ max_registers → length e.values ≡ max_registers
      → Room (length (exit s (edge_of b.registers e) (block_in b w)).wires) w.words.now → Room (w.count + 2 + b.registers) w.words.now
  exit_room b w e lb le h =
      let v : length (values_of b) ≡ b.registers = length-take-le b.registers b.values (omega (arith, b.few)) in
      room_le (w.count + 2 + b.registers) (length (exit s (edge_of b.registers e) (block_in b w)).wires)
      (omega (arith, length_exit (edge_of b.registers e) (block_in b w) (length-take-le b.registers e.values (omega (arith, b.few)) ∙ sym v), v, length-wires_in w.count w.words.now))
      refl h

  pub exit_becomes : (b b' : BlockProgress) (e : EdgeEntry) (w w₁ w₂ w₃ : WireList) (k : ℕ) (u v : Wire) (ref ref' : ℕ) → length e.values ≡ max_registers
      → k ≡ next_state_of s (place_of e.target) → u ≡ set_wire k → Adds (u ∷ []) w w₁ → ref ≡ max_registers + w.count
      → v ≡ select_wire e.taken ref b.arrival → Adds (v ∷ []) w₁ w₂ → ref' ≡ max_registers + w₁.count
      → Adds (selects e.taken (take b.registers e.values) (values_of b)) w₂ w₃
      → b'.arrival ≡ ref' → b'.registers ≡ b.registers → values_of b' ≡ up_from (max_registers + w₂.count) b.registers
      → Becomes (exit s (edge_of b.registers e) (block_in b w)) b.registers b' w w₃
  unfolding exit
  exit_becomes b b' e w w₁ w₂ w₃ k u v ref ref' le ek eu h er ev h' er' h'' ea eb es =
      let n = length-wires_in w.count w.words.now in
      let l : length (take b.registers e.values) ≡ b.registers = length-take-le b.registers e.values (omega (arith, b.few)) in
      let q = selects e.taken (take b.registers e.values) (values_of b) in
      becomes_by (exit s (edge_of b.registers e) (block_in b w)) b.registers b' w w₃ (u ∷ v ∷ q) (adds_on (adds_on h h') h'')
      eb
      (omega (arith, ea, er', h.count, n))
      (es ∙ ap (λ (m : ℕ). up_from m b.registers) (omega (arith, h.count, h'.count, n)) ∙ ap (up_from (2 + (max_registers + length (wires_in w.count w.words.now)))) (sym l))
      (rw (eu, ev, ek, er, n) refl)

  -- ---- exits one after another

  pub exits_fold : (es : List Edge) (p : BlockBuild) → exits s es p ≡ fold (exit s) es p
  unfolding exits
  exits_fold [] p = refl
  exits_fold (e ∷ es) p = exits_fold es (exit s e p)

  pub grow_exits : (es : List Edge) (p : BlockBuild) → length p.wires ≤ length (exits s es p).wires
  grow_exits es p = rw (exits_fold es p) (grow_fold (exit s) grow_exit es p)

  pub grow_close_state : (es : List Edge) (ws : List Wire) → length ws ≤ length (close_state s es ws).wires
  unfolding close_state
  grow_close_state [] ws = omega arith
  grow_close_state (e ∷ es) ws =
      let w = set_wire (next_state_of s e.target) ∷ [] in
      omega (arith, length-append ws w, grow_exits es (record { arrival = fresh ws; values = e.values; wires = ws ++ w }))

  -- the first exit
  abbrev pub First : ℕ → EdgeEntry → WireList → BlockBuild
  First r e w = close_state s (edge_of r e ∷ []) (wires_in w.count w.words.now)

  pub first_becomes : (r : ℕ) (b : BlockProgress) (e : EdgeEntry) (w w₁ : WireList) (k : ℕ) (u : Wire) → k ≡ next_state_of s (place_of e.target) → u ≡ set_wire k → Adds (u ∷ []) w w₁
      → b.arrival ≡ max_registers + w.count → b.registers ≡ r → values_of b ≡ take r e.values → Becomes (First r e w) r b w w₁
  unfolding close_state exits
  first_becomes r b e w w₁ k u ek eu h ea eb es =
      becomes_by (First r e w) r b w w₁ (u ∷ []) h eb (ea ∙ ap (λ (m : ℕ). max_registers + m) (sym (length-wires_in w.count w.words.now))) es (rw (eu, ek) refl)

  pub first_length : (r : ℕ) (e : EdgeEntry) (w : WireList) → length (First r e w).wires ≡ w.count + 1
  unfolding close_state exits
  first_length r e w =
      omega (arith, length-append (wires_in w.count w.words.now) (set_wire (next_state_of s (place_of e.target)) ∷ []), length-wires_in w.count w.words.now)

  -- ---- the whole

  module _ (r : ℕ) (es : Edges) (w : WireList) where
    abbrev pub Whole : BlockBuild
    Whole = close_state s (towards (leaves s) (pending r es)) (wires_in w.count w.words.now)

    pub leave_none : None ≡ position (passes (leaves s)) (entries es) → Room (length Whole.wires) w.words.now → Held Whole w.words.now 0 [] w.count w.words.now
    unfolding close_state
    leave_none h room =
        let fits : wire_words * w.count ≤ length w.words.now = omega (arith, room.fits, grow_close_state (towards (leaves s) (pending r es)) (wires_in w.count w.words.now), length-wires_in w.count w.words.now) in
        rw (towards_pending r (leaves s) es ∙ leading_not_found r (leaves s) (entries es) h) (record { point = refl; rest = sym (stored_none w.count w.words.now fits) })

    -- a first exit, and further ones as the code slices them
    module _ (l : List EdgeEntry) (el : l ≡ entries es) (i : ℕ) (d : EdgeEntry) (h : Some i ≡ position (passes (leaves s)) (entries es)) where
      pub leave_some : Whole ≡ exits s (leading r (leaves s) (take (length l - (i + 1)) (drop (i + 1) l))) (First r (get_or l i d) w)
      unfolding close_state exits
      leave_some =
          rw (slice_all l (i + 1), el)
          (ap (λ (q : List Edge). close_state s q (wires_in w.count w.words.now)) (towards_pending r (leaves s) es ∙ (leading_found r (leaves s) (entries es) i d h).1))

      pub leave_fits : Room (length Whole.wires) w.words.now → Room (w.count + 1) w.words.now
      leave_fits room =
          room_le (w.count + 1) (length Whole.wires)
          (omega (arith, ap (λ (p : BlockBuild). length p.wires) leave_some, first_length r (get_or l i d) w, grow_exits (leading r (leaves s) (take (length l - (i + 1)) (drop (i + 1) l))) (First r (get_or l i d) w)))
          refl room

      module _ (b : BlockProgress) (w₁ : WireList) (k : Becomes (First r (get_or l i d) w) r b w w₁) where
        abbrev pub Further : BlockBuild
        Further = exits s (leading b.registers (leaves s) (take (length l - (i + 1)) (drop (i + 1) l))) (block_in b w₁)

        further_is : Further ≡ Whole
        further_is =
            ap (λ (n : ℕ). exits s (leading n (leaves s) (take (length l - (i + 1)) (drop (i + 1) l))) (block_in b w₁)) k.registers
            ∙ ap (exits s (leading r (leaves s) (take (length l - (i + 1)) (drop (i + 1) l)))) k.held.point
            ∙ sym leave_some

        pub leaving_fits : Room (length Whole.wires) w.words.now → Room (length Further.wires) w₁.words.now
        leaving_fits room = room_le (length Further.wires) (length Whole.wires) (omega (arith, ap (λ (p : BlockBuild). length p.wires) further_is)) k.same.long room

        pub left : (b' : BlockProgress) (w₂ : WireList) → Becomes Further b.registers b' w₁ w₂ → Held Whole w.words.now b'.arrival (values_of b') w₂.count w₂.words.now
        left b' w₂ h =
            let le : w₁.count ≤ w₂.count =
            omega (arith, held_count h.held, length-wires_in w₁.count w₁.words.now, grow_exits (leading b.registers (leaves s) (take (length l - (i + 1)) (drop (i + 1) l))) (block_in b w₁)) in
            subst (λ (p : BlockBuild). Held p w.words.now b'.arrival (values_of b') w₂.count w₂.words.now) further_is (held_on k.held le h.held)
