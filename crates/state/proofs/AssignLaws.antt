-- A block's instructions as the code makes their wires, one after another. Assumes nothing.
use Prim.Native.Nat.{ℕ, suc, ◌+◌, ◌≤◌, ◌<◌}
use native.Mathlib.Numerals.{add-one}
use native.Mathlib.Omega.{arith}
use mathlib.Core.Path.{◌≡◌, refl, sym, ap, ◌∙◌}
use mathlib.Core.List.{List, [], ◌∷◌, ◌++◌, map}
use lib.ListN.{length, get_or, set, drop, length-append, length-map, drop_of_length-le}
use lib.Seq.{drop-cons, length-take-le, get_or-take}
use Rattle.runs.specs.Lists.{up_from}
use Rattle.runs.proofs.ListLaws.{length-up_from, get_or-map-up_from}
use Rattle.cfg.specs.declared.Instruction.{Instruction}
use Rattle.cfg.specs.Layout.{max_instructions, block_offset}
use Rattle.cfg.specs.Graph.{instructions_of, no_instruction}
use Rattle.cfg.specs.Table.{instruction_at, block_at}
use Rattle.fsmd.specs.declared.Wire.{Wire}
use Rattle.fsmd.specs.Layout.{max_registers}
use Rattle.state.specs.declared.joins.BlockProgress.{BlockProgress}
use Rattle.state.specs.declared.wires.WireList.{WireList}
use Rattle.state.specs.Wires.{BlockBuild, instruction_wire, assign, assigns}
use Rattle.state.specs.Making.{wires_in, Room}
use Rattle.state.specs.Steps.{Adds, Becomes, values_of, block_in}
use Rattle.state.proofs.StoredWires.{length-wires_in}
use Rattle.state.proofs.StepLaws.{room_le, becomes_by, fold, grow_fold, Walking, walk_room, walk_next, walk_done}

-- ---- one instruction

pub assign_becomes : (i : Instruction) (b b' : BlockProgress) (w w₁ : WireList) (v : Wire) (ref : ℕ)
    → v ≡ instruction_wire (λ x. get_or (values_of b) x 0) b.arrival i → Adds (v ∷ []) w w₁ → ref ≡ max_registers + w.count
    → b'.arrival ≡ b.arrival → b'.registers ≡ b.registers → values_of b' ≡ set (values_of b) i.d ref → Becomes (assign i (block_in b w)) b.registers b' w w₁
unfolding assign
assign_becomes i b b' w w₁ v ref ev h er ea eb es =
    becomes_by (assign i (block_in b w)) b.registers b' w w₁ (v ∷ []) h
    eb
    ea
    (es ∙ ap (set (values_of b) i.d) (er ∙ ap (λ (k : ℕ). max_registers + k) (sym (length-wires_in w.count w.words.now))))
    (ap (λ (u : Wire). wires_in w.count w.words.now ++ (u ∷ [])) ev)

pub length_assign : (i : Instruction) (p : BlockBuild) → length (assign i p).wires ≡ length p.wires + 1
unfolding assign
length_assign i p = length-append p.wires (instruction_wire (λ x. get_or p.values x 0) p.arrival i ∷ [])

pub grow_assign : (i : Instruction) (p : BlockBuild) → length p.wires ≤ length (assign i p).wires
grow_assign i p = omega (arith, length_assign i p)

pub assigns_fold : (is : List Instruction) (p : BlockBuild) → assigns is p ≡ fold assign is p
unfolding assigns
assigns_fold [] p = refl
assigns_fold (i ∷ is) p = assigns_fold is (assign i p)

pub grow_assigns : (is : List Instruction) (p : BlockBuild) → length p.wires ≤ length (assigns is p).wires
grow_assigns is p = rw (assigns_fold is p) (grow_fold assign grow_assign is p)

-- ---- the instructions of a block

module _ (t : List ℕ) (x : ℕ) (few : get_or t (block_offset x) 0 ≤ max_instructions) where
  length_instructions : length (map (instruction_at t (block_offset x)) (up_from 0 max_instructions)) ≡ max_instructions
  length_instructions = length-map (up_from 0 max_instructions) (instruction_at t (block_offset x)) ∙ length-up_from 0 max_instructions

  length_code : length (instructions_of (block_at t x)) ≡ get_or t (block_offset x) 0
  unfolding block_at
  length_code = length-take-le (get_or t (block_offset x) 0) (map (instruction_at t (block_offset x)) (up_from 0 max_instructions)) (rw length_instructions few)

  code_at : (i : ℕ) → i < get_or t (block_offset x) 0 → get_or (instructions_of (block_at t x)) i no_instruction ≡ instruction_at t (block_offset x) i
  unfolding block_at
  code_at i lt =
      get_or-take (get_or t (block_offset x) 0) (map (instruction_at t (block_offset x)) (up_from 0 max_instructions)) i no_instruction lt
      ∙ get_or-map-up_from (instruction_at t (block_offset x)) max_instructions i no_instruction (omega arith)

  module _ {final : BlockBuild} {r : ℕ} {old : WireList} {b : BlockProgress} {w : WireList} (i : ℕ) (h : Walking assign (drop i (instructions_of (block_at t x))) final r old b w) where
    next : i < get_or t (block_offset x) 0 → Walking assign (instruction_at t (block_offset x) i ∷ drop (suc i) (instructions_of (block_at t x))) final r old b w
    next lt = rw (drop-cons (instructions_of (block_at t x)) i no_instruction (omega (arith, length_code)), code_at i lt) at h

    pub assigning_room : i < get_or t (block_offset x) 0 → Room (length final.wires) old.words.now → Room (w.count + 1) w.words.now
    assigning_room lt room =
        let j = instruction_at t (block_offset x) i in
        room_le (w.count + 1) (length (assign j (block_in b w)).wires)
        (omega (arith, length_assign j (block_in b w), length-wires_in w.count w.words.now))
        refl
        (walk_room assign grow_assign j (drop (suc i) (instructions_of (block_at t x))) final r old b w (next lt) room)

    pub assigning_next : (j : Instruction) (b' : BlockProgress) (w' : WireList) → i < get_or t (block_offset x) 0 → j ≡ instruction_at t (block_offset x) i
        → Becomes (assign j (block_in b w)) b.registers b' w w' → Walking assign (drop (i + 1) (instructions_of (block_at t x))) final r old b' w'
    assigning_next j b' w' lt e k =
        rw (add-one i)
        (walk_next assign grow_assign (instruction_at t (block_offset x) i) (drop (suc i) (instructions_of (block_at t x))) final r old b w (next lt) b' w' (rw e at k))

    pub assigning_done : get_or t (block_offset x) 0 ≤ i → Becomes final r b old w
    assigning_done le =
        let z : drop i (instructions_of (block_at t x)) ≡ [] = drop_of_length-le (instructions_of (block_at t x)) {i = i} (omega (arith, length_code)) in
        let f : Walking assign [] final r old b w = rw z at h in
        walk_done assign grow_assign final r old b w f
