-- What a point of the builder reads: its arrival's word, and the words of the registers. What each of the builder's steps does to that. Assumes nothing.
use Prim.Native.Nat.{ℕ, suc, ◌+◌, ◌≤◌, ◌<◌}
use native.Mathlib.Omega.{arith}
use mathlib.Core.Path.{◌≡◌, refl, sym, ap, ◌∙◌}
use mathlib.Core.Bool.{Bool, true, false, not, ◌&&◌, ◌||◌}
use mathlib.Core.List.{List, [], ◌∷◌, ◌++◌, map}
use lib.ListN.{length, get_or, set, drop, length-append, get_or-append, length-map, length-set, take-append-drop}
use lib.Seq.{get_or-append_seam, set-append_left}
use Rattle.word.specs.Word.{choose, truth, comparison_code}
use Rattle.runs.specs.Lists.{up_from}
use Rattle.cfg.specs.declared.Instruction.{Instruction}
use Rattle.cfg.specs.declared.Condition.{Condition}
use Rattle.cfg.specs.Graph.{value_of, execute, holds}
use Rattle.fsmd.specs.Layout.{max_registers}
use Rattle.fsmd.specs.declared.Wire.{Wire}
use Rattle.fsmd.specs.Machine.{wire_value, worked}
use Rattle.state.specs.Wires.{wire, set_wire, and_wire, or_wire, and_not_wire, select_wire, selects, Edge, BlockBuild, fresh, join, instruction_wire, assign}
use Rattle.runs.proofs.ListLaws.{length-up_from}
use Rattle.cfg.proofs.Admitted.{ValidInstruction}
use Rattle.synthesis.proofs.WireValues.{set_value, and_value, or_value, and_not_value, select_value, comparison_value, instruction_value}
use Rattle.synthesis.proofs.Environments.{at, Below, worked_append, worked_nil, worked_cons, worked_selects, snoc_length, length_worked, Grows, worked_grows}
use Rattle.synthesis.proofs.Environments.{below_mono, below_set, below_up_from, map-append, map_set, get_or-map, map_behind, map_registers}

-- In the environment E reference t reads v, and the references vs, one for each of R registers, read q; q's words from R up are `high`.
pub record Reads (R : ℕ) (high : List ℕ) (E : List ℕ) (t : ℕ) (vs : List ℕ) (v : ℕ) (q : List ℕ) : Type 0 where
  pub low : t < length E
  pub reads : at E t ≡ v
  pub count : length vs ≡ R
  pub lows : Below (length E) vs
  pub words : map (at E) vs ++ high ≡ q

-- ---- over any environment E

set_behind : (E : List ℕ) (x : ℕ) (vs high q : List ℕ) (i : ℕ) → Below (length E) vs → i < length vs → map (at E) vs ++ high ≡ q
    → map (at (E ++ (x ∷ []))) (set vs i (length E)) ++ high ≡ set q i x
set_behind E x vs high q i b h e =
    rw (map_set (at (E ++ (x ∷ []))) vs i (length E), get_or-append_seam E x [] 0, map-append E (x ∷ []) vs b, ← e)
    (sym (set-append_left (map (at E) vs) high i x (simp length-map h)))

module _ {R : ℕ} {high : List ℕ} where
  pub reads_append : (E F : List ℕ) {t : ℕ} {vs : List ℕ} {v : ℕ} {q : List ℕ} → Reads R high E t vs v q → Reads R high (E ++ F) t vs v q
  reads_append E F {t} {vs} l =
      record {
        low = simp length-append (let h = l.low in omega arith);
        reads = get_or-append E F 0 t l.low ∙ l.reads;
        count = l.count;
        lows = below_mono (length E) (length (E ++ F)) vs (simp length-append (omega arith)) l.lows;
        words = rw (map-append E F vs l.lows) l.words;
      }

  pub reads_grow : (E E' : List ℕ) {t : ℕ} {vs : List ℕ} {v : ℕ} {q : List ℕ} → Grows E E' → Reads R high E t vs v q → Reads R high E' t vs v q
  reads_grow E E' g l = rw g.1 (reads_append E g.0 l)

  -- a word x and R more put behind
  reads_fresh : (E : List ℕ) (x : ℕ) (L q : List ℕ) → length L ≡ R → L ++ high ≡ q
      → Reads R high (E ++ x ∷ L) (length E) (up_from (suc (length E)) R) x q
  reads_fresh E x L q h e =
      record {
        low = simp length-append (omega arith);
        reads = get_or-append_seam E x L 0;
        count = length-up_from (suc (length E)) R;
        lows = below_up_from (length (E ++ x ∷ L)) (suc (length E)) R (simp length-append (omega arith));
        words = ap (λ (l : List ℕ). l ++ high) (map_behind E x L R h) ∙ e;
      }

  -- a word put behind, with the same registers
  pub reads_put : (E : List ℕ) (x : ℕ) {t : ℕ} {vs : List ℕ} {v : ℕ} {q : List ℕ} → Reads R high E t vs v q → Reads R high (E ++ (x ∷ [])) (length E) vs x q
  reads_put E x l =
      let m = reads_append E (x ∷ []) l in
      record { low = simp length-append (omega arith); reads = get_or-append_seam E x [] 0; count = m.count; lows = m.lows; words = m.words }

  selected : (E : List ℕ) (b : Bool) {t₁ t₂ : ℕ} {vs₁ vs₂ : List ℕ} {v₁ v₂ : ℕ} {q₁ q₂ : List ℕ} → Reads R high E t₁ vs₁ v₁ q₁ → Reads R high E t₂ vs₂ v₂ q₂
      → (length (map (at E) (choose b vs₂ vs₁)) ≡ R) × (map (at E) (choose b vs₂ vs₁) ++ high ≡ choose b q₂ q₁)
  selected E true l m = (simp length-map m.count, m.words)
  selected E false l m = (simp length-map l.count, l.words)

  -- a wire of value x, then a selection for each register
  pub reads_select : (sampled : ℕ) (E : List ℕ) (w : Wire) (b : Bool) (x : ℕ) {t₁ t₂ : ℕ} {vs₁ vs₂ : List ℕ} {v : ℕ} {q₁ q₂ : List ℕ}
      → wire_value sampled (at E) w ≡ x → Reads R high E t₁ vs₁ v q₁ → Reads R high E t₂ vs₂ (truth b) q₂
      → Reads R high (worked sampled E (w ∷ selects t₂ vs₂ vs₁)) (length E) (up_from (suc (length E)) (length vs₂)) x (choose b q₂ q₁)
  reads_select sampled E w b x {t₁} {t₂} {vs₁} {vs₂} {v} {q₁} {q₂} e l m =
      let s = selected E b l m in
      rw (worked_selects sampled E w x t₂ b vs₂ vs₁ e m.low m.reads m.lows l.lows (m.count ∙ sym l.count), m.count)
      (reads_fresh E x (map (at E) (choose b vs₂ vs₁)) (choose b q₂ q₁) s.0 s.1)

  -- what the references of the registers read
  pub reads_at : (E : List ℕ) {t : ℕ} {vs : List ℕ} {v : ℕ} {q : List ℕ} → Reads R high E t vs v q → (r : ℕ) → r < R → at E (get_or vs r 0) ≡ get_or q r 0
  reads_at E {t} {vs} l r h =
      sym (get_or-map (at E) vs r (let c = l.count in omega arith))
      ∙ sym (get_or-append (map (at E) vs) high 0 r (let c = l.count in simp length-map (omega arith)))
      ∙ ap (λ (q : List ℕ). get_or q r 0) l.words

  -- the wire of an instruction
  pub reads_execute : (sampled : ℕ) (E : List ℕ) (i : Instruction) {t : ℕ} {vs : List ℕ} {v : ℕ} {q : List ℕ} → ValidInstruction R i → Reads R high E t vs v q
      → Reads R high (worked sampled E (instruction_wire (λ r. get_or vs r 0) t i ∷ [])) t (set vs i.d (length E)) v (execute sampled i q)
  unfolding execute
  reads_execute sampled E i {t} {vs} {v} {q} f l =
      let w : Wire = instruction_wire (λ r. get_or vs r 0) t i in
      let x : ℕ = value_of sampled (λ r. get_or q r 0) i.code i.a i.b in
      let e : wire_value sampled (at E) w ≡ x = instruction_value sampled (at E) (λ r. get_or vs r 0) R t q i f (reads_at E l) in
      let m : Reads R high (E ++ (x ∷ [])) t vs v q = reads_append E (x ∷ []) l in
      rw (worked_cons sampled E w [] x e, worked_nil) (record {
        low = m.low;
        reads = m.reads;
        count = length-set vs i.d (length E) ∙ l.count;
        lows = below_set (length (E ++ (x ∷ []))) vs i.d (length E) m.lows (simp length-append (omega arith));
        words = set_behind E x vs high q i.d l.lows (let c = l.count in let d = f.written in omega arith) l.words;
      })

  three_behind : (E : List ℕ) (x y z : ℕ) {t : ℕ} {vs : List ℕ} {v : ℕ} {q : List ℕ} → Reads R high E t vs v q
      → Reads R high (E ++ (x ∷ []) ++ (y ∷ []) ++ (z ∷ [])) (1 + length E) vs y q × Reads R high (E ++ (x ∷ []) ++ (y ∷ []) ++ (z ∷ [])) (2 + length E) vs z q
  three_behind E x y z {t} {vs} {v} {q} l =
      let E₁ = E ++ (x ∷ []) in
      let E₂ = E ++ (x ∷ []) ++ (y ∷ []) in
      let l₁ : Reads R high E₁ t vs v q = reads_append E (x ∷ []) l in
      let e₁ : 1 + length E ≡ length E₁ = omega (arith, snoc_length E x) in
      let e₂ : 2 + length E ≡ length E₂ = omega (arith, snoc_length E₁ y) in
      let m : Reads R high E₂ (length E₁) vs y q = reads_put E₁ y l₁ in
      (rw e₁ (reads_append E₂ (z ∷ []) m), rw e₂ (reads_put E₂ z m))

  -- the three wires of an ite
  pub reads_ite : (sampled : ℕ) (E : List ℕ) (c : Condition) (s : Bool) {t : ℕ} {vs : List ℕ} {q : List ℕ} → c.a < R → c.b < R → Reads R high E t vs (truth s) q
      → let E' = worked sampled E (wire (comparison_code c.comparison) (get_or vs c.a 0) (get_or vs c.b 0) 0 ∷ and_wire t (length E) ∷ and_not_wire t (length E) ∷ []) in
      Reads R high E' (1 + length E) vs (truth (s && holds c q)) q × Reads R high E' (2 + length E) vs (truth (s && not (holds c q))) q
  reads_ite sampled E c s {t} {vs} {q} ha hb l =
      let h : Bool = holds c q in
      let x : ℕ = truth h in
      let y : ℕ = truth (s && h) in
      let z : ℕ = truth (s && not h) in
      let w : Wire = wire (comparison_code c.comparison) (get_or vs c.a 0) (get_or vs c.b 0) 0 in
      let E₁ = E ++ (x ∷ []) in
      let E₂ = E ++ (x ∷ []) ++ (y ∷ []) in
      let l₁ : Reads R high E₁ t vs (truth s) q = reads_append E (x ∷ []) l in
      let m₁ : Reads R high E₁ (length E) vs x q = reads_put E x l in
      let l₂ : Reads R high E₂ t vs (truth s) q = reads_append E₁ (y ∷ []) l₁ in
      let m₂ : Reads R high E₂ (length E) vs x q = reads_append E₁ (y ∷ []) m₁ in
      let e₁ : wire_value sampled (at E) w ≡ x =
      comparison_value sampled (at E) c.comparison (get_or vs c.a 0) (get_or vs c.b 0) ∙ rw (reads_at E l c.a ha, reads_at E l c.b hb) in
      let e₂ = and_value sampled (at E₁) t (length E) s h l₁.reads m₁.reads in
      let e₃ = and_not_value sampled (at E₂) t (length E) s h l₂.reads m₂.reads in
      rw (
        worked_cons sampled E w (and_wire t (length E) ∷ and_not_wire t (length E) ∷ []) x e₁,
        worked_cons sampled E₁ (and_wire t (length E)) (and_not_wire t (length E) ∷ []) y e₂,
        worked_cons sampled E₂ (and_not_wire t (length E)) [] z e₃,
        worked_nil,
      )
      (three_behind E x y z l)

  -- the wires of a further exit
  pub reads_exit : (sampled : ℕ) (E : List ℕ) (k : ℕ) (b : Bool) {t₁ t₂ : ℕ} {vs₁ vs₂ : List ℕ} {v : ℕ} {q₁ q₂ : List ℕ} → Reads R high E t₁ vs₁ v q₁ → Reads R high E t₂ vs₂ (truth b) q₂
      → Reads R high (worked sampled E (set_wire k ∷ select_wire t₂ (length E) t₁ ∷ selects t₂ vs₂ vs₁)) (1 + length E) (up_from (2 + length E) (length vs₂)) (choose b k v) (choose b q₂ q₁)
  reads_exit sampled E k b {t₁} {t₂} {vs₁} {vs₂} {v} {q₁} {q₂} l m =
      let E₁ = E ++ (k ∷ []) in
      let l₁ : Reads R high E₁ t₁ vs₁ v q₁ = reads_append E (k ∷ []) l in
      let m₁ : Reads R high E₁ t₂ vs₂ (truth b) q₂ = reads_append E (k ∷ []) m in
      let n₁ : Reads R high E₁ (length E) vs₁ k q₁ = reads_put E k l in
      let e₁ : 1 + length E ≡ length E₁ = omega (arith, snoc_length E k) in
      let e₂ : 2 + length E ≡ suc (length E₁) = omega (arith, snoc_length E k) in
      rw (worked_cons sampled E (set_wire k) (select_wire t₂ (length E) t₁ ∷ selects t₂ vs₂ vs₁) k (set_value sampled (at E) k), e₁, e₂)
      (reads_select sampled E₁ (select_wire t₂ (length E) t₁) b (choose b k v)
      (select_value sampled (at E₁) t₂ (length E) t₁ b m₁.reads ∙ rw (n₁.reads, l₁.reads)) l₁ m₁)

-- ---- a point of the builder, in a cycle that starts with the registers rs

abbrev pub PointReads : (sampled : ℕ) (rs : List ℕ) (R : ℕ) → BlockBuild → ℕ → List ℕ → Type 0
PointReads sampled rs R p v q = Reads R (drop R rs) (worked sampled rs p.wires) p.arrival p.values v q

module _ (sampled : ℕ) (rs : List ℕ) (size : length rs ≡ max_registers) where
  pub fresh_is : (ws : List Wire) → fresh ws ≡ length (worked sampled rs ws)
  fresh_is ws = omega (arith, length_worked sampled rs ws)

module _ (sampled : ℕ) (rs : List ℕ) (size : length rs ≡ max_registers) (R : ℕ) where
  pub assign_reads : (i : Instruction) (p : BlockBuild) {v : ℕ} {q : List ℕ} → ValidInstruction R i → PointReads sampled rs R p v q → PointReads sampled rs R (assign i p) v (execute sampled i q)
  unfolding assign
  assign_reads i p f l = rw (worked_append sampled rs p.wires, fresh_is sampled rs size p.wires) (reads_execute sampled (worked sampled rs p.wires) i f l)

  pub join_reads : (e : Edge) (p : BlockBuild) (s b : Bool) {q q' : List ℕ} → PointReads sampled rs R p (truth s) q
      → Reads R (drop R rs) (worked sampled rs p.wires) e.taken e.values (truth b) q'
      → PointReads sampled rs R (join e p) (truth (s || b)) (choose b q' q)
  unfolding join
  join_reads e p s b l m =
      rw (worked_append sampled rs p.wires, fresh_is sampled rs size p.wires)
      (reads_select sampled (worked sampled rs p.wires) (or_wire p.arrival e.taken) b (truth (s || b))
      (or_value sampled (at (worked sampled rs p.wires)) p.arrival e.taken s b l.reads m.reads) l m)

  -- the point of a `set` and the start values
  pub start_reads : (ws : List Wire) (k : ℕ) → R ≤ max_registers → Reads R (drop R rs) (worked sampled rs (ws ++ (set_wire k ∷ []))) (fresh ws) (up_from 0 R) k rs
  start_reads ws k h =
      let E = worked sampled rs ws in
      let base : Reads R (drop R rs) rs 0 (up_from 0 R) (at rs 0) rs = record {
        low = omega arith;
        reads = refl;
        count = length-up_from 0 R;
        lows = below_up_from (length rs) 0 R (omega arith);
        words = rw (map_registers rs R (omega arith)) (take-append-drop R rs);
      } in
      rw (worked_append sampled rs ws, worked_cons sampled E (set_wire k) [] k (set_value sampled (at E) k), worked_nil, fresh_is sampled rs size ws)
      (reads_put E k (reads_grow rs E (worked_grows sampled rs ws) base))
