-- One cycle from registers within bounds ends within the bounds of the cycle. Assumes nothing.
use Rattle.std.proofs.Common.{◌≡◌, ℕ, suc, ◌+◌, ◌^◌, ◌<◌, ◌≤◌, Bool, true, false, ◌&&◌, eqb, ltb, leb, ◌⊎◌, List, [], ◌∷◌, ◌++◌, map, length, get_or, drop, sym, refl, ap, ◌∙◌, subst, inl, inr, zero-add, arith, length-append, ltb-false, ltb-true, leb-true}
use lib.ListN.{length-map, get_or-append}
use lib.Seq.{get_or-append_seam}
use Rattle.runs.specs.Lists.{every}
use Rattle.runs.proofs.ListLaws.{and_left, and_right, every_at, get_or-map}
use Rattle.runs.proofs.Tests.{or_true, or_right, Compared, compared, same, other}
use Rattle.word.specs.Word.{choose, set_code}
use Rattle.fsmd.specs.declared.Wire.{Wire}
use Rattle.fsmd.specs.Layout.{max_registers}
use Rattle.fsmd.specs.Machine.{State, FSMD, wire_arity, wire_value, worked, clock}
use Rattle.fsmd.specs.Table.{valid_reference, valid_wire, valid_wires, valid_state}
use Rattle.fsmd.proofs.WireReads.{Valid, valid_facts, reads_operands}
use Rattle.bounds.specs.declared.Range.{Range}
use Rattle.bounds.specs.Range.{exact}
use Rattle.bounds.specs.Bounds.{Bounds, range_at, with_range, wire_range, bounded, next_bounds}
use Rattle.bounds.proofs.RangeSound.{Within, exact_holds, range_holds}

-- ---- what is known after n wires

-- every valid reference reads a word within its range
pub record Known (r n : ℕ) (env : List ℕ) (e : Bounds) : Type 0 where
  pub few : r ≤ max_registers
  pub words : length env ≡ max_registers + n
  pub lows : length e.lowest ≡ max_registers + n
  pub highs : length e.highest ≡ max_registers + n
  pub inside : (x : ℕ) → valid_reference r n x ≡ true → Within (range_at e x) (get_or env x 0)

-- a set's literal is a word
abbrev pub Literals : List Wire → Type 0
Literals [] = Unit {0}
Literals (w ∷ ws) = (w.a < 2 ^ 32) × Literals ws

module _ (r n : ℕ) (env : List ℕ) (e : Bounds) (known : Known r n env e) where
  wire_holds : (s : ℕ) → s < 2 ^ 32 → (w : Wire) → valid_wire r n w ≡ true → w.a < 2 ^ 32 → Within (wire_range (range_at e) w) (wire_value s (λ x. get_or env x 0) w)
  unfolding wire_range wire_value
  wire_holds s hs w valid h =
      let k = w.code in
      let v = valid_facts r n w valid in
      let m = reads_operands k in
      range_holds s (choose (eqb k set_code) (exact w.a) (range_at e w.a)) (range_at e w.b) (range_at e w.c)
      (choose (eqb k set_code) w.a (get_or env w.a 0)) (get_or env w.b 0) (get_or env w.c 0) hs k
      (λ l. first v (omega arith) (compared k set_code))
      (λ l. known.inside w.b (v.second (omega arith)))
      (λ l. known.inside w.c (v.third (omega arith)))
    where
      first : Valid r n w → 1 ≤ wire_arity w.code → Compared w.code set_code
          → Within (choose (eqb w.code set_code) (exact w.a) (range_at e w.a)) (choose (eqb w.code set_code) w.a (get_or env w.a 0))
      first v l (same b d) = rw b (exact_holds w.a h)
      first v l (other b d) = rw b (known.inside w.a (v.first d l))

  -- a reference that is valid after one wire more is valid already, or reads that wire
  earlier_or_last : (x : ℕ) → valid_reference r (suc n) x ≡ true → ((valid_reference r n x ≡ true) × (x < max_registers + n)) ⊎ (x ≡ max_registers + n)
  earlier_or_last x v = go (or_true (ltb x r) (leb max_registers x && ltb x (max_registers + suc n)) v)
    where
      wire : (t : Bool) → ltb x (max_registers + n) ≡ t → leb max_registers x ≡ true → x < max_registers + suc n → ((valid_reference r n x ≡ true) × (x < max_registers + n)) ⊎ (x ≡ max_registers + n)
      wire true e l h = inl (or_right (ltb x r) (leb max_registers x && ltb x (max_registers + n)) (rw (l, e)), ltb-true x (max_registers + n) e)
      wire false e l h = let m = ltb-false x (max_registers + n) e in inr (omega arith)

      go : (ltb x r ≡ true) ⊎ ((leb max_registers x && ltb x (max_registers + suc n)) ≡ true) → ((valid_reference r n x ≡ true) × (x < max_registers + n)) ⊎ (x ≡ max_registers + n)
      go (inl h) = let l = ltb-true x r h in let f = known.few in inl (rw h, omega arith)
      go (inr h) =
          wire (ltb x (max_registers + n)) refl (and_left (leb max_registers x) (ltb x (max_registers + suc n)) h)
          (ltb-true x (max_registers + suc n) (and_right (leb max_registers x) (ltb x (max_registers + suc n)) h))

  one_more : (l : List ℕ) (y : ℕ) → length l ≡ max_registers + n → length (l ++ (y ∷ [])) ≡ max_registers + suc n
  one_more l y h = length-append l (y ∷ []) ∙ omega arith

  earlier : (l : List ℕ) (y x : ℕ) → length l ≡ max_registers + n → x < max_registers + n → get_or (l ++ (y ∷ [])) x 0 ≡ get_or l x 0
  earlier l y x h b = get_or-append l (y ∷ []) 0 x (omega arith)

  last : (l : List ℕ) (y x : ℕ) → length l ≡ max_registers + n → x ≡ max_registers + n → get_or (l ++ (y ∷ [])) x 0 ≡ y
  last l y x h b = ap (λ (i : ℕ). get_or (l ++ (y ∷ [])) i 0) (b ∙ sym h) ∙ get_or-append_seam l y [] 0

  known_next : (s : Range) (v : ℕ) → Within s v → Known r (suc n) (env ++ (v ∷ [])) (with_range e s)
  known_next s v w =
      record {
        few = known.few;
        words = one_more env v known.words;
        lows = one_more e.lowest s.low known.lows;
        highs = one_more e.highest s.high known.highs;
        inside = λ x h. go x (earlier_or_last x h);
      }
    where
      go : (x : ℕ) → ((valid_reference r n x ≡ true) × (x < max_registers + n)) ⊎ (x ≡ max_registers + n) → Within (range_at (with_range e s) x) (get_or (env ++ (v ∷ [])) x 0)
      go x (inl h) =
          rw (earlier e.lowest s.low x known.lows h.1, earlier e.highest s.high x known.highs h.1, earlier env v x known.words h.1)
          (known.inside x h.0)
      go x (inr h) =
          rw (last e.lowest s.low x known.lows h, last e.highest s.high x known.highs h, last env v x known.words h) w

-- ---- all wires, and the registers after the cycle

known_all : (s : ℕ) → s < 2 ^ 32 → (ws : List Wire) (r n : ℕ) (env : List ℕ) (e : Bounds) → valid_wires r n ws ≡ true → Literals ws → Known r n env e → Known r (n + length ws) (worked s env ws) (bounded e ws)
unfolding valid_wires worked bounded
known_all s hs [] r n env e v l k = subst (λ (m : ℕ). Known r m env e) (omega arith) k
known_all s hs (w ∷ ws) r n env e v l k =
    let h = wire_holds r n env e k s hs w (and_left (valid_wire r n w) (valid_wires r (suc n) ws) v) l.0 in
    let x = wire_value s (λ x. get_or env x 0) w in
    subst (λ (m : ℕ). Known r m (worked s env (w ∷ ws)) (bounded e (w ∷ ws))) (omega arith)
    (known_all s hs ws r (suc n) (env ++ (x ∷ [])) (with_range e (wire_range (range_at e) w)) (and_right (valid_wire r n w) (valid_wires r (suc n) ws) v) l.1
    (known_next r n env e k (wire_range (range_at e) w) x h))

-- registers within their bounds
pub known_registers : (r : ℕ) (rs : List ℕ) (e : Bounds) → r ≤ max_registers → length rs ≡ max_registers → length e.lowest ≡ max_registers → length e.highest ≡ max_registers
    → ((i : ℕ) → i < r → Within (range_at e i) (get_or rs i 0)) → Known r 0 rs e
known_registers r rs e few a b c f =
    record { few = few; words = a; lows = b; highs = c; inside = λ x h. go x (or_true (ltb x r) (leb max_registers x && ltb x max_registers) h) }
  where
    go : (x : ℕ) → (ltb x r ≡ true) ⊎ ((leb max_registers x && ltb x max_registers) ≡ true) → Within (range_at e x) (get_or rs x 0)
    go x (inl h) = f x (ltb-true x r h)
    go x (inr h) =
        let l = leb-true max_registers x (and_left (leb max_registers x) (ltb x max_registers) h) in
        let u = ltb-true x max_registers (and_right (leb max_registers x) (ltb x max_registers) h) in
        absurd (omega arith)

-- every cycle of a valid state from registers within bounds ends within its bounds
pub cycle_holds : (m : FSMD) (q : State) (s : ℕ) (rs : List ℕ) (e : Bounds) → s < 2 ^ 32 → Known m.registers 0 rs e → Literals q.wires → valid_state m.registers q ≡ true
    → (i : ℕ) → i < length q.next_registers → Within (range_at (next_bounds q e) i) (get_or (clock m s q rs).registers i 0)
unfolding valid_state clock next_bounds
cycle_holds m q s rs e hs known l valid i h =
    let r = m.registers in
    let n = length q.wires in
    let ws = valid_wires r 0 q.wires in
    let nx = valid_reference r n q.next in
    let regs = every (valid_reference r n) q.next_registers in
    let all = known_all s hs q.wires r 0 rs e (and_left ws nx (and_left (ws && nx) regs valid)) l known in
    let v : valid_reference r (0 + n) (get_or q.next_registers i 0) ≡ true = rw zero-add (every_at (valid_reference r n) q.next_registers (and_right (ws && nx) regs valid) i 0 h) in
    rw (next (bounded e q.wires).lowest, next (bounded e q.wires).highest, next_register (worked s rs q.wires) (drop r rs))
    (all.inside (get_or q.next_registers i 0) v)
  where
    next : (env : List ℕ) → get_or (map (λ x. get_or env x 0) q.next_registers) i 0 ≡ get_or env (get_or q.next_registers i 0) 0
    next env = get_or-map (λ x. get_or env x 0) q.next_registers i 0 0 h

    next_register : (env rest : List ℕ) → get_or (map (λ x. get_or env x 0) q.next_registers ++ rest) i 0 ≡ get_or env (get_or q.next_registers i 0) 0
    next_register env rest = get_or-append (map (λ x. get_or env x 0) q.next_registers) rest 0 i (rw length-map h) ∙ next env
