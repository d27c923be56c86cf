-- Valid wires, over all codes: each operand that a code reads is a register below R or an earlier wire. Assumes nothing.
use Prim.Native.Nat.{ℕ, zero, suc, ◌+◌, ◌≤◌, ◌<◌}
use native.Mathlib.Omega.{arith}
use native.Mathlib.Nat.{add-zero, add-suc, suc-add}
use mathlib.Core.Path.{◌≡◌, refl, sym, ◌∙◌}
use mathlib.Core.Logic.{◌⊎◌, inl, inr}
use mathlib.Core.Bool.{Bool, true, false, ◌||◌}
use mathlib.Core.List.{List, [], ◌∷◌, ◌++◌}
use lib.ListN.{length, get_or, set}
use lib.Dec.{eqb, ltb}
use borrow.Author.Tests.{le-leb, lt-ltb, le-ltb, ne_eqb, ltb-false}
use Rattle.word.specs.Word.{choose, arity, comparison_code}
use Rattle.word.specs.declared.Comparison.{Comparison}
use Rattle.word.specs.declared.Comparison.TheVariants.{Eq, Ne, Lt, Ge, Ltu, Geu}
use Rattle.runs.specs.Lists.{up_from, every}
use Rattle.runs.proofs.ListLaws.{and_left, and_right, and_both}
use Rattle.cfg.specs.declared.Instruction.{Instruction}
use Rattle.cfg.proofs.Admitted.{ValidInstruction}
use Rattle.fsmd.specs.Layout.{max_registers}
use Rattle.fsmd.specs.declared.Wire.{Wire}
use Rattle.fsmd.specs.Machine.{wire_arity}
use Rattle.fsmd.specs.Table.{valid_reference, valid_wire, valid_wires}
use Rattle.fsmd.proofs.WireReads.{first_two, facts_valid}
use Rattle.state.specs.Wires.{wire, set_wire, select_wire, selects}
use Rattle.state.specs.Wires.{instruction_wire}
use Rattle.synthesis.proofs.GraphFacts.{two_operands, code_range}

-- ---- references, where the next wire is number n

-- one of the n wires so far
abbrev pub OfWire : ℕ → ℕ → Type 0
OfWire n x = (max_registers ≤ x) × (x < max_registers + n)

abbrev pub Reference : ℕ → ℕ → ℕ → Type 0
Reference R n x = (x < R) ⊎ OfWire n x

abbrev pub References : ℕ → ℕ → List ℕ → Type 0
References R n [] = Unit {0}
References R n (v ∷ vs) = Reference R n v × References R n vs

pub wire_more : (n m x : ℕ) → n ≤ m → OfWire n x → OfWire m x
wire_more n m x h a = (a.0, let b = a.1 in omega arith)

pub reference_more : (R n m x : ℕ) → n ≤ m → Reference R n x → Reference R m x
reference_more R n m x h (inl a) = inl a
reference_more R n m x h (inr a) = inr (wire_more n m x h a)

pub references_more : (R n m : ℕ) (vs : List ℕ) → n ≤ m → References R n vs → References R m vs
references_more R n m [] h a = tt
references_more R n m (v ∷ vs) h a = (reference_more R n m v h a.0, references_more R n m vs h a.1)

pub reference_at : (R n : ℕ) (vs : List ℕ) (i : ℕ) → References R n vs → i < length vs → Reference R n (get_or vs i 0)
reference_at R n [] i a h = absurd (omega arith)
reference_at R n (v ∷ vs) zero a h = a.0
reference_at R n (v ∷ vs) (suc i) a h = reference_at R n vs i a.1 (omega arith)

pub references_set : (R n : ℕ) (vs : List ℕ) (i x : ℕ) → References R n vs → Reference R n x → References R n (set vs i x)
references_set R n [] i x a h = tt
references_set R n (v ∷ vs) zero x a h = (h, a.1)
references_set R n (v ∷ vs) (suc i) x a h = (a.0, references_set R n vs i x a.1 h)

pub new_references : (R n a k : ℕ) → max_registers ≤ a → a + k ≤ max_registers + n → References R n (up_from a k)
new_references R n a zero h l = tt
new_references R n a (suc k) h l = (inr (h, omega arith), new_references R n (suc a) k (omega arith) (omega arith))

pub register_references : (R n a k : ℕ) → a + k ≤ R → References R n (up_from a k)
register_references R n a zero l = tt
register_references R n a (suc k) l = (inl (omega arith), register_references R n (suc a) k (omega arith))

pub reference_valid : (R n x : ℕ) → Reference R n x → valid_reference R n x ≡ true
reference_valid R n x (inl a) = rw (lt-ltb x R a)
reference_valid R n x (inr a) = rw (le-leb max_registers x a.0, lt-ltb x (max_registers + n) a.1) (or_true (ltb x R))
  where
    or_true : (b : Bool) → (b || true) ≡ true
    or_true true = refl
    or_true false = refl

pub references_valid : (R n : ℕ) (vs : List ℕ) → References R n vs → every (valid_reference R n) vs ≡ true
references_valid R n [] a = refl
references_valid R n (v ∷ vs) a = and_both (valid_reference R n v) (every (valid_reference R n) vs) (reference_valid R n v a.0) (references_valid R n vs a.1)

-- ---- wires, over all codes

-- each word that the wire reads is a reference
wire_valid : (R n : ℕ) (w : Wire) → 1 ≤ w.code → w.code ≤ 20 → (1 ≤ wire_arity w.code → (w.code ≡ 1 → ⊥) → Reference R n w.a)
    → (2 ≤ wire_arity w.code → Reference R n w.b) → (3 ≤ wire_arity w.code → Reference R n w.c) → valid_wire R n w ≡ true
wire_valid R n w low high a b c =
    facts_valid R n w (record {
      least = low;
      most = high;
      first = λ e d. reference_valid R n w.a (a d e);
      second = λ d. reference_valid R n w.b (b d);
      third = λ d. reference_valid R n w.c (c d);
    })

pub set_valid : (R n x : ℕ) → valid_wire R n (set_wire x) ≡ true
unfolding wire_arity arity
set_valid R n x = wire_valid R n (set_wire x) (omega arith) (omega arith) (λ d e. absurd (e refl)) (λ h. absurd (omega arith)) (λ h. absurd (omega arith))

pub select_valid : (R n t v s : ℕ) → Reference R n t → Reference R n v → Reference R n s → valid_wire R n (select_wire t v s) ≡ true
select_valid R n t v s a b c = wire_valid R n (select_wire t v s) (omega arith) (omega arith) (λ d e. a) (λ h. b) (λ h. c)

-- a code of two operands
pub record Two (code : ℕ) : Type 0 where
  pub low : 1 ≤ code
  pub high : code ≤ 20
  pub few : wire_arity code ≤ 2

pub two_valid : (R n code a b : ℕ) → Two code → Reference R n a → Reference R n b → valid_wire R n (wire code a b 0) ≡ true
two_valid R n code a b t ra rb = let few = t.few in wire_valid R n (wire code a b 0) t.low t.high (λ d e. ra) (λ h. rb) (λ h. absurd (omega arith))

pub and_two : Two 5
unfolding wire_arity arity
and_two = record { low = omega arith; high = omega arith; few = omega arith }

pub or_two : Two 6
unfolding wire_arity arity
or_two = record { low = omega arith; high = omega arith; few = omega arith }

pub and_not_two : Two 18
unfolding wire_arity arity
and_not_two = record { low = omega arith; high = omega arith; few = omega arith }

pub comparison_two : (q : Comparison) → Two (comparison_code q)
unfolding wire_arity arity
comparison_two Eq = record { low = omega arith; high = omega arith; few = omega arith }
comparison_two Ne = record { low = omega arith; high = omega arith; few = omega arith }
comparison_two Lt = record { low = omega arith; high = omega arith; few = omega arith }
comparison_two Ge = record { low = omega arith; high = omega arith; few = omega arith }
comparison_two Ltu = record { low = omega arith; high = omega arith; few = omega arith }
comparison_two Geu = record { low = omega arith; high = omega arith; few = omega arith }

-- the first two words that a wire reads are operands of its code
wire_operands : (k : ℕ) → (1 ≤ wire_arity k → 1 ≤ arity k) × (2 ≤ wire_arity k → 2 ≤ arity k)
wire_operands k =
    let e = first_two k in
    (λ h. ltb-false (arity k) 1 (sym e.0 ∙ le-ltb (wire_arity k) 1 h), λ h. ltb-false (arity k) 2 (sym e.1 ∙ le-ltb (wire_arity k) 2 h))

choose_read : (t : Bool) (a b : ℕ) (R n : ℕ) → t ≡ false → Reference R n b → Reference R n (choose t a b)
choose_read t a b R n e r = rw e r

pub instruction_valid : (R n : ℕ) (vs : List ℕ) (arrival : ℕ) (i : Instruction) → length vs ≡ R → References R n vs → Reference R n arrival → ValidInstruction R i
    → valid_wire R n (instruction_wire (λ r. get_or vs r 0) arrival i) ≡ true
unfolding instruction_wire
instruction_valid R n vs arrival i c a r v =
    let f : ℕ → ℕ = λ r. get_or vs r 0 in
    let k = i.code in
    let m = wire_arity k in
    let o = wire_operands k in
    let known = code_range v in
    wire_valid R n (instruction_wire f arrival i) known.0 known.1
    (λ d e. choose_read (ltb m 1) 0 (choose (eqb k 1) i.a (f i.a)) R n (le-ltb m 1 d)
    (choose_read (eqb k 1) i.a (f i.a) R n (ne_eqb k 1 e) (reference_at R n vs i.a a (let l = v.first (o.0 d) e in omega arith))))
    (λ d. choose_read (ltb m 2) 0 (f i.b) R n (le-ltb m 2 d) (reference_at R n vs i.b a (let l = v.second (let t = two_operands v in let w = o.1 d in omega arith) in omega arith)))
    (λ d. choose_read (ltb m 3) 0 arrival R n (le-ltb m 3 d) r)

pub wires_append : (R n : ℕ) (ws vs : List Wire) → valid_wires R n ws ≡ true → valid_wires R (n + length ws) vs ≡ true → valid_wires R n (ws ++ vs) ≡ true
unfolding valid_wires
wires_append R n [] vs a b = rw add-zero at b
wires_append R n (w ∷ ws) vs a b =
    and_both (valid_wire R n w) (valid_wires R (suc n) (ws ++ vs)) (and_left (valid_wire R n w) (valid_wires R (suc n) ws) a)
    (wires_append R (suc n) ws vs (and_right (valid_wire R n w) (valid_wires R (suc n) ws) a) (rw (add-suc, ← suc-add) at b))

pub one_wire : (R n : ℕ) (ws : List Wire) (w : Wire) → valid_wires R n ws ≡ true → valid_wire R (n + length ws) w ≡ true → valid_wires R n (ws ++ (w ∷ [])) ≡ true
unfolding valid_wires
one_wire R n ws w a b = wires_append R n ws (w ∷ []) a (and_both (valid_wire R (n + length ws) w) true b refl)

pub cons_wires : (R n : ℕ) (w : Wire) (ws : List Wire) → valid_wire R n w ≡ true → valid_wires R (suc n) ws ≡ true → valid_wires R n (w ∷ ws) ≡ true
unfolding valid_wires
cons_wires R n w ws a b = and_both (valid_wire R n w) (valid_wires R (suc n) ws) a b

pub no_wires : (R n : ℕ) → valid_wires R n [] ≡ true
unfolding valid_wires
no_wires R n = refl

pub selects_valid : (R n m t : ℕ) (vs ss : List ℕ) → n ≤ m → Reference R n t → References R n vs → References R n ss → valid_wires R m (selects t vs ss) ≡ true
selects_valid R n m t [] ss h a b c = no_wires R m
selects_valid R n m t (v ∷ vs) [] h a b c = no_wires R m
selects_valid R n m t (v ∷ vs) (s ∷ ss) h a b c =
    cons_wires R m (select_wire t v s) (selects t vs ss)
    (select_valid R m t v s (reference_more R n m t h a) (reference_more R n m v h b.0) (reference_more R n m s h c.0))
    (selects_valid R n (suc m) t vs ss (omega arith) a b.1 c.1)
