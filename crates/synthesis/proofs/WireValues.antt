-- The values of the wires that synthesis makes, from the laws of words over all codes. Assumes nothing.
use Prim.Native.Nat.{ℕ, ◌<◌}
use native.Mathlib.Omega.{arith}
use mathlib.Core.Path.{◌≡◌, refl, sym, ap, ap₂, ◌∙◌, subst}
use mathlib.Core.Logic.{◌⊎◌, inl, inr, ◌≢◌}
use mathlib.Core.Bool.{Bool, true, false, not, ◌&&◌, ◌||◌, and_comm}
use mathlib.Core.List.{List}
use lib.ListN.{get_or}
use lib.Dec.{eqb, ltb}
use lib.Bits.{bit_and, bit_or}
use borrow.Author.Tests.{le-ltb, eqb-false}
use Rattle.word.specs.declared.Comparison.{Comparison}
use Rattle.word.specs.declared.Comparison.TheVariants.{Eq, Ne, Lt, Ge, Ltu, Geu}
use Rattle.word.specs.Word.{choose, truth, compare_of, comparison_code, eval_of, over_of, add_code, sub_code, and_not_of, arity}
use Rattle.word.proofs.WireLaws.{eval_uses, and_truth, or_truth, and_not_truth, select_truth}
use Rattle.word.proofs.Laws.{eval_compare}
use Rattle.word.proofs.OverLaws.{over_other}
use Rattle.cfg.specs.declared.Instruction.{Instruction}
use Rattle.cfg.specs.Graph.{value_of, instruction_over}
use Rattle.fsmd.specs.Machine.{wire_arity, wire_value, wire_over}
use Rattle.fsmd.proofs.Environment.{over_none}
use Rattle.fsmd.proofs.WireReads.{reads_operands}
use Rattle.runs.proofs.Tests.{Compared, compared, same, other}
use Rattle.synthesis.proofs.GraphFacts.{two_operands}
use Rattle.state.specs.Wires.{wire, set_wire, and_wire, or_wire, and_not_wire, select_wire, instruction_wire}
use Rattle.cfg.proofs.Admitted.{ValidInstruction}

-- ---- the wires that synthesis adds by itself, where `at` reads a reference

pub set_value : (sampled : ℕ) (at : ℕ → ℕ) (k : ℕ) → wire_value sampled at (set_wire k) ≡ k
unfolding wire_value
set_value sampled at k = refl

module _ (sampled : ℕ) (at : ℕ → ℕ) (a b : ℕ) (s t : Bool) (p : at a ≡ truth s) (q : at b ≡ truth t) where
  pub and_value : wire_value sampled at (and_wire a b) ≡ truth (s && t)
  unfolding wire_value eval_of
  and_value = ap₂ bit_and p q ∙ and_truth sampled s t

  pub or_value : wire_value sampled at (or_wire a b) ≡ truth (s || t)
  unfolding wire_value eval_of
  or_value = ap₂ bit_or p q ∙ or_truth sampled s t

  pub and_not_value : wire_value sampled at (and_not_wire a b) ≡ truth (s && not t)
  unfolding wire_value eval_of
  and_not_value = ap₂ and_not_of p q ∙ and_not_truth sampled s t

pub select_value : (sampled : ℕ) (at : ℕ → ℕ) (t v w : ℕ) (s : Bool) → at t ≡ truth s → wire_value sampled at (select_wire t v w) ≡ choose s (at v) (at w)
unfolding wire_value eval_of
select_value sampled at t v w s p = ap (λ (x : ℕ). choose (eqb x 0) (at w) (at v)) p ∙ select_truth sampled s (at v) (at w)

-- no comparison is a set
not_set : (q : Comparison) → eqb (comparison_code q) 1 ≡ false
not_set Eq = refl
not_set Ne = refl
not_set Lt = refl
not_set Ge = refl
not_set Ltu = refl
not_set Geu = refl

pub comparison_value : (sampled : ℕ) (at : ℕ → ℕ) (q : Comparison) (a b : ℕ) → wire_value sampled at (wire (comparison_code q) a b 0) ≡ truth (compare_of q (at a) (at b))
unfolding wire_value
comparison_value sampled at q a b =
    ap (λ (t : Bool). eval_of sampled (comparison_code q) (choose t a (at a)) (at b) (at 0)) (not_set q) ∙ eval_compare sampled q (at a) (at b) (at 0)

-- ---- an instruction's wire

set_or_read : (t : Bool) (at refs : ℕ → ℕ) (a x : ℕ) → (t ≡ false → at (refs a) ≡ x)
    → choose t (choose t a (refs a)) (at (choose t a (refs a))) ≡ choose t a x
set_or_read true at refs a x h = refl
set_or_read false at refs a x h = h refl

-- it reads what the instruction reads, where the references of registers below R read the registers q
pub instruction_value : (sampled : ℕ) (at refs : ℕ → ℕ) (R arrival : ℕ) (q : List ℕ) (i : Instruction) → ValidInstruction R i
    → ((r : ℕ) → r < R → at (refs r) ≡ get_or q r 0)
    → wire_value sampled at (instruction_wire refs arrival i) ≡ value_of sampled (λ r. get_or q r 0) i.code i.a i.b
unfolding wire_value instruction_wire
instruction_value sampled at refs R arrival q i f h =
    let k = i.code in
    let t = eqb k 1 in
    let n = two_operands f in
    let l = reads_operands k in
    let a = choose (ltb (wire_arity k) 1) 0 (choose t i.a (refs i.a)) in
    eval_uses
    sampled
    (choose t a (at a))
    (at (choose (ltb (wire_arity k) 2) 0 (refs i.b)))
    (at (choose (ltb (wire_arity k) 3) 0 arrival))
    (choose t i.a (get_or q i.a 0))
    (get_or q i.b 0)
    0
    k
    (λ d. rw (le-ltb (wire_arity k) 1 (omega arith)) (set_or_read t at refs i.a (get_or q i.a 0) (λ e. h i.a (f.first d (eqb-false k 1 e)))))
    (λ d. rw (le-ltb (wire_arity k) 2 (omega arith)) (h i.b (f.second (omega arith))))
    (λ d. absurd (omega arith))

-- ---- where an instruction's wire goes over

nonzero_truth : (b : Bool) → not (eqb (truth b) 0) ≡ b
nonzero_truth true = refl
nonzero_truth false = refl

code_is : (refs : ℕ → ℕ) (arrival : ℕ) (i : Instruction) → (instruction_wire refs arrival i).code ≡ i.code
unfolding instruction_wire
code_is refs arrival i = refl

-- the wire of an add or sub, by its three references
module _ (f refs : ℕ → ℕ) (arrival d a b : ℕ) where
  abbrev OverBy : ℕ → Type 0
  OverBy k = wire_over f (instruction_wire refs arrival (record { code = k; d = d; a = a; b = b })) ≡ (over_of k (f (refs a)) (f (refs b)) && not (eqb (f arrival) 0))

  over_reads : (k : ℕ) → (k ≡ add_code) ⊎ (k ≡ sub_code) → OverBy k
  unfolding wire_over instruction_wire wire_arity
  over_reads k (inl e) = subst OverBy (sym e) refl
  over_reads k (inr e) = subst OverBy (sym e) refl

two_read : (k : ℕ) → (k ≡ add_code) ⊎ (k ≡ sub_code) → (arity k ≡ 2) × (k ≢ 1)
unfolding arity
two_read k (inl e) = (rw e, λ h. absurd (omega arith))
two_read k (inr e) = (rw e, λ h. absurd (omega arith))

-- it goes over and counts where the instruction goes over and its block is arrived at
pub instruction_over_lem : (f refs : ℕ → ℕ) (R arrival : ℕ) (q : List ℕ) (b : Bool) (i : Instruction) → ValidInstruction R i
    → ((r : ℕ) → r < R → f (refs r) ≡ get_or q r 0) → f arrival ≡ truth b
    → wire_over f (instruction_wire refs arrival i) ≡ (b && instruction_over i q)
instruction_over_lem f refs R arrival q b i v h e = go (compared i.code add_code) (compared i.code sub_code)
  where
    both : (i.code ≡ add_code) ⊎ (i.code ≡ sub_code) → wire_over f (instruction_wire refs arrival i) ≡ (b && instruction_over i q)
    both k =
        let n = two_read i.code k in
        over_reads f refs arrival i.d i.a i.b i.code k
        ∙ rw (h i.a (v.first (let m = n.0 in omega arith) n.1), h i.b (v.second n.0), e, nonzero_truth b)
        (and_comm (instruction_over i q) b)

    none : i.code ≢ add_code → i.code ≢ sub_code → wire_over f (instruction_wire refs arrival i) ≡ (b && instruction_over i q)
    none p r =
        over_none f (instruction_wire refs arrival i) (λ e. p (sym (code_is refs arrival i) ∙ e)) (λ e. r (sym (code_is refs arrival i) ∙ e))
        ∙ rw (over_other i.code (get_or q i.a 0) (get_or q i.b 0) p r) (and_comm false b)

    go : Compared i.code add_code → Compared i.code sub_code → wire_over f (instruction_wire refs arrival i) ≡ (b && instruction_over i q)
    go (same t k) d = both (inl k)
    go (other t k) (same u l) = both (inr l)
    go (other t k) (other u l) = none k l
