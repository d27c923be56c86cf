-- The operation's answer, case by case, what an answer says of table and buffers, and what the buffers then hold. Assumes nothing.
use Rattle.std.proofs.Common.{◌≡◌, ℕ, ◌<◌, ◌≤◌, Bool, true, false, not, ◌||◌, ltb, List, None, Some, Result, Ok, Err, length, refl, ap, ◌∙◌, arith, ltb-false, ltb-true, le-ltb, lt-ltb}
use lib.ListN.{length-map}
use borrow.Author.Tests.{not-false}
use Rattle.runs.proofs.Tests.{or_false}
use Rattle.std.proofs.lemmas.Option.{none-some, same_Some}
use Rattle.refusal.specs.declared.Refusal.{Refusal}
use Rattle.refusal.specs.declared.Refusal.TheVariants.{ShortBuffer, NoStart, BadMachine, CrossedBounds}
use Rattle.word.specs.Word.{choose}
use Rattle.fsmd.specs.Clock.{Ready}
use Rattle.fsmd.specs.Layout.{max_registers, machine_words}
use Rattle.fsmd.specs.Table.{state_count, machine_register_count, state_at, admitted_machine, table_refusal}
use Rattle.fsmd.proofs.KeptRegisters.{next_length}
use Rattle.fsmd.proofs.Machines.{Admitted, admitted_facts}
use Rattle.bounds.specs.Bounds.{next_bounds}
use Rattle.bounds.specs.Operation.{ordered, bounds_answer, bounds_after, lowest_left, highest_left}
use Rattle.bounds.specs.Cycle.{Cycled}
use Rattle.bounds.specs.Values.{Long}

module _ (t ls hs : List ℕ) (k : ℕ) where
  -- ---- case by case

  pub short_table : length t < machine_words → bounds_answer t ls hs k ≡ Err ShortBuffer
  unfolding bounds_answer
  short_table h = rw (lt-ltb (length t) machine_words h)

  pub short_lowest : length ls < max_registers → bounds_answer t ls hs k ≡ Err ShortBuffer
  unfolding bounds_answer
  short_lowest h = go (ltb (length t) machine_words) _
    where
      go : (b : Bool) (x : Result (Unit {0}) Refusal) → choose (b || ltb (length ls) max_registers || ltb (length hs) max_registers) (Err ShortBuffer) x ≡ Err ShortBuffer
      go true x = refl
      go false x = rw (lt-ltb (length ls) max_registers h)

  pub short_highest : length hs < max_registers → bounds_answer t ls hs k ≡ Err ShortBuffer
  unfolding bounds_answer
  short_highest h = go (ltb (length t) machine_words || ltb (length ls) max_registers) _
    where
      go : (b : Bool) (x : Result (Unit {0}) Refusal) → choose (b || ltb (length hs) max_registers) (Err ShortBuffer) x ≡ Err ShortBuffer
      go true x = refl
      go false x = rw (lt-ltb (length hs) max_registers h)

  module _ (long : Long t ls hs) where
    whole : ltb (length t) machine_words ≡ false
    whole = le-ltb (length t) machine_words long.table

    lows : ltb (length ls) max_registers ≡ false
    lows = le-ltb (length ls) max_registers long.lowest

    highs : ltb (length hs) max_registers ≡ false
    highs = le-ltb (length hs) max_registers long.highest

    pub not_admitted : admitted_machine t ≡ false → bounds_answer t ls hs k ≡ Err BadMachine
    unfolding bounds_answer
    not_admitted f = rw (whole, lows, highs, f)

    module _ (good : admitted_machine t ≡ true) where
      pub no_state : state_count t ≤ k → bounds_answer t ls hs k ≡ Err NoStart
      unfolding bounds_answer
      no_state h = rw (whole, lows, highs, good, le-ltb k (state_count t) h)

      module _ (h : k < state_count t) where
        pub crossed : ordered (machine_register_count t) ls hs ≡ false → bounds_answer t ls hs k ≡ Err CrossedBounds
        unfolding bounds_answer
        crossed f = rw (whole, lows, highs, good, lt-ltb k (state_count t) h, f)

        pub not_refused : ordered (machine_register_count t) ls hs ≡ true → bounds_answer t ls hs k ≡ Ok tt
        unfolding bounds_answer
        not_refused f = rw (whole, lows, highs, good, lt-ltb k (state_count t) h, f)

  -- a table that is refused alone, where both buffers are long enough
  pub bad_table : (r : Refusal) → table_refusal t ≡ Some r → max_registers ≤ length ls → max_registers ≤ length hs → bounds_answer t ls hs k ≡ Err r
  unfolding bounds_answer
  bad_table r e h i = rw (le-ltb (length ls) max_registers h, le-ltb (length hs) max_registers i) (go (ltb (length t) machine_words) (admitted_machine t) _ e)
    where
      go : (b c : Bool) (x : Result (Unit {0}) Refusal) → choose b (Some ShortBuffer) (choose c None (Some BadMachine)) ≡ Some r
          → choose (b || false || false) (Err ShortBuffer) (choose (not c) (Err BadMachine) x) ≡ Err r
      go true c x f = ap Err (same_Some _ _ f)
      go false true x f = absurd (none-some r f)
      go false false x f = ap Err (same_Some _ _ f)

  -- ---- what it says that nothing is refused

  -- a test that did not refuse
  passed : (b : Bool) (r : Refusal) (x : Result (Unit {0}) Refusal) → choose b (Err r) x ≡ Ok tt → (b ≡ false) × (x ≡ Ok tt)
  passed true r x e = absurd (let z : ⊥ = cc in z)
  passed false r x e = (refl, e)

  pub record Accepted : Type 0 where
    pub long : Long t ls hs
    pub good : admitted_machine t ≡ true
    pub table : Admitted t
    pub state : k < state_count t
    pub in_order : ordered (machine_register_count t) ls hs ≡ true

  pub accepted : bounds_answer t ls hs k ≡ Ok tt → Accepted
  unfolding bounds_answer
  accepted e =
      let a = ltb (length t) machine_words in
      let b = ltb (length ls) max_registers in
      let c = ltb (length hs) max_registers in
      let p = passed (a || b || c) ShortBuffer _ e in
      let q = passed (not (admitted_machine t)) BadMachine _ p.1 in
      let r = passed (not (ltb k (state_count t))) NoStart _ q.1 in
      let o = passed (not (ordered (machine_register_count t) ls hs)) CrossedBounds _ r.1 in
      let s = or_false (a || b) c p.0 in
      let u = or_false a b s.0 in
      let good = not-false (admitted_machine t) q.0 in
      record {
        long = record { table = ltb-false (length t) machine_words u.0; lowest = ltb-false (length ls) max_registers u.1; highest = ltb-false (length hs) max_registers s.1 };
        good = good;
        table = admitted_facts t good;
        state = ltb-true k (state_count t) (not-false (ltb k (state_count t)) r.0);
        in_order = not-false (ordered (machine_register_count t) ls hs) o.0;
      }

  pub ready : Accepted → (j : ℕ) → j ≡ k → Ready t j
  ready a j e =
      let h : j < state_count t = omega (arith, a.state) in
      let few = a.table.few_states_lem in
      record {
        whole = a.long.table;
        state = omega arith;
        wires = a.table.in_space j h;
        registers = a.table.few_registers_lem;
        valid = a.table.valid j h;
      }

  -- the state has a next reference for each register
  pub next-count : Accepted → length (state_at t k).next_registers ≡ machine_register_count t
  next-count a = next_length t k (omega (arith, a.long.table, a.state, a.table.few_states_lem, a.table.few_registers_lem))

  -- ---- what the buffers hold at the end

  pub refused_left : (r : Refusal) → bounds_answer t ls hs k ≡ Err r → (lowest_left t ls hs k ≡ ls) × (highest_left t ls hs k ≡ hs)
  unfolding lowest_left highest_left
  refused_left r e = (rw e, rw e)

  pub bounded-left : bounds_answer t ls hs k ≡ Ok tt → Cycled t k ls hs (lowest_left t ls hs k) (highest_left t ls hs k)
  unfolding lowest_left highest_left
  bounded-left e = record { lowest = rw e; highest = rw e }

  -- there are R new words
  pub after-count : Accepted → (length (bounds_after t ls hs k).lowest ≡ machine_register_count t) × (length (bounds_after t ls hs k).highest ≡ machine_register_count t)
  unfolding bounds_after next_bounds
  after-count a = (length-map (state_at t k).next_registers _ ∙ next-count a, length-map (state_at t k).next_registers _ ∙ next-count a)
