-- Words past the lengths of the machine table and of both buffers do not matter, and stay. Assumes nothing.
use Rattle.std.proofs.Common.{◌≡◌, ℕ, ◌<◌, ◌≤◌, Bool, true, false, ltb, List, Result, Ok, Err, ◌++◌, length, get_or, take, drop, sym, refl, ap, ◌∙◌, ap₂, append_assoc, arith, length-append, ltb-false, ltb-true}
use Rattle.refusal.specs.declared.Refusal.{Refusal}
use lib.ListN.{get_or-append}
use lib.Seq.{take-append-le, drop-append-le}
use Rattle.word.specs.Word.{compare_of}
use Rattle.word.specs.declared.Comparison.TheVariants.{Ge}
use Rattle.runs.proofs.Every.{below_at, below_of}
use Rattle.runs.proofs.ListLaws.{same_test}
use Rattle.fsmd.specs.Layout.{max_registers}
use Rattle.fsmd.specs.Machine.{State}
use Rattle.fsmd.specs.Table.{state_count, machine_register_count, admitted_machine}
use Rattle.fsmd.proofs.Machines.{admitted_facts}
use Rattle.fsmd.proofs.PastTable.{past_whole, past_admitted, past_count, past_register_count, past_state}
use Rattle.bounds.specs.Bounds.{Bounds, next_bounds}
use Rattle.bounds.specs.Operation.{ordered, bounds_answer, bounds_after, left, lowest_left, highest_left}
use Rattle.bounds.specs.Values.{Long}
use Rattle.bounds.proofs.Answers.{accepted, not_admitted, no_state, crossed, not_refused}

-- registers are the first words of a buffer
module _ (ls hs v w : List ℕ) (low : max_registers ≤ length ls) (high : max_registers ≤ length hs) (n : ℕ) (few : n ≤ max_registers) where
  end_same : (l x : List ℕ) (i : ℕ) → max_registers ≤ length l → i < n → get_or (l ++ x) i 0 ≡ get_or l i 0
  end_same l x i long h = get_or-append l x 0 i (omega arith)

  test_same : (i : ℕ) → i < n → compare_of Ge (get_or (hs ++ w) i 0) (get_or (ls ++ v) i 0) ≡ compare_of Ge (get_or hs i 0) (get_or ls i 0)
  test_same i h = ap₂ (compare_of Ge) (end_same hs w i high h) (end_same ls v i low h)

  past_ordered : ordered n (ls ++ v) (hs ++ w) ≡ ordered n ls hs
  past_ordered =
      same_test (ordered n (ls ++ v) (hs ++ w)) (ordered n ls hs)
      (λ e. below_of (λ i. compare_of Ge (get_or hs i 0) (get_or ls i 0)) n (λ i h. sym (test_same i h) ∙ below_at (λ i. compare_of Ge (get_or (hs ++ w) i 0) (get_or (ls ++ v) i 0)) n i e h))
      (λ e. below_of (λ i. compare_of Ge (get_or (hs ++ w) i 0) (get_or (ls ++ v) i 0)) n (λ i h. test_same i h ∙ below_at (λ i. compare_of Ge (get_or hs i 0) (get_or ls i 0)) n i e h))

-- a longer buffer: where nothing is refused, the same new words, as many as before
past_left : (a : Result (Unit {0}) Refusal) (r n : ℕ) (new words l x : List ℕ) → (a ≡ Ok tt → (r ≡ n) × (new ≡ words) × (n ≤ length l)) → left a r new (l ++ x) ≡ left a n words l ++ x
past_left (Err refusal) r n new words l x h = refl
past_left (Ok tt) r n new words l x h =
    let p = h refl in
    ap₂ (λ (ws : List ℕ) (m : ℕ). ws ++ drop m (l ++ x)) p.1 p.0
    ∙ ap (λ (rest : List ℕ). words ++ rest) (drop-append-le n l x p.2) ∙ sym (append_assoc words (drop n l) x)

module _ (t u ls v hs w : List ℕ) (long : Long t ls hs) (k : ℕ) where
  past_long : Long (t ++ u) (ls ++ v) (hs ++ w)
  past_long =
      record { table = past_whole t u long.table; lowest = rw length-append (omega (arith, long.lowest)); highest = rw length-append (omega (arith, long.highest)) }

  past_orders : admitted_machine t ≡ true → ordered (machine_register_count (t ++ u)) (ls ++ v) (hs ++ w) ≡ ordered (machine_register_count t) ls hs
  past_orders good =
      ap (λ (n : ℕ). ordered n (ls ++ v) (hs ++ w)) (past_register_count t u long.table)
      ∙ past_ordered ls hs v w long.lowest long.highest (machine_register_count t) (admitted_facts t good).few_registers_lem

  pub past_bounds : bounds_answer (t ++ u) (ls ++ v) (hs ++ w) k ≡ bounds_answer t ls hs k
  past_bounds = go (admitted_machine t) (ltb k (state_count t)) (ordered (machine_register_count t) ls hs) refl refl refl
    where
      counts : state_count (t ++ u) ≡ state_count t
      counts = past_count t u long.table

      admits : admitted_machine (t ++ u) ≡ admitted_machine t
      admits = past_admitted t u long.table

      go : (b c d : Bool) → admitted_machine t ≡ b → ltb k (state_count t) ≡ c → ordered (machine_register_count t) ls hs ≡ d
          → bounds_answer (t ++ u) (ls ++ v) (hs ++ w) k ≡ bounds_answer t ls hs k
      go false c d e f g = not_admitted (t ++ u) (ls ++ v) (hs ++ w) k past_long (admits ∙ e) ∙ sym (not_admitted t ls hs k long e)
      go true false d e f g =
          let h = ltb-false k (state_count t) f in
          no_state (t ++ u) (ls ++ v) (hs ++ w) k past_long (admits ∙ e) (omega (arith, h, counts)) ∙ sym (no_state t ls hs k long e h)
      go true true false e f g =
          let h = ltb-true k (state_count t) f in
          crossed (t ++ u) (ls ++ v) (hs ++ w) k past_long (admits ∙ e) (omega (arith, h, counts)) (past_orders e ∙ g) ∙ sym (crossed t ls hs k long e h g)
      go true true true e f g =
          let h = ltb-true k (state_count t) f in
          not_refused (t ++ u) (ls ++ v) (hs ++ w) k past_long (admits ∙ e) (omega (arith, h, counts)) (past_orders e ∙ g) ∙ sym (not_refused t ls hs k long e h g)

  past_after : admitted_machine t ≡ true → k < state_count t → bounds_after (t ++ u) (ls ++ v) (hs ++ w) k ≡ bounds_after t ls hs k
  unfolding bounds_after
  past_after good h =
      ap (λ (q : State). next_bounds q (record { lowest = take max_registers (ls ++ v); highest = take max_registers (hs ++ w) })) (past_state t u long.table good k h)
      ∙ rw (take-append-le max_registers ls v long.lowest, take-append-le max_registers hs w long.highest)

  -- where nothing is refused, the new words do not depend on what is past the lengths, and there are few of them
  record Same : Type 0 where
    count : machine_register_count (t ++ u) ≡ machine_register_count t
    few : machine_register_count t ≤ max_registers
    after : bounds_after (t ++ u) (ls ++ v) (hs ++ w) k ≡ bounds_after t ls hs k

  same : bounds_answer t ls hs k ≡ Ok tt → Same
  same e =
      let a = accepted t ls hs k e in
      record { count = past_register_count t u long.table; few = a.table.few_registers_lem; after = past_after a.good a.state }

  pub past_lowest : lowest_left (t ++ u) (ls ++ v) (hs ++ w) k ≡ lowest_left t ls hs k ++ v
  unfolding lowest_left
  past_lowest =
      ap (λ (a : Result (Unit {0}) Refusal). left a (machine_register_count (t ++ u)) (bounds_after (t ++ u) (ls ++ v) (hs ++ w) k).lowest (ls ++ v)) past_bounds
      ∙ past_left (bounds_answer t ls hs k) (machine_register_count (t ++ u)) (machine_register_count t) _ _ ls v
      (λ e. let s = same e in (s.count, ap (λ (b : Bounds). b.lowest) s.after, omega (arith, s.few, long.lowest)))

  pub past_highest : highest_left (t ++ u) (ls ++ v) (hs ++ w) k ≡ highest_left t ls hs k ++ w
  unfolding highest_left
  past_highest =
      ap (λ (a : Result (Unit {0}) Refusal). left a (machine_register_count (t ++ u)) (bounds_after (t ++ u) (ls ++ v) (hs ++ w) k).highest (hs ++ w)) past_bounds
      ∙ past_left (bounds_answer t ls hs k) (machine_register_count (t ++ u)) (machine_register_count t) _ _ hs w
      (λ e. let s = same e in (s.count, ap (λ (b : Bounds). b.highest) s.after, omega (arith, s.few, long.highest)))
