-- Every cycle from values inside ends inside what the operation leaves, in signed values; so no lowest that it leaves is above its highest. Assumes nothing.
use Rattle.std.proofs.Common.{◌≡◌, ℕ, ◌^◌, ◌<◌, Bool, true, false, ltb, List, Ok, [], ◌∷◌, ◌++◌, map, length, get_or, take, drop, sym, refl, ap, ◌∙◌, le_trans, arith, lit<, length-take-le, get_or-take, ltb-false, ltb-true, le-leb, leb-true}
use lib.ListN.{get_or-append}
use Rattle.runs.specs.Lists.{up_from}
use Rattle.runs.proofs.Every.{below_at}
use Rattle.word.specs.Word.{compare_of}
use Rattle.word.specs.declared.Comparison.TheVariants.{Ge}
use Rattle.word.proofs.Levels.{level, ge_level}
use Rattle.fsmd.specs.Layout.{max_registers}
use Rattle.fsmd.specs.Machine.{State, clock}
use Rattle.fsmd.specs.Table.{machine_register_count, wire_at, state_at, machine_of, first_wire_at, wire_count_at}
use Rattle.fsmd.proofs.Machines.{state_is}
use Rattle.bounds.specs.declared.Range.{Range}
use Rattle.bounds.specs.Bounds.{range_at, first_bounds}
use Rattle.bounds.specs.Operation.{bounds_answer, bounds_after, lowest_left, highest_left}
use Rattle.bounds.specs.Sound.{Between, Inside, RegisterWords, CyclesStayInside, NotCrossed}
use Rattle.bounds.proofs.Answers.{Accepted, accepted, next-count, bounded-left, after-count}
use Rattle.bounds.proofs.CycleBounds.{read_past}
use Rattle.bounds.proofs.CycleSound.{Literals, known_registers, cycle_holds}
use Rattle.bounds.proofs.RangeSound.{Within}

-- a list of words
abbrev pub AllWords : List ℕ → Type 0
AllWords l = (i : ℕ) → get_or l i 0 < 2 ^ 32

-- ---- between, as signed, is within, by levels

within : (r : Range) (x : ℕ) → r.low < 2 ^ 32 → r.high < 2 ^ 32 → x < 2 ^ 32 → Between r.low r.high x → Within r x
within r x l h w b =
    record {
      low_word = l;
      high_word = h;
      word = w;
      above = leb-true _ _ (sym (ge_level x r.low w l) ∙ b.above);
      under = leb-true _ _ (sym (ge_level r.high x h w) ∙ b.under);
    }

between : (r : Range) (x : ℕ) → Within r x → Between r.low r.high x
between r x w =
    record {
      above = ge_level x r.low w.word w.low_word ∙ le-leb _ _ w.above;
      under = ge_level r.high x w.high_word w.word ∙ le-leb _ _ w.under;
    }

moved : {l m h j x y : ℕ} → l ≡ m → h ≡ j → x ≡ y → Between m j y → Between l h x
moved e f g b = rw (e, f, g) b

-- ---- the state of a table

literals : (t : List ℕ) → AllWords t → (is : List ℕ) → Literals (map (wire_at t) is)
unfolding wire_at
literals t w [] = tt
literals t w (i ∷ is) = (w _, literals t w is)

module _ (t ls hs : List ℕ) (k : ℕ) (words : AllWords t) (low-words : AllWords ls) (high-words : AllWords hs) (answer : bounds_answer t ls hs k ≡ Ok tt) where
  facts : Accepted t ls hs k
  facts = accepted t ls hs k answer

  -- a register's range before the cycle is what the buffers say
  first_is : (l : List ℕ) (i : ℕ) → i < machine_register_count t → get_or (take max_registers l) i 0 ≡ get_or l i 0
  first_is l i h = let few = facts.table.few_registers_lem in get_or-take max_registers l i 0 (omega arith)

  state_literals : Literals (state_at t k).wires
  unfolding state_at
  state_literals = literals t words (up_from (first_wire_at t k) (wire_count_at t k))

  module _ (sampled : ℕ) (hs' : sampled < 2 ^ 32) (rs : List ℕ) (file : RegisterWords rs) (start : Inside (machine_register_count t) ls hs rs) where
    next_within : (i : ℕ) → i < machine_register_count t → Within (range_at (bounds_after t ls hs k) i) (get_or (clock (machine_of t) sampled (state_at t k) rs).registers i 0)
    unfolding bounds_after machine_of
    next_within i h =
        let a = facts in
        let e = first_bounds max_registers ls hs in
        cycle_holds (machine_of t) (state_at t k) sampled rs e hs'
        (known_registers (machine_register_count t) rs e a.table.few_registers_lem file.count (length-take-le max_registers ls a.long.lowest) (length-take-le max_registers hs a.long.highest)
        (λ j q. rw (first_is ls j q, first_is hs j q) (within (record { low = get_or ls j 0; high = get_or hs j 0 }) (get_or rs j 0) (low-words j) (high-words j) (file.words j) (start j q))))
        state_literals (a.table.valid k a.state) i (rw (next-count t ls hs k facts) h)

  -- what is left at a register below R is the next bound
  left_at : (l new rest : List ℕ) (i : ℕ) → l ≡ new ++ rest → length new ≡ machine_register_count t → i < machine_register_count t → get_or l i 0 ≡ get_or new i 0
  left_at l new rest i e n h = ap (λ (l : List ℕ). get_or l i 0) e ∙ get_or-append new rest 0 i (omega arith)

  pub stays_inside : CyclesStayInside t k ls hs (lowest_left t ls hs k) (highest_left t ls hs k)
  stays_inside sampled hs' rs file start i h =
      let b = bounded-left t ls hs k answer in
      let f = bounds_after t ls hs k in
      let n = after-count t ls hs k facts in
      moved (left_at (lowest_left t ls hs k) f.lowest (drop (machine_register_count t) ls) i b.lowest n.0 h) (left_at (highest_left t ls hs k) f.highest (drop (machine_register_count t) hs) i b.highest n.1 h)
      (ap (λ (q : State). get_or (clock (machine_of t) sampled q rs).registers i 0) (state_is t k facts.state))
      (between (range_at f i) (get_or (clock (machine_of t) sampled (state_at t k) rs).registers i 0) (next_within sampled hs' rs file start i h))

  -- ---- the lowest words of the registers lie inside, so that some registers do

  lowest_file : RegisterWords (take max_registers ls)
  lowest_file =
      record {
        count = length-take-le max_registers ls facts.long.lowest;
        words = λ i. word_at i (ltb i max_registers) refl;
      }
    where
      word_at : (i : ℕ) (b : Bool) → ltb i max_registers ≡ b → get_or (take max_registers ls) i 0 < 2 ^ 32
      word_at i true e = rw (get_or-take max_registers ls i 0 (ltb-true i max_registers e)) (low-words i)
      word_at i false e = rw (read_past ls max_registers i facts.long.lowest (ltb-false i max_registers e)) (lit< tt)

  lowest_inside : Inside (machine_register_count t) ls hs (take max_registers ls)
  lowest_inside i h =
      rw (first_is ls i h)
      (record {
        above = ge_level (get_or ls i 0) (get_or ls i 0) (low-words i) (low-words i) ∙ le-leb (level (get_or ls i 0)) (level (get_or ls i 0)) (omega arith);
        under = below_at (λ j. compare_of Ge (get_or hs j 0) (get_or ls j 0)) (machine_register_count t) i facts.in_order h;
      })

  pub not_crossed : NotCrossed t (lowest_left t ls hs k) (highest_left t ls hs k)
  not_crossed i h =
      let w = next_within 0 (lit< tt) (take max_registers ls) lowest_file lowest_inside i h in
      let b = bounded-left t ls hs k answer in
      let f = bounds_after t ls hs k in
      let n = after-count t ls hs k facts in
      rw (left_at (lowest_left t ls hs k) f.lowest (drop (machine_register_count t) ls) i b.lowest n.0 h, left_at (highest_left t ls hs k) f.highest (drop (machine_register_count t) hs) i b.highest n.1 h)
      (ge_level (get_or f.highest i 0) (get_or f.lowest i 0) w.high_word w.low_word ∙ le-leb _ _ (le_trans w.above w.under))
