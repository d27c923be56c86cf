-- Cycles of a table's machine as steps of a run, and the refusals. Assumes nothing.
use Prim.Native.Nat.{ℕ, ◌+◌, ◌-◌, ◌<◌, ◌≤◌}
use native.Mathlib.Numerals.{add-one}
use native.Mathlib.Omega.{arith}
use mathlib.Core.Bool.{Bool, true, false, not, ◌||◌, or-true}
use mathlib.Core.List.{List, ◌++◌, map}
use mathlib.Core.Path.{◌≡◌, refl, sym, ap, ap₂, ◌∙◌, subst}
use lib.ListN.{length, get_or, take, drop}
use borrow.Author.Rules.{rules}
use borrow.Author.Tests.{lt-ltb, le-ltb}
use lib.Dec.{ltb}
use Rattle.word.specs.Word.{choose}
use Rattle.runs.proofs.RunLaws.{goes_standing, step_going, Reached, reached_step}
use Rattle.runs.proofs.TotalLaws.{Totalled, totalled_step}
use Rattle.runs.proofs.OperationLaws.{refuses, accepts, accepts_total}
use Rattle.runs.proofs.SupplyLaws.{Alike}
use Rattle.runs.specs.Operations.{answered, registers_left, total_of}
use Rattle.std.specs.Prelude.{Option, Some, None, Result, Ok, Err}
use Rattle.refusal.specs.declared.Refusal.{Refusal}
use Rattle.refusal.specs.declared.Refusal.TheVariants.{ShortBuffer, NoStart, BadMachine, NoWords}
use Rattle.fsmd.specs.declared.run.MachineRun.{MachineRun}
use Rattle.runs.specs.Runs.{halted, Contents, Configuration, stands_at, start_at, up_to, Supply, Runner, Moved, contents_after, moved, step, answer, registers_after, total}
use Rattle.fsmd.specs.Chains.{blocks_from}
use Rattle.fsmd.specs.Clock.{after_cycle}
use Rattle.fsmd.specs.Layout.{max_registers, machine_words}
use Rattle.fsmd.specs.Machine.{FSMD, worked, clock, nonzero, machine_runner, blocks_run, wordless_machine}
use Rattle.fsmd.specs.Run.{machine_short, with_blocks, machine_refusal, machine_words_refusal}
use Rattle.fsmd.specs.Table.{state_at, arrival_at, machine_of, admitted_machine, table_refusal}
use Rattle.fsmd.specs.declared.clock.Next.{Next}
use Rattle.fsmd.proofs.ChainLaws.{arrived_run}
use Rattle.fsmd.proofs.Machines.{state_is}

-- ---- cycles

cycle_is : (t : List ℕ) (ws : Supply) (count k : ℕ) (x : Contents) (m : Moved) → k < get_or t 0 0 → ws.lasts count ≡ true
    → m ≡ clock (machine_of t) (ws.word count) (state_at t k) x.registers
    → step (machine_runner (machine_of t)) ws (stands_at count k x) ≡ moved (λ k. true) (stands_at count k x) m
cycle_is t ws count k x m b w e =
    let c = stands_at count k x in
    step_going (machine_runner (machine_of t)) ws c k refl w
    ∙ ap (λ q. moved (λ k. true) c (clock (machine_of t) (ws.word count) q x.registers)) (state_is t k b)
    ∙ ap (moved (λ k. true) c) (sym e)

-- where a machine stands after a cycle an arrival was made, so that their number is the count
cycle_step : (t : List ℕ) (ws : Supply) (budget : ℕ) (c₀ : Configuration) (count k : ℕ) (x : Contents) (m : Moved)
    → Reached (machine_runner (machine_of t)) ws budget c₀ count (stands_at count k x)
    → k < get_or t 0 0 → count < budget → ws.lasts count ≡ true → m ≡ clock (machine_of t) (ws.word count) (state_at t k) x.registers
    → Reached (machine_runner (machine_of t)) ws budget c₀ (count + 1) (moved (λ k. true) (stands_at count k x) m)
cycle_step t ws budget c₀ count k x m h b l w e =
    let r = machine_runner (machine_of t) in
    let c = stands_at count k x in
    subst (λ (c : Configuration). Reached r ws budget c₀ (count + 1) c) (cycle_is t ws count k x m b w e)
    (reached_step r ws budget c₀ count c h (goes_standing ws c k refl w) l)

-- and what its cycles count is n, and v more after the next
cycle_totals : (t : List ℕ) (ws : Supply) (budget : ℕ) (c₀ : Configuration) (count k : ℕ) (x : Contents) (m : Moved) (n v : ℕ)
    → Totalled (machine_runner (machine_of t)) ws (blocks_run (machine_of t)) budget c₀ count (stands_at count k x) n
    → k < get_or t 0 0 → count < budget → ws.lasts count ≡ true → m ≡ clock (machine_of t) (ws.word count) (state_at t k) x.registers
    → v ≡ blocks_run (machine_of t) (ws.word count) k x.registers
    → Totalled (machine_runner (machine_of t)) ws (blocks_run (machine_of t)) budget c₀ (count + 1) (moved (λ k. true) (stands_at count k x) m) (n + v)
cycle_totals t ws budget c₀ count k x m n v h b l w e f =
    let r = machine_runner (machine_of t) in
    let g = blocks_run (machine_of t) in
    let c = stands_at count k x in
    totalled_step r ws g budget c₀ count c n h k refl w l
    ∙ ap₂ (λ (i : ℕ) (d : Configuration). n + i + total r ws g (budget - (count + 1)) d) (sym f) (cycle_is t ws count k x m b w e)

-- a cycle as the code makes it, on what it read as word s and as state j
pub cycled : (t words : List ℕ) (limit budget : ℕ) (c₀ : Configuration) (count k : ℕ) (x : Contents) (n s j : ℕ) (r : Next)
    → machine_words ≤ length t → s ≡ get_or words count 0 → j ≡ k → k < get_or t 0 0 → count < limit → limit ≤ budget
    → after_cycle t r ≡ clock (machine_of t) s (state_at t j) x.registers → r.blocks ≡ nonzero (worked s x.registers (state_at t j).wires) (map (arrival_at t) (blocks_from t j 0))
    → Reached (machine_runner (machine_of t)) (up_to limit words) budget c₀ count (stands_at count k x)
    → Totalled (machine_runner (machine_of t)) (up_to limit words) (blocks_run (machine_of t)) budget c₀ count (stands_at count k x) n
    → Reached (machine_runner (machine_of t)) (up_to limit words) budget c₀ (count + 1) (moved (λ k. true) (stands_at count k x) (after_cycle t r))
    × Totalled (machine_runner (machine_of t)) (up_to limit words) (blocks_run (machine_of t)) budget c₀ (count + 1) (moved (λ k. true) (stands_at count k x) (after_cycle t r)) (n + r.blocks)
cycled t words limit budget c₀ count k x n s j r whole w i b l most e f h g =
    let ws = up_to limit words in
    let rs = x.registers in
    let last = lt-ltb count limit l in
    let less : count < budget = omega arith in
    let at = e ∙ ap₂ (λ (w k : ℕ). clock (machine_of t) w (state_at t k) rs) w i in
    let v = f ∙ ap₂ (λ (w k : ℕ). nonzero (worked w rs (state_at t k).wires) (map (arrival_at t) (blocks_from t k 0))) w i ∙ arrived_run t k whole (get_or words count 0) rs b in
    (cycle_step t ws budget c₀ count k x (after_cycle t r) h b less last at, cycle_totals t ws budget c₀ count k x (after_cycle t r) n r.blocks g b less last at v)

module _ (t : List ℕ) (r : Next) where
  pub after_standing : (count k : ℕ) (x : Contents) → r.state < get_or t 0 0
      → moved (λ k. true) (stands_at count k x) (after_cycle t r) ≡ stands_at (count + 1) r.state (contents_after x.flag (after_cycle t r))
  after_standing count k x h = rw (lt-ltb r.state (get_or t 0 0) h, add-one)

  pub after_halted : get_or t 0 0 ≤ r.state → (after_cycle t r).place ≡ halted
  after_halted h = rw (le-ltb r.state (get_or t 0 0) h)

-- ---- what an operation gives: how the run ends with its blocks, and the buffer left

module _ (m : FSMD) (ws : Supply) (rs : List ℕ) (start budget : ℕ) (n : Option Refusal) where
  abbrev r : Runner
  r = machine_runner m

  abbrev Gives : Result MachineRun Refusal → List ℕ → Type 0
  Gives x left = (x ≡ with_blocks (answered n r ws rs start budget) (total_of (blocks_run m) n r ws rs start budget)) × (left ≡ registers_left n r ws rs start budget)

  pub gives_refusal : (e : Refusal) → n ≡ Some e → Gives (Err e) rs
  gives_refusal e h =
      let z = refuses r ws rs start budget n e h in
      (ap (λ x. with_blocks x (total_of (blocks_run m) n r ws rs start budget)) z.0, z.1)

  -- from a run on other words that are alike as far as the budget goes
  pub gives_run : (a : Supply) → Alike budget a ws → n ≡ None → (x : MachineRun) (left : List ℕ)
      → x.end ≡ answer r a budget (start_at start (take max_registers rs))
      → left ≡ registers_after r a budget (start_at start (take max_registers rs)) ++ drop max_registers rs
      → x.blocks ≡ total r a (blocks_run m) budget (start_at start (take max_registers rs)) → Gives (Ok x) left
  gives_run a h e x left p q k =
      let z = accepts r ws rs start budget n a h e x.end left p q in
      (ap₂ with_blocks z.0 (k ∙ accepts_total (blocks_run m) r ws rs start budget n a h e), z.1)

-- ---- refusals

-- of the buffer, and then of the table alone, whatever is tested behind them
module _ (t rs : List ℕ) (rest : Option Refusal) where
  abbrev Tested : Option Refusal
  Tested = choose (machine_short t rs) (Some ShortBuffer) (choose (not (admitted_machine t)) (Some BadMachine) rest)

  short_buffer : length rs < max_registers → Tested ≡ Some ShortBuffer
  short_buffer h = rw (lt-ltb (length rs) max_registers h, or-true (ltb (length t) machine_words))

  refused_table : max_registers ≤ length rs → (e : Refusal) → table_refusal t ≡ Some e → Tested ≡ Some e
  refused_table h e = rw (le-ltb (length rs) max_registers h) (go (ltb (length t) machine_words) (admitted_machine t))
    where
      go : (a b : Bool) → choose a (Some ShortBuffer) (choose b None (Some BadMachine)) ≡ Some e → choose (a || false) (Some ShortBuffer) (choose (not b) (Some BadMachine) rest) ≡ Some e
      go true b k = k
      go false false k = k
      go false true k = absurd (search (k, rules))

module _ (t rs : List ℕ) (start : ℕ) where
  pub refuse_buffer : length rs < max_registers → machine_refusal t rs start ≡ Some ShortBuffer
  unfolding machine_refusal
  refuse_buffer = short_buffer t rs _

  pub refuse_table : max_registers ≤ length rs → (e : Refusal) → table_refusal t ≡ Some e → machine_refusal t rs start ≡ Some e
  unfolding machine_refusal
  refuse_table = refused_table t rs _

  module _ (whole : machine_words ≤ length t) where
    pub refuse_registers : length rs < max_registers → machine_refusal t rs start ≡ Some ShortBuffer
    unfolding machine_refusal
    refuse_registers h = rw (le-ltb (length t) machine_words whole, lt-ltb (length rs) max_registers h)

    module _ (room : max_registers ≤ length rs) where
      pub refuse_machine : admitted_machine t ≡ false → machine_refusal t rs start ≡ Some BadMachine
      unfolding machine_refusal
      refuse_machine h = rw (le-ltb (length t) machine_words whole, le-ltb (length rs) max_registers room, h)

      module _ (good : admitted_machine t ≡ true) where
        pub refuse_wordless : wordless_machine (machine_of t) ≡ false → machine_refusal t rs start ≡ Some NoWords
        unfolding machine_refusal
        refuse_wordless h = rw (le-ltb (length t) machine_words whole, le-ltb (length rs) max_registers room, good, h)

        module _ (silent : wordless_machine (machine_of t) ≡ true) where
          pub refuse_start : get_or t 0 0 ≤ start → machine_refusal t rs start ≡ Some NoStart
          unfolding machine_refusal
          refuse_start h = rw (le-ltb (length t) machine_words whole, le-ltb (length rs) max_registers room, good, silent, le-ltb start (get_or t 0 0) h)

          pub refuse_none : start < get_or t 0 0 → machine_refusal t rs start ≡ None
          unfolding machine_refusal
          refuse_none h = rw (le-ltb (length t) machine_words whole, le-ltb (length rs) max_registers room, good, silent, lt-ltb start (get_or t 0 0) h)

-- with words
module _ (t rs : List ℕ) (start : ℕ) where
  pub words_refuse_buffer : length rs < max_registers → machine_words_refusal t rs start ≡ Some ShortBuffer
  unfolding machine_words_refusal
  words_refuse_buffer = short_buffer t rs _

  pub words_refuse_table : max_registers ≤ length rs → (e : Refusal) → table_refusal t ≡ Some e → machine_words_refusal t rs start ≡ Some e
  unfolding machine_words_refusal
  words_refuse_table = refused_table t rs _

  module _ (whole : machine_words ≤ length t) where
    pub words_refuse_registers : length rs < max_registers → machine_words_refusal t rs start ≡ Some ShortBuffer
    unfolding machine_words_refusal
    words_refuse_registers h = rw (le-ltb (length t) machine_words whole, lt-ltb (length rs) max_registers h)

    module _ (room : max_registers ≤ length rs) where
      module _ (good : admitted_machine t ≡ true) where
        pub words_refuse_start : get_or t 0 0 ≤ start → machine_words_refusal t rs start ≡ Some NoStart
        unfolding machine_words_refusal
        words_refuse_start h = rw (le-ltb (length t) machine_words whole, le-ltb (length rs) max_registers room, good, le-ltb start (get_or t 0 0) h)

        pub words_refuse_none : start < get_or t 0 0 → machine_words_refusal t rs start ≡ None
        unfolding machine_words_refusal
        words_refuse_none h = rw (le-ltb (length t) machine_words whole, le-ltb (length rs) max_registers room, good, lt-ltb start (get_or t 0 0) h)
