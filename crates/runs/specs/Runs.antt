-- Runs ("Runs" of paper 01, R-1, R-2 and R-7 of paper 02), for graphs and machines alike. Assumes nothing.
use Prim.Native.Nat.{ℕ, zero, suc, ◌+◌, ◌<◌}
use Rattle.std.specs.Prelude.{Bool, true, false, ◌||◌, List, ◌≡◌, ltb, length, get_or, Option, Some, None, Result, Ok, Err}
use Rattle.word.specs.Word.{choose, truth}
use Rattle.refusal.specs.declared.Refusal.{Refusal}
use Rattle.refusal.specs.Refusal.{number}
use Rattle.runs.specs.declared.RunEnd.{RunEnd}
use Rattle.runs.specs.declared.RunEnd.TheVariants.{Halted, Spent, Dry}

-- the most blocks that a graph has, and states that a machine has
abbrev pub max_places : ℕ
max_places = 64

-- "for blocks and states 255 stands for none"
abbrev pub no_place : ℕ
no_place = 255

-- where control stands: at a block or in a state, or it has halted
pub data Place : Type 0 where
  standing : ℕ → Place
  halted : Place

-- the registers, and the flag: whether a sum has gone over
pub record Contents : Type 0 where
  pub registers : List ℕ
  pub flag : Bool

pub record Configuration : Type 0 where
  pub place : Place
  pub contents : Contents
  -- the number of the last arrival; the start is arrival 0
  pub arrivals : ℕ

abbrev pub stands_at : ℕ → ℕ → Contents → Configuration
stands_at k n x = record { place = standing n; contents = x; arrivals = k }

-- a run's start, with the flag clear
abbrev pub start_at : ℕ → List ℕ → Configuration
start_at n rs = stands_at 0 n (record { registers = rs; flag = false })

-- ---- the words of a run

-- arrival k uses word k, where there is one
pub record Supply : Type 0 where
  pub word : ℕ → ℕ
  pub lasts : ℕ → Bool

-- the words of a list, 0 past its end, for the first n arrivals
abbrev pub up_to : ℕ → List ℕ → Supply
up_to n ws = record { word = λ k. get_or ws k 0; lasts = λ k. ltb k n }

-- as many arrivals as there are words
abbrev pub listed : List ℕ → Supply
listed ws = up_to (length ws) ws

-- of a run without words: every arrival has one, which nothing reads
abbrev pub unread : Supply
unread = record { word = λ k. 0; lasts = λ k. true }

-- ---- what runs: a graph with its starters, or a machine

-- where a block or a cycle leads, the registers then, and whether a sum of it goes over
pub record Moved : Type 0 where
  pub place : Place
  pub registers : List ℕ
  pub over : Bool

pub record Runner : Type 0 where
  -- what one block or cycle does, from the sampled word, the block or state, and the registers
  pub unit : ℕ → ℕ → List ℕ → Moved
  -- the blocks or states whose every coming to is an arrival
  pub arrives : ℕ → Bool

-- ---- a run

-- f of the block or state that a run goes on from: it stands there, and there is a word for the arrival. Otherwise it has halted or is dry.
abbrev pub onward {ℓ} : {X : Type ℓ} → Place → Bool → X → (ℕ → X) → X
onward (standing n) true x f = f n
onward (standing n) false x f = x
onward halted word x f = x

-- the last arrival, where it was k, after a move to a place; a halt is no arrival
abbrev pub arrivals_at : (ℕ → Bool) → Place → ℕ → ℕ
arrivals_at arrives (standing n) k = choose (arrives n) (suc k) k
arrivals_at arrives halted k = k

-- what is then in the registers, and the flag, which stays set once it is raised
abbrev pub contents_after : Bool → Moved → Contents
contents_after flag m = record { registers = m.registers; flag = flag || m.over }

-- a configuration after a move
abbrev pub moved : (ℕ → Bool) → Configuration → Moved → Configuration
moved arrives c m =
    record {
      place = m.place;
      contents = contents_after c.contents.flag m;
      arrivals = arrivals_at arrives m.place c.arrivals;
    }

-- halted, or with budget left dry, or spent: with the count, the next block or state, and the flag
abbrev pub outcome : Place → Bool → ℕ → Bool → RunEnd
outcome halted left count flag = Halted count flag
outcome (standing n) true count flag = Dry count n flag
outcome (standing n) false count flag = Spent count n flag

-- it goes on: it has not halted and is not dry
abbrev pub goes : Supply → Configuration → Bool
goes ws c = onward c.place (ws.lasts c.arrivals) false (λ n. true)

module _ (r : Runner) (ws : Supply) where
  -- one step; a configuration that has halted or is dry stays
  unfoldable pub step : Configuration → Configuration
  step c = onward c.place (ws.lasts c.arrivals) c (λ n. moved r.arrives c (r.unit (ws.word c.arrivals) n c.contents.registers))

  unfoldable pub times : ℕ → Configuration → Configuration
  unfolding step
  times zero c = c
  times (suc k) c = times k (step c)

  -- how many of k steps are run: all, or those up to the halting one or to where it is dry
  unfoldable pub steps_run : ℕ → Configuration → ℕ
  unfolding step
  steps_run zero c = zero
  steps_run (suc k) c = onward c.place (ws.lasts c.arrivals) zero (λ n. suc (steps_run k (step c)))

  -- what f counts at each of k steps that is run, added up: f is of the sampled word, the block or state, and the registers
  unfoldable pub total : (ℕ → ℕ → List ℕ → ℕ) → ℕ → Configuration → ℕ
  unfolding step
  total f zero c = 0
  total f (suc k) c =
      onward c.place (ws.lasts c.arrivals) 0 (λ n. f (ws.word c.arrivals) n c.contents.registers + total f k (step c))

  -- whether the step from c goes over; none is run where c has halted or is dry
  abbrev pub step_over : Configuration → Bool
  step_over c = onward c.place (ws.lasts c.arrivals) false (λ n. (r.unit (ws.word c.arrivals) n c.contents.registers).over)

  -- one of the first k steps from c goes over
  abbrev pub SomeOver : ℕ → Configuration → Type 0
  SomeOver k c = (i : ℕ) × (i < k) × (step_over (times i c) ≡ true)

  -- the end of a run with a budget, and the registers that it leaves
  unfoldable pub answer : ℕ → Configuration → RunEnd
  unfolding times steps_run
  answer budget c =
      let count = steps_run budget c in
      let end = times budget c in
      outcome end.place (ltb count budget) count end.contents.flag

  unfoldable pub registers_after : ℕ → Configuration → List ℕ
  unfolding times
  registers_after budget c = (times budget c).contents.registers

-- the number that a refusal has with C, and 0 of none
abbrev pub refusal_number : Option Refusal → ℕ
refusal_number None = 0
refusal_number (Some e) = number e

-- the papers' fields of an answer: the refusal's number, the outcome (0 spent, 1 halted, 2 dry), the count, what is next, the flag (1 raised, 0 clear)
abbrev pub run_number : Result RunEnd Refusal → ℕ
run_number (Ok end) = 0
run_number (Err e) = number e

abbrev pub run_outcome : Result RunEnd Refusal → ℕ
run_outcome (Err e) = 0
run_outcome (Ok (Halted k f)) = 1
run_outcome (Ok (Spent k n f)) = 0
run_outcome (Ok (Dry k n f)) = 2

abbrev pub run_count : Result RunEnd Refusal → ℕ
run_count (Err e) = 0
run_count (Ok (Halted k f)) = k
run_count (Ok (Spent k n f)) = k
run_count (Ok (Dry k n f)) = k

abbrev pub run_next : Result RunEnd Refusal → ℕ
run_next (Err e) = 0
run_next (Ok (Halted k f)) = no_place
run_next (Ok (Spent k n f)) = n
run_next (Ok (Dry k n f)) = n

abbrev pub run_flag : Result RunEnd Refusal → ℕ
run_flag (Err e) = 0
run_flag (Ok (Halted k f)) = truth f
run_flag (Ok (Spent k n f)) = truth f
run_flag (Ok (Dry k n f)) = truth f
