-- Demand 3, the per-cycle agreement on equal words: one statement on whole runs, over all starters, words, registers and every k. Assumes nothing.
-- To be read beside "The mission" and "Runs" of paper 01, and R-1, R-2 and R-7 of paper 02. Equal contents are equal registers and equal flags.
use Rattle.std.specs.Prelude.{ℕ, suc, ◌+◌, ◌≤◌, ◌<◌, ◌≡◌, ◌⊎◌, ◌↔◌, ◌≢◌, true, false, List, [], ◌++◌, length, get_or, take, drop, Result, Ok}
use Rattle.word.specs.Word.{truth}
use Rattle.runs.specs.Lists.{mem}
use Rattle.runs.specs.Runs.{Place, standing, halted, Contents, Configuration, stands_at, start_at, Supply, listed, unread, Runner, goes, step, times, steps_run, total, answer, run_number, run_outcome, run_count, run_next, run_flag}
use Rattle.runs.specs.Operations.{next_at}
use Rattle.refusal.specs.declared.Refusal.{Refusal}
use Rattle.runs.specs.declared.RunEnd.{RunEnd}
use Rattle.cfg.specs.Graph.{CFG, graph_runner, wordless_graph}
use Rattle.cfg.specs.Table.{graph_of}
use Rattle.cfg.specs.Run.{graph_words_answer, graph_words_registers}
use Rattle.fsmd.specs.Layout.{max_registers, absent}
use Rattle.fsmd.specs.Machine.{state_of, machine_runner, blocks_run, wordless_machine}
use Rattle.fsmd.specs.Table.{machine_of, valid_state}
use Rattle.fsmd.specs.Run.{machine_answer, machine_registers, machine_blocks, machine_words_answer, machine_words_registers, machine_words_blocks}
use Rattle.grouping.specs.Grouping.{Groups, groups}
use Rattle.placement.specs.Placement.{members}

-- ---- the graph's side: the sequence of configurations of its own run, from block b₀ with registers rs, on the words ws

module _ (g : CFG) (starters : List ℕ) (ws : Supply) (b₀ : ℕ) (rs : List ℕ) where
  -- the graph after n steps; no step follows a halt, or where it is dry
  abbrev pub graph_after : ℕ → Configuration
  graph_after n = times (graph_runner g starters) ws n (start_at b₀ rs)

  -- all of the first n steps are run
  abbrev pub AllRun : ℕ → Type 0
  AllRun n = steps_run (graph_runner g starters) ws n (start_at b₀ rs) ≡ n

  -- Arrival k comes with step n: the graph then stands at the starter b with contents q. The start is arrival 0.
  pub record Arrival (k n b : ℕ) (q : Contents) : Type 0 where
    pub run : AllRun n
    pub stands : graph_after n ≡ stands_at k b q
    pub starter : mem b starters ≡ true

  -- The run halts with step n and contents q, without reaching arrival k.
  pub record HaltBefore (k n : ℕ) (q : Contents) : Type 0 where
    pub run : AllRun n
    pub stopped : (graph_after n).place ≡ halted
    pub contents : (graph_after n).contents ≡ q
    pub counted : (graph_after n).arrivals < k

  -- n steps go with k cycles: step n makes arrival k, or halts before there is one; a halted run's n goes with every later k as well
  abbrev pub AfterCycles : ℕ → ℕ → Type 0
  AfterCycles k n = ((b : ℕ) × (q : Contents) × Arrival k n b q) ⊎ ((q : Contents) × HaltBefore k n q)

-- ---- the machine's side

-- the machine m after k cycles from state q₀ with registers rs, on the words ws
abbrev pub machine_after : Runner → Supply → ℕ → List ℕ → ℕ → Configuration
machine_after m ws q₀ rs k = times m ws k (start_at q₀ rs)

-- the blocks that these cycles count: f counts those of one cycle
abbrev pub machine_counts : Runner → (ℕ → ℕ → List ℕ → ℕ) → Supply → ℕ → List ℕ → ℕ → ℕ
machine_counts m f ws q₀ rs k = total m ws f k (start_at q₀ rs)

-- a block's state
abbrev pub state_in : Groups → ℕ → ℕ
state_in s b = get_or s.states b absent

abbrev pub place_in : Groups → Place → Place
place_in s (standing b) = standing (state_in s b)
place_in s halted = halted

-- what a graph's configuration is in the machine: the block's state, and all else equal
abbrev pub in_machine : Groups → Configuration → Configuration
in_machine s c = record { place = place_in s c.place; contents = c.contents; arrivals = c.arrivals }

-- Graph and machine after k cycles, from the starter b₀ and its state, both with registers rs, on equal words.
pub record AgreeAfter (g : CFG) (s : Groups) (m : Runner) (f : ℕ → ℕ → List ℕ → ℕ) (ws : Supply) (b₀ : ℕ) (rs : List ℕ) (k : ℕ) : Type 0 where
  -- the graph reaches arrival k, or halts without reaching it; never both
  pub either : (n : ℕ) × AfterCycles g s.starters ws b₀ rs k n
  pub apart : (n b : ℕ) (q : Contents) → Arrival g s.starters ws b₀ rs k n b q → (n' : ℕ) (q' : Contents) → HaltBefore g s.starters ws b₀ rs k n' q' → ⊥
  -- the machine has halted exactly when the graph's run halts without reaching arrival k, and then both have equal registers and flags
  pub halts : (q : Contents)
      → (((machine_after m ws (state_in s b₀) rs k).place ≡ halted) × ((machine_after m ws (state_in s b₀) rs k).contents ≡ q))
      ↔ ((n : ℕ) × HaltBefore g s.starters ws b₀ rs k n q)
  -- otherwise the graph reaches arrival k, and the machine stands in its starter's state with equal registers and flags
  pub stands : (b : ℕ) (q : Contents) → mem b s.starters ≡ true
      → (machine_after m ws (state_in s b₀) rs k ≡ stands_at k (state_in s b) q) ↔ ((n : ℕ) × Arrival g s.starters ws b₀ rs k n b q)
  -- the blocks that the machine has counted are exactly those that the graph runs up to arrival k, or up to its halt
  pub counted : (n : ℕ) → AfterCycles g s.starters ws b₀ rs k n → machine_counts m f ws (state_in s b₀) rs k ≡ n
  -- in the next cycle the graph runs at least one block and at most as many as the state has
  pub blocks : (n b : ℕ) (q : Contents) → Arrival g s.starters ws b₀ rs k n b q → (n' : ℕ) → AfterCycles g s.starters ws b₀ rs (suc k) n'
      → (n + 1 ≤ n') × (n' ≤ n + length (members g s (state_in s b)))

-- ---- whole runs with budgets, on equal words

-- With a budget of n blocks the graph's run ends as the machine's with k cycles: spent, halted or dry alike,
-- at the same arrival with equal registers and flags, the one at a starter and the other in its state; and the machine has counted the blocks that the graph ran.
pub record SameEnd (g : CFG) (s : Groups) (m : Runner) (f : ℕ → ℕ → List ℕ → ℕ) (ws : Supply) (b₀ : ℕ) (rs : List ℕ) (k n : ℕ) : Type 0 where
  pub outcome : run_outcome (Ok (answer (graph_runner g s.starters) ws n (start_at b₀ rs))) ≡ run_outcome (Ok (answer m ws k (start_at (state_in s b₀) rs)))
  pub same : machine_after m ws (state_in s b₀) rs k ≡ in_machine s (graph_after g s.starters ws b₀ rs n)
  pub starter : (b : ℕ) → (graph_after g s.starters ws b₀ rs n).place ≡ standing b → mem b s.starters ≡ true
  pub counted : machine_counts m f ws (state_in s b₀) rs k ≡ steps_run (graph_runner g s.starters) ws n (start_at b₀ rs)

-- There is a budget of blocks at which they do and, where the machine's run is halted or dry, from which on they do.
pub record RunsAlike (g : CFG) (s : Groups) (m : Runner) (f : ℕ → ℕ → List ℕ → ℕ) (ws : Supply) (b₀ : ℕ) (rs : List ℕ) (k : ℕ) : Type 0 where
  pub blocks : ℕ
  pub at : SameEnd g s m f ws b₀ rs k blocks
  pub beyond : run_outcome (Ok (answer m ws k (start_at (state_in s b₀) rs))) ≢ 0 → (n : ℕ) → blocks ≤ n → SameEnd g s m f ws b₀ rs k n

-- ---- Run machine from state q₀, with a register buffer and budget k, on the words ws

-- c is the number of the cycle in which the machine halts
pub record HaltingCycle (m : Runner) (ws : Supply) (q₀ : ℕ) (rs : List ℕ) (c : ℕ) : Type 0 where
  pub running : (i : ℕ) → i < c → goes ws (machine_after m ws q₀ rs i) ≡ true
  pub stopped : (machine_after m ws q₀ rs c).place ≡ halted

-- after c cycles, fewer than k, the machine makes arrival c, for which there is no word
pub record DryCycle (m : Runner) (ws : Supply) (q₀ : ℕ) (rs : List ℕ) (k c : ℕ) : Type 0 where
  pub running : (i : ℕ) → i < c → goes ws (machine_after m ws q₀ rs i) ≡ true
  pub standing : (machine_after m ws q₀ rs c).place ≢ halted
  pub arrival : (machine_after m ws q₀ rs c).arrivals ≡ c
  pub dry : ws.lasts c ≡ false
  pub left : c < k

-- the answer a of k cycles from the buffer's registers, the blocks n that it has counted, and the buffer after, where not refused
pub record Answers (m : Runner) (f : ℕ → ℕ → List ℕ → ℕ) (ws : Supply) (q₀ k : ℕ) (buffer after : List ℕ) (a : Result RunEnd Refusal) (n : ℕ) : Type 0 where
  -- halted exactly when the machine has halted after k cycles
  pub halts : (run_outcome a ≡ 1) ↔ ((machine_after m ws q₀ (take max_registers buffer) k).place ≡ halted)
  -- the registers and the flag of that moment, words past 16 as before
  pub registers : after ≡ (machine_after m ws q₀ (take max_registers buffer) k).contents.registers ++ drop max_registers buffer
  pub flag : run_flag a ≡ truth (machine_after m ws q₀ (take max_registers buffer) k).contents.flag
  -- the state then stood in, or 255
  pub next : run_next a ≡ next_at (machine_after m ws q₀ (take max_registers buffer) k).place
  -- the count: k, or the halting cycle's number, or the cycles before the arrival that has no word
  pub spent : run_outcome a ≡ 0 → run_count a ≡ k
  pub ended : run_outcome a ≡ 1 → HaltingCycle m ws q₀ (take max_registers buffer) (run_count a)
  pub dried : run_outcome a ≡ 2 → DryCycle m ws q₀ (take max_registers buffer) k (run_count a)
  pub blocks : n ≡ machine_counts m f ws q₀ (take max_registers buffer) k

-- the same of an operation that may be refused
pub record RunAgrees (m : Runner) (f : ℕ → ℕ → List ℕ → ℕ) (ws : Supply) (q₀ k : ℕ) (buffer after : List ℕ) (a : Result RunEnd Refusal) (n : ℕ) : Type 0 where
  -- never refused 9, 10 or 12, and not at all where the buffer has its 16 words
  pub not9 : run_number a ≢ 9
  pub not10 : run_number a ≢ 10
  pub not12 : run_number a ≢ 12
  pub accepted : max_registers ≤ length buffer → run_number a ≡ 0
  pub answers : run_number a ≡ 0 → Answers m f ws q₀ k buffer after a n

-- ---- Run graph with words and starters beside Run machine with words

-- the graph's answer and buffer, and the machine's, with the blocks n that it has counted: the same outcome, equal registers and flags,
-- next the starter of the machine's next state, and n the graph's count
pub record SameAnswer (s : Groups) (graph machine : Result RunEnd Refusal) (n : ℕ) (after after' : List ℕ) : Type 0 where
  pub accepted : (run_number graph ≡ 0) × (run_number machine ≡ 0)
  pub outcome : run_outcome graph ≡ run_outcome machine
  pub registers : after ≡ after'
  pub flag : run_flag graph ≡ run_flag machine
  pub next : (run_outcome machine ≡ 1) ⊎ ((mem (run_next graph) s.starters ≡ true) × (run_next machine ≡ state_in s (run_next graph)))
  pub blocks : n ≡ run_count graph

module _ (graph_table machine_table : List ℕ) (s : Groups) (buffer words starters : List ℕ) (b₀ k : ℕ) where
  -- with a budget of n blocks and one of k cycles
  abbrev pub Alike : ℕ → Type 0
  Alike n =
      SameAnswer s (graph_words_answer graph_table buffer b₀ n words starters) (machine_words_answer machine_table buffer (state_in s b₀) k words)
      (machine_words_blocks machine_table buffer (state_in s b₀) k words)
      (graph_words_registers graph_table buffer b₀ n words starters) (machine_words_registers machine_table buffer (state_in s b₀) k words)

  -- there is a budget of blocks at which they are and, where the machine's run is halted or dry, from which on they are
  pub record OperationsAlike : Type 0 where
    pub blocks : ℕ
    pub at : Alike blocks
    pub beyond : run_outcome (machine_words_answer machine_table buffer (state_in s b₀) k words) ≢ 0 → (n : ℕ) → blocks ≤ n → Alike n

-- ---- demand 3, on the words of a graph table and a machine table

-- there is a word for each arrival below k: any k without words, and k up to its length on a list
abbrev pub LastsTo : Supply → ℕ → Type 0
LastsTo ws k = (j : ℕ) → j < k → ws.lasts j ≡ true

-- The machine of a graph whose grouping is s, and the graph, from every starter and its state, on equal words
pub record AgreementFor (s : Groups) (graph_table machine_table : List ℕ) : Type 0 where
  pub agree : (ws : Supply) (b₀ : ℕ) → mem b₀ s.starters ≡ true → (rs : List ℕ) → length rs ≡ max_registers
      → (k : ℕ) → LastsTo ws k → AgreeAfter (graph_of graph_table) s (machine_runner (machine_of machine_table)) (blocks_run (machine_of machine_table)) ws b₀ rs k
  -- every k, also where the words do not last
  pub alike : (ws : Supply) (b₀ : ℕ) → mem b₀ s.starters ≡ true → (rs : List ℕ) → length rs ≡ max_registers
      → (k : ℕ) → RunsAlike (graph_of graph_table) s (machine_runner (machine_of machine_table)) (blocks_run (machine_of machine_table)) ws b₀ rs k
  -- Run machine with words: every k, and so each that a budget can hold
  pub runs : (words : List ℕ) (b₀ : ℕ) → mem b₀ s.starters ≡ true → (buffer : List ℕ) (k : ℕ)
      → let q₀ = state_in s b₀ in
      RunAgrees (machine_runner (machine_of machine_table)) (blocks_run (machine_of machine_table)) (listed words) q₀ k buffer
      (machine_words_registers machine_table buffer q₀ k words) (machine_words_answer machine_table buffer q₀ k words) (machine_words_blocks machine_table buffer q₀ k words)
  -- and Run machine, of a machine that reads no word
  pub wordless_runs : wordless_machine (machine_of machine_table) ≡ true → (b₀ : ℕ) → mem b₀ s.starters ≡ true → (buffer : List ℕ) (k : ℕ)
      → let q₀ = state_in s b₀ in
      RunAgrees (machine_runner (machine_of machine_table)) (blocks_run (machine_of machine_table)) unread q₀ k buffer
      (machine_registers machine_table buffer q₀ k) (machine_answer machine_table buffer q₀ k) (machine_blocks machine_table buffer q₀ k)
  -- a starter list that holds the machine's starters and no others
  pub operations : (words starters : List ℕ) → ((b : ℕ) → mem b starters ≡ mem b s.starters)
      → (b₀ : ℕ) → mem b₀ s.starters ≡ true → (buffer : List ℕ) → max_registers ≤ length buffer
      → (k : ℕ) → OperationsAlike graph_table machine_table s buffer words starters b₀ k
  -- block 0 is a starter, and its state is 0
  pub entry : mem 0 s.starters ≡ true
  pub begins : state_in s 0 ≡ 0
  -- the machine of a graph without code 20 has none either
  pub silent : wordless_graph (graph_of graph_table) ≡ true → wordless_machine (machine_of machine_table) ≡ true
  -- further cycles of a machine that has halted or is dry change nothing
  pub idle : (ws : Supply) (c : Configuration) → goes ws c ≡ false → step (machine_runner (machine_of machine_table)) ws c ≡ c
  -- each wire reads only registers at the start of the cycle and earlier wires
  pub wires : (k : ℕ) → k < length (machine_of machine_table).states
      → valid_state (machine_of machine_table).registers (state_of (machine_of machine_table) k) ≡ true

-- Synthesise's machine and its graph
abbrev pub Agreement : List ℕ → List ℕ → Type 0
Agreement graph_table machine_table = AgreementFor (groups (graph_of graph_table)) graph_table machine_table

-- Its case without words, from block 0 and state 0: demand 3 as paper 01 puts it, for graphs without code 20
pub record AgreementWithoutWordsFor (s : Groups) (graph_table machine_table : List ℕ) : Type 0 where
  pub agree : (rs : List ℕ) → length rs ≡ max_registers → (k : ℕ)
      → AgreeAfter (graph_of graph_table) s (machine_runner (machine_of machine_table)) (blocks_run (machine_of machine_table)) unread 0 rs k
  pub begins : state_in s 0 ≡ 0
  pub runs : wordless_graph (graph_of graph_table) ≡ true → (buffer : List ℕ) (k : ℕ)
      → RunAgrees (machine_runner (machine_of machine_table)) (blocks_run (machine_of machine_table)) unread 0 k buffer
      (machine_registers machine_table buffer 0 k) (machine_answer machine_table buffer 0 k) (machine_blocks machine_table buffer 0 k)
  -- the graph's run without words, which knows no starters, goes through the same places, registers and flags, and runs as many blocks
  pub unmarked : (rs : List ℕ) (n : ℕ)
      → let run = graph_after (graph_of graph_table) [] unread 0 rs n in
      let marked = graph_after (graph_of graph_table) s.starters unread 0 rs n in
      (run.place ≡ marked.place) × (run.contents ≡ marked.contents)
      × (steps_run (graph_runner (graph_of graph_table) []) unread n (start_at 0 rs) ≡ steps_run (graph_runner (graph_of graph_table) s.starters) unread n (start_at 0 rs))

abbrev pub AgreementWithoutWords : List ℕ → List ℕ → Type 0
AgreementWithoutWords graph_table machine_table = AgreementWithoutWordsFor (groups (graph_of graph_table)) graph_table machine_table
