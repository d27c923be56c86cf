-- A turn of the loop that runs a graph's blocks: what holds once a block has run and its ending is told. Assumes nothing.
use Prim.Native.Nat.{ℕ, ◌+◌, ◌%◌, ◌≤◌, ◌<◌}
use mathlib.Core.Bool.{Bool, true, false, ◌||◌}
use mathlib.Core.List.{List}
use mathlib.Core.Path.{◌≡◌, sym, ap, subst, ◌∙◌}
use lib.ListN.{get_or, drop}
use borrow.Author.Tests.{lt-ltb}
use Rattle.std.specs.Prelude.{Option}
use Rattle.word.specs.Word.{choose}
use Rattle.runs.proofs.RunLaws.{Reached}
use Rattle.runs.specs.Runs.{Place, standing, halted, Contents, stands_at, start_at, up_to, arrivals_at}
use Rattle.cfg.specs.declared.Condition.{Condition}
use Rattle.cfg.specs.declared.Block.{Block}
use Rattle.cfg.specs.Layout.{max_registers}
use Rattle.cfg.specs.Steps.{EndingWithin, BlockWithin, compared_of, leave_by, place_of, marked_runner}
use Rattle.cfg.specs.Table.{block_count, block_at, graph_of, admitted_graph}
use Rattle.cfg.specs.Graph.{instructions_of, execute_all, instructions_over, leave}
use Rattle.cfg.proofs.Running.{code_done, flag_done, block_within, ending_within, leave_is, next_below, turn, stands_at_lem}
use Rattle.cfg.proofs.Admitted.{admitted_facts}

-- the block that is run is the table's, and reads registers of the file
pub inside : (t : List ℕ) → admitted_graph t ≡ true → (n : ℕ) → n < block_count t → (b : Block) → b ≡ block_at t n → BlockWithin b
inside t good n below b e = subst BlockWithin (sym e) (block_within t (admitted_facts t good) n below)

-- the run after `count` blocks: before the block at which it stands
pub record Before (t : List ℕ) (marks : List Bool) (words : List ℕ) (limit budget start : ℕ) (file : List ℕ) (at count arrivals : ℕ) (before : List ℕ) (flag : Bool) : Type 0 where
  pub good : admitted_graph t ≡ true
  pub below : at < block_count t
  pub reached : Reached (marked_runner (graph_of t) marks) (up_to limit words) budget (start_at start file) count (stands_at arrivals at (record { registers = before; flag = flag }))
  pub left : count < budget
  pub some : arrivals < limit

-- the block was run, on the sampled word, and its ending leads to `next`
pub record After (t : List ℕ) (word : ℕ) (at : ℕ) (before : List ℕ) (flag : Bool) (after : List ℕ) (raised : Bool) (next : Option ℕ) : Type 0 where
  pub block : Block
  pub block_is : block ≡ block_at t at
  pub sampled : ℕ
  pub sampled_is : sampled ≡ word
  pub done : ℕ
  pub all : block.count ≤ done
  pub ran : execute_all sampled (instructions_of block) before ≡ execute_all sampled (drop done (instructions_of block)) after
  pub flagged : (flag || instructions_over sampled (instructions_of block) before) ≡ (raised || instructions_over sampled (drop done (instructions_of block)) after)
  pub condition : Condition
  pub condition_is : condition ≡ compared_of block.ending
  pub leads : place_of next ≡ leave_by block.ending (get_or after (condition.a % max_registers) 0) (get_or after (condition.b % max_registers) 0)

-- what follows: it halts, or goes on at a block, and coming to a marked one is an arrival
pub record Turned (t : List ℕ) (marks : List Bool) (words : List ℕ) (limit budget start : ℕ) (file : List ℕ) (count arrivals : ℕ) (after : List ℕ) (raised : Bool) (next : Option ℕ) : Type 0 where
  pub halts : place_of next ≡ halted
      → Reached (marked_runner (graph_of t) marks) (up_to limit words) budget (start_at start file) (count + 1)
      (record { place = halted; contents = record { registers = after; flag = raised }; arrivals = arrivals })
  pub next_is : (x : ℕ) → place_of next ≡ standing x → x < block_count t
  pub stands : (x : ℕ) (m : Bool) → place_of next ≡ standing x → get_or marks x false ≡ m
      → Reached (marked_runner (graph_of t) marks) (up_to limit words) budget (start_at start file) (count + 1) (stands_at (choose m (arrivals + 1) arrivals) x (record { registers = after; flag = raised }))

module _ (t : List ℕ) (marks : List Bool) (words : List ℕ) (limit budget start : ℕ) (file : List ℕ) (at count arrivals : ℕ) (before : List ℕ) (flag : Bool)
    (p : Before t marks words limit budget start file at count arrivals before flag) (after : List ℕ) (raised : Bool) (next : Option ℕ)
    (q : After t (get_or words arrivals 0) at before flag after raised next) where
  abbrev old : Contents
  old = record { registers = before; flag = flag }

  abbrev new : Contents
  new = record { registers = after; flag = raised }

  within : BlockWithin q.block
  within = inside t p.good at p.below q.block q.block_is

  -- what holds of the word and the block at hand holds of the run's
  code_run : {X : Type 0} (f : ℕ → Block → X) → f q.sampled q.block ≡ f (get_or words arrivals 0) (block_at t at)
  code_run f = ap (f q.sampled) q.block_is ∙ ap (λ (w : ℕ). f w (block_at t at)) q.sampled_is

  ran : after ≡ execute_all (get_or words arrivals 0) (instructions_of (block_at t at)) before
  ran =
      sym (q.ran ∙ code_done q.sampled q.block within.fits q.done after q.all)
      ∙ code_run (λ w b. execute_all w (instructions_of b) before)

  told : raised ≡ (flag || instructions_over (get_or words arrivals 0) (instructions_of (block_at t at)) before)
  told =
      sym (q.flagged ∙ flag_done q.sampled q.block within.fits q.done after raised q.all)
      ∙ code_run (λ w b. flag || instructions_over w (instructions_of b) before)

  leads : (m : Place) → place_of next ≡ m → m ≡ leave (block_at t at).ending after
  leads m e =
      let h = ending_within t (admitted_facts t p.good) at p.below in
      sym e
      ∙ q.leads
      ∙ ap (λ (x : Condition). leave_by q.block.ending (get_or after (x.a % max_registers) 0) (get_or after (x.b % max_registers) 0)) q.condition_is
      ∙ leave_is q.block.ending after (subst (λ (x : Block). EndingWithin x.ending) (sym q.block_is) h)
      ∙ ap (λ (x : Block). leave x.ending after) q.block_is

  runs_on : (m : Place) → place_of next ≡ m
      → Reached (marked_runner (graph_of t) marks) (up_to limit words) budget (start_at start file) (count + 1)
      (record { place = m; contents = new; arrivals = arrivals_at (λ n. get_or marks n false) m arrivals })
  runs_on m e =
      turn t marks (up_to limit words) budget (start_at start file) count arrivals at old new m p.below p.left (lt-ltb arrivals limit p.some) p.reached ran told (leads m e)

  pub turned : Turned t marks words limit budget start file count arrivals after raised next
  turned = record {
    halts = runs_on halted;
    next_is = λ x e. next_below t (admitted_facts t p.good) at p.below after x (sym (leads (standing x) e));
    stands = λ x m e h.
        stands_at_lem (marked_runner (graph_of t) marks) (up_to limit words) budget (start_at start file) (count + 1) arrivals x new m h (runs_on (standing x) e);
  }
