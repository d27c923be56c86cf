-- Demand 3 on tables: every admitted graph table agrees with the table of the machine of any finished grouping of it, and so of the machine
-- synthesised from it. Assumes nothing.
use Prim.Native.Nat.{ℕ, ◌≤◌, ◌<◌}
use native.Mathlib.Omega.{arith}
use mathlib.Core.Path.{◌≡◌, refl, sym, ap, ◌∙◌, subst₂, fun_ext}
use mathlib.Core.Bool.{Bool, true, not}
use mathlib.Core.List.{List, [], ◌++◌}
use lib.ListN.{length, get_or, take, drop, length-append}
use lib.Seq.{length-take-le}
use lib.Dec.{eqb, ltb}
use borrow.Author.Tests.{lt-ltb}
use Rattle.std.specs.Prelude.{None, Ok}
use Rattle.runs.specs.Lists.{mem, every}
use Rattle.runs.proofs.Sets.{mem→In, In→mem}
use Rattle.runs.proofs.MembershipLaws.{in_every}
use Rattle.runs.specs.Runs.{start_at, Supply, listed, unread, Runner, answer, registers_after, run_outcome}
use Rattle.runs.proofs.RunLaws.{step_ended}
use Rattle.cfg.specs.Graph.{CFG, block_of, run_block, graph_runner}
use Rattle.cfg.specs.Run.{graph_words_refusal, graph_words_answer, graph_words_registers}
use Rattle.cfg.proofs.Running.{words_none_refused}
use Rattle.cfg.specs.Table.{graph_of, admitted_graph}
use Rattle.cfg.proofs.Admitted.{ValidGraph, valid_graph_lem, admitted_halves, admitted_facts, blocks_length}
use Rattle.fsmd.specs.Layout.{max_registers, machine_words}
use Rattle.fsmd.specs.Machine.{State, FSMD, machine_runner, blocks_run, wordless_machine}
use Rattle.fsmd.specs.Run.{machine_refusal, machine_words_refusal, machine_words_answer, machine_words_registers, machine_words_blocks}
use Rattle.fsmd.proofs.Steps.{refuse_registers, refuse_none, words_refuse_registers, words_refuse_none}
use Rattle.runs.proofs.OperationLaws.{accepted, accepted_left, accepted_total}
use Rattle.fsmd.specs.Table.{machine_table_of, machine_of, admitted_machine}
use Rattle.fsmd.proofs.Machines.{states_length, registers_is, state_is, admitted_facts as machine-facts}
use Rattle.fsmd.proofs.WrittenTable.{count_is, table_length}
use Rattle.fsmd.proofs.ReadBack.{Fits, read_states, read_runner, read_blocks, read_admitted}
use Rattle.grouping.specs.Grouping.{Groups, groups}
use Rattle.grouping.proofs.Reach.{reached_below, valid_closed, admitted_closed}
use Rattle.grouping.proofs.GroupingLaws.{Grouped, grouped}
use Rattle.synthesis.specs.Synthesis.{machine_for, machine, synthesis_answer, synthesis_words}
use Rattle.synthesis.proofs.GraphFacts.{graph_fits}
use Rattle.placement.proofs.StateOrder.{Arranged, arranged}
use Rattle.synthesis.proofs.SynthesisedMachine.{states_count, machine_is, made_fits}
use Rattle.synthesis.proofs.MadeTable.{made_words, made_admitted}
use Rattle.synthesis.proofs.WireCodes.{wordless_machine_lem}
use Rattle.agreement.specs.Agreement.{machine_counts, state_in, AgreeAfter, SameEnd, RunsAlike, Alike, OperationsAlike, LastsTo, AgreementFor, Agreement, AgreementWithoutWordsFor, AgreementWithoutWords}
use Rattle.agreement.proofs.Arrivals.{Level, times_level, steps_level}
use Rattle.agreement.proofs.WholeRun.{after_cycles, agree_after}
use Rattle.agreement.proofs.RunAnswers.{run_agrees, runs_alike, ends_alike}

-- whether a word is read goes by the states alone
wordless_same : (m n : FSMD) → m.states ≡ n.states → wordless_machine m ≡ wordless_machine n
unfolding wordless_machine
wordless_same m n e = ap (λ (qs : List State). every (λ q. every (λ w. not (eqb w.code 20)) q.wires) qs) e

-- ---- the agreement

-- every admitted graph table with the words of the machine of a finished grouping of it, whatever follows them
module _ (t rest : List ℕ) (ok : admitted_graph t ≡ true) (s : Groups) (G : Grouped (graph_of t) s) where
  abbrev g : CFG
  g = graph_of t

  abbrev table : List ℕ
  table = machine_table_of (machine_for g s) ++ rest

  abbrev m : Runner
  m = machine_runner (machine_of table)

  abbrev f : ℕ → ℕ → List ℕ → ℕ
  f = blocks_run (machine_of table)

  valid : ValidGraph g
  valid = valid_graph_lem g (admitted_halves t ok).0

  blocks_arranged : Arranged g s
  blocks_arranged = arranged g (valid_closed g valid) s G

  fits : Fits (machine_for g s)
  fits =
      let f = made_fits g valid s G in
      record { few_states_lem = f.few_states; few_registers_lem = f.few_registers; room = f.room; next_registers_lem = f.next_registers }

  table_admitted : admitted_machine table ≡ true
  table_admitted =
      let f = made_fits g valid s G in
      read_admitted (machine_for g s) rest (record { fits = fits; some_states = f.some_state; some_registers = f.some_register; valid = f.valid; blocks = λ b h. f.blocks b })

  -- the table's machine runs and counts as the grouping's
  machine_same : machine_runner (machine_for g s) ≡ m
  machine_same = sym (read_runner (machine_for g s) rest fits)

  blocks_same : blocks_run (machine_for g s) ≡ f
  blocks_same = sym (read_blocks (machine_for g s) rest fits)

  long : machine_words ≤ length table
  long = omega (arith, table_length (machine_for g s), length-append (machine_table_of (machine_for g s)) rest)

  runs_same : (ws : Supply) (b : ℕ) → mem b s.starters ≡ true → (rs : List ℕ) → length rs ≡ max_registers → (k : ℕ) → RunsAlike g s m f ws b rs k
  runs_same ws b start rs size k =
      subst₂ (λ (x : Runner) (y : ℕ → ℕ → List ℕ → ℕ). RunsAlike g s x y ws b rs k) machine_same blocks_same (runs_alike g s ws b rs k (after_cycles g s (graph_fits g valid) blocks_arranged ws b rs start size k))

  -- a starter's state is one of the table's
  start_known : (b : ℕ) → mem b s.starters ≡ true → state_in s b < get_or table 0 0
  start_known b h =
      let a = blocks_arranged.home b h in
      let n = states_count g s in
      omega (arith, count_is (machine_for g s) rest)

  -- ---- Run graph beside Run machine

  starters_below : (b : ℕ) → mem b s.starters ≡ true → b < get_or t 0 0
  starters_below b h =
      let c = valid_closed g valid in
      omega (arith, reached_below c (G.starter_reached b (mem→In b s.starters h)), blocks_length t)

  module _ (words starters : List ℕ) (alike : (b : ℕ) → mem b starters ≡ mem b s.starters) (b₀ : ℕ) (start : mem b₀ s.starters ≡ true)
      (buffer : List ℕ) (enough : max_registers ≤ length buffer) (k : ℕ) where
    abbrev ws : Supply
    ws = listed words

    abbrev rs : List ℕ
    rs = take max_registers buffer

    graph_same : graph_runner g starters ≡ graph_runner g s.starters
    graph_same = ap (λ (f : ℕ → Bool). record { unit = λ w n q. run_block w (block_of g n) q; arrives = f }) (fun_ext alike)

    graph_accepted : graph_words_refusal t buffer b₀ starters ≡ None
    graph_accepted =
        words_none_refused t buffer b₀ starters (admitted_facts t ok).long enough ok (starters_below b₀ start)
        (rw (
          alike 0 ∙ blocks_arranged.entry,
          alike b₀ ∙ start,
          in_every (λ b. ltb b (get_or t 0 0)) starters (λ b i. lt-ltb b (get_or t 0 0) (starters_below b (sym (alike b) ∙ In→mem b starters i))),
        ))

    graph_answer_lem : (n : ℕ) → graph_words_answer t buffer b₀ n words starters ≡ Ok (answer (graph_runner g s.starters) ws n (start_at b₀ rs))
    graph_answer_lem n =
        accepted (graph_runner g starters) ws buffer b₀ n (graph_words_refusal t buffer b₀ starters) graph_accepted
        ∙ ap (λ (r : Runner). Ok (answer r ws n (start_at b₀ rs))) graph_same

    graph_registers_lem : (n : ℕ) → graph_words_registers t buffer b₀ n words starters ≡ registers_after (graph_runner g s.starters) ws n (start_at b₀ rs) ++ drop max_registers buffer
    graph_registers_lem n =
        accepted_left (graph_runner g starters) ws buffer b₀ n (graph_words_refusal t buffer b₀ starters) graph_accepted
        ∙ ap (λ (r : Runner). registers_after r ws n (start_at b₀ rs) ++ drop max_registers buffer) graph_same

    machine_accepted : machine_words_refusal table buffer (state_in s b₀) ≡ None
    machine_accepted = words_refuse_none table buffer (state_in s b₀) long enough table_admitted (start_known b₀ start)

    machine_answer_lem : machine_words_answer table buffer (state_in s b₀) k words ≡ Ok (answer m ws k (start_at (state_in s b₀) rs))
    machine_answer_lem = accepted m ws buffer (state_in s b₀) k (machine_words_refusal table buffer (state_in s b₀)) machine_accepted

    machine_registers_lem : machine_words_registers table buffer (state_in s b₀) k words ≡ registers_after m ws k (start_at (state_in s b₀) rs) ++ drop max_registers buffer
    machine_registers_lem = accepted_left m ws buffer (state_in s b₀) k (machine_words_refusal table buffer (state_in s b₀)) machine_accepted

    machine_blocks_lem : machine_words_blocks table buffer (state_in s b₀) k words ≡ machine_counts m f ws (state_in s b₀) rs k
    machine_blocks_lem = accepted_total f m ws buffer (state_in s b₀) k (machine_words_refusal table buffer (state_in s b₀)) machine_accepted

    answers_alike : (n : ℕ) → SameEnd g s m f ws b₀ rs k n → Alike t table s buffer words starters b₀ k n
    answers_alike n e =
        rw (graph_answer_lem n, graph_registers_lem n, machine_answer_lem, machine_registers_lem, machine_blocks_lem) (ends_alike g s m f ws b₀ rs k n (drop max_registers buffer) e)

    operations_alike : OperationsAlike t table s buffer words starters b₀ k
    operations_alike =
        let r = runs_same ws b₀ start rs (length-take-le max_registers buffer enough) k in
        record {
          blocks = r.blocks;
          at = answers_alike r.blocks r.at;
          beyond = λ d n l. answers_alike n (r.beyond (λ z. d (ap run_outcome machine_answer_lem ∙ z)) n l);
        }

  pub agreement_for : AgreementFor s t table
  agreement_for =
      let a = blocks_arranged in
      let h = machine-facts table table_admitted in
      record {
        agree = λ ws b start rs size k lasts.
            subst₂ (λ (x : Runner) (y : ℕ → ℕ → List ℕ → ℕ). AgreeAfter g s x y ws b rs k) machine_same blocks_same (agree_after g s (graph_fits g valid) a ws b start rs size k lasts);
        alike = runs_same;
        runs = λ words b start buffer k.
            let q = state_in s b in
            run_agrees m f (λ q. refl) (listed words) q buffer k (machine_words_refusal table buffer q)
            (words_refuse_registers table buffer q long)
            (λ full. words_refuse_none table buffer q long full table_admitted (start_known b start));
        wordless_runs = λ w b start buffer k.
            let q = state_in s b in
            run_agrees m f (λ q. refl) unread q buffer k (machine_refusal table buffer q)
            (refuse_registers table buffer q long)
            (λ full. refuse_none table buffer q long full table_admitted w (start_known b start));
        operations = operations_alike;
        entry = a.entry;
        begins = a.entry_state;
        silent = λ h.
            wordless_same (machine_of table) (machine_for g s) (read_states (machine_for g s) rest fits) ∙ wordless_machine_lem g s h;
        idle = λ ws c. step_ended m ws c;
        wires = λ k l.
            let z = states_length table in
            rw (registers_is table, state_is table k (omega arith)) (h.valid k (omega arith));
      }

-- and so with the words of the machine synthesised from it
pub agreement : (t rest : List ℕ) → admitted_graph t ≡ true → Agreement t (machine_table_of (machine (graph_of t)) ++ rest)
agreement t rest ok = rw (machine_is (graph_of t)) (agreement_for t rest ok (groups (graph_of t)) (grouped (graph_of t) (admitted_closed t ok)))

-- the case without words, where every arrival has one
pub without_words_for : (s : Groups) (t table : List ℕ) → AgreementFor s t table → AgreementWithoutWordsFor s t table
without_words_for s t table a = record {
  agree = λ rs size k. a.agree unread 0 a.entry rs size k (λ j l. refl);
  begins = a.begins;
  runs = λ h buffer k. rw a.begins at (a.wordless_runs (a.silent h) 0 a.entry buffer k);
  unmarked = λ rs n.
      let g = graph_of t in
      let same : Level (start_at 0 rs) (start_at 0 rs) = record { place = refl; contents = refl } in
      let l = times_level (graph_runner g []).unit (λ b. mem b []) (λ b. mem b s.starters) n (start_at 0 rs) (start_at 0 rs) same in
      (l.place, l.contents, steps_level (graph_runner g []).unit (λ b. mem b []) (λ b. mem b s.starters) n (start_at 0 rs) (start_at 0 rs) same);
}

pub without_words : (t table : List ℕ) → Agreement t table → AgreementWithoutWords t table
without_words t table a = without_words_for (groups (graph_of t)) t table a

-- while words of a list last
pub listed_lasts : (ws : List ℕ) (k : ℕ) → k ≤ length ws → LastsTo (listed ws) k
listed_lasts ws k h j l = lt-ltb j (length ws) (omega arith)

-- ---- and so the words that Synthesise leaves

pub synthesised_agrees : (t old : List ℕ) → synthesis_answer t old ≡ Ok tt → Agreement t (synthesis_words t old)
synthesised_agrees t old e = rw (made_words t old e) (agreement t (drop machine_words old) (made_admitted t old e))
