-- P11 never halts: its graph and its machine are spent at every budget, on all registers, with a clear flag. Assumes nothing.
use Prim.Native.Nat.{ℕ, zero, suc, ◌≤◌}
use native.Mathlib.Omega.{arith}
use mathlib.Core.Bool.{true, false}
use mathlib.Core.Path.{◌≡◌, refl, ap, ◌∙◌}
use mathlib.Core.List.{List, [], ◌++◌}
use lib.ListN.{length, take, drop, length-append}
use lib.Seq.{length-take-le}
use borrow.Author.Tests.{le-ltb}
use Rattle.std.specs.Prelude.{Ok}
use Rattle.word.specs.Word.{eval_of}
use Rattle.runs.specs.Lists.{concat_map}
use Rattle.runs.specs.Runs.{Contents, Configuration, stands_at, start_at, unread, Runner, step, times, steps_run, answer}
use Rattle.runs.specs.declared.RunEnd.{RunEnd}
use Rattle.runs.specs.declared.RunEnd.TheVariants.{Spent}
use Rattle.runs.proofs.OperationLaws.{accepted}
use Rattle.cfg.specs.Layout.{graph_words}
use Rattle.cfg.specs.Graph.{run_block, graph_runner, wordless_graph}
use Rattle.cfg.specs.Table.{graph_table_of, graph_of, admitted_graph}
use Rattle.cfg.specs.Run.{graph_refusal, graph_answer}
use Rattle.cfg.proofs.Admitted.{admitted_facts}
use Rattle.cfg.proofs.Running.{none_refused}
use Rattle.cfg_text.specs.Read.{read_words}
use Rattle.fsmd.specs.Layout.{max_registers, machine_words}
use Rattle.fsmd.specs.Machine.{clock, machine_runner, wordless_machine}
use Rattle.fsmd.specs.Table.{machine_table_of, machine_of, admitted_machine}
use Rattle.fsmd.specs.Run.{machine_refusal, machine_answer}
use Rattle.fsmd.proofs.Steps.{refuse_none}
use Rattle.fsmd.proofs.WrittenTable.{table_length}
use Rattle.synthesis.specs.Synthesis.{machine, synthesis_words}
use Rattle.synthesis.proofs.MadeTable.{made_words, admitted_made}
use Rattle.worked_examples.specs.Graphs.{P11}
use Rattle.worked_examples.specs.Texts.{p11_text}
use Rattle.worked_examples.proofs.ByWord.{by_word}

-- registers that nothing has gone over on
abbrev clear : List ℕ → Contents
clear rs = record { registers = rs; flag = false }

-- what comes back to where it stood, with the same contents, is spent at every budget
module _ (r : Runner) (n : ℕ) (x : Contents) (arrived : ℕ → ℕ) (stays : (j : ℕ) → step r unread (stands_at j n x) ≡ stands_at (arrived j) n x) where
  stays_there : (k j : ℕ) → (i : ℕ) × (times r unread k (stands_at j n x) ≡ stands_at i n x)
  unfolding times
  stays_there zero j = (j, refl)
  stays_there (suc k) j = let h = stays_there k (arrived j) in (h.0, ap (times r unread k) (stays j) ∙ h.1)

  stays_count : (k j : ℕ) → steps_run r unread k (stands_at j n x) ≡ k
  unfolding steps_run
  stays_count zero j = refl
  stays_count (suc k) j = ap (λ (c : Configuration). suc (steps_run r unread k c)) (stays j) ∙ ap suc (stays_count k (arrived j))

  stays_spent : (k : ℕ) → answer r unread k (stands_at 0 n x) ≡ Spent k n x.flag
  unfolding answer
  stays_spent k = rw ((stays_there k 0).1, stays_count k 0, le-ltb k k (omega arith))

pub graph_endless : (rs : List ℕ) (k : ℕ) → answer (graph_runner P11 []) unread k (start_at 0 rs) ≡ Spent k 0 false
unfolding step run_block P11
graph_endless rs = stays_spent (graph_runner P11 []) 0 (clear rs) (λ j. j) (λ j. refl)

pub machine_endless : (rs : List ℕ) → length rs ≡ max_registers → (k : ℕ) → answer (machine_runner (machine P11)) unread k (start_at 0 rs) ≡ Spent k 0 false
unfolding step clock eval_of machine P11
machine_endless rs size =
    stays_spent (machine_runner (machine P11)) 0 (clear rs) suc (λ j.
    by_word max_registers (λ rs. step (machine_runner (machine P11)) unread (stands_at j 0 (clear rs)) ≡ stands_at (suc j) 0 (clear rs))
    (λ a b c d e f g h i j k l m n o p. refl) rs size)

-- ---- through the operations, whatever follows the tables

module _ (rest : List ℕ) where
  abbrev graph_with : List ℕ
  graph_with = graph_table_of P11 ++ rest

  abbrev machine_with : List ℕ
  machine_with = machine_table_of (machine P11) ++ rest

  graph_admitted : admitted_graph graph_with ≡ true
  unfolding admitted_graph graph_table_of concat_map P11
  graph_admitted = refl

  machine_long : machine_words ≤ length machine_with
  machine_long = omega (arith, table_length (machine P11), length-append (machine_table_of (machine P11)) rest)

  machine_admitted : admitted_machine machine_with ≡ true
  unfolding admitted_machine machine_table_of concat_map machine P11
  machine_admitted = refl

  module _ (buffer : List ℕ) (full : max_registers ≤ length buffer) (k : ℕ) where
    graph_spent : graph_answer graph_with buffer 0 k ≡ Ok (Spent k 0 false)
    unfolding graph_of graph_table_of concat_map wordless_graph P11
    graph_spent =
        accepted (graph_runner (graph_of graph_with) []) unread buffer 0 k (graph_refusal graph_with buffer 0)
        (none_refused graph_with buffer 0 (admitted_facts graph_with graph_admitted).long full graph_admitted refl (omega arith))
        ∙ ap (λ (end : RunEnd). Ok end) (graph_endless (take max_registers buffer) k)

    machine_spent : machine_answer machine_with buffer 0 k ≡ Ok (Spent k 0 false)
    unfolding machine_of machine_table_of concat_map wordless_machine machine clock P11
    machine_spent =
        accepted (machine_runner (machine_of machine_with)) unread buffer 0 k (machine_refusal machine_with buffer 0)
        (refuse_none machine_with buffer 0 machine_long full machine_admitted refl (omega arith))
        ∙ ap (λ (end : RunEnd). Ok end) (machine_endless (take max_registers buffer) (length-take-le max_registers buffer full) k)

module _ (graph : List ℕ) (long : graph_words ≤ length graph) where
  text_read : read_words p11_text graph ≡ graph_table_of P11 ++ drop graph_words graph
  unfolding read_words p11_text P11
  text_read = rw (le-ltb (length graph) graph_words long)

  pub run_graph_endless : (buffer : List ℕ) → max_registers ≤ length buffer → (k : ℕ) → graph_answer (read_words p11_text graph) buffer 0 k ≡ Ok (Spent k 0 false)
  run_graph_endless buffer full k = rw text_read (graph_spent (drop graph_words graph) buffer full k)

  module _ (made : List ℕ) (room : machine_words ≤ length made) where
    table_made : synthesis_words (read_words p11_text graph) made ≡ machine_table_of (machine P11) ++ drop machine_words made
    unfolding graph_of graph_table_of concat_map P11
    table_made =
        let t = graph_table_of P11 ++ drop graph_words graph in
        rw text_read (made_words t made (admitted_made t made (graph_admitted (drop graph_words graph)) room))

    pub run_machine_endless : (buffer : List ℕ) → max_registers ≤ length buffer → (k : ℕ)
        → machine_answer (synthesis_words (read_words p11_text graph) made) buffer 0 k ≡ Ok (Spent k 0 false)
    run_machine_endless buffer full k = rw table_made (machine_spent (drop machine_words made) buffer full k)
