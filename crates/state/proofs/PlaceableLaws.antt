-- Each block of an admitted graph table can be placed. Assumes nothing.
use Prim.Native.Nat.{ℕ, ◌≤◌, ◌<◌}
use native.Mathlib.Omega.{arith}
use mathlib.Core.List.{List}
use lib.ListN.{get_or}
use Rattle.cfg.specs.declared.Ending.{Ending}
use Rattle.cfg.specs.declared.Ending.TheVariants.{Goto, Ite, Halt}
use Rattle.cfg.specs.Table.{block_count, block_at}
use Rattle.cfg.specs.declared.graph.AdmittedGraph.{AdmittedGraph}
use Rattle.cfg.proofs.Admitted.{admitted_facts, ValidEnding}
use Rattle.cfg.proofs.Blocks.{count_at}
use Rattle.fsmd.specs.Layout.{max_blocks}
use Rattle.state.specs.Making.{Aims, Placeable}
use Rattle.state.specs.BlocksMaking.{AllBelow, AllPlaceable}

aims : (b r : ℕ) (e : Ending) → b ≤ max_blocks → ValidEnding b r e → Aims e
aims b r (Goto t) h v = omega arith
aims b r (Ite c t f) h v = (omega (arith, v.holds), omega (arith, v.fails))
aims b r Halt h v = tt

module _ (g : AdmittedGraph) where
  abbrev t : List ℕ
  t = g.words.now

  pub placeable : (x : ℕ) → x < block_count t → Placeable t x
  placeable x l =
      let d = admitted_facts t g.admitted in
      let v = d.block x l in
      let b = d.few_blocks in
      let c = count_at t x in
      let n = v.few in
      record { known = omega arith; whole = g.long; short = omega arith; aims = aims (get_or t 0 0) (get_or t 1 0) (block_at t x).ending b v.ended }

  pub all_placeable : (xs : List ℕ) → AllBelow t xs → AllPlaceable t xs
  all_placeable xs h = record { few = h.few; each = λ i l. placeable (get_or xs i 0) (h.each i l) }
