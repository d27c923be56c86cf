-- A graph's text as a whole: it is read as the graph, and an accepted text is that of its graph. Assumes nothing.
use Prim.Native.Nat.{ℕ, ◌≤◌}
use native.Mathlib.Omega.{arith}
use mathlib.Core.Path.{◌≡◌, refl, sym, ap, ◌∙◌}
use mathlib.Core.Bool.{true, ◌&&◌}
use mathlib.Core.List.{List, []}
use lib.Dec.{leb}
use lib.ListN.{length}
use borrow.Author.Tests.{eq-eqb}
use Rattle.runs.specs.Lists.{every, concat_map}
use Rattle.runs.proofs.ListLaws.{and_right}
use Rattle.cfg.specs.Layout.{max_blocks, max_registers}
use Rattle.cfg.specs.Graph.{CFG, valid_block, valid_graph}
use Rattle.cfg.proofs.Admitted.{valid_graph_lem}
use Rattle.delimited.specs.Parts.{split_at, parted}
use Rattle.delimited.proofs.Split.{parted_split}
use Rattle.cfg_text.specs.Walk.{start, between, next, walk}
use Rattle.std.specs.Prelude.{Ok}
use Rattle.cfg_text.specs.Read.{max_text, read_text}
use Rattle.cfg_write.specs.Write.{lines_of, line_text, text_of}
use Rattle.cfg_write.proofs.Whole.{Whole}
use Rattle.cfg_write.proofs.TextLaws.{AllFormed, lines_split, lines_parted, lines_length}
use Rattle.cfg_write.proofs.WalkLaws.{Goes, step, walk_goes, blocks_go, formed_lines, lines_count}
use Rattle.cfg_write.proofs.AcceptedLaws.{accepted}

-- ---- graphs

valid_blocks : (g : CFG) → valid_graph g ≡ true → every (valid_block (length g.blocks) g.registers) g.blocks ≡ true
unfolding valid_graph
valid_blocks g h =
    let n = length g.blocks in
    and_right (leb 1 n && leb n max_blocks && leb 1 g.registers && leb g.registers max_registers) (every (valid_block n g.registers) g.blocks) h

module _ (g : CFG) (w : Whole g) where
  lines_formed : AllFormed (lines_of g)
  lines_formed =
      let v = valid_graph_lem g w.valid in
      (record { some_block = v.some_block; few_blocks = v.few_blocks; some_register = v.some_register; few_registers = v.few_registers }, formed_lines (length g.blocks) g.registers 0 g.blocks v.few_blocks v.few_registers (valid_blocks g w.valid) w.properly (omega arith))

  lines_go : Goes start (lines_of g) (between (length g.blocks) g.registers g.blocks)
  unfolding next
  lines_go = step refl (blocks_go (length g.blocks) g.registers [] g.blocks (valid_blocks g w.valid) w.properly (omega arith))

  -- the text is read as that graph
  pub graph_read : read_text (text_of g) ≡ Ok g
  unfolding read_text text_of
  graph_read =
      ap (walk start 1) (lines_split (lines_of g) lines_formed)
      ∙ walk_goes g lines_go lines_formed (λ m. rw (eq-eqb (length g.blocks) (length g.blocks) refl)) 1

  -- and is not too long
  pub graph_short_lem : length (text_of g) ≤ max_text
  unfolding text_of
  graph_short_lem =
      let v = valid_graph_lem g w.valid in
      let few = v.few_blocks in
      let l = lines_length (lines_of g) lines_formed in
      let c = lines_count (length g.blocks) g.registers 0 g.blocks (valid_blocks g w.valid) w.properly in
      omega arith

-- ---- texts

module _ (text : List ℕ) (g : CFG) (e : read_text text ≡ Ok g) where
  -- what reading makes is a graph that a table can hold
  pub accepted_whole : Whole g
  unfolding read_text
  accepted_whole = let a = accepted 1 (split_at 10 text) g e in record { valid = a.valid; properly = a.properly }

  -- and is written as that text
  pub accepted_text : text_of g ≡ text
  unfolding read_text text_of
  accepted_text =
      let a = accepted 1 (split_at 10 text) g e in
      ap (concat_map line_text) a.lines
      ∙ (sym (lines_parted a.rest) ∙ (ap (parted 10) (sym a.text) ∙ parted_split 10 text))
