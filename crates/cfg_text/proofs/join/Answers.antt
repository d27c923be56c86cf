-- The instruction's words are stored behind the block's others. Assumes nothing.
use Rattle.std.proofs.Common.{refl, sym, ◌∙◌, ◌+◌, ◌*◌, arith}
use Rattle.cfg.specs.Layout.{block_offset, code_offset, instruction_words}
use Rattle.cfg.specs.Table.{instruction_words_of}
use Rattle.cfg_text.proofs.Steps.{joins, stored}
use Rattle.cfg_text.proofs.join.Goals as goal

pub returns : goal.returns
returns c =
    let at = block_offset c.args.block.before.done + code_offset + instruction_words * c.args.block.count in
    λ b r bs is s.
    joins c.args.block c.args.words.now b r bs is s c.args.i _ _ (omega arith) (sym c.registers_below.ensures ∙ c.if-not-registers_below.false) refl refl
    (stored c.args.words.now (instruction_words_of c.args.i) at (at + instruction_words) (omega arith) (omega arith) c.copy_from_slice.ensures.after)
