-- The block's count and ending are stored, or the ending is refused. Assumes nothing.
use Rattle.std.proofs.Common.{refl, set, length-set, sym, ◌∙◌, ◌+◌, arith}
use Rattle.cfg.specs.Layout.{block_offset, ending_offset, ending_words}
use Rattle.cfg.specs.Table.{ending_words_of}
use Rattle.std.proofs.lemmas.Result.{err_from_is_err_and}
use Rattle.cfg_text.proofs.Steps.{closes, not_closed, stored, ending_length}
use Rattle.cfg_text.proofs.close.Goals as goal

pub returns-in_err-check : goal.returns-in_err-check
returns-in_err-check c =
    let p = err_from_is_err_and c.from_residual.result c.from_residual.ensures.1 in
    λ b r bs is s.
    rw (p.1, not_closed c.args.block c.args.words.now b r bs is s c.args.ending (sym c.check.ensures ∙ c.in_err-check.was)) p.2

pub returns : goal.returns
returns c =
    let d = c.args.block.before.done in
    let at = block_offset d in
    let w = set c.args.words.now at c.args.block.count in
    let k = ending_length c.args.ending in
    let l = length-set c.args.words.now at c.args.block.count in
    λ b r bs is s.
    closes c.args.block c.args.words.now b r bs is s c.args.ending _ _ (sym c.check.ensures ∙ c.in_ok-check.was) refl refl refl
    (stored w (ending_words_of c.args.ending) (at + ending_offset) (at + ending_offset + ending_words) (omega arith) (omega arith) (c.copy_from_slice.ensures.after ∙ c.ending_words.ensures))
