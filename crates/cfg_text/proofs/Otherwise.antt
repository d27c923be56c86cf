-- What the other arms of a `match` on a line know: the value is of another variant. Assumes nothing.
use Rattle.std.proofs.Common.{◌≡◌, ℕ, List, refl}
use Rattle.std.specs.Prelude.{Err}
use Rattle.refusal.specs.declared.Refusal.TheVariants.{NotDue}
use Rattle.cfg_line.specs.declared.Line.{Line}
use Rattle.cfg_line.specs.declared.Line.TheVariants as line
use Rattle.cfg.specs.declared.Block.{Block}
use Rattle.cfg_text.specs.Walk.{start, between, next}

pub not_graph : (l : Line) → ((b r : ℕ) → l ≡ line.Graph b r → ⊥) → next start l ≡ Err NotDue
unfolding next
not_graph (line.Graph b r) h = absurd (h b r refl)
not_graph (line.Block n) h = refl
not_graph (line.Instruction i) h = refl
not_graph (line.Goto t) h = refl
not_graph (line.Ite c t f) h = refl
not_graph line.Halt h = refl

pub not_block : (b r : ℕ) (bs : List Block) (l : Line) → ((n : ℕ) → l ≡ line.Block n → ⊥) → next (between b r bs) l ≡ Err NotDue
unfolding next
not_block b r bs (line.Graph c s) h = refl
not_block b r bs (line.Block n) h = absurd (h n refl)
not_block b r bs (line.Instruction i) h = refl
not_block b r bs (line.Goto t) h = refl
not_block b r bs (line.Ite c t f) h = refl
not_block b r bs line.Halt h = refl
