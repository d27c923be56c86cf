-- `fsmd::clock::evaluated` meets its contract: a set's literal, a sum that may go over, or another code's word. Assumes nothing.
use native.Mathlib.Omega.{arith}
use mathlib.Core.Bool.{Bool, ◌||◌, or-false}
use mathlib.Core.Path.{refl, sym, ap, ◌∙◌}
use Rattle.word.specs.Word.{add_code, sub_code}
use Rattle.fsmd.specs.Clock.{read_in}
use Rattle.fsmd.proofs.Environment.{value_set, value_other, over_sum, over_none}
use Rattle.fsmd.proofs.clock.evaluated.Goals as goal

pub returns-then-code-eq-SET-clause-word_value : goal.returns-then-code-eq-SET-clause-word_value
returns-then-code-eq-SET-clause-word_value g c = let a = c.args in value_set a.sampled (read_in a.room.now.words) a.w c.if-code-eq-SET.true

pub returns-then-code-eq-SET-clause-over_value : goal.returns-then-code-eq-SET-clause-over_value
returns-then-code-eq-SET-clause-over_value g c =
    let a = c.args in
    sym (ap (λ (o : Bool). a.over || o) (over_none (read_in a.room.now.words) a.w (λ h. omega arith) (λ h. omega arith)) ∙ or-false a.over)

pub returns-in-3-clause-word_value : goal.returns-in-3-clause-word_value
returns-in-3-clause-word_value g c =
    let a = c.args in
    c.sum.ensures.word_value
    ∙ value_other a.sampled (read_in a.room.now.words) a.w c.read-a.result c.read-b.result c.read.result c.read-a.ensures c.read-b.ensures c.read.ensures add_code c.in-3.is (λ h. omega arith)

pub returns-in-3-clause-over_value : goal.returns-in-3-clause-over_value
returns-in-3-clause-over_value g c =
    let a = c.args in
    c.sum.ensures.over_value
    ∙ ap (λ (o : Bool). a.over || o) (over_sum a.sampled (read_in a.room.now.words) a.w c.read-a.result c.read-b.result c.read.result c.read-a.ensures c.read-b.ensures c.read.ensures add_code c.in-3.is)

pub returns-in-4-clause-word_value : goal.returns-in-4-clause-word_value
returns-in-4-clause-word_value g c =
    let a = c.args in
    c.sum-in-4.ensures.word_value
    ∙ value_other a.sampled (read_in a.room.now.words) a.w c.read-a.result c.read-b.result c.read-in-4.result c.read-a.ensures c.read-b.ensures c.read-in-4.ensures sub_code c.in-4.is (λ h. omega arith)

pub returns-in-4-clause-over_value : goal.returns-in-4-clause-over_value
returns-in-4-clause-over_value g c =
    let a = c.args in
    c.sum-in-4.ensures.over_value
    ∙ ap (λ (o : Bool). a.over || o) (over_sum a.sampled (read_in a.room.now.words) a.w c.read-a.result c.read-b.result c.read-in-4.result c.read-a.ensures c.read-b.ensures c.read-in-4.ensures sub_code c.in-4.is)

pub returns-in_default-clause-word_value : goal.returns-in_default-clause-word_value
returns-in_default-clause-word_value g c =
    let a = c.args in
    c.eval.ensures
    ∙ value_other a.sampled (read_in a.room.now.words) a.w c.read-a.result c.read-b.result c.read-in_default.result c.read-a.ensures c.read-b.ensures c.read-in_default.ensures a.w.code refl c.if-code-eq-SET.false

pub returns-in_default-clause-over_value : goal.returns-in_default-clause-over_value
returns-in_default-clause-over_value g c =
    let a = c.args in
    sym (ap (λ (o : Bool). a.over || o) (over_none (read_in a.room.now.words) a.w (λ h. omega arith) (λ h. omega arith)) ∙ or-false a.over)
