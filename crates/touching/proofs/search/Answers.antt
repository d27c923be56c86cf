-- `touching::search` meets its contract: what `find` gives is the first state that passes the test. Assumes nothing.
use Rattle.std.proofs.Common.{◌≡◌, true, false, ap, ◌∙◌, rules}
use Rattle.std.proofs.lemmas.Iterator.{first_from_Range}
use borrow.Author.Tests.{tests}
use Rattle.runs.specs.Lists.{up_from, first}
use Rattle.touching.specs.Touching.{touches_at}
use Rattle.touching.proofs.Searches.{first_found}
use Rattle.touching.proofs.search.Goals as goal

pub returns : goal.returns
returns c =
    let t = c.args.machine.table.words.now in
    let p = touches_at t c.args.register in
    first_found p c.head-states.result.states c.find.result
    (first_from_Range _ c.find.new.self _ c.find.result (λ k. p k ≡ true) (λ k. p k ≡ false) c.find.ensures.ran (λ x q k. search (rules, tests)) (λ x q k. search (rules, tests)))
    ∙ ap (λ n. first p (up_from 0 n)) c.head-states.ensures.states_value
