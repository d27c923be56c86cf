-- `state::groups::Groups::is_starter` meets its contract. Assumes nothing.
use mathlib.Core.Path.{sym, ap, ◌∙◌}
use Rattle.runs.specs.Lists.{mem}
use Rattle.grouping.specs.Grouping.{Groups}
use Rattle.state.proofs.StarterLaws.{own_starter, no_starter}
use Rattle.state.proofs.groups.Groups.is_starter.Goals as goal

pub returns-in-Some : goal.returns-in-Some
returns-in-Some c =
    let s = c.self.inside in
    own_starter s.starters.now s.states.now c.args.y c.in-Some.k c.entry-in-Some.result c.eq.result c.self.invariant c.in-Some.ensures.1 c.entry-in-Some.ensures c.eq.ensures
    ∙ ap (λ (g : Groups). mem c.args.y g.starters) c.self.view_is

pub returns-in-None : goal.returns-in-None
returns-in-None c =
    let s = c.self.inside in
    sym (no_starter s.starters.now s.states.now c.self.invariant c.args.y c.in-None.ensures)
    ∙ ap (λ (g : Groups). mem c.args.y g.starters) c.self.view_is
