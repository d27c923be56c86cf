-- `state::joins::BlockProgress::enter` meets its contract. Assumes nothing.
use Rattle.state.specs.Wires.{BlockBuild}
use Rattle.state.specs.Making.{Room}
use Rattle.state.specs.Steps.{Becomes}
use mathlib.Core.Path.{subst, sym, ◌∙◌}
use lib.ListN.{length}
use Rattle.state.proofs.EnterLaws.{begun_becomes, begun_room, enter_start, enter_none, enter_first}
use Rattle.state.proofs.joins.BlockProgress.enter.Goals as goal

pub begin-requires : goal.begin-requires
begin-requires c =
    let a = c.args in
    begun_room _ 1 a.wires.now.registers a.wires.now (enter_start a.x a.edges.now a.wires.now a.starter c.if-starter.true) c.requires.room

pub returns-then-starter : goal.returns-then-starter
returns-then-starter c =
    let a = c.args in
    let b = c.begin in
    begun_becomes _ 1 a.wires.now.registers b.result a.wires.now b.new.wires (enter_start a.x a.edges.now a.wires.now a.starter c.if-starter.true)
    b.ensures.arrival b.ensures.registers b.ensures.values b.ensures.wires

pub begin-requires-in-None : goal.begin-requires-in-None
begin-requires-in-None c =
    let a = c.args in
    begun_room _ 0 a.wires.now.registers a.wires.now (enter_none a.x a.edges.now a.wires.now a.starter c.if-starter.false (sym c.in-None.is ∙ c.requires.first)) c.requires.room

pub returns-in-None : goal.returns-in-None
returns-in-None c =
    let a = c.args in
    let b = c.begin-in-None in
    begun_becomes _ 0 a.wires.now.registers b.result a.wires.now b.new.wires (enter_none a.x a.edges.now a.wires.now a.starter c.if-starter.false (sym c.in-None.is ∙ c.requires.first))
    b.ensures.arrival b.ensures.registers b.ensures.values b.ensures.wires

pub join_all-requires : goal.join_all-requires
join_all-requires c =
    let a = c.args in
    subst (λ (p : BlockBuild). Room (length p.wires) a.wires.now.words.now)
    (enter_first a.x a.edges.now a.wires.now a.starter c.if-starter.false c.entries-entries.result.now c.entries-entries.ensures c.in-Some.first _ (sym c.in-Some.is ∙ c.requires.first))
    c.requires.room

pub returns-in-Some : goal.returns-in-Some
returns-in-Some c =
    let a = c.args in
    let j = c.join_all in
    subst (λ (p : BlockBuild). Becomes p a.wires.now.registers j.new.self a.wires.now j.new.wires)
    (sym (enter_first a.x a.edges.now a.wires.now a.starter c.if-starter.false c.entries-entries.result.now c.entries-entries.ensures c.in-Some.first _ (sym c.in-Some.is ∙ c.requires.first)))
    j.ensures
