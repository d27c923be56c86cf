-- `Starters::add` meets its contract. Assumes nothing.
use Rattle.grouping.proofs.StarterLaws.{add_below, add_listed, add_taken}
use Rattle.grouping.proofs.starters.Starters.add.Goals as goal

pub bounds-self-inside-self-inside : goal.bounds-self-inside-self-inside
bounds-self-inside-self-inside c = add_below c.self.invariant c.args.block c.requires (rw c.from.ensures at c.if-not-self-from.true)

pub invariant_of-self : goal.invariant_of-self
invariant_of-self c = rw (c.from-then-not-self-from.ensures) (add_listed c.self.invariant c.args.block c.requires (rw c.from.ensures at c.if-not-self-from.true))

pub returns-then-not-self-from : goal.returns-then-not-self-from
returns-then-not-self-from c = add_taken c.self.invariant c.args.block c.requires (rw c.from.ensures at c.if-not-self-from.true) c.args.self.now c.self.view_is
