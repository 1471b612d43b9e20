use Rattle.rhai_machine.specs.language.Frames.{Item, Property}
use Rattle.rhai_chains.proofs.members.set_member.Goals as goal

pub returns-in-Property-clause-runs : goal.returns-in-Property-clause-runs
returns-in-Property-clause-runs g c scope held =
    rw c.in-Property.is (c.set_property.ensures.runs scope held (Property c.in-Property.name.now c.in-Property.pos))

pub returns-in-Item-clause-runs : goal.returns-in-Item-clause-runs
returns-in-Item-clause-runs g c scope held =
    rw c.in-Item.is (rw c.replace-index.ensures.value at (c.set_item.ensures.runs scope held (Item c.in-Item.index)))
