use Rattle.rhai_machine.specs.language.Members.{get_item}
use Rattle.rhai_machine.specs.language.Frames.{Property}
use Rattle.rhai_machine.specs.language.Setting.{Rules}
use Rattle.rhai_steps.specs.Sessions.{under}
use Rattle.rhai_steps.specs.States.{state_of}
use Rattle.rhai_steps.specs.OnFocus.{lending}
use Rattle.rhai_chains.proofs.MemberLemmas.{asks_from}
use Rattle.rhai_chains.proofs.members.get_member.Goals as goal

pub returns-in-Property-clause-runs : goal.returns-in-Property-clause-runs
returns-in-Property-clause-runs g c scope held =
    rw c.in-Property.is (c.get_property.ensures.runs scope held (Property c.in-Property.name.now c.in-Property.pos))

pub returns-in-Item-clause-runs : goal.returns-in-Item-clause-runs
returns-in-Item-clause-runs g c scope held =
    let rules : Rules _ _ = under g.H.Host.name_of c.args.session.now g.T.NativeTable.natives in
    rw c.in-Item.is (asks_from rules (λ focus. get_item c.args.access.now.at focus c.in-Item.index)
    (state_of (g.T.NativeTable.state c.args.table.now) c.args.global.now scope (lending held c.args.focus.now))
    (state_of (g.T.NativeTable.state c.ask_item.new.table) c.ask_item.new.global scope (lending held c.ask_item.new.focus))
    c.ask_item.result (c.ask_item.ensures.runs scope held))
