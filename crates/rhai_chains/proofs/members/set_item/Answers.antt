use Rattle.std.proofs.Common.{Ok}
use Rattle.rhai_machine.specs.language.Members.{set_item}
use Rattle.rhai_machine.specs.language.Values.{unit_value}
use Rattle.rhai_machine.specs.language.Setting.{Rules}
use Rattle.rhai_steps.specs.Sessions.{under}
use Rattle.rhai_steps.specs.States.{state_of}
use Rattle.rhai_steps.specs.OnFocus.{lending}
use Rattle.rhai_chains.proofs.MemberLemmas.{asks_from, tries_from}
use Rattle.rhai_chains.proofs.members.set_item.Goals as goal

pub returns-then-ignores-clause-runs : goal.returns-then-ignores-clause-runs
returns-then-ignores-clause-runs g c scope held member =
    let rules : Rules _ _ = under g.H.Host.name_of c.args.session.now g.T.NativeTable.natives in
    rw c.if-ignores.true (tries_from rules (λ focus. set_item c.args.at c.args.guarded focus c.args.index c.args.value)
    (state_of (g.T.NativeTable.state c.args.table.now) c.args.global.now scope (lending held c.args.focus.now))
    (state_of (g.T.NativeTable.state c.ask_to_set-answer.new.table) c.ask_to_set-answer.new.global scope
    (lending held c.ask_to_set-answer.new.focus))
    c.ask_to_set-answer.result (c.ask_to_set-answer.ensures.runs scope held) (Ok unit_value) c.unless_missing.result
    (rw c.unit_value.ensures at c.unless_missing.ensures))

pub returns-else-ignores-clause-runs : goal.returns-else-ignores-clause-runs
returns-else-ignores-clause-runs g c scope held member =
    let rules : Rules _ _ = under g.H.Host.name_of c.args.session.now g.T.NativeTable.natives in
    rw c.if-ignores.false (asks_from rules (λ focus. set_item c.args.at c.args.guarded focus c.args.index c.args.value)
    (state_of (g.T.NativeTable.state c.args.table.now) c.args.global.now scope (lending held c.args.focus.now))
    (state_of (g.T.NativeTable.state c.ask_to_set-answer.new.table) c.ask_to_set-answer.new.global scope
    (lending held c.ask_to_set-answer.new.focus))
    c.ask_to_set-answer.result (c.ask_to_set-answer.ensures.runs scope held))
