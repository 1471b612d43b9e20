use Rattle.std.proofs.Common.{Err}
use Rattle.rhai_machine.specs.language.Members.{get_item, named}
use Rattle.rhai_machine.specs.language.Setting.{Rules}
use Rattle.rhai_steps.specs.Sessions.{under}
use Rattle.rhai_steps.specs.States.{state_of}
use Rattle.rhai_steps.specs.OnFocus.{lending}
use Rattle.rhai_chains.proofs.MemberLemmas.{answered_is, tries_from, member_runs_out_trying}
use Rattle.rhai_chains.proofs.members.get_named.Goals as goal

pub returns-in-Ok-clause-runs : goal.returns-in-Ok-clause-runs
returns-in-Ok-clause-runs g c scope held =
    let rules : Rules _ _ = under g.H.Host.name_of c.args.session.now g.T.NativeTable.natives in
    let index = answered_is c.in-Ok.index (named c.args.name.now) (c.in-Ok.ensures tt) in
    tries_from rules (λ focus. get_item c.args.at focus (named c.args.name.now))
    (state_of (g.T.NativeTable.state c.args.table.now) c.args.global.now scope (lending held c.args.focus.now))
    (state_of (g.T.NativeTable.state c.ask_item-answer.new.table) c.ask_item-answer.new.global scope
    (lending held c.ask_item-answer.new.focus))
    c.ask_item-answer.result (rw index at (c.ask_item-answer.ensures.runs scope held)) (Err c.args.missing) c.unless_missing.result
    c.unless_missing.ensures

pub returns-in-Err-clause-runs : goal.returns-in-Err-clause-runs
returns-in-Err-clause-runs g c scope held =
    let rules : Rules _ _ = under g.H.Host.name_of c.args.session.now g.T.NativeTable.natives in
    member_runs_out_trying rules (λ focus. get_item c.args.at focus (named c.args.name.now)) (Err c.args.missing)
    (state_of (g.T.NativeTable.state c.args.table.now) c.args.global.now scope (lending held c.args.focus.now)) c.in-Err.error
    (named c.args.name.now) c.in-Err.ensures
