use Rattle.rhai_machine.specs.language.Setting.{Rules}
use Rattle.rhai_steps.specs.Sessions.{under}
use Rattle.rhai_steps.specs.States.{state_of}
use Rattle.rhai_steps.specs.OnFocus.{lending}
use Rattle.rhai_links.specs.Chains.{new_value}
use Rattle.rhai_links.specs.Access.{access_of}
use Rattle.rhai_chains.proofs.SettingLemmas.{got_fails, got_follows}
use Rattle.rhai_chains.proofs.assign.operate.Goals as goal

pub returns-in-Ok-clause-runs : goal.returns-in-Ok-clause-runs
returns-in-Ok-clause-runs g c scope held =
    let rules : Rules _ _ = under g.H.Host.name_of c.args.session.now g.T.NativeTable.natives in
    got_follows rules (access_of c.args.access.now) c.args.root.now (new_value c.args.new) c.args.focus.now c.args.value
    c.assign_focus.new.target (state_of (g.T.NativeTable.state c.args.table.now) c.args.global.now scope held)
    (state_of (g.T.NativeTable.state c.assign_focus.new.table) c.assign_focus.new.global scope held) c.in-Ok.done
    (state_of (g.T.NativeTable.state c.set_operated.new.table) c.set_operated.new.global scope (lending held c.set_operated.new.focus))
    c.set_operated.result (c.in-Ok.ensures.runs scope held) (c.set_operated.ensures.runs scope held c.in-Ok.done)

pub returns-in-Err-clause-runs : goal.returns-in-Err-clause-runs
returns-in-Err-clause-runs g c scope held =
    let rules : Rules _ _ = under g.H.Host.name_of c.args.session.now g.T.NativeTable.natives in
    got_fails rules (access_of c.args.access.now) c.args.root.now (new_value c.args.new) c.args.focus.now c.args.value
    c.assign_focus.new.target (state_of (g.T.NativeTable.state c.args.table.now) c.args.global.now scope held)
    (state_of (g.T.NativeTable.state c.assign_focus.new.table) c.assign_focus.new.global scope held) c.in-Err.error
    (c.in-Err.ensures.runs scope held)
