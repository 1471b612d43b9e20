use Rattle.rhai_machine.specs.language.Members.{set_property}
use Rattle.rhai_machine.specs.language.Setting.{Rules}
use Rattle.rhai_steps.specs.Sessions.{under}
use Rattle.rhai_steps.specs.States.{state_of}
use Rattle.rhai_steps.specs.OnFocus.{lending}
use Rattle.rhai_chains.proofs.MemberLemmas.{member_runs_out_asking}
use Rattle.rhai_chains.proofs.members.ask_setter.Goals as goal

pub returns-in-Err-clause-runs : goal.returns-in-Err-clause-runs
returns-in-Err-clause-runs g c scope held =
    let rules : Rules _ _ = under g.H.Host.name_of c.args.session.now g.T.NativeTable.natives in
    member_runs_out_asking rules
    (set_property c.args.property.now.name.now c.args.property.now.name_at c.args.property.now.guarded c.args.focus.now c.args.value.now)
    (state_of (g.T.NativeTable.state c.args.table.now) c.args.global.now scope (lending held c.args.focus.now)) c.args.property.now.name_at
