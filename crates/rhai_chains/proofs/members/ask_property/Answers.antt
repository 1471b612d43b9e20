use Rattle.std.proofs.Common.{◌++◌, Some, refl}
use Rattle.rhai_machine.specs.language.Arguments.{operation_named}
use Rattle.rhai_machine.specs.language.Frames.{FromFocus}
use Rattle.rhai_machine.specs.language.Members.{lent_call}
use Rattle.rhai_machine.specs.language.Setting.{Rules}
use Rattle.rhai_steps.specs.Sessions.{under}
use Rattle.rhai_steps.specs.States.{state_of}
use Rattle.rhai_steps.specs.OnFocus.{lending}
use Rattle.rhai_chains.proofs.MemberLemmas.{member_runs_out_asking}
use Rattle.rhai_chains.proofs.members.ask_property.Goals as goal

pub returns-in_default-clause-runs : goal.returns-in_default-clause-runs
returns-in_default-clause-runs g c scope held =
    let rules : Rules _ _ = under g.H.Host.name_of c.args.session.now g.T.NativeTable.natives in
    member_runs_out_asking rules (lent_call (operation_named (c.args.prefix.now ++ c.args.name.now) c.args.pos) c.args.passing.guarded
    c.args.passing.marks c.args.focus.now c.args.rest.now)
    (state_of (g.T.NativeTable.state c.args.table.now) c.args.global.now scope (lending held c.args.focus.now)) c.args.pos

pub returns-clause-runs : goal.returns-clause-runs
returns-clause-runs g c scope held =
    rw (c.as_str-native.ensures, c.in-Ok.ensures)
    at (c.pass_native.ensures.runs scope (lending held c.args.focus.now) (Some FromFocus) refl)
