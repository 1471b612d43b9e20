use Rattle.std.proofs.Common.{◌∙◌}
use Rattle.rhai_machine.specs.language.Setting.{Rules}
use Rattle.rhai_machine.specs.language.Frames.{InPlace, AskUpdate}
use Rattle.rhai_steps.specs.Sessions.{under}
use Rattle.rhai_steps.specs.States.{state_of}
use Rattle.rhai_assign.specs.Lending.{placed}
use Rattle.rhai_assign.specs.Updates.{update_of}
use Rattle.rhai_assign.proofs.Updates.{ends_of_memory}
use Rattle.rhai_assign.proofs.update.update_by_natives.Goals as goal

pub returns-in-Ok-clause-runs : goal.returns-in-Ok-clause-runs
returns-in-Ok-clause-runs g c scope held place from =
    c.update_in_place.ensures.runs scope held place c.args.operand from (c.as_slice-rest.ensures ∙ c.in-Ok.ensures.ok)

pub returns-in-Err-clause-runs : goal.returns-in-Err-clause-runs
returns-in-Err-clause-runs g c scope held place from =
    let rules : Rules _ _ = under g.H.Host.name_of c.args.session.now g.T.NativeTable.natives in
    ends_of_memory rules (AskUpdate (update_of c.args.update InPlace place c.args.target.now c.args.operand))
    (placed place c.args.target.now (state_of (g.T.NativeTable.state c.args.table.now) c.args.global.now scope held)) c.args.update.at
