use Rattle.std.proofs.Common.{refl}
use Rattle.rhai_machine.specs.language.Setting.{Rules}
use Rattle.rhai_steps.specs.Sessions.{under}
use Rattle.rhai_steps.specs.States.{local_of}
use Rattle.rhai_calls.proofs.NativeCalls.{runs_plainly}
use Rattle.rhai_calls.proofs.native.call_number_alone.Goals as goal

pub returns-clause-runs : goal.returns-clause-runs
returns-clause-runs g c scope held =
    let rules : Rules _ _ = under g.H.Host.name_of c.args.session.now g.T.NativeTable.natives in
    runs_plainly rules _ _ _ c.call_alone.result c.drop_changed.result c.call_alone.ensures.untold c.drop_changed.ensures
    (c.call_alone.ensures.runs c.args.global.now.num_operations (local_of c.args.global.now scope held))
