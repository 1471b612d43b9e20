use Rattle.rhai_machine.specs.language.Setting.{Rules}
use Rattle.rhai_steps.specs.Sessions.{under}
use Rattle.rhai_calls.proofs.NativeCalls.{runs_plainly}
use Rattle.rhai_calls.proofs.native.call_native.Goals as goal

pub returns-clause-runs : goal.returns-clause-runs
returns-clause-runs g c scope held lender stands =
    let rules : Rules _ _ = under g.H.Host.name_of c.args.session.now g.T.NativeTable.natives in
    runs_plainly rules _ _ _ c.pass_native.result c.drop_changed.result c.pass_native.ensures.untold c.drop_changed.ensures
    (c.pass_native.ensures.runs scope held lender stands)
