use Rattle.std.proofs.Common.{false}
use Rattle.rhai_machine.specs.language.Calls.{call_of, plainly}
use Rattle.rhai_machine.specs.language.Setting.{Rules}
use Rattle.rhai_steps.specs.Operations.{operation_of}
use Rattle.rhai_steps.specs.Sessions.{under}
use Rattle.rhai_calls.proofs.Dispatching.{calls_run_out}
use Rattle.rhai_calls.proofs.operators.call_listed.Goals as goal

pub returns-then-not-are_there-clause-runs : goal.returns-then-not-are_there-clause-runs
returns-then-not-are_there-clause-runs g c scope held values is =
    let rules : Rules _ _ = under g.H.Host.name_of c.args.session.now g.T.NativeTable.natives in
    calls_run_out rules (plainly false false) (call_of (operation_of c.args.operation.now) values) _ c.args.operation.now.at
