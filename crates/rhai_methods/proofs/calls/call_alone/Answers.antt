use Rattle.std.proofs.Common.{◌++◌}
use Rattle.rhai_machine.specs.language.Setting.{Rules}
use Rattle.rhai_steps.specs.Sessions.{under}
use Rattle.rhai_steps.specs.States.{local_of, state_of}
use Rattle.rhai_methods.specs.Calls.{alone_by}
use Rattle.rhai_methods.proofs.Going.{runs_out_from}
use Rattle.rhai_methods.proofs.Levels.{alone_by_level}
use Rattle.rhai_methods.proofs.calls.call_alone.Goals as goal

pub returns-then-is_empty-clause-runs : goal.returns-then-is_empty-clause-runs
returns-then-is_empty-clause-runs g c scope held =
    rw (c.is_empty.ensures.0 c.if-is_empty.true) (c.call_by_itself.ensures.runs scope held)

pub returns-in-Ok-clause-runs : goal.returns-in-Ok-clause-runs
returns-in-Ok-clause-runs g c scope held =
    rw (← c.in-Ok.ensures.joined, ← c.as_mut_slice-values.ensures.value) (c.call_by_itself-call.ensures.runs scope held)

pub returns-in-Err-clause-runs : goal.returns-in-Err-clause-runs
returns-in-Err-clause-runs g c scope held =
    let rules : Rules _ _ = under g.H.Host.name_of c.args.session.now g.T.NativeTable.natives in
    runs_out_from rules c.args.operation.now.at
    (alone_by rules.setting c.args.number c.args.operation.now.name.now c.args.operation.now.at (c.args.curried ++ c.args.args.now))
    (state_of (g.T.NativeTable.state c.args.table.now) c.args.global.now scope held) c.in-Err.error
    (λ k. alone_by_level k (local_of c.args.global.now scope held) rules.setting
    c.args.number c.args.operation.now.name.now c.args.operation.now.at (c.args.curried ++ c.args.args.now))
    c.in-Err.ensures.refused
