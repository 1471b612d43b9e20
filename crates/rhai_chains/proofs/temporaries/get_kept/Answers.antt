use Rattle.rhai_machine.specs.language.Members.{get_core}
use Rattle.rhai_machine.specs.language.Setting.{Rules}
use Rattle.rhai_steps.specs.Sessions.{under}
use Rattle.rhai_steps.specs.States.{state_of}
use Rattle.rhai_steps.specs.OnFocus.{lending}
use Rattle.rhai_links.specs.Access.{access_of}
use Rattle.rhai_links.proofs.Inside.{fails_for_memory_alone}
use Rattle.rhai_chains.proofs.temporaries.get_kept.Goals as goal

pub returns-in-Err-clause-fails : goal.returns-in-Err-clause-fails
returns-in-Err-clause-fails g c scope held none =
    let rules : Rules _ _ = under g.H.Host.name_of c.args.walker.now.session.now g.T.NativeTable.natives in
    rw c.stop.ensures.told (fails_for_memory_alone rules (get_core (access_of c.args.access))
    (state_of (g.T.NativeTable.state c.args.table.now) c.args.global.now scope (lending held c.args.focus.now)) c.in-Err.error
    c.in-Err.ensures.err)

pub returns-in-Ok-got-clause-gets : goal.returns-in-Ok-got-clause-gets
returns-in-Ok-got-clause-gets g c scope held =
    rw c.in-Ok-got.ensures.untold at (c.in-Ok-got.ensures.runs scope held)
