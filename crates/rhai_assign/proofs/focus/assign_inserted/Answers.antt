use Rattle.std.proofs.Common.{refl}
use Rattle.rhai_machine.specs.language.Places.{InFocus}
use Rattle.rhai_machine.specs.language.Setting.{Rules}
use Rattle.rhai_machine.specs.language.State.{State}
use Rattle.rhai_steps.specs.Sessions.{under}
use Rattle.rhai_steps.specs.States.{state_of}
use Rattle.rhai_assign.specs.Lending.{placed}
use Rattle.rhai_assign.proofs.Going.{inserted_updated, inserted_written}
use Rattle.rhai_assign.proofs.focus.assign_inserted.Goals as goal

pub returns-in-Some-clause-runs : goal.returns-in-Some-clause-runs
returns-in-Some-clause-runs g c scope held =
    let rules : Rules _ _ = under g.H.Host.name_of c.args.session.now g.T.NativeTable.natives in
    let old : State _ _ = state_of (g.T.NativeTable.state c.args.table.now) c.args.global.now scope held in
    let new : State _ _ = placed InFocus c.update_by_natives.new.target
    (state_of (g.T.NativeTable.state c.update_by_natives.new.table) c.update_by_natives.new.global scope held) in
    inserted_updated rules c.args.root.now c.args.op c.args.value c.args.target.now old c.requires new c.position-target_at.result
    c.update_by_natives.result c.in-Some.token c.in-Some.is c.position-target_at.ensures
    (c.update_by_natives.ensures.runs scope held InFocus refl)

pub returns-in-None-clause-runs : goal.returns-in-None-clause-runs
returns-in-None-clause-runs g c scope held =
    let rules : Rules _ _ = under g.H.Host.name_of c.args.session.now g.T.NativeTable.natives in
    let old : State _ _ = state_of (g.T.NativeTable.state c.args.table.now) c.args.global.now scope held in
    rw (c.unit_value.ensures, c.replace.ensures.after, c.set_access_mode.ensures) (inserted_written rules c.args.root.now c.args.op
    c.args.value c.args.target.now old c.requires _ c.in-None.is refl)
