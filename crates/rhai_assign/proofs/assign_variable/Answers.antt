use Rattle.std.proofs.Common.{refl}
use Rattle.rhai_state.specs.Scope.{entries_of}
use Rattle.rhai_machine.specs.language.Setting.{Rules}
use Rattle.rhai_machine.specs.language.Assignment.{assignment_to}
use Rattle.rhai_machine.specs.language.Places.{target}
use Rattle.rhai_machine.specs.language.Variables.{path_of}
use Rattle.rhai_steps.specs.Sessions.{offer_of, under}
use Rattle.rhai_steps.specs.States.{state_of, surroundings_of}
use Rattle.rhai_names.specs.Variables.{variable_told}
use Rattle.rhai_assign.specs.Targets.{place_in, standing_at}
use Rattle.rhai_assign.proofs.Entries.{target_seen}
use Rattle.rhai_assign.proofs.Updates.{assigns, misses, refuses_assignment}
use Rattle.rhai_assign.proofs.assign_variable.Goals as goal

pub returns-in-Err-clause-runs : goal.returns-in-Err-clause-runs
returns-in-Err-clause-runs g c held =
    let rules : Rules _ _ = under g.H.Host.name_of c.args.session.now g.T.NativeTable.natives in
    let assignment = assignment_to (variable_told c.args.variable.now) c.args.op in
    refuses_assignment rules (g.T.NativeTable.state c.args.table.now) c.args.global.now c.track_operation.new.global c.args.scope.now held
    assignment c.args.value c.in-Err.error c.in-Err.ensures.full c.in-Err.ensures.refused c.in-Err.ensures.same

pub returns-in-Ok-clause-runs : goal.returns-in-Ok-clause-runs
returns-in-Ok-clause-runs g c held =
    let rules : Rules _ _ = under g.H.Host.name_of c.args.session.now g.T.NativeTable.natives in
    let assignment = assignment_to (variable_told c.args.variable.now) c.args.op in
    assigns rules (g.T.NativeTable.state c.args.table.now) c.args.global.now c.track_operation.new.global c.args.scope.now held
    assignment c.args.value c.in_default.ensures.room c.in_default.ensures.charged
    (target (place_in c.in-Ok.place) (standing_at c.in-Ok.place c.args.scope.now c.track_operation.new.global.cells)) c.store.result
    (state_of (g.T.NativeTable.state c.store.new.table) c.store.new.global c.store.new.scope held)
    (target_seen (offer_of c.args.session.now) c.args.session.now.offered (refl, refl) (surroundings_of c.track_operation.new.global)
    (entries_of c.args.scope.now)
    (variable_told c.args.variable.now) _ c.in-Ok.ensures.0)
    (c.store.ensures.runs held (path_of c.args.variable.now.namespace.now) c.args.variable.now.name.now)

pub returns-in-Err-find_target-clause-runs : goal.returns-in-Err-find_target-clause-runs
returns-in-Err-find_target-clause-runs g c held =
    let rules : Rules _ _ = under g.H.Host.name_of c.args.session.now g.T.NativeTable.natives in
    let assignment = assignment_to (variable_told c.args.variable.now) c.args.op in
    misses rules (g.T.NativeTable.state c.args.table.now) c.args.global.now c.track_operation.new.global c.args.scope.now held
    assignment c.args.value c.in_default.ensures.room c.in_default.ensures.charged c.in-Err-find_target.error
    (λ m. target_seen (offer_of c.args.session.now) c.args.session.now.offered (refl, refl) (surroundings_of c.track_operation.new.global)
    (entries_of c.args.scope.now)
    (variable_told c.args.variable.now) _ (c.in-Err-find_target.ensures.1 m))
