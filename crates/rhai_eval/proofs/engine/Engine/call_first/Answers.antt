use Rattle.std.proofs.Common.{Some, None, not, true, refl, sym, subst, ◌∙◌}
use Rattle.rhai_values.specs.declared.base.value.Dynamic.{Dynamic}
use Rattle.rhai_machine.specs.language.Calls.{dispatch_core}
use Rattle.rhai_machine.specs.language.Frames.{Operation, FromFocus}
use Rattle.rhai_machine.specs.language.Setting.{Rules}
use Rattle.rhai_machine.specs.language.State.{State}
use Rattle.rhai_machine.specs.language.Runs.{Goes}
use Rattle.rhai_steps.specs.Operations.{operation_of}
use Rattle.rhai_steps.specs.OnFocus.{lending}
use Rattle.rhai_lookups.proofs.Returned.{returned}
use Rattle.rhai_steps.specs.Callers.{state_of}
use Rattle.rhai_steps.specs.States.{state_of as run_state}
use Rattle.rhai_calls.specs.declared.dispatch.Called.TheVariants.{Ended}
use Rattle.rhai_eval.specs.Entering.{came_to}
use Rattle.rhai_eval.specs.Places.{by_name, on_place}
use Rattle.rhai_eval.specs.States.{under}
use Rattle.rhai_eval.proofs.Public.{session_rules}
use Rattle.rhai_eval.proofs.Dispatching.{lent_ended, lent_found, value_ended, value_found}
use Rattle.rhai_eval.proofs.engine.Engine.call_first.Goals as goal

pub returns-in-Ended-clause-lent : goal.returns-in-Ended-clause-lent
returns-in-Ended-clause-lent g c scope held on_scope lent =
    let rules : Rules _ _ = under g.H.Host.name_of c.args.self.now g.T.NativeTable.natives in
    let operation : Operation = operation_of c.args.operation.now in
    let old : State _ _ = state_of (g.T.NativeTable.state c.args.table.now) c.args.global.now scope (lending held c.args.first.now) in
    rw c.give_state.ensures.global
    (subst (λ (v : Dynamic _). Goes rules (dispatch_core rules.setting (by_name c.args.manner.is_method_call on_scope)
    (on_place operation true (Some c.args.first.now) c.args.rest.now)) old
    (came_to (not on_scope) c.args.operation.now.at (Ended c.in-Ended.result))
    (run_state (g.T.NativeTable.state c.pass_call-dispatched.new.table) c.pass_call-dispatched.new.global scope (lending held v)))
    (sym (c.empty_all.ensures.lent (c.is_guarded-is_lent.ensures ∙ lent)))
    (lent_ended rules operation c.args.first.now c.args.rest.now on_scope c.args.manner.is_ref_mut c.args.manner.is_method_call
    c.is_guarded-is_lent.result
    c.pass_call-dispatched.result
    (state_of (g.T.NativeTable.state c.args.table.now) c.args.global.now scope (lending held c.args.first.now))
    (run_state (g.T.NativeTable.state c.pass_call-dispatched.new.table) c.pass_call-dispatched.new.global scope
    (lending held c.pass_call-dispatched.new.first))
    c.is_guarded-is_lent.ensures
    (session_rules g.H.Host.name_of g.T.NativeTable.natives c.args.self.now c.session-session.result
    c.session-session.ensures.limits c.session-session.ensures.offer)
    c.in-Ended.result c.in-Ended.is lent
    (rw c.take_state-run.ensures.run at
    (c.pass_call-dispatched.ensures.runs scope (lending held c.args.first.now) (Some FromFocus) on_scope refl))))

pub returns-in-Ended-clause-by_value : goal.returns-in-Ended-clause-by_value
returns-in-Ended-clause-by_value g c scope held on_scope none =
    let rules : Rules _ _ = under g.H.Host.name_of c.args.self.now g.T.NativeTable.natives in
    let operation : Operation = operation_of c.args.operation.now in
    rw c.give_state.ensures.global
    (value_ended rules operation c.args.first.now c.args.rest.now on_scope c.args.manner.is_ref_mut c.args.manner.is_method_call
    c.is_guarded-is_lent.result
    c.pass_call-dispatched.result (state_of (g.T.NativeTable.state c.args.table.now) c.args.global.now scope held)
    (run_state (g.T.NativeTable.state c.pass_call-dispatched.new.table) c.pass_call-dispatched.new.global scope held)
    c.is_guarded-is_lent.ensures
    (session_rules g.H.Host.name_of g.T.NativeTable.natives c.args.self.now c.session-session.result
    c.session-session.ensures.limits c.session-session.ensures.offer)
    c.in-Ended.result c.in-Ended.is none
    (rw c.take_state-run.ensures.run at (c.pass_call-dispatched.ensures.runs scope held None on_scope tt)))

pub returns-in-Enters-clause-lent : goal.returns-in-Enters-clause-lent
returns-in-Enters-clause-lent g c scope held on_scope lent =
    let rules : Rules _ _ = under g.H.Host.name_of c.args.self.now g.T.NativeTable.natives in
    let operation : Operation = operation_of c.args.operation.now in
    let old : State _ _ = state_of (g.T.NativeTable.state c.args.table.now) c.args.global.now scope (lending held c.args.first.now) in
    rw c.give_state.ensures.global
    (subst (λ (v : Dynamic _). Goes rules (dispatch_core rules.setting (by_name c.args.manner.is_method_call on_scope)
    (on_place operation true (Some c.args.first.now) c.args.rest.now)) old
    (came_to (not on_scope) c.args.operation.now.at c.choose_entry-call.result)
    (run_state (g.T.NativeTable.state c.pass_call-dispatched.new.table) c.pass_call-dispatched.new.global scope (lending held v)))
    (sym (c.empty_all-in-Enters.ensures.lent (c.is_guarded-is_lent.ensures ∙ lent) ∙ c.choose_entry-call.ensures.same lent))
    (lent_found rules operation c.args.first.now c.args.rest.now on_scope c.args.manner.is_ref_mut c.args.manner.is_method_call
    c.is_guarded-is_lent.result
    c.pass_call-dispatched.result old
    (run_state (g.T.NativeTable.state c.pass_call-dispatched.new.table) c.pass_call-dispatched.new.global scope
    (lending held c.pass_call-dispatched.new.first))
    c.is_guarded-is_lent.ensures
    (session_rules g.H.Host.name_of g.T.NativeTable.natives c.args.self.now c.session-session.result
    c.session-session.ensures.limits c.session-session.ensures.offer)
    c.in-Enters.function c.choose_entry-call.result c.in-Enters.is lent c.choose_entry-call.ensures.method
    (λ none. rw c.in-Enters.ensures.same at (c.choose_entry-call.ensures.by_itself none))
    (rw c.take_state-run.ensures.run at
    (c.pass_call-dispatched.ensures.runs scope (lending held c.args.first.now) (Some FromFocus) on_scope refl))))

pub returns-in-Enters-clause-by_value : goal.returns-in-Enters-clause-by_value
returns-in-Enters-clause-by_value g c scope held on_scope none =
    let rules : Rules _ _ = under g.H.Host.name_of c.args.self.now g.T.NativeTable.natives in
    let operation : Operation = operation_of c.args.operation.now in
    rw c.give_state.ensures.global
    (value_found rules operation c.args.first.now c.args.rest.now on_scope c.args.manner.is_ref_mut c.args.manner.is_method_call
    c.is_guarded-is_lent.result
    c.pass_call-dispatched.result (state_of (g.T.NativeTable.state c.args.table.now) c.args.global.now scope held)
    (run_state (g.T.NativeTable.state c.pass_call-dispatched.new.table) c.pass_call-dispatched.new.global scope held)
    c.is_guarded-is_lent.ensures
    (session_rules g.H.Host.name_of g.T.NativeTable.natives c.args.self.now c.session-session.result
    c.session-session.ensures.limits c.session-session.ensures.offer)
    c.in-Enters.function c.choose_entry-call.result c.in-Enters.is none
    (λ alone. rw c.in-Enters.ensures.same at (c.choose_entry-call.ensures.by_itself alone))
    (rw c.take_state-run.ensures.run at (c.pass_call-dispatched.ensures.runs scope held None on_scope tt)))

pub returns-in-Ended-clause-taken : goal.returns-in-Ended-clause-taken
returns-in-Ended-clause-taken g c none = c.empty_all.ensures.taken (c.is_guarded-is_lent.ensures ∙ none)

pub returns-in-Enters-clause-taken : goal.returns-in-Enters-clause-taken
returns-in-Enters-clause-taken g c none = c.empty_all-in-Enters.ensures.taken (c.is_guarded-is_lent.ensures ∙ none)

pub returns-in-Ended-clause-caches : goal.returns-in-Ended-clause-caches
returns-in-Ended-clause-caches g c =
    rw c.give_state.ensures.global (returned _ _ _ _ c.take_state-run.ensures.caches c.give_state.ensures.caches)

pub returns-in-Enters-clause-caches : goal.returns-in-Enters-clause-caches
returns-in-Enters-clause-caches g c =
    rw c.give_state.ensures.global (returned _ _ _ _ c.take_state-run.ensures.caches c.give_state.ensures.caches)
