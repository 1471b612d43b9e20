use Rattle.std.proofs.Common.{◌≡◌, Option, Some, None, MutBor, ap, refl, sym, subst}
use Rattle.std.specs.Option.{option_copied}
use Rattle.rhai_values.specs.declared.base.value.Dynamic.{Dynamic}
use Rattle.rhai_errors.specs.Native.{left_by, lent_value}
use Rattle.rhai_machine.specs.language.Frames.{Operation, FromFocus}
use Rattle.rhai_machine.specs.language.Setting.{Rules}
use Rattle.rhai_machine.specs.language.State.{State}
use Rattle.rhai_steps.specs.Callers.{state_of}
use Rattle.rhai_eval.specs.States.{under}
use Rattle.rhai_eval.specs.Places.{on_place, with_place}
use Rattle.rhai_eval.proofs.Public.{five, session_rules}
use Rattle.rhai_eval.proofs.ChangedCalls.{native_ends, native_in_place, native_alone, native_kept}
use Rattle.rhai_eval.proofs.engine.Engine.exec_native_fn_call.Given.{Over}
use Rattle.rhai_eval.proofs.engine.Engine.exec_native_fn_call.Lts.{ps, r, xs}
use denote.Triple.Clauses.{at_exit}
use denote.Triple.Entry.{Args}
use borrow.Fn.Enter.{lasts_p}
use borrow.Fn.Kinds.{ended_of}
use Rattle.rhai_eval.proofs.engine.Engine.exec_native_fn_call.Goals as goal

-- what stands in the place of the first argument as its loan ends, were this the place
abbrev after : (g : Over) → goal.After-return_state g → Option (MutBor (Dynamic g.row.H.Denot)) → Option (Dynamic g.row.H.Denot)
after g c place =
    let kinds = ps g.row.H g.row.T g.H.laws g.T.laws g.H.Host-dict g.H.Destruct-dict g.T.NativeTable-dict in
    let answer = r g.row.H g.row.T g.H.laws g.T.laws g.H.Host-dict g.H.Destruct-dict g.T.NativeTable-dict in
    let types = xs g.row.H g.row.T g.H.laws g.T.laws g.H.Host-dict g.H.Destruct-dict g.T.NativeTable-dict in
    let given : Args (ended_of 10 kinds answer).signature c.lifetimes = (
      c.args.self,
      (
        c.args.alloc,
        (
          c.args.global,
          (
            c.args._caches,
            (
              c.args.table,
              (
                c.args.name,
                (c.args.op_token, (place, (c.args.rest, (c.args.is_ref_mut, (c.args.position, tt))))),
              ),
            ),
          ),
        ),
      ),
    ) in
    left_by (at_exit (ended_of 10 kinds answer) c.lifetimes given (lasts_p c.lifetimes 4 kinds types given (
      c.args.self,
      (
        tt,
        (
          c.args.global,
          (
            c.args._caches,
            (
              c.args.table,
              (
                c.args.name,
                (
                  c.args.op_token,
                  (
                    Some (record c.in-Some.first { now = c.pass_native-result.new.first }),
                    (
                      c.args.rest,
                      (
                        tt,
                        (
                          tt,
                          (
                            tt,
                            (
                              tt,
                              (
                                tt,
                                (
                                  tt,
                                  (
                                    tt,
                                    (
                                      tt,
                                      (
                                        tt,
                                        (
                                          tt,
                                          five (five (five (five (five tt)))),
                                        ),
                                      ),
                                    ),
                                  ),
                                ),
                              ),
                            ),
                          ),
                        ),
                      ),
                    ),
                  ),
                ),
              ),
            ),
          ),
        ),
      ),
    ))).1.1.1.1.1.1.1.0

first_is : (g : Over) (c : goal.After-return_state g) → after g c c.args.first ≡ Some c.pass_native-result.new.first
first_is g c = subst (λ place. after g c place ≡ Some c.pass_native-result.new.first) (sym c.in-Some.is) refl

pub returns-in-Some-clause-ends : goal.returns-in-Some-clause-ends
returns-in-Some-clause-ends g c scope this =
    let rules : Rules _ _ = under g.H.Host.name_of c.args.self.now g.T.NativeTable.natives in
    let operation : Operation = record { name = c.args.name.now; token = option_copied c.args.op_token; at = c.args.position } in
    let call = on_place operation c.args.is_ref_mut (lent_value c.args.first) c.args.rest.now in
    let old : State _ _ =
    state_of (g.T.NativeTable.state c.args.table.now) c.args.global.now scope (with_place this (lent_value c.args.first)) in
    let new : State _ _ = state_of (g.T.NativeTable.state c.pass_native-result.new.table) c.return_state.new.global scope
    (with_place this (after g c c.args.first)) in
    native_ends rules old new c.pass_native-result.result call
    (native_in_place rules operation c.args.is_ref_mut c.args.rest.now (g.T.NativeTable.state c.args.table.now)
    (g.T.NativeTable.state c.pass_native-result.new.table) c.args.global.now c.return_state.new.global scope this
    c.pass_native-result.result (lent_value c.args.first) (after g c c.args.first) c.in-Some.first.now c.pass_native-result.new.first
    (ap lent_value
    c.in-Some.is) (first_is g c)
    (rw c.return_state.ensures (rw (
      c.copied-token.ensures,
      (session_rules g.H.Host.name_of g.T.NativeTable.natives c.args.self.now c.session-session.result
          c.session-session.ensures.limits c.session-session.ensures.offer),
      c.lend_state-run.ensures.run,
    ) at
    (c.pass_native-result.ensures.runs scope (with_place this (Some c.in-Some.first.now)) (Some
    FromFocus) refl))))

pub returns-in-Some-clause-kept : goal.returns-in-Some-clause-kept
returns-in-Some-clause-kept g c scope this =
    let rules : Rules _ _ = under g.H.Host.name_of c.args.self.now g.T.NativeTable.natives in
    let operation : Operation = record { name = c.args.name.now; token = option_copied c.args.op_token; at = c.args.position } in
    let call = on_place operation c.args.is_ref_mut (lent_value c.args.first) c.args.rest.now in
    let old : State _ _ =
    state_of (g.T.NativeTable.state c.args.table.now) c.args.global.now scope (with_place this (lent_value c.args.first)) in
    let new : State _ _ = state_of (g.T.NativeTable.state c.pass_native-result.new.table) c.return_state.new.global scope
    (with_place this (after g c c.args.first)) in
    native_kept rules old new c.pass_native-result.result call
    (native_in_place rules operation c.args.is_ref_mut c.args.rest.now (g.T.NativeTable.state c.args.table.now)
    (g.T.NativeTable.state c.pass_native-result.new.table) c.args.global.now c.return_state.new.global scope this
    c.pass_native-result.result (lent_value c.args.first) (after g c c.args.first) c.in-Some.first.now c.pass_native-result.new.first
    (ap lent_value
    c.in-Some.is) (first_is g c)
    (rw c.return_state.ensures (rw (
      c.copied-token.ensures,
      (session_rules g.H.Host.name_of g.T.NativeTable.natives c.args.self.now c.session-session.result
          c.session-session.ensures.limits c.session-session.ensures.offer),
      c.lend_state-run.ensures.run,
    ) at
    (c.pass_native-result.ensures.runs scope (with_place this (Some c.in-Some.first.now)) (Some
    FromFocus) refl))))

-- what stands in the place of the first argument as its loan ends, were this the place
abbrev after_none : (g : Over) → goal.After-return_state-in-None g → Option (MutBor (Dynamic g.row.H.Denot)) →
    Option (Dynamic g.row.H.Denot)
after_none g c place =
    let kinds = ps g.row.H g.row.T g.H.laws g.T.laws g.H.Host-dict g.H.Destruct-dict g.T.NativeTable-dict in
    let answer = r g.row.H g.row.T g.H.laws g.T.laws g.H.Host-dict g.H.Destruct-dict g.T.NativeTable-dict in
    let types = xs g.row.H g.row.T g.H.laws g.T.laws g.H.Host-dict g.H.Destruct-dict g.T.NativeTable-dict in
    let given : Args (ended_of 10 kinds answer).signature c.lifetimes = (
      c.args.self,
      (
        c.args.alloc,
        (
          c.args.global,
          (
            c.args._caches,
            (
              c.args.table,
              (
                c.args.name,
                (c.args.op_token, (place, (c.args.rest, (c.args.is_ref_mut, (c.args.position, tt))))),
              ),
            ),
          ),
        ),
      ),
    ) in
    left_by (at_exit (ended_of 10 kinds answer) c.lifetimes given (lasts_p c.lifetimes 4 kinds types given (
      c.args.self,
      (
        tt,
        (
          c.args.global,
          (
            c.args._caches,
            (
              c.args.table,
              (
                c.args.name,
                (
                  c.args.op_token,
                  (
                    place,
                    (
                      c.args.rest,
                      (
                        tt,
                        (
                          tt,
                          (
                            tt,
                            (
                              tt,
                              (
                                tt,
                                (
                                  tt,
                                  (
                                    tt,
                                    (
                                      tt,
                                      (
                                        tt,
                                        (
                                          tt,
                                          five (five (five (five (five tt)))),
                                        ),
                                      ),
                                    ),
                                  ),
                                ),
                              ),
                            ),
                          ),
                        ),
                      ),
                    ),
                  ),
                ),
              ),
            ),
          ),
        ),
      ),
    ))).1.1.1.1.1.1.1.0

none_is : (g : Over) (c : goal.After-return_state-in-None g) → after_none g c c.args.first ≡ None
none_is g c = subst (λ place. after_none g c place ≡ None) (sym c.in-None.is) refl

pub returns-in-None-clause-ends : goal.returns-in-None-clause-ends
returns-in-None-clause-ends g c scope this =
    let rules : Rules _ _ = under g.H.Host.name_of c.args.self.now g.T.NativeTable.natives in
    let operation : Operation = record { name = c.args.name.now; token = option_copied c.args.op_token; at = c.args.position } in
    let call = on_place operation c.args.is_ref_mut (lent_value c.args.first) c.args.rest.now in
    let old : State _ _ =
    state_of (g.T.NativeTable.state c.args.table.now) c.args.global.now scope (with_place this (lent_value c.args.first)) in
    let new : State _ _ = state_of (g.T.NativeTable.state c.pass_native_alone-result.new.table) c.return_state-in-None.new.global scope
    (with_place this (after_none g c c.args.first)) in
    native_ends rules old new c.pass_native_alone-result.result call
    (native_alone rules operation c.args.is_ref_mut c.args.rest.now (g.T.NativeTable.state c.args.table.now)
    (g.T.NativeTable.state c.pass_native_alone-result.new.table) c.args.global.now c.return_state-in-None.new.global scope this
    c.pass_native_alone-result.result (lent_value c.args.first) (after_none g c c.args.first) (ap lent_value c.in-None.is) (none_is g c)
    (rw c.return_state-in-None.ensures (rw (
      c.copied-token.ensures,
      (session_rules g.H.Host.name_of g.T.NativeTable.natives c.args.self.now c.session-session.result
          c.session-session.ensures.limits c.session-session.ensures.offer),
      c.lend_state-run.ensures.run,
    ) at (c.pass_native_alone-result.ensures.runs scope
    (with_place this None)))))

pub returns-in-None-clause-kept : goal.returns-in-None-clause-kept
returns-in-None-clause-kept g c scope this =
    let rules : Rules _ _ = under g.H.Host.name_of c.args.self.now g.T.NativeTable.natives in
    let operation : Operation = record { name = c.args.name.now; token = option_copied c.args.op_token; at = c.args.position } in
    let call = on_place operation c.args.is_ref_mut (lent_value c.args.first) c.args.rest.now in
    let old : State _ _ =
    state_of (g.T.NativeTable.state c.args.table.now) c.args.global.now scope (with_place this (lent_value c.args.first)) in
    let new : State _ _ = state_of (g.T.NativeTable.state c.pass_native_alone-result.new.table) c.return_state-in-None.new.global scope
    (with_place this (after_none g c c.args.first)) in
    native_kept rules old new c.pass_native_alone-result.result call
    (native_alone rules operation c.args.is_ref_mut c.args.rest.now (g.T.NativeTable.state c.args.table.now)
    (g.T.NativeTable.state c.pass_native_alone-result.new.table) c.args.global.now c.return_state-in-None.new.global scope this
    c.pass_native_alone-result.result (lent_value c.args.first) (after_none g c c.args.first) (ap lent_value c.in-None.is) (none_is g c)
    (rw c.return_state-in-None.ensures (rw (
      c.copied-token.ensures,
      (session_rules g.H.Host.name_of g.T.NativeTable.natives c.args.self.now c.session-session.result
          c.session-session.ensures.limits c.session-session.ensures.offer),
      c.lend_state-run.ensures.run,
    ) at (c.pass_native_alone-result.ensures.runs scope
    (with_place this None)))))
