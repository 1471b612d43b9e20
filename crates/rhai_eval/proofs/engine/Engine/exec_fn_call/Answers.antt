use Rattle.std.proofs.Common.{◌≡◌, ◌||◌, [], Option, Some, None, MutBor, ap, arith, false, refl, subst, sym, true, ◌∙◌}
use Rattle.std.specs.Option.{option_copied, option_map}
use Rattle.rhai_values.specs.declared.base.value.Dynamic.{Dynamic}
use Rattle.rhai_state.specs.declared.scope.Scope.{Scope}
use Rattle.rhai_errors.specs.Native.{left_by, lent_value}
use Rattle.rhai_machine.specs.language.Calls.{dispatch_core}
use Rattle.rhai_machine.specs.language.Frames.{Operation}
use Rattle.rhai_machine.specs.language.Setting.{Rules}
use Rattle.rhai_machine.specs.language.State.{Held}
use Rattle.rhai_lookups.proofs.Returned.{left_twice}
use Rattle.rhai_steps.specs.Callers.{state_of}
use Rattle.rhai_eval.specs.Places.{by_name, by_value, left_of, on_place, loan_start, with_place}
use Rattle.rhai_eval.specs.States.{under}
use Rattle.rhai_eval.proofs.Dispatching.{out_runs}
use Rattle.rhai_eval.proofs.ChangedCalls.{call_ends, call_kept, call_names, either_way, kept_holding}
use Rattle.rhai_eval.proofs.NamedCalls.{kept_told, lent_told, names_told, value_told}
use Rattle.rhai_eval.proofs.Public.{five}
use Rattle.rhai_eval.proofs.engine.Engine.exec_fn_call.Given.{Over}
use Rattle.rhai_eval.proofs.engine.Engine.exec_fn_call.Lts.{ps, r, xs}
use denote.Triple.Clauses.{at_exit}
use denote.Triple.Entry.{Args}
use borrow.Fn.Enter.{lasts_p}
use borrow.Fn.Kinds.{ended_of}
use Rattle.rhai_eval.proofs.engine.Engine.exec_fn_call.Goals as goal
use Rattle.rhai_machine.specs.language.Values.{unit_value as unit}

-- what stands in the place of `scope` as its loan ends, were this the place
abbrev scope_left_1 : (g : Over) → goal.After-finish_on_scope g → Option (MutBor (Scope g.row.H.Denot)) → Option (Scope g.row.H.Denot)
scope_left_1 g c place =
    let kinds = ps g.row.H g.row.T g.H.laws g.T.laws g.H.Host-dict g.H.Destruct-dict g.T.NativeTable-dict in
    let answer = r g.row.H g.row.T g.H.laws g.T.laws g.H.Host-dict g.H.Destruct-dict g.T.NativeTable-dict in
    let types = xs g.row.H g.row.T g.H.laws g.T.laws g.H.Host-dict g.H.Destruct-dict g.T.NativeTable-dict in
    let given : Args (ended_of 11 kinds answer).signature c.lifetimes = (
      c.args.self,
      (
        c.args.alloc,
        (
          c.args.global,
          (
            c.args.caches,
            (
              c.args.table,
              (
                place,
                (
                  c.args.name,
                  (
                    c.args.op_token,
                    (
                      c.args.first,
                      (
                        c.args.rest,
                        (
                          c.args.is_ref_mut,
                          (c.args.is_method_call, (c.args.position, tt)),
                        ),
                      ),
                    ),
                  ),
                ),
              ),
            ),
          ),
        ),
      ),
    ) in
    left_of (at_exit (ended_of 11 kinds answer) c.lifetimes given (lasts_p c.lifetimes 4 kinds types given (
      c.args.self,
      (
        tt,
        (
          c.args.global,
          (
            c.args.caches,
            (
              c.args.table,
              (
                Some (record c.in-Some-scope.scope { now = c.finish_on_scope.new.scope }),
                (
                  c.args.name,
                  (
                    c.args.op_token,
                    (
                      Some (record c.in-Some.first { now = c.call_on-outcome.new.first }),
                      (c.args.rest, five (five (five (five (five (five (five (five (five (five (five (tt, (tt, (tt, (tt, tt))))))))))))))),
                    ),
                  ),
                ),
              ),
            ),
          ),
        ),
      ),
    ))).1.1.1.1.1.0

scope_is_1 : (g : Over) (c : goal.After-finish_on_scope g) → scope_left_1 g c c.args.scope ≡ Some c.finish_on_scope.new.scope
scope_is_1 g c = subst (λ place. scope_left_1 g c place ≡ Some c.finish_on_scope.new.scope) (sym c.in-Some-scope.is) refl

-- what stands in the place of `first` as its loan ends, were this the place
abbrev first_left_1 : (g : Over) → goal.After-finish_on_scope g → Option (MutBor (Dynamic g.row.H.Denot)) → Option (Dynamic g.row.H.Denot)
first_left_1 g c place =
    let kinds = ps g.row.H g.row.T g.H.laws g.T.laws g.H.Host-dict g.H.Destruct-dict g.T.NativeTable-dict in
    let answer = r g.row.H g.row.T g.H.laws g.T.laws g.H.Host-dict g.H.Destruct-dict g.T.NativeTable-dict in
    let types = xs g.row.H g.row.T g.H.laws g.T.laws g.H.Host-dict g.H.Destruct-dict g.T.NativeTable-dict in
    let given : Args (ended_of 11 kinds answer).signature c.lifetimes = (
      c.args.self,
      (
        c.args.alloc,
        (
          c.args.global,
          (
            c.args.caches,
            (
              c.args.table,
              (
                c.args.scope,
                (
                  c.args.name,
                  (
                    c.args.op_token,
                    (place, (c.args.rest, (c.args.is_ref_mut, (c.args.is_method_call, (c.args.position, tt))))),
                  ),
                ),
              ),
            ),
          ),
        ),
      ),
    ) in
    left_by (at_exit (ended_of 11 kinds answer) c.lifetimes given (lasts_p c.lifetimes 4 kinds types given (
      c.args.self,
      (
        tt,
        (
          c.args.global,
          (
            c.args.caches,
            (
              c.args.table,
              (
                Some (record c.in-Some-scope.scope { now = c.finish_on_scope.new.scope }),
                (
                  c.args.name,
                  (
                    c.args.op_token,
                    (
                      Some (record c.in-Some.first { now = c.call_on-outcome.new.first }),
                      (c.args.rest, five (five (five (five (five (five (five (five (five (five (five (tt, (tt, (tt, (tt, tt))))))))))))))),
                    ),
                  ),
                ),
              ),
            ),
          ),
        ),
      ),
    ))).1.1.1.1.1.1.1.1.0

first_is_1 : (g : Over) (c : goal.After-finish_on_scope g) → first_left_1 g c c.args.first ≡ Some c.call_on-outcome.new.first
first_is_1 g c = subst (λ place. first_left_1 g c place ≡ Some c.call_on-outcome.new.first) (sym c.in-Some.is) refl

pub returns-in-Some-scope-clause-lent : goal.returns-in-Some-scope-clause-lent
returns-in-Some-scope-clause-lent g c variables this lent =
    let rules : Rules _ _ = under g.H.Host.name_of c.args.self.now g.T.NativeTable.natives in
    let operation : Operation = record { name = c.args.name.now; token = option_copied c.args.op_token; at = c.args.position } in
    lent_told rules operation c.args.rest.now (g.T.NativeTable.state c.args.table.now) (g.T.NativeTable.state c.finish_on_scope.new.table)
    c.args.global.now c.finish_on_scope.new.global c.finish_on_scope.result variables
    (loan_start c.args.scope) (scope_left_1 g c c.args.scope) (Some c.in-Some-scope.scope.now) (Some c.finish_on_scope.new.scope)
    (ap loan_start c.in-Some-scope.is) (scope_is_1 g c) c.args.is_method_call this (lent_value c.args.first) (first_left_1 g c c.args.first)
    (Some c.in-Some.first.now) (Some c.call_on-outcome.new.first) (ap lent_value c.in-Some.is) (first_is_1 g c)
    (call_ends rules (by_name c.args.is_method_call true) (on_place operation true (Some c.in-Some.first.now) c.args.rest.now)
    (state_of (g.T.NativeTable.state c.args.table.now) c.args.global.now c.in-Some-scope.scope.now
    (with_place this (Some c.in-Some.first.now)))
    (state_of (g.T.NativeTable.state c.finish_on_scope.new.table) c.finish_on_scope.new.global c.finish_on_scope.new.scope
    (with_place this (Some c.call_on-outcome.new.first)))
    c.finish_on_scope.result
    (out_runs rules false c.args.position c.call_on-outcome.result
    (dispatch_core rules.setting (by_name c.args.is_method_call true)
    (on_place operation true (Some c.in-Some.first.now) c.args.rest.now))
    (state_of (g.T.NativeTable.state c.args.table.now) c.args.global.now c.in-Some-scope.scope.now
    (with_place this (Some c.in-Some.first.now)))
    (state_of (g.T.NativeTable.state c.call_on-outcome.new.table) c.call_on-outcome.new.global c.call_on-outcome.new.scope
    (with_place this (Some c.call_on-outcome.new.first)))
    (state_of (g.T.NativeTable.state c.finish_on_scope.new.table) c.finish_on_scope.new.global c.finish_on_scope.new.scope
    (with_place this (Some c.call_on-outcome.new.first)))
    c.finish_on_scope.result (rw c.copied-token.ensures at (c.call_on-outcome.ensures.lent (with_place this None) lent))
    (c.finish_on_scope.ensures.runs
    (with_place this (Some c.call_on-outcome.new.first)))))

pub returns-in-Some-scope-clause-by_value : goal.returns-in-Some-scope-clause-by_value
returns-in-Some-scope-clause-by_value g c variables held none =
    let rules : Rules _ _ = under g.H.Host.name_of c.args.self.now g.T.NativeTable.natives in
    let operation : Operation = record { name = c.args.name.now; token = option_copied c.args.op_token; at = c.args.position } in
    value_told rules operation c.args.rest.now (g.T.NativeTable.state c.args.table.now) (g.T.NativeTable.state c.finish_on_scope.new.table)
    c.args.global.now c.finish_on_scope.new.global c.finish_on_scope.result variables
    (loan_start c.args.scope) (scope_left_1 g c c.args.scope) (Some c.in-Some-scope.scope.now) (Some c.finish_on_scope.new.scope)
    (ap loan_start c.in-Some-scope.is) (scope_is_1 g c) held (lent_value c.args.first) (Some c.in-Some.first.now)
    (ap lent_value c.in-Some.is)
    (call_ends rules (by_name false true) (by_value operation (Some c.in-Some.first.now) c.args.rest.now)
    (state_of (g.T.NativeTable.state c.args.table.now) c.args.global.now c.in-Some-scope.scope.now held)
    (state_of (g.T.NativeTable.state c.finish_on_scope.new.table) c.finish_on_scope.new.global c.finish_on_scope.new.scope held)
    c.finish_on_scope.result
    (out_runs rules false c.args.position c.call_on-outcome.result
    (dispatch_core rules.setting (by_name false true) (by_value operation (Some c.in-Some.first.now) c.args.rest.now))
    (state_of (g.T.NativeTable.state c.args.table.now) c.args.global.now c.in-Some-scope.scope.now held)
    (state_of (g.T.NativeTable.state c.call_on-outcome.new.table) c.call_on-outcome.new.global c.call_on-outcome.new.scope held)
    (state_of (g.T.NativeTable.state c.finish_on_scope.new.table) c.finish_on_scope.new.global c.finish_on_scope.new.scope held)
    c.finish_on_scope.result (rw c.copied-token.ensures at (c.call_on-outcome.ensures.by_value held none))
    (c.finish_on_scope.ensures.runs held)))

pub returns-in-Some-scope-clause-kept : goal.returns-in-Some-scope-clause-kept
returns-in-Some-scope-clause-kept g c variables held =
    let rules : Rules _ _ = under g.H.Host.name_of c.args.self.now g.T.NativeTable.natives in
    let operation : Operation = record { name = c.args.name.now; token = option_copied c.args.op_token; at = c.args.position } in
    let this : Option (Dynamic _) = None in
    kept_told rules operation c.args.rest.now (g.T.NativeTable.state c.args.table.now) (g.T.NativeTable.state c.finish_on_scope.new.table)
    c.args.global.now c.finish_on_scope.new.global c.finish_on_scope.result variables
    (loan_start c.args.scope) (scope_left_1 g c c.args.scope) (Some c.in-Some-scope.scope.now) (Some c.finish_on_scope.new.scope)
    (ap loan_start c.in-Some-scope.is) (scope_is_1 g c) held
    (either_way (c.args.is_ref_mut || c.args.is_method_call)
    (λ lent. kept_holding rules (g.T.NativeTable.state c.args.table.now) (g.T.NativeTable.state c.finish_on_scope.new.table)
    c.args.global.now
    c.finish_on_scope.new.global c.in-Some-scope.scope.now c.finish_on_scope.new.scope (with_place this (Some c.in-Some.first.now))
    (with_place this (Some c.call_on-outcome.new.first)) held
    (call_kept rules (by_name c.args.is_method_call true) (on_place operation true (Some c.in-Some.first.now) c.args.rest.now)
    (state_of (g.T.NativeTable.state c.args.table.now) c.args.global.now c.in-Some-scope.scope.now
    (with_place this (Some c.in-Some.first.now)))
    (state_of (g.T.NativeTable.state c.finish_on_scope.new.table) c.finish_on_scope.new.global c.finish_on_scope.new.scope
    (with_place this (Some c.call_on-outcome.new.first)))
    c.finish_on_scope.result
    (out_runs rules false c.args.position c.call_on-outcome.result
    (dispatch_core rules.setting (by_name c.args.is_method_call true)
    (on_place operation true (Some c.in-Some.first.now) c.args.rest.now))
    (state_of (g.T.NativeTable.state c.args.table.now) c.args.global.now c.in-Some-scope.scope.now
    (with_place this (Some c.in-Some.first.now)))
    (state_of (g.T.NativeTable.state c.call_on-outcome.new.table) c.call_on-outcome.new.global c.call_on-outcome.new.scope
    (with_place this (Some c.call_on-outcome.new.first)))
    (state_of (g.T.NativeTable.state c.finish_on_scope.new.table) c.finish_on_scope.new.global c.finish_on_scope.new.scope
    (with_place this (Some c.call_on-outcome.new.first)))
    c.finish_on_scope.result (rw c.copied-token.ensures at (c.call_on-outcome.ensures.lent (with_place this None) lent))
    (c.finish_on_scope.ensures.runs
    (with_place this (Some c.call_on-outcome.new.first))))))
    (λ none. call_kept rules (by_name false true) (by_value operation (Some c.in-Some.first.now) c.args.rest.now)
    (state_of (g.T.NativeTable.state c.args.table.now) c.args.global.now c.in-Some-scope.scope.now held)
    (state_of (g.T.NativeTable.state c.finish_on_scope.new.table) c.finish_on_scope.new.global c.finish_on_scope.new.scope held)
    c.finish_on_scope.result
    (out_runs rules false c.args.position c.call_on-outcome.result
    (dispatch_core rules.setting (by_name false true) (by_value operation (Some c.in-Some.first.now) c.args.rest.now))
    (state_of (g.T.NativeTable.state c.args.table.now) c.args.global.now c.in-Some-scope.scope.now held)
    (state_of (g.T.NativeTable.state c.call_on-outcome.new.table) c.call_on-outcome.new.global c.call_on-outcome.new.scope held)
    (state_of (g.T.NativeTable.state c.finish_on_scope.new.table) c.finish_on_scope.new.global c.finish_on_scope.new.scope held)
    c.finish_on_scope.result (rw c.copied-token.ensures at (c.call_on-outcome.ensures.by_value held none))
    (c.finish_on_scope.ensures.runs held))))

pub returns-in-Some-scope-clause-names : goal.returns-in-Some-scope-clause-names
returns-in-Some-scope-clause-names g c variables =
    let rules : Rules _ _ = under g.H.Host.name_of c.args.self.now g.T.NativeTable.natives in
    let operation : Operation = record { name = c.args.name.now; token = option_copied c.args.op_token; at = c.args.position } in
    let this : Option (Dynamic _) = None in
    let held : Held _ = with_place None None in
    names_told variables (loan_start c.args.scope) (scope_left_1 g c c.args.scope) (Some c.in-Some-scope.scope.now)
    (Some c.finish_on_scope.new.scope) (ap loan_start c.in-Some-scope.is) (scope_is_1 g c)
    (either_way (c.args.is_ref_mut || c.args.is_method_call)
    (λ lent. call_names rules (by_name c.args.is_method_call true) (on_place operation true (Some c.in-Some.first.now) c.args.rest.now)
    (state_of (g.T.NativeTable.state c.args.table.now) c.args.global.now c.in-Some-scope.scope.now
    (with_place this (Some c.in-Some.first.now)))
    (state_of (g.T.NativeTable.state c.finish_on_scope.new.table) c.finish_on_scope.new.global c.finish_on_scope.new.scope
    (with_place this (Some c.call_on-outcome.new.first)))
    c.finish_on_scope.result
    (out_runs rules false c.args.position c.call_on-outcome.result
    (dispatch_core rules.setting (by_name c.args.is_method_call true)
    (on_place operation true (Some c.in-Some.first.now) c.args.rest.now))
    (state_of (g.T.NativeTable.state c.args.table.now) c.args.global.now c.in-Some-scope.scope.now
    (with_place this (Some c.in-Some.first.now)))
    (state_of (g.T.NativeTable.state c.call_on-outcome.new.table) c.call_on-outcome.new.global c.call_on-outcome.new.scope
    (with_place this (Some c.call_on-outcome.new.first)))
    (state_of (g.T.NativeTable.state c.finish_on_scope.new.table) c.finish_on_scope.new.global c.finish_on_scope.new.scope
    (with_place this (Some c.call_on-outcome.new.first)))
    c.finish_on_scope.result (rw c.copied-token.ensures at (c.call_on-outcome.ensures.lent (with_place this None) lent))
    (c.finish_on_scope.ensures.runs
    (with_place this (Some c.call_on-outcome.new.first)))))
    (λ none. call_names rules (by_name false true) (by_value operation (Some c.in-Some.first.now) c.args.rest.now)
    (state_of (g.T.NativeTable.state c.args.table.now) c.args.global.now c.in-Some-scope.scope.now held)
    (state_of (g.T.NativeTable.state c.finish_on_scope.new.table) c.finish_on_scope.new.global c.finish_on_scope.new.scope held)
    c.finish_on_scope.result
    (out_runs rules false c.args.position c.call_on-outcome.result
    (dispatch_core rules.setting (by_name false true) (by_value operation (Some c.in-Some.first.now) c.args.rest.now))
    (state_of (g.T.NativeTable.state c.args.table.now) c.args.global.now c.in-Some-scope.scope.now held)
    (state_of (g.T.NativeTable.state c.call_on-outcome.new.table) c.call_on-outcome.new.global c.call_on-outcome.new.scope held)
    (state_of (g.T.NativeTable.state c.finish_on_scope.new.table) c.finish_on_scope.new.global c.finish_on_scope.new.scope held)
    c.finish_on_scope.result (rw c.copied-token.ensures at (c.call_on-outcome.ensures.by_value held none))
    (c.finish_on_scope.ensures.runs held))))

-- what stands in the place of `scope` as its loan ends, were this the place
abbrev scope_left_2 : (g : Over) → goal.After-finish_fresh g → Option (MutBor (Scope g.row.H.Denot)) → Option (Scope g.row.H.Denot)
scope_left_2 g c place =
    let kinds = ps g.row.H g.row.T g.H.laws g.T.laws g.H.Host-dict g.H.Destruct-dict g.T.NativeTable-dict in
    let answer = r g.row.H g.row.T g.H.laws g.T.laws g.H.Host-dict g.H.Destruct-dict g.T.NativeTable-dict in
    let types = xs g.row.H g.row.T g.H.laws g.T.laws g.H.Host-dict g.H.Destruct-dict g.T.NativeTable-dict in
    let given : Args (ended_of 11 kinds answer).signature c.lifetimes = (
      c.args.self,
      (
        c.args.alloc,
        (
          c.args.global,
          (
            c.args.caches,
            (
              c.args.table,
              (
                place,
                (
                  c.args.name,
                  (
                    c.args.op_token,
                    (
                      c.args.first,
                      (
                        c.args.rest,
                        (
                          c.args.is_ref_mut,
                          (c.args.is_method_call, (c.args.position, tt)),
                        ),
                      ),
                    ),
                  ),
                ),
              ),
            ),
          ),
        ),
      ),
    ) in
    left_of (at_exit (ended_of 11 kinds answer) c.lifetimes given (lasts_p c.lifetimes 4 kinds types given (
      c.args.self,
      (
        tt,
        (
          c.args.global,
          (
            c.args.caches,
            (
              c.args.table,
              (
                place,
                (
                  c.args.name,
                  (
                    c.args.op_token,
                    (
                      Some (record c.in-Some.first { now = c.call_with-outcome.new.first }),
                      (c.args.rest, five (five (five (five (five (five (five (five (five (five (five (tt, (tt, (tt, (tt, tt))))))))))))))),
                    ),
                  ),
                ),
              ),
            ),
          ),
        ),
      ),
    ))).1.1.1.1.1.0

scope_is_2 : (g : Over) (c : goal.After-finish_fresh g) → scope_left_2 g c c.args.scope ≡ None
scope_is_2 g c = subst (λ place. scope_left_2 g c place ≡ None) (sym c.in-None-scope.is) refl

-- what stands in the place of `first` as its loan ends, were this the place
abbrev first_left_2 : (g : Over) → goal.After-finish_fresh g → Option (MutBor (Dynamic g.row.H.Denot)) → Option (Dynamic g.row.H.Denot)
first_left_2 g c place =
    let kinds = ps g.row.H g.row.T g.H.laws g.T.laws g.H.Host-dict g.H.Destruct-dict g.T.NativeTable-dict in
    let answer = r g.row.H g.row.T g.H.laws g.T.laws g.H.Host-dict g.H.Destruct-dict g.T.NativeTable-dict in
    let types = xs g.row.H g.row.T g.H.laws g.T.laws g.H.Host-dict g.H.Destruct-dict g.T.NativeTable-dict in
    let given : Args (ended_of 11 kinds answer).signature c.lifetimes = (
      c.args.self,
      (
        c.args.alloc,
        (
          c.args.global,
          (
            c.args.caches,
            (
              c.args.table,
              (
                c.args.scope,
                (
                  c.args.name,
                  (
                    c.args.op_token,
                    (place, (c.args.rest, (c.args.is_ref_mut, (c.args.is_method_call, (c.args.position, tt))))),
                  ),
                ),
              ),
            ),
          ),
        ),
      ),
    ) in
    left_by (at_exit (ended_of 11 kinds answer) c.lifetimes given (lasts_p c.lifetimes 4 kinds types given (
      c.args.self,
      (
        tt,
        (
          c.args.global,
          (
            c.args.caches,
            (
              c.args.table,
              (
                c.args.scope,
                (
                  c.args.name,
                  (
                    c.args.op_token,
                    (
                      Some (record c.in-Some.first { now = c.call_with-outcome.new.first }),
                      (c.args.rest, five (five (five (five (five (five (five (five (five (five (five (tt, (tt, (tt, (tt, tt))))))))))))))),
                    ),
                  ),
                ),
              ),
            ),
          ),
        ),
      ),
    ))).1.1.1.1.1.1.1.1.0

first_is_2 : (g : Over) (c : goal.After-finish_fresh g) → first_left_2 g c c.args.first ≡ Some c.call_with-outcome.new.first
first_is_2 g c = subst (λ place. first_left_2 g c place ≡ Some c.call_with-outcome.new.first) (sym c.in-Some.is) refl

pub returns-in-None-scope-clause-lent : goal.returns-in-None-scope-clause-lent
returns-in-None-scope-clause-lent g c variables this lent =
    let rules : Rules _ _ = under g.H.Host.name_of c.args.self.now g.T.NativeTable.natives in
    let operation : Operation = record { name = c.args.name.now; token = option_copied c.args.op_token; at = c.args.position } in
    lent_told rules operation c.args.rest.now (g.T.NativeTable.state c.args.table.now) (g.T.NativeTable.state c.finish_fresh.new.table)
    c.args.global.now c.finish_fresh.new.global c.finish_fresh.result variables
    (loan_start c.args.scope) (scope_left_2 g c c.args.scope) None None (ap loan_start c.in-None-scope.is)
    (scope_is_2 g c) c.args.is_method_call
    this (lent_value c.args.first) (first_left_2 g c c.args.first) (Some c.in-Some.first.now) (Some c.call_with-outcome.new.first)
    (ap lent_value c.in-Some.is) (first_is_2 g c)
    (call_ends rules (by_name c.args.is_method_call false) (on_place operation true (Some c.in-Some.first.now) c.args.rest.now)
    (state_of (g.T.NativeTable.state c.args.table.now) c.args.global.now variables (with_place this (Some c.in-Some.first.now)))
    (state_of (g.T.NativeTable.state c.finish_fresh.new.table) c.finish_fresh.new.global variables
    (with_place this (Some c.call_with-outcome.new.first)))
    c.finish_fresh.result
    (out_runs rules true c.args.position c.call_with-outcome.result
    (dispatch_core rules.setting (by_name c.args.is_method_call false)
    (on_place operation true (Some c.in-Some.first.now) c.args.rest.now))
    (state_of (g.T.NativeTable.state c.args.table.now) c.args.global.now variables (with_place this (Some c.in-Some.first.now)))
    (state_of (g.T.NativeTable.state c.call_with-outcome.new.table) c.call_with-outcome.new.global variables
    (with_place this (Some c.call_with-outcome.new.first)))
    (state_of (g.T.NativeTable.state c.finish_fresh.new.table) c.finish_fresh.new.global variables
    (with_place this (Some c.call_with-outcome.new.first)))
    c.finish_fresh.result (rw c.copied-token.ensures at (c.call_with-outcome.ensures.lent variables (with_place this None) lent))
    (c.finish_fresh.ensures.runs variables (with_place this (Some c.call_with-outcome.new.first)))))

pub returns-in-None-scope-clause-by_value : goal.returns-in-None-scope-clause-by_value
returns-in-None-scope-clause-by_value g c variables held none =
    let rules : Rules _ _ = under g.H.Host.name_of c.args.self.now g.T.NativeTable.natives in
    let operation : Operation = record { name = c.args.name.now; token = option_copied c.args.op_token; at = c.args.position } in
    value_told rules operation c.args.rest.now (g.T.NativeTable.state c.args.table.now) (g.T.NativeTable.state c.finish_fresh.new.table)
    c.args.global.now c.finish_fresh.new.global c.finish_fresh.result variables
    (loan_start c.args.scope) (scope_left_2 g c c.args.scope) None None (ap loan_start c.in-None-scope.is) (scope_is_2 g c) held
    (lent_value c.args.first) (Some c.in-Some.first.now) (ap lent_value c.in-Some.is)
    (call_ends rules (by_name false false) (by_value operation (Some c.in-Some.first.now) c.args.rest.now)
    (state_of (g.T.NativeTable.state c.args.table.now) c.args.global.now variables held)
    (state_of (g.T.NativeTable.state c.finish_fresh.new.table) c.finish_fresh.new.global variables held)
    c.finish_fresh.result
    (out_runs rules true c.args.position c.call_with-outcome.result
    (dispatch_core rules.setting (by_name false false) (by_value operation (Some c.in-Some.first.now) c.args.rest.now))
    (state_of (g.T.NativeTable.state c.args.table.now) c.args.global.now variables held)
    (state_of (g.T.NativeTable.state c.call_with-outcome.new.table) c.call_with-outcome.new.global variables held)
    (state_of (g.T.NativeTable.state c.finish_fresh.new.table) c.finish_fresh.new.global variables held)
    c.finish_fresh.result (rw c.copied-token.ensures at (c.call_with-outcome.ensures.by_value variables held none))
    (c.finish_fresh.ensures.runs variables held)))

pub returns-in-None-scope-clause-kept : goal.returns-in-None-scope-clause-kept
returns-in-None-scope-clause-kept g c variables held =
    let rules : Rules _ _ = under g.H.Host.name_of c.args.self.now g.T.NativeTable.natives in
    let operation : Operation = record { name = c.args.name.now; token = option_copied c.args.op_token; at = c.args.position } in
    let this : Option (Dynamic _) = None in
    kept_told rules operation c.args.rest.now (g.T.NativeTable.state c.args.table.now) (g.T.NativeTable.state c.finish_fresh.new.table)
    c.args.global.now c.finish_fresh.new.global c.finish_fresh.result variables
    (loan_start c.args.scope) (scope_left_2 g c c.args.scope) None None (ap loan_start c.in-None-scope.is) (scope_is_2 g c) held
    (either_way (c.args.is_ref_mut || c.args.is_method_call)
    (λ lent. kept_holding rules (g.T.NativeTable.state c.args.table.now) (g.T.NativeTable.state c.finish_fresh.new.table)
    c.args.global.now c.finish_fresh.new.global variables variables (with_place this (Some c.in-Some.first.now))
    (with_place this (Some c.call_with-outcome.new.first)) held
    (call_kept rules (by_name c.args.is_method_call false) (on_place operation true (Some c.in-Some.first.now) c.args.rest.now)
    (state_of (g.T.NativeTable.state c.args.table.now) c.args.global.now variables (with_place this (Some c.in-Some.first.now)))
    (state_of (g.T.NativeTable.state c.finish_fresh.new.table) c.finish_fresh.new.global variables
    (with_place this (Some c.call_with-outcome.new.first)))
    c.finish_fresh.result
    (out_runs rules true c.args.position c.call_with-outcome.result
    (dispatch_core rules.setting (by_name c.args.is_method_call false)
    (on_place operation true (Some c.in-Some.first.now) c.args.rest.now))
    (state_of (g.T.NativeTable.state c.args.table.now) c.args.global.now variables (with_place this (Some c.in-Some.first.now)))
    (state_of (g.T.NativeTable.state c.call_with-outcome.new.table) c.call_with-outcome.new.global variables
    (with_place this (Some c.call_with-outcome.new.first)))
    (state_of (g.T.NativeTable.state c.finish_fresh.new.table) c.finish_fresh.new.global variables
    (with_place this (Some c.call_with-outcome.new.first)))
    c.finish_fresh.result (rw c.copied-token.ensures at (c.call_with-outcome.ensures.lent variables (with_place this None) lent))
    (c.finish_fresh.ensures.runs variables (with_place this (Some c.call_with-outcome.new.first))))))
    (λ none. call_kept rules (by_name false false) (by_value operation (Some c.in-Some.first.now) c.args.rest.now)
    (state_of (g.T.NativeTable.state c.args.table.now) c.args.global.now variables held)
    (state_of (g.T.NativeTable.state c.finish_fresh.new.table) c.finish_fresh.new.global variables held)
    c.finish_fresh.result
    (out_runs rules true c.args.position c.call_with-outcome.result
    (dispatch_core rules.setting (by_name false false) (by_value operation (Some c.in-Some.first.now) c.args.rest.now))
    (state_of (g.T.NativeTable.state c.args.table.now) c.args.global.now variables held)
    (state_of (g.T.NativeTable.state c.call_with-outcome.new.table) c.call_with-outcome.new.global variables held)
    (state_of (g.T.NativeTable.state c.finish_fresh.new.table) c.finish_fresh.new.global variables held)
    c.finish_fresh.result (rw c.copied-token.ensures at (c.call_with-outcome.ensures.by_value variables held none))
    (c.finish_fresh.ensures.runs variables held))))

pub returns-in-None-scope-clause-names : goal.returns-in-None-scope-clause-names
returns-in-None-scope-clause-names g c variables =
    names_told variables (loan_start c.args.scope) (scope_left_2 g c c.args.scope) None None (ap loan_start c.in-None-scope.is)
    (scope_is_2 g c) refl

-- what stands in the place of `scope` as its loan ends, were this the place
abbrev scope_left_3 : (g : Over) → goal.After-finish_on_scope-in-Some-scope-2 g → Option (MutBor (Scope g.row.H.Denot)) → Option
    (Scope g.row.H.Denot)
scope_left_3 g c place =
    let kinds = ps g.row.H g.row.T g.H.laws g.T.laws g.H.Host-dict g.H.Destruct-dict g.T.NativeTable-dict in
    let answer = r g.row.H g.row.T g.H.laws g.T.laws g.H.Host-dict g.H.Destruct-dict g.T.NativeTable-dict in
    let types = xs g.row.H g.row.T g.H.laws g.T.laws g.H.Host-dict g.H.Destruct-dict g.T.NativeTable-dict in
    let given : Args (ended_of 11 kinds answer).signature c.lifetimes = (
      c.args.self,
      (
        c.args.alloc,
        (
          c.args.global,
          (
            c.args.caches,
            (
              c.args.table,
              (
                place,
                (
                  c.args.name,
                  (
                    c.args.op_token,
                    (
                      c.args.first,
                      (
                        c.args.rest,
                        (
                          c.args.is_ref_mut,
                          (c.args.is_method_call, (c.args.position, tt)),
                        ),
                      ),
                    ),
                  ),
                ),
              ),
            ),
          ),
        ),
      ),
    ) in
    left_of (at_exit (ended_of 11 kinds answer) c.lifetimes given (lasts_p c.lifetimes 4 kinds types given (
      c.args.self,
      (
        tt,
        (
          c.args.global,
          (
            c.args.caches,
            (
              c.args.table,
              (
                Some (record c.in-Some-scope-2.scope {
                  now =
                      c.finish_on_scope-in-Some-scope-2.new.scope;
                }),
                (
                  c.args.name,
                  (
                    c.args.op_token,
                    (
                      c.args.first,
                      (
                        c.args.rest,
                        five (five (five (five (five (five (five (five (five (five (five (tt, (tt, (tt, (tt, tt)))))))))))))),
                      ),
                    ),
                  ),
                ),
              ),
            ),
          ),
        ),
      ),
    ))).1.1.1.1.1.0

scope_is_3 : (g : Over) (c : goal.After-finish_on_scope-in-Some-scope-2 g) → scope_left_3 g c c.args.scope ≡ Some
    c.finish_on_scope-in-Some-scope-2.new.scope
scope_is_3 g c = subst (λ place. scope_left_3 g c place ≡ Some c.finish_on_scope-in-Some-scope-2.new.scope) (sym c.in-Some-scope-2.is) refl

pub returns-in-Some-scope-2-clause-by_value : goal.returns-in-Some-scope-2-clause-by_value
returns-in-Some-scope-2-clause-by_value g c variables held none =
    let rules : Rules _ _ = under g.H.Host.name_of c.args.self.now g.T.NativeTable.natives in
    let operation : Operation = record { name = c.args.name.now; token = option_copied c.args.op_token; at = c.args.position } in
    value_told rules operation c.args.rest.now (g.T.NativeTable.state c.args.table.now)
    (g.T.NativeTable.state c.finish_on_scope-in-Some-scope-2.new.table) c.args.global.now c.finish_on_scope-in-Some-scope-2.new.global
    c.finish_on_scope-in-Some-scope-2.result variables
    (loan_start c.args.scope) (scope_left_3 g c c.args.scope) (Some c.in-Some-scope-2.scope.now)
    (Some c.finish_on_scope-in-Some-scope-2.new.scope)
    (ap loan_start c.in-Some-scope-2.is) (scope_is_3 g c) held (lent_value c.args.first) None (ap lent_value c.in-None.is)
    (call_ends rules (by_name false true) (by_value operation None [])
    (state_of (g.T.NativeTable.state c.args.table.now) c.args.global.now c.in-Some-scope-2.scope.now held)
    (state_of (g.T.NativeTable.state c.finish_on_scope-in-Some-scope-2.new.table) c.finish_on_scope-in-Some-scope-2.new.global
    c.finish_on_scope-in-Some-scope-2.new.scope held)
    c.finish_on_scope-in-Some-scope-2.result
    (out_runs rules false c.args.position c.begin_bare_call-outcome.result
    (dispatch_core rules.setting (by_name false true) (by_value operation None []))
    (state_of (g.T.NativeTable.state c.args.table.now) c.args.global.now c.in-Some-scope-2.scope.now held)
    (state_of (g.T.NativeTable.state c.begin_bare_call-outcome.new.table) c.begin_bare_call-outcome.new.global c.in-Some-scope-2.scope.now
    held)
    (state_of (g.T.NativeTable.state c.finish_on_scope-in-Some-scope-2.new.table) c.finish_on_scope-in-Some-scope-2.new.global
    c.finish_on_scope-in-Some-scope-2.new.scope held)
    c.finish_on_scope-in-Some-scope-2.result (rw c.copied-token.ensures at
    (c.begin_bare_call-outcome.ensures.runs c.in-Some-scope-2.scope.now held true)) (c.finish_on_scope-in-Some-scope-2.ensures.runs held)))

pub returns-in-Some-scope-2-clause-kept : goal.returns-in-Some-scope-2-clause-kept
returns-in-Some-scope-2-clause-kept g c variables held =
    let rules : Rules _ _ = under g.H.Host.name_of c.args.self.now g.T.NativeTable.natives in
    let operation : Operation = record { name = c.args.name.now; token = option_copied c.args.op_token; at = c.args.position } in
    kept_told rules operation c.args.rest.now (g.T.NativeTable.state c.args.table.now)
    (g.T.NativeTable.state c.finish_on_scope-in-Some-scope-2.new.table) c.args.global.now c.finish_on_scope-in-Some-scope-2.new.global
    c.finish_on_scope-in-Some-scope-2.result variables
    (loan_start c.args.scope) (scope_left_3 g c c.args.scope) (Some c.in-Some-scope-2.scope.now)
    (Some c.finish_on_scope-in-Some-scope-2.new.scope)
    (ap loan_start c.in-Some-scope-2.is) (scope_is_3 g c) held
    (call_kept rules (by_name false true) (by_value operation None [])
    (state_of (g.T.NativeTable.state c.args.table.now) c.args.global.now c.in-Some-scope-2.scope.now held)
    (state_of (g.T.NativeTable.state c.finish_on_scope-in-Some-scope-2.new.table) c.finish_on_scope-in-Some-scope-2.new.global
    c.finish_on_scope-in-Some-scope-2.new.scope held)
    c.finish_on_scope-in-Some-scope-2.result
    (out_runs rules false c.args.position c.begin_bare_call-outcome.result
    (dispatch_core rules.setting (by_name false true) (by_value operation None []))
    (state_of (g.T.NativeTable.state c.args.table.now) c.args.global.now c.in-Some-scope-2.scope.now held)
    (state_of (g.T.NativeTable.state c.begin_bare_call-outcome.new.table) c.begin_bare_call-outcome.new.global c.in-Some-scope-2.scope.now
    held)
    (state_of (g.T.NativeTable.state c.finish_on_scope-in-Some-scope-2.new.table) c.finish_on_scope-in-Some-scope-2.new.global
    c.finish_on_scope-in-Some-scope-2.new.scope held)
    c.finish_on_scope-in-Some-scope-2.result (rw c.copied-token.ensures at
    (c.begin_bare_call-outcome.ensures.runs c.in-Some-scope-2.scope.now held true)) (c.finish_on_scope-in-Some-scope-2.ensures.runs held)))

pub returns-in-Some-scope-2-clause-names : goal.returns-in-Some-scope-2-clause-names
returns-in-Some-scope-2-clause-names g c variables =
    let rules : Rules _ _ = under g.H.Host.name_of c.args.self.now g.T.NativeTable.natives in
    let operation : Operation = record { name = c.args.name.now; token = option_copied c.args.op_token; at = c.args.position } in
    let held : Held _ = with_place None None in
    names_told variables (loan_start c.args.scope) (scope_left_3 g c c.args.scope) (Some c.in-Some-scope-2.scope.now)
    (Some c.finish_on_scope-in-Some-scope-2.new.scope) (ap loan_start c.in-Some-scope-2.is) (scope_is_3 g c)
    (call_names rules (by_name false true) (by_value operation None [])
    (state_of (g.T.NativeTable.state c.args.table.now) c.args.global.now c.in-Some-scope-2.scope.now held)
    (state_of (g.T.NativeTable.state c.finish_on_scope-in-Some-scope-2.new.table) c.finish_on_scope-in-Some-scope-2.new.global
    c.finish_on_scope-in-Some-scope-2.new.scope held)
    c.finish_on_scope-in-Some-scope-2.result
    (out_runs rules false c.args.position c.begin_bare_call-outcome.result
    (dispatch_core rules.setting (by_name false true) (by_value operation None []))
    (state_of (g.T.NativeTable.state c.args.table.now) c.args.global.now c.in-Some-scope-2.scope.now held)
    (state_of (g.T.NativeTable.state c.begin_bare_call-outcome.new.table) c.begin_bare_call-outcome.new.global c.in-Some-scope-2.scope.now
    held)
    (state_of (g.T.NativeTable.state c.finish_on_scope-in-Some-scope-2.new.table) c.finish_on_scope-in-Some-scope-2.new.global
    c.finish_on_scope-in-Some-scope-2.new.scope held)
    c.finish_on_scope-in-Some-scope-2.result (rw c.copied-token.ensures at
    (c.begin_bare_call-outcome.ensures.runs c.in-Some-scope-2.scope.now held true)) (c.finish_on_scope-in-Some-scope-2.ensures.runs held)))

-- what stands in the place of `scope` as its loan ends, were this the place
abbrev scope_left_4 : (g : Over) → goal.After-finish_fresh-in-None-scope-2 g → Option (MutBor (Scope g.row.H.Denot)) → Option
    (Scope g.row.H.Denot)
scope_left_4 g c place =
    let kinds = ps g.row.H g.row.T g.H.laws g.T.laws g.H.Host-dict g.H.Destruct-dict g.T.NativeTable-dict in
    let answer = r g.row.H g.row.T g.H.laws g.T.laws g.H.Host-dict g.H.Destruct-dict g.T.NativeTable-dict in
    let types = xs g.row.H g.row.T g.H.laws g.T.laws g.H.Host-dict g.H.Destruct-dict g.T.NativeTable-dict in
    let given : Args (ended_of 11 kinds answer).signature c.lifetimes = (
      c.args.self,
      (
        c.args.alloc,
        (
          c.args.global,
          (
            c.args.caches,
            (
              c.args.table,
              (
                place,
                (
                  c.args.name,
                  (
                    c.args.op_token,
                    (
                      c.args.first,
                      (
                        c.args.rest,
                        (
                          c.args.is_ref_mut,
                          (c.args.is_method_call, (c.args.position, tt)),
                        ),
                      ),
                    ),
                  ),
                ),
              ),
            ),
          ),
        ),
      ),
    ) in
    left_of (at_exit (ended_of 11 kinds answer) c.lifetimes given (lasts_p c.lifetimes 4 kinds types given (
      c.args.self,
      (
        tt,
        (
          c.args.global,
          (
            c.args.caches,
            (
              c.args.table,
              (
                place,
                (
                  c.args.name,
                  (
                    c.args.op_token,
                    (
                      c.args.first,
                      (
                        c.args.rest,
                        five (five (five (five (five (five (five (five (five (five (five (tt, (tt, (tt, (tt, tt)))))))))))))),
                      ),
                    ),
                  ),
                ),
              ),
            ),
          ),
        ),
      ),
    ))).1.1.1.1.1.0

scope_is_4 : (g : Over) (c : goal.After-finish_fresh-in-None-scope-2 g) → scope_left_4 g c c.args.scope ≡ None
scope_is_4 g c = subst (λ place. scope_left_4 g c place ≡ None) (sym c.in-None-scope-2.is) refl

pub returns-in-None-scope-2-clause-by_value : goal.returns-in-None-scope-2-clause-by_value
returns-in-None-scope-2-clause-by_value g c variables held none =
    let rules : Rules _ _ = under g.H.Host.name_of c.args.self.now g.T.NativeTable.natives in
    let operation : Operation = record { name = c.args.name.now; token = option_copied c.args.op_token; at = c.args.position } in
    value_told rules operation c.args.rest.now (g.T.NativeTable.state c.args.table.now)
    (g.T.NativeTable.state c.finish_fresh-in-None-scope-2.new.table) c.args.global.now c.finish_fresh-in-None-scope-2.new.global
    c.finish_fresh-in-None-scope-2.result variables
    (loan_start c.args.scope) (scope_left_4 g c c.args.scope) None None (ap loan_start c.in-None-scope-2.is) (scope_is_4 g c) held
    (lent_value c.args.first) None (ap lent_value c.in-None.is)
    (call_ends rules (by_name false false) (by_value operation None [])
    (state_of (g.T.NativeTable.state c.args.table.now) c.args.global.now variables held)
    (state_of (g.T.NativeTable.state c.finish_fresh-in-None-scope-2.new.table) c.finish_fresh-in-None-scope-2.new.global variables held)
    c.finish_fresh-in-None-scope-2.result
    (out_runs rules true c.args.position c.begin_bare_call-outcome.result
    (dispatch_core rules.setting (by_name false false) (by_value operation None []))
    (state_of (g.T.NativeTable.state c.args.table.now) c.args.global.now variables held)
    (state_of (g.T.NativeTable.state c.begin_bare_call-outcome.new.table) c.begin_bare_call-outcome.new.global variables held)
    (state_of (g.T.NativeTable.state c.finish_fresh-in-None-scope-2.new.table) c.finish_fresh-in-None-scope-2.new.global variables held)
    c.finish_fresh-in-None-scope-2.result (rw c.copied-token.ensures at (c.begin_bare_call-outcome.ensures.runs variables held false))
    (c.finish_fresh-in-None-scope-2.ensures.runs variables held)))

pub returns-in-None-scope-2-clause-kept : goal.returns-in-None-scope-2-clause-kept
returns-in-None-scope-2-clause-kept g c variables held =
    let rules : Rules _ _ = under g.H.Host.name_of c.args.self.now g.T.NativeTable.natives in
    let operation : Operation = record { name = c.args.name.now; token = option_copied c.args.op_token; at = c.args.position } in
    kept_told rules operation c.args.rest.now (g.T.NativeTable.state c.args.table.now)
    (g.T.NativeTable.state c.finish_fresh-in-None-scope-2.new.table) c.args.global.now c.finish_fresh-in-None-scope-2.new.global
    c.finish_fresh-in-None-scope-2.result variables
    (loan_start c.args.scope) (scope_left_4 g c c.args.scope) None None (ap loan_start c.in-None-scope-2.is) (scope_is_4 g c) held
    (call_kept rules (by_name false false) (by_value operation None [])
    (state_of (g.T.NativeTable.state c.args.table.now) c.args.global.now variables held)
    (state_of (g.T.NativeTable.state c.finish_fresh-in-None-scope-2.new.table) c.finish_fresh-in-None-scope-2.new.global variables held)
    c.finish_fresh-in-None-scope-2.result
    (out_runs rules true c.args.position c.begin_bare_call-outcome.result
    (dispatch_core rules.setting (by_name false false) (by_value operation None []))
    (state_of (g.T.NativeTable.state c.args.table.now) c.args.global.now variables held)
    (state_of (g.T.NativeTable.state c.begin_bare_call-outcome.new.table) c.begin_bare_call-outcome.new.global variables held)
    (state_of (g.T.NativeTable.state c.finish_fresh-in-None-scope-2.new.table) c.finish_fresh-in-None-scope-2.new.global variables held)
    c.finish_fresh-in-None-scope-2.result (rw c.copied-token.ensures at (c.begin_bare_call-outcome.ensures.runs variables held false))
    (c.finish_fresh-in-None-scope-2.ensures.runs variables held)))

pub returns-in-None-scope-2-clause-names : goal.returns-in-None-scope-2-clause-names
returns-in-None-scope-2-clause-names g c variables =
    names_told variables (loan_start c.args.scope) (scope_left_4 g c c.args.scope) None None (ap loan_start c.in-None-scope-2.is)
    (scope_is_4 g c) refl

-- ---- what stands in the places of the arguments

pub returns-in-Some-scope-clause-taken : goal.returns-in-Some-scope-clause-taken
returns-in-Some-scope-clause-taken g c none =
    first_is_1 g c ∙ ap Some (c.call_on-outcome.ensures.taken none)
    ∙ sym (ap (λ place. option_map (λ v. unit) (lent_value place)) c.in-Some.is)

pub returns-in-None-scope-clause-taken : goal.returns-in-None-scope-clause-taken
returns-in-None-scope-clause-taken g c none =
    first_is_2 g c ∙ ap Some (c.call_with-outcome.ensures.taken none)
    ∙ sym (ap (λ place. option_map (λ v. unit) (lent_value place)) c.in-Some.is)

-- what stands in the place of `first` as its loan ends, were this the place
abbrev first_left_3 : (g : Over) → goal.After-finish_on_scope-in-Some-scope-2 g → Option (MutBor (Dynamic g.row.H.Denot)) → Option
    (Dynamic g.row.H.Denot)
first_left_3 g c place =
    let kinds = ps g.row.H g.row.T g.H.laws g.T.laws g.H.Host-dict g.H.Destruct-dict g.T.NativeTable-dict in
    let answer = r g.row.H g.row.T g.H.laws g.T.laws g.H.Host-dict g.H.Destruct-dict g.T.NativeTable-dict in
    let types = xs g.row.H g.row.T g.H.laws g.T.laws g.H.Host-dict g.H.Destruct-dict g.T.NativeTable-dict in
    let given : Args (ended_of 11 kinds answer).signature c.lifetimes = (
      c.args.self,
      (
        c.args.alloc,
        (
          c.args.global,
          (
            c.args.caches,
            (
              c.args.table,
              (
                c.args.scope,
                (
                  c.args.name,
                  (
                    c.args.op_token,
                    (place, (c.args.rest, (c.args.is_ref_mut, (c.args.is_method_call, (c.args.position, tt))))),
                  ),
                ),
              ),
            ),
          ),
        ),
      ),
    ) in
    left_by (at_exit (ended_of 11 kinds answer) c.lifetimes given (lasts_p c.lifetimes 4 kinds types given (
      c.args.self,
      (
        tt,
        (
          c.args.global,
          (
            c.args.caches,
            (
              c.args.table,
              (
                Some (record c.in-Some-scope-2.scope {
                  now =
                      c.finish_on_scope-in-Some-scope-2.new.scope;
                }),
                (
                  c.args.name,
                  (
                    c.args.op_token,
                    (
                      place,
                      (
                        c.args.rest,
                        five (five (five (five (five (five (five (five (five (five (five (tt, (tt, (tt, (tt, tt)))))))))))))),
                      ),
                    ),
                  ),
                ),
              ),
            ),
          ),
        ),
      ),
    ))).1.1.1.1.1.1.1.1.0

first_is_3 : (g : Over) (c : goal.After-finish_on_scope-in-Some-scope-2 g) → first_left_3 g c c.args.first ≡ None
first_is_3 g c = subst (λ place. first_left_3 g c place ≡ None) (sym c.in-None.is) refl

pub returns-in-Some-scope-2-clause-taken : goal.returns-in-Some-scope-2-clause-taken
returns-in-Some-scope-2-clause-taken g c none = first_is_3 g c ∙ sym (ap (λ place. option_map (λ v. unit) (lent_value place)) c.in-None.is)

-- what stands in the place of `first` as its loan ends, were this the place
abbrev first_left_4 : (g : Over) → goal.After-finish_fresh-in-None-scope-2 g → Option (MutBor (Dynamic g.row.H.Denot)) → Option
    (Dynamic g.row.H.Denot)
first_left_4 g c place =
    let kinds = ps g.row.H g.row.T g.H.laws g.T.laws g.H.Host-dict g.H.Destruct-dict g.T.NativeTable-dict in
    let answer = r g.row.H g.row.T g.H.laws g.T.laws g.H.Host-dict g.H.Destruct-dict g.T.NativeTable-dict in
    let types = xs g.row.H g.row.T g.H.laws g.T.laws g.H.Host-dict g.H.Destruct-dict g.T.NativeTable-dict in
    let given : Args (ended_of 11 kinds answer).signature c.lifetimes = (
      c.args.self,
      (
        c.args.alloc,
        (
          c.args.global,
          (
            c.args.caches,
            (
              c.args.table,
              (
                c.args.scope,
                (
                  c.args.name,
                  (
                    c.args.op_token,
                    (place, (c.args.rest, (c.args.is_ref_mut, (c.args.is_method_call, (c.args.position, tt))))),
                  ),
                ),
              ),
            ),
          ),
        ),
      ),
    ) in
    left_by (at_exit (ended_of 11 kinds answer) c.lifetimes given (lasts_p c.lifetimes 4 kinds types given (
      c.args.self,
      (
        tt,
        (
          c.args.global,
          (
            c.args.caches,
            (
              c.args.table,
              (
                c.args.scope,
                (
                  c.args.name,
                  (
                    c.args.op_token,
                    (
                      place,
                      (
                        c.args.rest,
                        five (five (five (five (five (five (five (five (five (five (five (tt, (tt, (tt, (tt, tt)))))))))))))),
                      ),
                    ),
                  ),
                ),
              ),
            ),
          ),
        ),
      ),
    ))).1.1.1.1.1.1.1.1.0

first_is_4 : (g : Over) (c : goal.After-finish_fresh-in-None-scope-2 g) → first_left_4 g c c.args.first ≡ None
first_is_4 g c = subst (λ place. first_left_4 g c place ≡ None) (sym c.in-None.is) refl

pub returns-in-None-scope-2-clause-taken : goal.returns-in-None-scope-2-clause-taken
returns-in-None-scope-2-clause-taken g c none = first_is_4 g c ∙ sym (ap (λ place. option_map (λ v. unit) (lent_value place)) c.in-None.is)

pub returns-in-Some-scope-clause-rest : goal.returns-in-Some-scope-clause-rest
returns-in-Some-scope-clause-rest g c = rw c.in-Some.is c.call_on-outcome.ensures.rest

pub returns-in-None-scope-clause-rest : goal.returns-in-None-scope-clause-rest
returns-in-None-scope-clause-rest g c = rw c.in-Some.is c.call_with-outcome.ensures.rest

pub returns-in-Some-scope-2-clause-rest : goal.returns-in-Some-scope-2-clause-rest
returns-in-Some-scope-2-clause-rest g c = rw c.in-None.is refl

pub returns-in-None-scope-2-clause-rest : goal.returns-in-None-scope-2-clause-rest
returns-in-None-scope-2-clause-rest g c = rw c.in-None.is refl

pub finish_on_scope-requires : goal.finish_on_scope-requires
finish_on_scope-requires g c = (omega arith, (c.call_on-outcome.ensures.caches.fit, c.call_on-outcome.ensures.caches.right))

pub returns-in-Some-scope-clause-caches : goal.returns-in-Some-scope-clause-caches
returns-in-Some-scope-clause-caches g c = left_twice _ _ _ _ _ c.call_on-outcome.ensures.caches c.finish_on_scope.ensures.caches

pub finish_fresh-requires : goal.finish_fresh-requires
finish_fresh-requires g c = (omega arith, (c.call_with-outcome.ensures.caches.fit, c.call_with-outcome.ensures.caches.right))

pub returns-in-None-scope-clause-caches : goal.returns-in-None-scope-clause-caches
returns-in-None-scope-clause-caches g c = left_twice _ _ _ _ _ c.call_with-outcome.ensures.caches c.finish_fresh.ensures.caches

pub finish_on_scope-requires-in-Some-scope-2 : goal.finish_on_scope-requires-in-Some-scope-2
finish_on_scope-requires-in-Some-scope-2 g c =
    (omega arith, (c.begin_bare_call-outcome.ensures.caches.fit, c.begin_bare_call-outcome.ensures.caches.right))

pub returns-in-Some-scope-2-clause-caches : goal.returns-in-Some-scope-2-clause-caches
returns-in-Some-scope-2-clause-caches g c =
    left_twice _ _ _ _ _ c.begin_bare_call-outcome.ensures.caches c.finish_on_scope-in-Some-scope-2.ensures.caches

pub finish_fresh-requires-in-None-scope-2 : goal.finish_fresh-requires-in-None-scope-2
finish_fresh-requires-in-None-scope-2 g c =
    (omega arith, (c.begin_bare_call-outcome.ensures.caches.fit, c.begin_bare_call-outcome.ensures.caches.right))

pub returns-in-None-scope-2-clause-caches : goal.returns-in-None-scope-2-clause-caches
returns-in-None-scope-2-clause-caches g c =
    left_twice _ _ _ _ _ c.begin_bare_call-outcome.ensures.caches c.finish_fresh-in-None-scope-2.ensures.caches
