use Rattle.std.proofs.Common.{◌≡◌, Option, Some, None, MutBor, ap, refl, subst, sym}
use Rattle.rhai_values.specs.declared.base.value.Dynamic.{Dynamic}
use Rattle.rhai_errors.specs.Native.{left_by, lent_value}
use Rattle.rhai_lookups.proofs.Returned.{returned}
use Rattle.rhai_steps.specs.Callers.{state_of}
use Rattle.rhai_steps.specs.States.{holding}
use Rattle.rhai_eval_steps.specs.Agreement.{SuitsNames}
use Rattle.rhai_eval.specs.States.{under}
use Rattle.std.specs.Option.{option_copied}
use Rattle.rhai_machine.specs.language.Runs.{Goes}
use Rattle.rhai_machine.specs.language.Frames.{core, ended}
use Rattle.rhai_call_forms.specs.Leading.{all_args}
use Rattle.rhai_eval_steps.specs.Calls.{called}
use Rattle.rhai_eval.proofs.Begun.{call_kept, call_names, ends_from}
use Rattle.rhai_eval.proofs.Public.{five, handed_free, handed_on, same_rules}
use Rattle.rhai_eval.proofs.engine.Engine.make_function_call.Given.{Over}
use Rattle.rhai_eval.proofs.engine.Engine.make_function_call.Lts.{ps, r, xs}
use denote.Triple.Clauses.{at_exit}
use denote.Triple.Entry.{Args}
use borrow.Fn.Enter.{lasts_p}
use borrow.Fn.Kinds.{ended_of}
use Rattle.rhai_eval.proofs.engine.Engine.make_function_call.Goals as goal
use Rattle.rhai_eval_core.specs.States.{under as under_what_is_read}

-- what stands in the place of `this` as its loan ends, were this the place
abbrev left_on : (g : Over) → goal.After-give_back_with_this g → Option (MutBor (Dynamic g.row.H.Denot)) → Option (Dynamic g.row.H.Denot)
left_on g c place =
    let kinds = ps g.row.H g.row.T g.H.laws g.T.laws g.H.Host-dict g.H.Destruct-dict g.T.NativeTable-dict in
    let answer = r g.row.H g.row.T g.H.laws g.T.laws g.H.Host-dict g.H.Destruct-dict g.T.NativeTable-dict in
    let types = xs g.row.H g.row.T g.H.laws g.T.laws g.H.Host-dict g.H.Destruct-dict g.T.NativeTable-dict in
    let given : Args (ended_of 12 kinds answer).signature c.lifetimes = (
      c.args.self,
      (
        c.args.alloc,
        (
          c.args.global,
          (
            c.args.caches,
            (
              c.args.table,
              (
                c.args.scope,
                (
                  place,
                  (
                    c.args.fn_name,
                    (
                      c.args.op_token,
                      (
                        c.args.first_arg,
                        (
                          c.args.args_expr,
                          (c.args.capture_parent_scope, (c.args.pos, tt)),
                        ),
                      ),
                    ),
                  ),
                ),
              ),
            ),
          ),
        ),
      ),
    ) in
    left_by (at_exit (ended_of 12 kinds answer) c.lifetimes given (lasts_p c.lifetimes 4 kinds types given (
      c.args.self,
      (
        tt,
        (
          c.args.global,
          (
            c.args.caches,
            (
              c.args.table,
              (
                c.args.scope,
                (
                  Some (record c.in-Some.place { now = c.give_back_with_this.new.this }),
                  (
                    c.args.fn_name,
                    (
                      c.args.op_token,
                      (
                        c.args.first_arg,
                        (
                          c.args.args_expr,
                          five (five (five (five (five (five (five (five (five (five (tt, (tt, (tt, tt)))))))))))),
                        ),
                      ),
                    ),
                  ),
                ),
              ),
            ),
          ),
        ),
      ),
    ))).1.1.1.1.1.1.0

this_on : (g : Over) (c : goal.After-give_back_with_this g) → left_on g c c.args.this ≡ Some c.give_back_with_this.new.this
this_on g c = subst (λ place. left_on g c place ≡ Some c.give_back_with_this.new.this) (sym c.in-Some.is) refl

-- the run, where the caller has a `this`
runs_on : (g : Over) (c : goal.After-give_back_with_this g) →
    Goes (under g.H.Host.name_of c.args.self.now g.T.NativeTable.natives)
    (called (record { name = c.args.fn_name.now; token = option_copied c.args.op_token; at = c.args.pos })
    (all_args (option_copied c.args.first_arg) c.args.args_expr.now) c.args.capture_parent_scope)
    (state_of (g.T.NativeTable.state c.args.table.now) c.args.global.now c.args.scope.now (holding (lent_value c.args.this)))
    (core (ended c.finish-result.result)) (state_of (g.T.NativeTable.state c.run_call-done.new.table) c.give_back_with_this.new.global
    c.give_back_with_this.new.scope (holding (left_on g c c.args.this)))
runs_on g c =
    let reads = same_rules g.H.Host.name_of g.T.NativeTable.natives c.args.self.now c.evaluator-evaluator.result
    c.evaluator-evaluator.ensures.limits c.evaluator-evaluator.ensures.offer in
    let runs = (rw c.copied-token.ensures at (rw (← c.finish-result.ensures.came) at c.run_call-done.ensures.runs)) in
    handed_on reads (λ r old new. Goes r (called (record {
      name = c.args.fn_name.now;
      token = option_copied c.args.op_token;
      at =
          c.args.pos;
    }) (all_args (option_copied c.args.first_arg) c.args.args_expr.now) c.args.capture_parent_scope) old
    (core (ended c.finish-result.result)) new) (g.T.NativeTable.state c.args.table.now) (g.T.NativeTable.state c.run_call-done.new.table)
    c.take_with_this-run.result c.run_call-done.new.run c.args.global.now c.give_back_with_this.new.global
    c.give_back_with_this.ensures.global
    c.args.scope.now c.give_back_with_this.new.scope c.give_back_with_this.ensures.scope
    (call_kept (under_what_is_read g.H.Host.name_of c.evaluator-evaluator.result g.T.NativeTable.natives)
    (record { name = c.args.fn_name.now; token = option_copied c.args.op_token; at = c.args.pos })
    (all_args (option_copied c.args.first_arg) c.args.args_expr.now) c.args.capture_parent_scope _ _ c.finish-result.result
    (rw c.copied-token.ensures at
    (rw (← c.finish-result.ensures.came) at c.run_call-done.ensures.runs))).bound (lent_value c.args.this) (left_on g c c.args.this)
    c.in-Some.place.now
    c.give_back_with_this.new.this (ap lent_value c.in-Some.is)
    (this_on g c) c.take_with_this-run.ensures.run c.give_back_with_this.ensures.this runs

pub returns-in-Some-clause-ends : goal.returns-in-Some-clause-ends
returns-in-Some-clause-ends g c = ends_from (under g.H.Host.name_of c.args.self.now g.T.NativeTable.natives)
    (record { name = c.args.fn_name.now; token = option_copied c.args.op_token; at = c.args.pos })
    (all_args (option_copied c.args.first_arg) c.args.args_expr.now) c.args.capture_parent_scope _ _ c.finish-result.result
    (runs_on g c)

pub returns-in-Some-clause-kept : goal.returns-in-Some-clause-kept
returns-in-Some-clause-kept g c = call_kept (under g.H.Host.name_of c.args.self.now g.T.NativeTable.natives)
    (record { name = c.args.fn_name.now; token = option_copied c.args.op_token; at = c.args.pos })
    (all_args (option_copied c.args.first_arg) c.args.args_expr.now) c.args.capture_parent_scope _ _ c.finish-result.result
    (runs_on g c)

pub returns-in-Some-clause-names : goal.returns-in-Some-clause-names
returns-in-Some-clause-names g c = call_names (under g.H.Host.name_of c.args.self.now g.T.NativeTable.natives)
    (record { name = c.args.fn_name.now; token = option_copied c.args.op_token; at = c.args.pos })
    (all_args (option_copied c.args.first_arg) c.args.args_expr.now) c.args.capture_parent_scope _ _ c.finish-result.result
    (runs_on g c)

-- what stands in the place of `this` as its loan ends, were this the place
abbrev left_free : (g : Over) → goal.After-give_back g → Option (MutBor (Dynamic g.row.H.Denot)) → Option (Dynamic g.row.H.Denot)
left_free g c place =
    let kinds = ps g.row.H g.row.T g.H.laws g.T.laws g.H.Host-dict g.H.Destruct-dict g.T.NativeTable-dict in
    let answer = r g.row.H g.row.T g.H.laws g.T.laws g.H.Host-dict g.H.Destruct-dict g.T.NativeTable-dict in
    let types = xs g.row.H g.row.T g.H.laws g.T.laws g.H.Host-dict g.H.Destruct-dict g.T.NativeTable-dict in
    let given : Args (ended_of 12 kinds answer).signature c.lifetimes = (
      c.args.self,
      (
        c.args.alloc,
        (
          c.args.global,
          (
            c.args.caches,
            (
              c.args.table,
              (
                c.args.scope,
                (
                  place,
                  (
                    c.args.fn_name,
                    (
                      c.args.op_token,
                      (
                        c.args.first_arg,
                        (
                          c.args.args_expr,
                          (c.args.capture_parent_scope, (c.args.pos, tt)),
                        ),
                      ),
                    ),
                  ),
                ),
              ),
            ),
          ),
        ),
      ),
    ) in
    left_by (at_exit (ended_of 12 kinds answer) c.lifetimes given (lasts_p c.lifetimes 4 kinds types given (
      c.args.self,
      (
        tt,
        (
          c.args.global,
          (
            c.args.caches,
            (
              c.args.table,
              (
                c.args.scope,
                (
                  place,
                  (
                    c.args.fn_name,
                    (
                      c.args.op_token,
                      (
                        c.args.first_arg,
                        (
                          c.args.args_expr,
                          five (five (five (five (five (five (five (five (five (five (tt, (tt, (tt, tt)))))))))))),
                        ),
                      ),
                    ),
                  ),
                ),
              ),
            ),
          ),
        ),
      ),
    ))).1.1.1.1.1.1.0

this_free : (g : Over) (c : goal.After-give_back g) → left_free g c c.args.this ≡ None
this_free g c = subst (λ place. left_free g c place ≡ None) (sym c.in-None.is) refl

-- and where he has none
runs_free : (g : Over) (c : goal.After-give_back g) →
    Goes (under g.H.Host.name_of c.args.self.now g.T.NativeTable.natives)
    (called (record { name = c.args.fn_name.now; token = option_copied c.args.op_token; at = c.args.pos })
    (all_args (option_copied c.args.first_arg) c.args.args_expr.now) c.args.capture_parent_scope)
    (state_of (g.T.NativeTable.state c.args.table.now) c.args.global.now c.args.scope.now (holding (lent_value c.args.this)))
    (core (ended c.finish-result-in-None.result)) (state_of (g.T.NativeTable.state c.run_call-done-in-None.new.table) c.give_back.new.global
    c.give_back.new.scope (holding (left_free g c c.args.this)))
runs_free g c =
    let reads = same_rules g.H.Host.name_of g.T.NativeTable.natives c.args.self.now c.evaluator-evaluator.result
    c.evaluator-evaluator.ensures.limits c.evaluator-evaluator.ensures.offer in
    let runs = (rw c.copied-token.ensures at (rw (← c.finish-result-in-None.ensures.came) at c.run_call-done-in-None.ensures.runs)) in
    handed_free reads (λ r old new. Goes r (called (record
    { name = c.args.fn_name.now; token = option_copied c.args.op_token; at = c.args.pos })
    (all_args (option_copied c.args.first_arg) c.args.args_expr.now) c.args.capture_parent_scope) old
    (core (ended c.finish-result-in-None.result)) new) (g.T.NativeTable.state c.args.table.now)
    (g.T.NativeTable.state c.run_call-done-in-None.new.table) c.take-run.result
    c.run_call-done-in-None.new.run c.args.global.now c.give_back.new.global c.give_back.ensures.global c.args.scope.now
    c.give_back.new.scope c.give_back.ensures.scope (call_kept
    (under_what_is_read g.H.Host.name_of c.evaluator-evaluator.result g.T.NativeTable.natives)
    (record { name = c.args.fn_name.now; token = option_copied c.args.op_token; at = c.args.pos })
    (all_args (option_copied c.args.first_arg) c.args.args_expr.now) c.args.capture_parent_scope _ _ c.finish-result-in-None.result
    (rw c.copied-token.ensures at
    (rw (← c.finish-result-in-None.ensures.came) at c.run_call-done-in-None.ensures.runs))).bound (lent_value c.args.this) (left_free g c
    c.args.this)
    (ap lent_value c.in-None.is) (this_free g c) c.take-run.ensures.run runs

pub returns-in-None-clause-ends : goal.returns-in-None-clause-ends
returns-in-None-clause-ends g c = ends_from (under g.H.Host.name_of c.args.self.now g.T.NativeTable.natives)
    (record { name = c.args.fn_name.now; token = option_copied c.args.op_token; at = c.args.pos })
    (all_args (option_copied c.args.first_arg) c.args.args_expr.now) c.args.capture_parent_scope _ _ c.finish-result-in-None.result
    (runs_free g c)

pub returns-in-None-clause-kept : goal.returns-in-None-clause-kept
returns-in-None-clause-kept g c = call_kept (under g.H.Host.name_of c.args.self.now g.T.NativeTable.natives)
    (record { name = c.args.fn_name.now; token = option_copied c.args.op_token; at = c.args.pos })
    (all_args (option_copied c.args.first_arg) c.args.args_expr.now) c.args.capture_parent_scope _ _ c.finish-result-in-None.result
    (runs_free g c)

pub returns-in-None-clause-names : goal.returns-in-None-clause-names
returns-in-None-clause-names g c = call_names (under g.H.Host.name_of c.args.self.now g.T.NativeTable.natives)
    (record { name = c.args.fn_name.now; token = option_copied c.args.op_token; at = c.args.pos })
    (all_args (option_copied c.args.first_arg) c.args.args_expr.now) c.args.capture_parent_scope _ _ c.finish-result-in-None.result
    (runs_free g c)

pub run_call-done-requires : goal.run_call-done-requires
unfolding SuitsNames
run_call-done-requires g c = rw c.take_with_this-run.ensures.run c.requires.resolves

pub run_call-done-requires-in-None : goal.run_call-done-requires-in-None
unfolding SuitsNames
run_call-done-requires-in-None g c = rw c.take-run.ensures.run c.requires.resolves

pub returns-in-Some-clause-caches : goal.returns-in-Some-clause-caches
returns-in-Some-clause-caches g c =
    rw c.give_back_with_this.ensures.global
    (returned _ _ _ _ c.take_with_this-run.ensures.caches c.give_back_with_this.ensures.caches)

pub returns-in-None-clause-caches : goal.returns-in-None-clause-caches
returns-in-None-clause-caches g c =
    rw c.give_back.ensures.global (returned _ _ _ _ c.take-run.ensures.caches c.give_back.ensures.caches)
