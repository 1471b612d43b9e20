use Rattle.std.proofs.Common.{◌≡◌, false, Option, Some, None, MutBor, ap, refl, subst, sym}
use Rattle.rhai_values.specs.declared.base.value.Dynamic.{Dynamic}
use Rattle.rhai_errors.specs.Native.{left_by, lent_value}
use Rattle.rhai_lookups.proofs.Returned.{returned}
use Rattle.rhai_steps.specs.Callers.{state_of}
use Rattle.rhai_steps.specs.States.{holding}
use Rattle.rhai_eval.specs.States.{under}
use Rattle.rhai_machine.specs.language.Runs.{Runs}
use Rattle.rhai_laws.proofs.KeptLaws.{kept, names_begin, names_stay, variables_stay}
use Rattle.rhai_eval.proofs.Public.{agrees_above, ends_as, five, handed_free, handed_on}
use Rattle.rhai_machine.specs.language.Frames.{ended, EnterFunction}
use Rattle.std.specs.Option.{option_copied}
use Rattle.rhai_machine.specs.language.Activations.{OwnThis}
use Rattle.rhai_eval_steps.specs.Bodies.{entered}
use Rattle.rhai_eval.proofs.Variables.{adds_none}
use Rattle.rhai_eval.proofs.engine.Engine.call_script_fn.Given.{Over}
use Rattle.rhai_eval.proofs.engine.Engine.call_script_fn.Lts.{ps, r, xs}
use denote.Triple.Clauses.{at_exit}
use denote.Triple.Entry.{Args}
use borrow.Fn.Enter.{lasts_p}
use borrow.Fn.Kinds.{ended_of}
use Rattle.rhai_eval.proofs.engine.Engine.call_script_fn.Goals as goal

-- what stands in the place of `this` as its loan ends, were this the place
abbrev left_on : (g : Over) → goal.After-give_back_with_this g → Option (MutBor (Dynamic g.row.H.Denot)) → Option (Dynamic g.row.H.Denot)
left_on g c place =
    let kinds = ps g.row.H g.row.T g.H.laws g.T.laws g.H.Host-dict g.H.Destruct-dict g.T.NativeTable-dict in
    let answer = r g.row.H g.row.T g.H.laws g.T.laws g.H.Host-dict g.H.Destruct-dict g.T.NativeTable-dict in
    let types = xs g.row.H g.row.T g.H.laws g.T.laws g.H.Host-dict g.H.Destruct-dict g.T.NativeTable-dict in
    let given : Args (ended_of 11 kinds answer).signature c.lifetimes = (
      c.args.self,
      (
        c.args.alloc,
        (
          c.args.global,
          (
            c.args.caches,
            (
              c.args.table,
              (
                c.args.scope,
                (place, (c.args.env, (c.args.def, (c.args.args, (c.args.rewind_scope, (c.args.pos, tt)))))),
              ),
            ),
          ),
        ),
      ),
    ) in
    left_by (at_exit (ended_of 11 kinds answer) c.lifetimes given (lasts_p c.lifetimes 4 kinds types given (
      c.args.self,
      (
        tt,
        (
          c.args.global,
          (
            c.args.caches,
            (
              c.args.table,
              (
                c.args.scope,
                (
                  Some (record c.in-Some.place { now = c.give_back_with_this.new.this }),
                  (c.args.env, (c.args.def, (c.args.args, five (five (five (five (five (five (five (tt, (tt, (tt, tt)))))))))))),
                ),
              ),
            ),
          ),
        ),
      ),
    ))).1.1.1.1.1.1.0

this_on : (g : Over) (c : goal.After-give_back_with_this g) → left_on g c c.args.this ≡ Some c.give_back_with_this.new.this
this_on g c = subst (λ place. left_on g c place ≡ Some c.give_back_with_this.new.this) (sym c.in-Some.is) refl

-- the run, where the caller has a `this`
runs_on : (g : Over) (c : goal.After-give_back_with_this g) → Runs (under g.H.Host.name_of c.args.self.now g.T.NativeTable.natives)
    (EnterFunction (entered c.args.def.now (option_copied c.args.env) OwnThis false c.args.rewind_scope c.args.args.now
    c.args.global.now.level c.args.pos)) (state_of (g.T.NativeTable.state c.args.table.now) c.args.global.now c.args.scope.now
    (holding (lent_value c.args.this))) c.call_in_run-result.result (state_of (g.T.NativeTable.state c.call_in_run-result.new.table)
    c.give_back_with_this.new.global c.give_back_with_this.new.scope (holding (left_on g c c.args.this)))
runs_on g c =
    let runs = c.call_in_run-result.ensures.runs in
    handed_on refl (λ r old new. Runs r (EnterFunction (entered c.args.def.now (option_copied c.args.env) OwnThis false
    c.args.rewind_scope c.args.args.now old.local.around.level c.args.pos)) old c.call_in_run-result.result new)
    (g.T.NativeTable.state c.args.table.now) (g.T.NativeTable.state c.call_in_run-result.new.table) c.take_with_this-run.result
    c.call_in_run-result.new.run c.args.global.now c.give_back_with_this.new.global c.give_back_with_this.ensures.global c.args.scope.now
    c.give_back_with_this.new.scope c.give_back_with_this.ensures.scope
    (kept (under g.H.Host.name_of c.args.self.now g.T.NativeTable.natives)
    (EnterFunction (entered c.args.def.now (option_copied c.args.env) OwnThis false c.args.rewind_scope c.args.args.now
    c.take_with_this-run.result.global.level c.args.pos))
    (ended c.call_in_run-result.result) _ _ tt c.call_in_run-result.ensures.runs).bound
    (lent_value c.args.this) (left_on g c c.args.this) c.in-Some.place.now c.give_back_with_this.new.this (ap lent_value c.in-Some.is)
    (this_on g c)
    c.take_with_this-run.ensures.run c.give_back_with_this.ensures.this runs

pub returns-in-Some-clause-ends : goal.returns-in-Some-clause-ends
returns-in-Some-clause-ends g c = ends_as (under g.H.Host.name_of c.args.self.now g.T.NativeTable.natives)
    (EnterFunction (entered c.args.def.now (option_copied c.args.env) OwnThis false c.args.rewind_scope c.args.args.now
    c.args.global.now.level c.args.pos)) _ _ c.call_in_run-result.result (runs_on g c)

pub returns-in-Some-clause-kept : goal.returns-in-Some-clause-kept
returns-in-Some-clause-kept g c = kept (under g.H.Host.name_of c.args.self.now g.T.NativeTable.natives)
    (EnterFunction (entered c.args.def.now (option_copied c.args.env) OwnThis false c.args.rewind_scope c.args.args.now
    c.args.global.now.level c.args.pos)) (ended c.call_in_run-result.result) _ _ tt (runs_on g c)

pub returns-in-Some-clause-begins : goal.returns-in-Some-clause-begins
returns-in-Some-clause-begins g c = names_begin (under g.H.Host.name_of c.args.self.now g.T.NativeTable.natives)
    (EnterFunction (entered c.args.def.now (option_copied c.args.env) OwnThis false c.args.rewind_scope c.args.args.now
    c.args.global.now.level c.args.pos)) (ended c.call_in_run-result.result) _ _ tt (runs_on g c)

pub returns-in-Some-clause-variables : goal.returns-in-Some-clause-variables
returns-in-Some-clause-variables g c = variables_stay (under g.H.Host.name_of c.args.self.now g.T.NativeTable.natives)
    (EnterFunction (entered c.args.def.now (option_copied c.args.env) OwnThis false c.args.rewind_scope c.args.args.now
    c.args.global.now.level c.args.pos)) (ended c.call_in_run-result.result) _ _ tt (runs_on g c)

pub returns-in-Some-clause-two_limits : goal.returns-in-Some-clause-two_limits
returns-in-Some-clause-two_limits g c = agrees_above (under g.H.Host.name_of c.args.self.now g.T.NativeTable.natives)
    (EnterFunction (entered c.args.def.now (option_copied c.args.env) OwnThis false c.args.rewind_scope c.args.args.now
    c.args.global.now.level c.args.pos)) _ _ c.call_in_run-result.result (runs_on g c)

pub returns-in-Some-clause-lib : goal.returns-in-Some-clause-lib
returns-in-Some-clause-lib g c = (returns-in-Some-clause-kept g c).around.lib

pub returns-in-Some-clause-imports : goal.returns-in-Some-clause-imports
returns-in-Some-clause-imports g c = (returns-in-Some-clause-kept g c).imports

pub returns-in-Some-clause-constants : goal.returns-in-Some-clause-constants
returns-in-Some-clause-constants g c = (returns-in-Some-clause-kept g c).around.constants

pub returns-in-Some-clause-level : goal.returns-in-Some-clause-level
returns-in-Some-clause-level g c = (returns-in-Some-clause-kept g c).around.level

pub returns-in-Some-clause-scope_level : goal.returns-in-Some-clause-scope_level
returns-in-Some-clause-scope_level g c = (returns-in-Some-clause-kept g c).scope_level

pub returns-in-Some-clause-this : goal.returns-in-Some-clause-this
returns-in-Some-clause-this g c = (returns-in-Some-clause-kept g c).bound

pub returns-in-Some-clause-restores : goal.returns-in-Some-clause-restores
returns-in-Some-clause-restores g c = λ rewinds.
    names_stay (under g.H.Host.name_of c.args.self.now g.T.NativeTable.natives)
    (EnterFunction (entered c.args.def.now (option_copied c.args.env) OwnThis false c.args.rewind_scope c.args.args.now
    c.args.global.now.level c.args.pos)) (ended c.call_in_run-result.result) _ _ (adds_none c.args.rewind_scope rewinds) tt (runs_on g c)

pub returns-in-Some-clause-args : goal.returns-in-Some-clause-args
returns-in-Some-clause-args g c memory = rw c.take_with_this-run.ensures.run at (c.call_in_run-result.ensures.args memory)

-- what stands in the place of `this` as its loan ends, were this the place
abbrev left_free : (g : Over) → goal.After-give_back g → Option (MutBor (Dynamic g.row.H.Denot)) → Option (Dynamic g.row.H.Denot)
left_free g c place =
    let kinds = ps g.row.H g.row.T g.H.laws g.T.laws g.H.Host-dict g.H.Destruct-dict g.T.NativeTable-dict in
    let answer = r g.row.H g.row.T g.H.laws g.T.laws g.H.Host-dict g.H.Destruct-dict g.T.NativeTable-dict in
    let types = xs g.row.H g.row.T g.H.laws g.T.laws g.H.Host-dict g.H.Destruct-dict g.T.NativeTable-dict in
    let given : Args (ended_of 11 kinds answer).signature c.lifetimes = (
      c.args.self,
      (
        c.args.alloc,
        (
          c.args.global,
          (
            c.args.caches,
            (
              c.args.table,
              (
                c.args.scope,
                (place, (c.args.env, (c.args.def, (c.args.args, (c.args.rewind_scope, (c.args.pos, tt)))))),
              ),
            ),
          ),
        ),
      ),
    ) in
    left_by (at_exit (ended_of 11 kinds answer) c.lifetimes given (lasts_p c.lifetimes 4 kinds types given (
      c.args.self,
      (
        tt,
        (
          c.args.global,
          (
            c.args.caches,
            (
              c.args.table,
              (
                c.args.scope,
                (
                  place,
                  (
                    c.args.env,
                    (
                      c.args.def,
                      (
                        c.args.args,
                        five (five (five (five (five (five (five (tt, (tt, (tt, tt))))))))),
                      ),
                    ),
                  ),
                ),
              ),
            ),
          ),
        ),
      ),
    ))).1.1.1.1.1.1.0

this_free : (g : Over) (c : goal.After-give_back g) → left_free g c c.args.this ≡ None
this_free g c = subst (λ place. left_free g c place ≡ None) (sym c.in-None.is) refl

-- and where he has none
runs_free : (g : Over) (c : goal.After-give_back g) → Runs (under g.H.Host.name_of c.args.self.now g.T.NativeTable.natives)
    (EnterFunction (entered c.args.def.now (option_copied c.args.env) OwnThis false c.args.rewind_scope c.args.args.now
    c.args.global.now.level c.args.pos)) (state_of (g.T.NativeTable.state c.args.table.now) c.args.global.now c.args.scope.now
    (holding (lent_value c.args.this))) c.call_in_run-result-in-None.result
    (state_of (g.T.NativeTable.state c.call_in_run-result-in-None.new.table) c.give_back.new.global c.give_back.new.scope
    (holding (left_free g c c.args.this)))
runs_free g c =
    let runs = c.call_in_run-result-in-None.ensures.runs in
    handed_free refl (λ r old new. Runs r (EnterFunction (entered c.args.def.now (option_copied c.args.env) OwnThis false
    c.args.rewind_scope c.args.args.now old.local.around.level c.args.pos)) old c.call_in_run-result-in-None.result new)
    (g.T.NativeTable.state c.args.table.now) (g.T.NativeTable.state c.call_in_run-result-in-None.new.table) c.take-run.result
    c.call_in_run-result-in-None.new.run c.args.global.now c.give_back.new.global c.give_back.ensures.global c.args.scope.now
    c.give_back.new.scope c.give_back.ensures.scope (kept (under g.H.Host.name_of c.args.self.now g.T.NativeTable.natives)
    (EnterFunction (entered c.args.def.now (option_copied c.args.env) OwnThis false c.args.rewind_scope c.args.args.now
    c.take-run.result.global.level c.args.pos)) (ended c.call_in_run-result-in-None.result) _ _ tt
    c.call_in_run-result-in-None.ensures.runs).bound (lent_value c.args.this) (left_free g c c.args.this) (ap lent_value c.in-None.is)
    (this_free g c)
    c.take-run.ensures.run runs

pub returns-in-None-clause-ends : goal.returns-in-None-clause-ends
returns-in-None-clause-ends g c = ends_as (under g.H.Host.name_of c.args.self.now g.T.NativeTable.natives)
    (EnterFunction (entered c.args.def.now (option_copied c.args.env) OwnThis false c.args.rewind_scope c.args.args.now
    c.args.global.now.level c.args.pos)) _ _ c.call_in_run-result-in-None.result (runs_free g c)

pub returns-in-None-clause-kept : goal.returns-in-None-clause-kept
returns-in-None-clause-kept g c = kept (under g.H.Host.name_of c.args.self.now g.T.NativeTable.natives)
    (EnterFunction (entered c.args.def.now (option_copied c.args.env) OwnThis false c.args.rewind_scope c.args.args.now
    c.args.global.now.level c.args.pos)) (ended c.call_in_run-result-in-None.result) _ _ tt (runs_free g c)

pub returns-in-None-clause-begins : goal.returns-in-None-clause-begins
returns-in-None-clause-begins g c = names_begin (under g.H.Host.name_of c.args.self.now g.T.NativeTable.natives)
    (EnterFunction (entered c.args.def.now (option_copied c.args.env) OwnThis false c.args.rewind_scope c.args.args.now
    c.args.global.now.level c.args.pos)) (ended c.call_in_run-result-in-None.result) _ _ tt (runs_free g c)

pub returns-in-None-clause-variables : goal.returns-in-None-clause-variables
returns-in-None-clause-variables g c = variables_stay (under g.H.Host.name_of c.args.self.now g.T.NativeTable.natives)
    (EnterFunction (entered c.args.def.now (option_copied c.args.env) OwnThis false c.args.rewind_scope c.args.args.now
    c.args.global.now.level c.args.pos)) (ended c.call_in_run-result-in-None.result) _ _ tt (runs_free g c)

pub returns-in-None-clause-two_limits : goal.returns-in-None-clause-two_limits
returns-in-None-clause-two_limits g c = agrees_above (under g.H.Host.name_of c.args.self.now g.T.NativeTable.natives)
    (EnterFunction (entered c.args.def.now (option_copied c.args.env) OwnThis false c.args.rewind_scope c.args.args.now
    c.args.global.now.level c.args.pos)) _ _ c.call_in_run-result-in-None.result (runs_free g c)

pub returns-in-None-clause-lib : goal.returns-in-None-clause-lib
returns-in-None-clause-lib g c = (returns-in-None-clause-kept g c).around.lib

pub returns-in-None-clause-imports : goal.returns-in-None-clause-imports
returns-in-None-clause-imports g c = (returns-in-None-clause-kept g c).imports

pub returns-in-None-clause-constants : goal.returns-in-None-clause-constants
returns-in-None-clause-constants g c = (returns-in-None-clause-kept g c).around.constants

pub returns-in-None-clause-level : goal.returns-in-None-clause-level
returns-in-None-clause-level g c = (returns-in-None-clause-kept g c).around.level

pub returns-in-None-clause-scope_level : goal.returns-in-None-clause-scope_level
returns-in-None-clause-scope_level g c = (returns-in-None-clause-kept g c).scope_level

pub returns-in-None-clause-this : goal.returns-in-None-clause-this
returns-in-None-clause-this g c = (returns-in-None-clause-kept g c).bound

pub returns-in-None-clause-restores : goal.returns-in-None-clause-restores
returns-in-None-clause-restores g c = λ rewinds.
    names_stay (under g.H.Host.name_of c.args.self.now g.T.NativeTable.natives)
    (EnterFunction (entered c.args.def.now (option_copied c.args.env) OwnThis false c.args.rewind_scope c.args.args.now
    c.args.global.now.level c.args.pos)) (ended c.call_in_run-result-in-None.result) _ _ (adds_none c.args.rewind_scope rewinds) tt
    (runs_free g c)

pub returns-in-None-clause-args : goal.returns-in-None-clause-args
returns-in-None-clause-args g c memory = rw c.take-run.ensures.run at (c.call_in_run-result-in-None.ensures.args memory)

pub returns-in-Some-clause-caches : goal.returns-in-Some-clause-caches
returns-in-Some-clause-caches g c =
    rw c.give_back_with_this.ensures.global
    (returned _ _ _ _ c.take_with_this-run.ensures.caches c.give_back_with_this.ensures.caches)

pub returns-in-None-clause-caches : goal.returns-in-None-clause-caches
returns-in-None-clause-caches g c =
    rw c.give_back.ensures.global (returned _ _ _ _ c.take-run.ensures.caches c.give_back.ensures.caches)
