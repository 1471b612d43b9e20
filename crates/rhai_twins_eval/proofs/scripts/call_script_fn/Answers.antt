use Rattle.std.proofs.Common.{Some, false, ap, length, sym, ◌∙◌}
use Rattle.std.specs.Option.{option_copied}
use Rattle.rhai_machine.specs.language.Activations.{OwnThis}
use Rattle.rhai_machine.specs.language.Frames.{EnterFunction, core}
use Rattle.rhai_state.specs.Scope.{entries_of}
use Rattle.rhai_eval_steps.specs.Bodies.{args_left, entered, is_entered}
use Rattle.rhai_steps.specs.States.{holding}
use Rattle.rhai_eval.specs.States.{limits_of, under}
use Rattle.rhai_twins_eval.proofs.Once.{call_once}
use Rattle.rhai_twins_eval.proofs.Starts.{same_start}
use Rattle.rhai_twins_eval.proofs.scripts.call_script_fn.Goals as goal

pub returns-clause-run : goal.returns-clause-run
returns-clause-run g c = let one = c.call_script_fn in let other = c.call_script_fn-2 in let a = c.args in
    call_once (under g.H.Host.name_of c.args.engine.now g.T.NativeTable.natives) _ _ _ _ _ _ one.result other.result
    (ap (λ x. λ k l. core (EnterFunction (entered a.def.now (option_copied a.env) OwnThis false a.rewind_scope x a.global.now.level a.pos))
    k l) c.requires.args
    ∙ ap (λ x. λ k l. core (EnterFunction (entered a.def.now (option_copied a.env) OwnThis false a.rewind_scope a.also_args.now x.level
    a.pos)) k l) c.requires.global)
    (same_start c.requires.table c.requires.global c.requires.scope (ap (λ x. holding (Some x)) c.requires.this))
    one.ensures.ends other.ensures.ends

pub returns-clause-args : goal.returns-clause-args
returns-clause-args g c memory also = let one = c.call_script_fn in let other = c.call_script_fn-2 in let a = c.args in
    one.ensures.args memory
    ∙ ap (λ x. args_left (is_entered (limits_of a.engine.now) x.num_operations x.level (length (entries_of a.scope.now)) a.def.now)
    (length a.def.now.params) a.args.now) c.requires.global
    ∙ ap (λ x. args_left (is_entered (limits_of a.engine.now) a.also_global.now.num_operations a.also_global.now.level
    (length (entries_of x)) a.def.now) (length a.def.now.params) a.args.now) c.requires.scope
    ∙ ap (λ x. args_left (is_entered (limits_of a.engine.now) a.also_global.now.num_operations a.also_global.now.level
    (length (entries_of a.also_scope.now)) a.def.now) (length a.def.now.params) x) c.requires.args
    ∙ sym (other.ensures.args also)

pub returns-clause-on : goal.returns-clause-on
returns-clause-on g c same = c.call_script_fn.ensures.caches.on ∙ same ∙ sym c.call_script_fn-2.ensures.caches.on
