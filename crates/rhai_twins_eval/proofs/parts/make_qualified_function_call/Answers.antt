use Rattle.std.proofs.Common.{Some, refl, ap, sym, ◌∙◌}
use Rattle.rhai_steps.specs.States.{holding}
use Rattle.rhai_eval.specs.States.{under}
use Rattle.rhai_twins_eval.proofs.Once.{call_once}
use Rattle.rhai_twins_eval.proofs.Starts.{same_start}
use Rattle.rhai_twins_eval.proofs.parts.make_qualified_function_call.Goals as goal

pub returns-clause-run : goal.returns-clause-run
returns-clause-run g c = let one = c.make_qualified_function_call in let other = c.make_qualified_function_call-2 in let a = c.args in
    call_once (under g.H.Host.name_of c.args.engine.now g.T.NativeTable.natives) _ _ _ _ _ _ one.result other.result
    refl
    (same_start c.requires.table c.requires.global c.requires.scope (ap (λ x. holding (Some x)) c.requires.this))
    one.ensures.ends other.ensures.ends

pub returns-clause-on : goal.returns-clause-on
returns-clause-on g c same =
    c.make_qualified_function_call.ensures.caches.on ∙ same ∙ sym c.make_qualified_function_call-2.ensures.caches.on
