use Rattle.std.proofs.Common.{ap, ◌∙◌}
use Rattle.rhai_tree.specs.declared.expr.Expr.{out-Expr}
use Rattle.rhai_machine.specs.language.Setting.{globals_of}
use Rattle.rhai_state.specs.Scope.{entries_of}
use Rattle.rhai_steps.specs.Callers.{surroundings_of}
use Rattle.rhai_eval.specs.Search.{searched}
use Rattle.rhai_eval.specs.States.{offer_of}
use Rattle.rhai_twins_eval.proofs.Targets.{variable_once}
use Rattle.rhai_twins_eval.proofs.lookups.search_scope_only.Goals as goal

pub returns-clause-result : goal.returns-clause-result
returns-clause-result g c = let one = c.search_scope_only in let other = c.search_scope_only-2 in let a = c.args in
    variable_once _ _ one.result other.result
    (ap (λ x. searched x.always_search_scope (out-Expr a.expr.now) (globals_of (offer_of a.engine.now)) (surroundings_of x)
    (entries_of a.scope.now)) c.requires.global
    ∙ ap (λ x. searched a.also_global.now.always_search_scope (out-Expr a.expr.now) (globals_of (offer_of a.engine.now))
    (surroundings_of a.also_global.now) (entries_of x)) c.requires.scope)
    (one.ensures.found, one.ensures.missed) (other.ensures.found, other.ensures.missed)
