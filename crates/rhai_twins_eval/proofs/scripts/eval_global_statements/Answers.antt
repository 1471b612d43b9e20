use Rattle.std.proofs.Common.{None, refl, ap, sym, ◌∙◌}
use Rattle.rhai_eval.specs.States.{under}
use Rattle.rhai_steps.specs.States.{holding}
use Rattle.rhai_twins_eval.proofs.Once.{script_once}
use Rattle.rhai_twins_eval.proofs.Starts.{same_start, same_global, same_scope}
use Rattle.rhai_twins_eval.proofs.scripts.eval_global_statements.Goals as goal

pub returns-clause-run : goal.returns-clause-run
returns-clause-run g c = let one = c.eval_global_statements in let other = c.eval_global_statements-2 in
    script_once (under g.H.Host.name_of c.args.engine.now g.T.NativeTable.natives) c.args.tree.now.0
    c.args.map_exit_to_return_value _ _ _ _ one.result other.result
    (same_start c.requires.table c.requires.global c.requires.scope refl) one.ensures.ends other.ensures.ends

pub returns-clause-global : goal.returns-clause-global
returns-clause-global g c = let one = c.eval_global_statements in let other = c.eval_global_statements-2 in
    λ a b. same_global (g.T.NativeTable.state one.new.table) (g.T.NativeTable.state other.new.table) one.new.global other.new.global
    one.new.scope other.new.scope (holding None) (holding None) (returns-clause-run g c a b).1
    (one.ensures.search ∙ ap (λ x. x.always_search_scope) c.requires.global ∙ sym other.ensures.search)

pub returns-clause-scope : goal.returns-clause-scope
returns-clause-scope g c = let one = c.eval_global_statements in let other = c.eval_global_statements-2 in
    λ a b. same_scope (g.T.NativeTable.state one.new.table) (g.T.NativeTable.state other.new.table) one.new.global other.new.global
    one.new.scope other.new.scope (holding None) (holding None) (returns-clause-run g c a b).1

pub returns-clause-table : goal.returns-clause-table
returns-clause-table g c = λ a b. ap (λ s. s.table) (returns-clause-run g c a b).1

pub returns-clause-on : goal.returns-clause-on
returns-clause-on g c same = c.eval_global_statements.ensures.caches.on ∙ same ∙ sym c.eval_global_statements-2.ensures.caches.on
