use Rattle.std.proofs.Common.{refl}
use Rattle.rhai_tree.specs.declared.expr.Expr.{out-Expr}
use Rattle.rhai_tree.specs.declared.expr.Expr.TheVariants as exprs
use Rattle.rhai_steps.specs.Offers.{globals_in}
use Rattle.rhai_steps.specs.Callers.{surroundings_of}
use Rattle.rhai_eval.proofs.Searching.{alone_beside}
use Rattle.rhai_eval.proofs.eval.search.value_alone.Goals as goal

pub returns : goal.returns
returns g c =
    alone_beside (globals_in c.args.session.now.offered) (surroundings_of c.args.global.now) (out-Expr c.args.expr.now)
    c.in-Variable.offset c.in-Variable.name c.in-Variable.namespace c.in-Variable.pos c.read_global.result
    (rw (c.in-Variable.is, exprs.outs-Variable) refl) c.requires.variable (rw c.as_slice.ensures at c.read_global.ensures)
