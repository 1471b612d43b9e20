use Rattle.std.proofs.Common.{refl}
use Rattle.rhai_tree.specs.declared.expr.Expr.TheOpen as layer
use Rattle.rhai_tree.specs.declared.expr.Expr.TheVariants as exprs
use Rattle.rhai_eval_steps.proofs.NameLemmas.{expr_suits}
use Rattle.rhai_bench.proofs.entering.parts.enter_expr.Goals as goal

pub enter_call-requires : goal.enter_call-requires
enter_call-requires c = expr_suits c.args.expr.now (layer.Expr::FnCall c.in-FnCall.call c.in-FnCall.pos)
    (rw (c.in-FnCall.is, exprs.outs-FnCall) refl) refl c.requires
