use Rattle.rhai_tree.specs.declared.expr.Expr.TheOpen as layer
use Rattle.rhai_machine.specs.language.Frames.{OpenExpr}
use Rattle.rhai_eval.specs.States.{under}
use Rattle.rhai_fits_eval.proofs.Ends.{control_again}
use Rattle.rhai_fits_eval.proofs.parts.eval_fn_call_expr.Goals as goal

pub returns : goal.returns
returns g c = let a = c.args in record {
  fits = control_again (under g.H.Host.name_of a.engine.now g.T.NativeTable.natives) _ _ _ _ g.met.T.NativeTable.lawful
      c.eval_fn_call_expr.ensures.kept.around c.requires.sealed
      (OpenExpr (layer.Expr::FnCall a.expr.now a.pos)) c.eval_fn_call_expr.result tt tt c.eval_fn_call_expr.ensures.ends;
}
