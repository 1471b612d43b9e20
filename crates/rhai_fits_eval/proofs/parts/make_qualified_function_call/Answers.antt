use Rattle.std.proofs.Common.{None, false}
use Rattle.rhai_tree.specs.declared.expr.Expr.TheOpen as layer
use Rattle.rhai_machine.specs.language.Frames.{OpenExpr}
use Rattle.rhai_eval_steps.specs.Calls.{in_parts}
use Rattle.rhai_eval.specs.States.{under}
use Rattle.rhai_fits_eval.proofs.Ends.{control_again}
use Rattle.rhai_fits_eval.proofs.parts.make_qualified_function_call.Goals as goal

pub returns : goal.returns
returns g c = let a = c.args in record {
  fits = control_again (under g.H.Host.name_of a.engine.now g.T.NativeTable.natives) _ _ _ _ g.met.T.NativeTable.lawful
      c.make_qualified_function_call.ensures.kept.around c.requires.sealed
      (OpenExpr (layer.Expr::FnCall (in_parts a.namespace.now a.fn_name.now a.args_expr.now None false) a.pos))
      c.make_qualified_function_call.result tt tt c.make_qualified_function_call.ensures.ends;
}
