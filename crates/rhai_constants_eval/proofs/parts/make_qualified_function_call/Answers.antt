use Rattle.std.proofs.Common.{None, false}
use Rattle.rhai_tree.specs.declared.expr.Expr.TheOpen as layer
use Rattle.rhai_machine.specs.language.Frames.{OpenExpr}
use Rattle.rhai_eval_steps.specs.Calls.{in_parts}
use Rattle.rhai_eval.specs.States.{under}
use Rattle.rhai_constants_eval.proofs.Staying.{control_stays}
use Rattle.rhai_constants_eval.proofs.parts.make_qualified_function_call.Goals as goal

pub returns : goal.returns
returns g c = let a = c.args in record {
  stays = control_stays (under g.H.Host.name_of a.engine.now g.T.NativeTable.natives) g.met.T.NativeTable.lawful _ _ c.requires.sealed
      (OpenExpr (layer.Expr::FnCall (in_parts a.namespace.now a.fn_name.now a.args_expr.now None false) a.pos))
      c.make_qualified_function_call.result tt (λ index. tt) c.make_qualified_function_call.ensures.ends;
}
