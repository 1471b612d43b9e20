use Rattle.std.proofs.Common.{arith}
use Rattle.rhai_eval.proofs.engine.Engine.has_script_fn.Goals as goal

pub returns-clause-caches : goal.returns-clause-caches
returns-clause-caches g c = record {
  fit = c.has_function.ensures.fit;
  right = c.has_function.ensures.right;
  below = c.has_function.ensures.below;
  depth = omega (arith, c.has_function.ensures.depth);
  on = c.has_function.ensures.on;
}
