use Rattle.std.proofs.Common.{arith}
use Rattle.std.proofs.lemmas.Grind.{common_steps}
use Rattle.rhai_tree.specs.declared.expr.Expr.TheFolds.{the_lemmas}
use Rattle.rhai_tree.proofs.expr.Expr.+start_position.Goals as goal

pub returns-in-Some-len2 : goal.returns-in-Some-len2
returns-in-Some-len2 t c = grind (arith, common_steps, the_lemmas)
