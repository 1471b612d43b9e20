use Rattle.std.proofs.Common.{rules, refl}
use Rattle.rhai_tree.specs.declared.expr.Expr.TheViews.{the_lemmas}
use Rattle.rhai_tree.proofs.expr.Expr.position.Goals as goal

pub returns-in-Stmt : goal.returns-in-Stmt
returns-in-Stmt c = simp (c.in-Stmt.is, the_lemmas) refl

pub returns-in-DynamicConstant : goal.returns-in-DynamicConstant
returns-in-DynamicConstant c = search (rules, the_lemmas)
