use Rattle.std.proofs.Common.{rules}
use Rattle.rhai_tree.specs.declared.expr.Expr.TheViews.{the_lemmas}
use Rattle.rhai_tree.proofs.expr.Stmt.position.Goals as goal

pub returns-in-Assignment : goal.returns-in-Assignment
returns-in-Assignment c = simp (c.in-Assignment.is, the_lemmas) (search rules)
