use Rattle.rhai_tree.specs.declared.expr.Expr.TheVariants as exprs
use Rattle.rhai_steps.proofs.Agreeing.{brings}
use Rattle.rhai_callees.proofs.path.read_last_value.Goals as goal

pub pass_variable-requires : goal.pass_variable-requires
pass_variable-requires g c = brings (λ frame h. rw (c.in-Variable.is, exprs.outs-Variable) at h) c.requires
