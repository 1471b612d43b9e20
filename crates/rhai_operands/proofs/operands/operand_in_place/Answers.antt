use Rattle.std.proofs.Common.{refl}
use Rattle.rhai_tree.specs.declared.expr.Expr.TheVariants as exprs
use Rattle.rhai_steps.proofs.Agreeing.{brings, offset_agrees}
use Rattle.rhai_operands.proofs.Names.{good_name}
use Rattle.rhai_operands.proofs.operands.operand_in_place.Goals as goal

pub entry_of_variable-requires : goal.entry_of_variable-requires
entry_of_variable-requires g c =
    offset_agrees c.in-Variable.offset c.in-Variable.name c.in-Variable.namespace (brings (λ frame. good_name c.args.expr.now
    c.in-Variable.offset c.in-Variable.name c.in-Variable.namespace c.in-Variable.pos frame
    (rw (c.in-Variable.is, exprs.outs-Variable) refl)) c.requires)
