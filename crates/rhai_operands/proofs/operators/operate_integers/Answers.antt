use Rattle.std.proofs.Common.{◌∙◌, ap, not, sym}
use Rattle.rhai_tree.specs.declared.expr.Expr.{out-Expr}
use Rattle.rhai_state.specs.Scope.{entries_of}
use Rattle.rhai_operands.specs.Standing.{integer_of, standing}
use Rattle.rhai_operands.proofs.Integers.{is_there}
use Rattle.rhai_operands.proofs.operators.operate_integers.Goals as goal

pub returns-clause-known : goal.returns-clause-known
returns-clause-known g c done =
    let left = is_there c.integer_in_place-first.result (integer_of (standing (out-Expr c.args.left.now) (entries_of c.args.scope.now)))
    (c.is_none.ensures ∙ ap not c.if-is_none.false) c.integer_in_place-first.ensures in
    let right = is_there c.integer_in_place-second.result (integer_of (standing (out-Expr c.args.right.now) (entries_of c.args.scope.now)))
    (c.is_none-2.ensures ∙ ap not c.if-is_none-2.false) c.integer_in_place-second.ensures in
    rw (left, right, c.put_number.ensures) (sym c.compute_known.ensures ∙ c.in-Some.is)
