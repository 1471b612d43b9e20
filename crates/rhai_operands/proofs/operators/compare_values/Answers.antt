use Rattle.std.proofs.Common.{◌≡◌, Some, sym, ◌∙◌}
use Rattle.rhai_tree.specs.declared.expr.Expr.{out-Expr}
use Rattle.rhai_state.specs.Scope.{entries_of}
use Rattle.rhai_operands.specs.Standing.{standing}
use Rattle.rhai_operands.proofs.InPlace.{truth_came}
use Rattle.rhai_operands.proofs.operators.compare_values.Goals as goal

pub returns : goal.returns
returns g c =
    let left : standing (out-Expr c.args.left.now) (entries_of c.args.scope.now) ≡ Some c.value.result.now =
    rw c.value.ensures (sym c.in_ok-first.ensures) in
    let right : standing (out-Expr c.args.right.now) (entries_of c.args.scope.now) ≡ Some c.value-2.result.now =
    rw c.value-2.ensures (sym c.in_ok-second.ensures) in
    rw (left, right) (c.truth_given-holds.ensures ∙ truth_came _ _ _ c.in_ok-outcome.was c.builtin_binary.ensures)
