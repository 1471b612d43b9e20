use Rattle.std.proofs.Common.{sym}
use Rattle.rhai_tree.specs.declared.expr.Expr.{out-Expr}
use Rattle.rhai_state.specs.Scope.{entries_of}
use Rattle.rhai_operands.specs.Standing.{standing}
use Rattle.rhai_operands.proofs.InPlace.{known_stands}
use Rattle.rhai_operands.proofs.operators.compare_in_place.Goals as goal

pub returns-in-Some : goal.returns-in-Some
returns-in-Some g c =
    sym (known_stands c.args.token (standing (out-Expr c.args.left.now) (entries_of c.args.scope.now))
    (standing (out-Expr c.args.right.now) (entries_of c.args.scope.now)) c.in-Some.holds c.in-Some.ensures)
