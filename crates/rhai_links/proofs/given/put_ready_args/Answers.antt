use Rattle.rhai_tree.specs.declared.expr.Expr.{out-Expr}
use Rattle.rhai_machine.specs.language.Expressions.{literal_of}
use Rattle.rhai_steps.proofs.Pieces.{passed}
use Rattle.rhai_links.proofs.GivenAtOnce.{literal_given, literal_runs_out}
use Rattle.rhai_links.proofs.given.put_ready_args.Goals as goal

pub returns-in_err-value-in-Literal-clause-refused : goal.returns-in_err-value-in-Literal-clause-refused
returns-in_err-value-in-Literal-clause-refused g c =
    rw (passed _ c.from_residual.ensures)
    (literal_runs_out (literal_of (out-Expr c.in-Literal.literal.now)) (rw c.in-Literal.is at c.requires.ready) _
    c.in_err-value-in-Literal.ensures)

pub returns-in_ok-keep_argument-in-Literal-clause-given : goal.returns-in_ok-keep_argument-in-Literal-clause-given
returns-in_ok-keep_argument-in-Literal-clause-given g c =
    rw c.in-Literal.is
    (literal_given (literal_of (out-Expr c.in-Literal.literal.now)) (rw c.in-Literal.is at c.requires.ready) c.in_ok-value-in-Literal.value
    c.in_ok-value-in-Literal.ensures c.keep_argument.new.args
    (rw c.requires.empty at c.in_ok-keep_argument-in-Literal.ensures.kept))
