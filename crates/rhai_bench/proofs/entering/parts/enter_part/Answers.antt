use Rattle.std.proofs.Common.{refl}
use Rattle.rhai_tree.specs.declared.expr.Expr.TheOpen as layer
use Rattle.rhai_tree.specs.declared.expr.Stmt.TheVariants as stmts
use Rattle.rhai_steps.proofs.Agreeing.{brings}
use Rattle.rhai_fast_assign.proofs.Alone.{sides_resolve}
use Rattle.rhai_eval_steps.proofs.NameLemmas.{stmt_suits}
use Rattle.rhai_bench.proofs.EnteringLemmas.{block_runs}
use Rattle.rhai_bench.proofs.entering.parts.enter_part.Goals as goal

pub run_list-requires : goal.run_list-requires
run_list-requires c = rw c.as_slice.ensures (block_runs c.in-Block.block (stmt_suits c.args.stmt.now (layer.Block c.in-Block.block)
    (rw (c.in-Block.is, stmts.outs-Block) refl) refl c.requires))

pub enter_expr-requires : goal.enter_expr-requires
enter_expr-requires c =
    stmt_suits c.args.stmt.now (layer.Expr c.in-Expr.expr) (rw (c.in-Expr.is, stmts.outs-Expr) refl) refl c.requires

pub enter_call-requires : goal.enter_call-requires
enter_call-requires c = stmt_suits c.args.stmt.now (layer.Stmt::FnCall c.in-FnCall.call c.in-FnCall.pos)
    (rw (c.in-FnCall.is, stmts.outs-FnCall) refl) refl c.requires

pub enter_assignment-requires : goal.enter_assignment-requires
enter_assignment-requires c = record {
  resolves = brings (λ frame h. (sides_resolve c.args.stmt.now c.in-Assignment.op c.in-Assignment.lhs c.in-Assignment.rhs frame
      (rw (c.in-Assignment.is, stmts.outs-Assignment) refl) h).0) c.requires;
  value = c.literal.ensures;
}
