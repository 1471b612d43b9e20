use Rattle.std.proofs.Common.{◌≡◌, ◌<◌, arith, refl, true}
use Rattle.rhai_tree.specs.declared.expr.Expr.TheOpen as layer
use Rattle.rhai_tree.specs.declared.expr.Stmt.{out-Stmt}
use Rattle.rhai_tree.specs.declared.expr.Stmt.TheVariants as stmts
use Rattle.rhai_machine.specs.language.Setting.{limit_under}
use Rattle.rhai_machine.specs.language.Statements.{deeper}
use Rattle.rhai_steps.specs.Sessions.{under}
use Rattle.rhai_steps.proofs.Agreeing.{brings}
use Rattle.rhai_fast_assign.proofs.Alone.{alone, one_item, only_resolves}
use Rattle.rhai_fast_assign.proofs.lists.assign_alone.Goals as goal

pub assign_integer-requires-clause-resolves_target : goal.assign_integer-requires-clause-resolves_target
assign_integer-requires-clause-resolves_target g c =
    brings (λ frame h. (only_resolves c.args.statements.now c.only-item.result c.in-Assignment.op c.in-Assignment.lhs c.in-Assignment.rhs
    frame (one_item c.args.statements.now c.only-item.result c.only-item.is c.in-len1.len_at_least c.in-len1.len_below)
    (rw (c.in-Assignment.is, stmts.outs-Assignment) refl) h).0) c.requires.resolves

pub assign_integer-requires-clause-resolves : goal.assign_integer-requires-clause-resolves
assign_integer-requires-clause-resolves g c =
    brings (λ frame h. (only_resolves c.args.statements.now c.only-item.result c.in-Assignment.op c.in-Assignment.lhs c.in-Assignment.rhs
    frame (one_item c.args.statements.now c.only-item.result c.only-item.is c.in-len1.len_at_least c.in-len1.len_below)
    (rw (c.in-Assignment.is, stmts.outs-Assignment) refl) h).1) c.requires.resolves

pub returns-clause-runs : goal.returns-clause-runs
returns-clause-runs g c is held =
    let rules = under g.H.Host.name_of c.args.session.now g.T.NativeTable.natives in
    let form : out-Stmt c.only-item.result ≡ layer.Assignment c.in-Assignment.op c.in-Assignment.lhs c.in-Assignment.rhs =
    rw (c.in-Assignment.is, stmts.outs-Assignment) refl in
    let room : c.args.global.now.num_operations < limit_under rules = omega (arith, c.assign_integer.ensures.room is) in
    rw (one_item c.args.statements.now c.only-item.result c.only-item.is c.in-len1.len_at_least c.in-len1.len_below)
    (alone rules (g.T.NativeTable.state c.args.table.now) c.args.global.now c.assign_integer.new.global c.args.scope.now
    c.assign_integer.new.scope held c.only-item.result _ form room (c.assign_integer.ensures.charged is)
    c.assign_integer.ensures.keeps.names
    (c.assign_integer.ensures.runs is held true (deeper c.args.global.now.scope_level) c.if-not-is_fast.false))
