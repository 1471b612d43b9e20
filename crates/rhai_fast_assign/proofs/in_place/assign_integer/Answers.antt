use Rattle.std.proofs.Common.{◌≡◌, ◌-◌, ap, not, sym, refl, ◌∙◌, arith}
use Rattle.rhai_tree.specs.declared.expr.Expr.{out-Expr}
use Rattle.rhai_tree.specs.declared.expr.Expr.TheVariants as exprs
use Rattle.rhai_tree.specs.declared.expr.Expr.TheOpen as layer
use Rattle.rhai_values.specs.Cells.{cells_of}
use Rattle.rhai_state.specs.Scope.{entries_of}
use Rattle.rhai_steps.specs.Sessions.{under}
use Rattle.rhai_steps.proofs.Agreeing.{brings, offset_agrees}
use Rattle.rhai_operands.specs.Standing.{assigned_known, integer_of, standing}
use Rattle.rhai_operands.proofs.Integers.{is_there}
use Rattle.rhai_operands.proofs.Names.{good_target}
use Rattle.rhai_fast_assign.specs.InPlace.{charged_at, writable_in}
use Rattle.rhai_fast_assign.proofs.Integers.{both_charged, integer_assigned, integer_found, integer_keeps}
use Rattle.rhai_fast_assign.proofs.in_place.assign_integer.Goals as goal

pub returns-clause-keeps : goal.returns-clause-keeps
returns-clause-keeps g c = integer_keeps c.args.global.now c.charge_all.new.global c.args.scope.now c.write_number.new.scope
    c.args.charges c.in-Some-index_by_offset.index c.in-Some-compute_known.value (c.charge_all.ensures.charged c.if-not-charge_all.false)
    c.write_number.ensures

pub returns-clause-found : goal.returns-clause-found
returns-clause-found g c is =
    let stands = ap (assigned_known c.in-Some.token (writable_in c.value_at.result.now)) (is_there c.integer_in_place-operand.result
    (integer_of (standing (out-Expr c.args.assignment.now.right.now) (entries_of c.args.scope.now)))
    (c.is_none-2.ensures ∙ ap not c.if-is_none-2.false) c.integer_in_place-operand.ensures) in
    integer_found c.args.scope.now (cells_of c.args.global.now.cells) c.args.assignment.now.op.now c.args.assignment.now.left.now
    c.args.assignment.now.right.now
    c.in-Variable.offset c.in-Variable.name c.in-Variable.namespace c.in-Variable.pos (rw (c.in-Variable.is, exprs.outs-Variable) refl)
    c.in-Some.token c.in-Some.is c.in-Some-index_by_offset.index c.value_at.result.now c.in-Some-compute_known.value
    c.in-Some-index_by_offset.ensures.exact c.value_at.ensures
    (stands ∙ sym (rw c.writable_integer-target.ensures at c.compute_known.ensures) ∙ c.in-Some-compute_known.is)

pub returns-clause-runs : goal.returns-clause-runs
returns-clause-runs g c is held restoring level fast =
    let stands = ap (assigned_known c.in-Some.token (writable_in c.value_at.result.now)) (is_there c.integer_in_place-operand.result
    (integer_of (standing (out-Expr c.args.assignment.now.right.now) (entries_of c.args.scope.now)))
    (c.is_none-2.ensures ∙ ap not c.if-is_none-2.false) c.integer_in_place-operand.ensures) in
    let form : out-Expr c.args.assignment.now.left.now ≡ layer.Variable c.in-Variable.offset c.in-Variable.name c.in-Variable.namespace
    c.in-Variable.pos =
    rw (c.in-Variable.is, exprs.outs-Variable) refl in
    integer_assigned (under g.H.Host.name_of c.args.session.now g.T.NativeTable.natives)
    (g.T.NativeTable.state c.args._table.now) c.args.scope.now held c.args.assignment.now.op.now c.args.assignment.now.left.now
    c.args.assignment.now.right.now c.in-Variable.offset
    c.in-Variable.name c.in-Variable.namespace c.in-Variable.pos restoring form
    (charged_at (c.args.charges - 2) level c.args.global.now) (record c.charge_all.new.global { scope_level = level })
    c.write_number.new.scope (omega (arith, c.requires.both, c.charge_all.ensures.room c.if-not-charge_all.false))
    (both_charged c.args.global.now c.charge_all.new.global c.args.charges level c.requires.both
    (c.charge_all.ensures.charged c.if-not-charge_all.false)) c.in-Some.token c.in-Some.is fast c.in-Some-index_by_offset.index
    c.value_at.result.now c.in-Some-compute_known.value
    c.in-Some-index_by_offset.ensures.exact
    c.value_at.ensures (stands ∙ sym (rw c.writable_integer-target.ensures at c.compute_known.ensures) ∙ c.in-Some-compute_known.is)
    c.write_number.ensures

pub returns-clause-room : goal.returns-clause-room
returns-clause-room g c is = c.charge_all.ensures.room c.if-not-charge_all.false

pub returns-clause-charged : goal.returns-clause-charged
returns-clause-charged g c is = c.charge_all.ensures.charged c.if-not-charge_all.false

pub index_by_offset-requires : goal.index_by_offset-requires
index_by_offset-requires g c =
    offset_agrees c.in-Variable.offset c.in-Variable.name c.in-Variable.namespace (brings (λ frame. good_target
    c.args.assignment.now.left.now c.in-Variable.offset c.in-Variable.name c.in-Variable.namespace
    c.in-Variable.pos frame
    (rw (c.in-Variable.is, exprs.outs-Variable) refl)) c.requires.resolves_target)
