use Rattle.std.proofs.Common.{◌≡◌, ◌≤◌, ◌+◌, ℕ, ap, not, sym, refl, subst, ◌∙◌, Some}
use Rattle.rhai_tree.specs.declared.expr.Expr.{out-Expr}
use Rattle.rhai_tree.specs.declared.expr.Expr.TheVariants as exprs
use Rattle.rhai_tree.specs.declared.expr.Expr.TheOpen as layer
use Rattle.rhai_values.specs.Layers.{layer_of}
use Rattle.rhai_state.specs.Scope.{entries_of}
use Rattle.rhai_spots.specs.declared.spot.Spot.TheVariants as spot
use Rattle.rhai_spots.specs.Parts.{value_at, with_value}
use Rattle.rhai_steps.specs.Sessions.{under}
use Rattle.rhai_steps.proofs.Agreeing.{brings, offset_agrees}
use Rattle.rhai_operands.specs.Standing.{assigned_known, integer_of, standing}
use Rattle.rhai_operands.proofs.Integers.{is_there}
use Rattle.rhai_operands.proofs.Names.{good_name}
use Rattle.rhai_fast_assign.proofs.Parts.{item_resolves, parts_shown}
use Rattle.rhai_fast_assign.proofs.Path.{item_assigned, item_keeps}
use Rattle.rhai_fast_assign.specs.Items.{parts_in, place_in_array, writable_at}
use Rattle.rhai_fast_assign.proofs.items.assign_item.Goals as goal

pub returns-clause-keeps : goal.returns-clause-keeps
returns-clause-keeps g c = item_keeps c.args.global.now c.charge_all.new.global c.args.scope.now c.write_item.new.scope
    c.in-Some-index_by_offset.entry c.charges-count.result
    (with_value c.value_at-source.result.now (spot.Item c.in-Some-place_in_value.at) c.in-Some-compute_known.value)
    (c.charge_all.ensures.charged c.if-not-charge_all.false)
    (c.write_item.ensures c.value_at-source.result.now c.value_at-source.ensures)

pub returns-clause-runs : goal.returns-clause-runs
returns-clause-runs g c is held restoring fast =
    let parts : parts_in (out-Expr c.args.lhs.now) ≡ Some (c.in-Some.root.now, c.in-Some.index.now) = sym c.in-Some.ensures in
    let shown = parts_shown (out-Expr c.args.lhs.now) c.in-Some.root.now c.in-Some.index.now parts in
    let form : out-Expr c.in-Some.root.now ≡ layer.Variable c.in-Variable.offset c.in-Variable.name c.in-Variable.namespace
    c.in-Variable.pos = rw (c.in-Variable.is, exprs.outs-Variable) refl in
    let at_index = is_there c.integer_in_place-position.result
    (integer_of (standing (out-Expr c.in-Some.index.now) (entries_of c.args.scope.now)))
    (c.is_none.ensures ∙ ap not c.if-is_none.false) c.integer_in_place-position.ensures in
    let operand = is_there c.integer_in_place-operand.result
    (integer_of (standing (out-Expr c.args.rhs.now) (entries_of c.args.scope.now)))
    (c.is_none-3.ensures ∙ ap not c.if-is_none-3.false) c.integer_in_place-operand.ensures in
    item_assigned (under g.H.Host.name_of c.args.session.now g.T.NativeTable.natives)
    (g.T.NativeTable.state c.args._table.now) c.args.scope.now held c.args.op.now c.args.lhs.now c.in-Some.root.now c.in-Some.index.now
    c.args.rhs.now shown.0 shown.1 restoring shown.2 shown.3 c.in-Variable.offset c.in-Variable.name
    c.in-Variable.namespace c.in-Variable.pos form c.in-Some-op.token c.in-Some-op.is fast c.in-Some-index_by_offset.entry
    c.value_at-source.result.now c.in-Some-index_by_offset.ensures.exact c.value_at-source.ensures
    c.args.global.now c.charge_all.new.global c.write_item.new.scope
    (subst (λ (n : ℕ). c.args.global.now.num_operations + n ≤ c.args.session.now.limits.max_operations) c.charges-count.ensures
    (c.charge_all.ensures.room c.if-not-charge_all.false))
    (subst (λ (n : ℕ). c.charge_all.new.global ≡ record c.args.global.now { num_operations = c.args.global.now.num_operations + n })
    c.charges-count.ensures (c.charge_all.ensures.charged c.if-not-charge_all.false))
    c.in-Some-place_in_value.at c.in-Some-compute_known.value (c.write_item.ensures c.value_at-source.result.now c.value_at-source.ensures)
    (ap (place_in_array (layer_of c.value_at-source.result.now)) at_index ∙ sym c.place_in_value.ensures.at ∙ c.in-Some-place_in_value.is)
    (ap (assigned_known c.in-Some-op.token (writable_at (value_at c.value_at-source.result.now (spot.Item
    c.in-Some-place_in_value.at)))) operand
    ∙ sym (rw c.integer_of_item-target.ensures at c.compute_known.ensures) ∙ c.in-Some-compute_known.is)

pub index_by_offset-requires : goal.index_by_offset-requires
index_by_offset-requires g c =
    let parts : parts_in (out-Expr c.args.lhs.now) ≡ Some (c.in-Some.root.now, c.in-Some.index.now) = sym c.in-Some.ensures in
    offset_agrees c.in-Variable.offset c.in-Variable.name c.in-Variable.namespace (brings (λ frame h. good_name c.in-Some.root.now
    c.in-Variable.offset c.in-Variable.name c.in-Variable.namespace c.in-Variable.pos frame
    (rw (c.in-Variable.is, exprs.outs-Variable) refl)
    (item_resolves c.args.lhs.now c.in-Some.root.now c.in-Some.index.now frame parts h).0) c.requires.resolves_target)

pub integer_in_place-position-requires : goal.integer_in_place-position-requires
integer_in_place-position-requires g c =
    let parts : parts_in (out-Expr c.args.lhs.now) ≡ Some (c.in-Some.root.now, c.in-Some.index.now) = sym c.in-Some.ensures in
    brings (λ frame h. (item_resolves c.args.lhs.now c.in-Some.root.now c.in-Some.index.now frame parts h).1) c.requires.resolves_target
