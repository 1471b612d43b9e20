use Rattle.std.proofs.Common.{◌≡◌, arith, sym, refl, ◌∙◌}
use Rattle.rhai_tree.specs.declared.expr.Expr.{out-Expr}
use Rattle.rhai_tree.specs.declared.expr.Expr.TheOpen as layer
use Rattle.rhai_tree.specs.declared.expr.Expr.TheVariants as exprs
use Rattle.rhai_machine.specs.language.Setting.{Rules}
use Rattle.rhai_steps.specs.Sessions.{under}
use Rattle.rhai_steps.proofs.Agreeing.{brings, offset_agrees}
use Rattle.rhai_operands.proofs.Names.{good_name}
use Rattle.rhai_fast_calls.proofs.Steps.{argument_resolves, at_once}
use Rattle.rhai_fast_calls.proofs.at_once.call_at_once.Goals as goal

pub entry_of_variable-requires : goal.entry_of_variable-requires
entry_of_variable-requires g c =
    let form : out-Expr c.in-Some.arg.now ≡ layer.Variable c.in-Variable.offset c.in-Variable.name c.in-Variable.namespace
    c.in-Variable.pos = rw (c.in-Variable.is, exprs.outs-Variable) refl in
    offset_agrees c.in-Variable.offset c.in-Variable.name c.in-Variable.namespace (brings (λ frame h. good_name c.in-Some.arg.now
    c.in-Variable.offset c.in-Variable.name c.in-Variable.namespace c.in-Variable.pos
    frame form (argument_resolves c.args.call.now c.in-Some.arg.now c.args.pos frame c.in-Some.ensures h)) c.requires.resolves)

pub returns-clause-runs : goal.returns-clause-runs
returns-clause-runs g c held =
    let rules : Rules _ _ = under g.H.Host.name_of c.args.session.now g.T.NativeTable.natives in
    let form : out-Expr c.in-Some.arg.now ≡ layer.Variable c.in-Variable.offset c.in-Variable.name c.in-Variable.namespace
    c.in-Variable.pos = rw (c.in-Variable.is, exprs.outs-Variable) refl in
    at_once rules c.args.call.now c.in-Some.arg.now c.in-Some.ensures c.args.pos c.in-Variable.offset c.in-Variable.name
    c.in-Variable.namespace c.in-Variable.pos form
    (g.T.NativeTable.state c.args.table.now) c.args.global.now c.charge_one.new.global c.args.scope.now held
    (omega (arith, rw c.is_scripted.ensures.same at (c.if-not-charge_one.ensures.room refl)))
    (rw c.is_scripted.ensures.same at (c.if-not-charge_one.ensures.charged refl))
    c.in-Some-entry_of_variable.index c.value_at-value.result.now
    (sym c.entry_of_variable.ensures.exact ∙ c.in-Some-entry_of_variable.is) c.value_at-value.ensures
    (sym c.is_lendable.ensures ∙ c.if-not-is_lendable.false)
    (sym (rw (c.as_str-function.ensures, c.get.ensures) at (c.is_scripted.ensures.found)) ∙ c.if-is_scripted.false) _ _
    (rw (c.as_str-function.ensures, c.get.ensures) at (c.call_entry.ensures.runs held c.value_at-value.result.now
    c.value_at-value.ensures))
