use Rattle.std.proofs.Common.{refl, sym, ap, arith, ◌∙◌, Some}
use Rattle.rhai_errors.specs.declared.error.EvalAltResult.TheVariants as error
use Rattle.rhai_steps.specs.Sessions.{under}
use Rattle.rhai_operands.proofs.Literals.{literal_told, literal_refused}
use Rattle.rhai_operands.proofs.arguments.charge_literal.Goals as goal

pub returns-then-not-charge_one-clause-runs : goal.returns-then-not-charge_one-clause-runs
returns-then-not-charge_one-clause-runs g c scope held =
    rw c.stop.ensures.stopped (literal_refused (under g.H.Host.name_of c.args.session.now g.T.NativeTable.natives) _
    c.args.global.now c.charge_one.new.global scope held c.args.arg.now _ refl (sym c.is_literal.ensures ∙ c.if-not-is_literal.false) _
    (omega (arith, c.charge_one.ensures.full c.if-not-charge_one.true))
    (c.stop.ensures.told ∙ ap error.ErrorTooManyOperations c.start_position.ensures) (c.charge_one.ensures.same c.if-not-charge_one.true))

pub returns-in-Some-clause-runs : goal.returns-in-Some-clause-runs
returns-in-Some-clause-runs g c scope held =
    rw c.settle.ensures (literal_told (under g.H.Host.name_of c.args.session.now g.T.NativeTable.natives) _ c.args.global.now
    c.charge_one.new.global scope held c.args.arg.now _ refl (sym c.is_literal.ensures ∙ c.if-not-is_literal.false)
    (omega (arith, c.charge_one.ensures.room c.if-not-charge_one.false)) (c.charge_one.ensures.charged c.if-not-charge_one.false)
    (Some c.in-Some.answer) c.in-Some.ensures.exact)
