use Rattle.std.proofs.Common.{refl}
use Rattle.rhai_tree.specs.declared.expr.Expr.TheVariants as exprs
use Rattle.rhai_steps.proofs.Agreeing.{brings}
use Rattle.rhai_operands.proofs.Names.{good_name}
use Rattle.rhai_operands.proofs.reading.read_any.Goals as goal

pub read_variable-answer-requires : goal.read_variable-answer-requires
read_variable-answer-requires g c =
    brings (λ frame. good_name c.args.expr.now c.in-Variable.offset c.in-Variable.name c.in-Variable.namespace c.in-Variable.pos frame
    (rw (c.in-Variable.is, exprs.outs-Variable) refl)) c.requires

pub returns-in-IntegerConstant-clause-exact : goal.returns-in-IntegerConstant-clause-exact
returns-in-IntegerConstant-clause-exact g c focus =
    rw (c.in-IntegerConstant.is, exprs.outs-IntegerConstant, c.put.ensures, c.int_value.ensures) (λ m. refl)

pub returns-in-IntegerConstant-clause-plain : goal.returns-in-IntegerConstant-clause-plain
returns-in-IntegerConstant-clause-plain g c done =
    rw (c.in-IntegerConstant.is, exprs.outs-IntegerConstant, c.put.ensures, c.int_value.ensures) (λ is. cc)

pub returns-in-Variable-clause-exact : goal.returns-in-Variable-clause-exact
returns-in-Variable-clause-exact g c focus = rw (c.in-Variable.is, exprs.outs-Variable, c.settle.ensures) c.read_variable-answer.ensures

pub returns-in-BoolConstant-clause-exact : goal.returns-in-BoolConstant-clause-exact
returns-in-BoolConstant-clause-exact g c focus = rw (c.in-BoolConstant.is, exprs.outs-BoolConstant, c.put_truth.ensures) (λ m. refl)

pub returns-in-BoolConstant-clause-plain : goal.returns-in-BoolConstant-clause-plain
returns-in-BoolConstant-clause-plain g c done = rw (c.in-BoolConstant.is, exprs.outs-BoolConstant, c.put_truth.ensures) (λ is. cc)

pub returns-in-BoolConstant-clause-truth : goal.returns-in-BoolConstant-clause-truth
returns-in-BoolConstant-clause-truth g c done = rw (c.in-BoolConstant.is, exprs.outs-BoolConstant, c.put_truth.ensures) (λ is. cc)

pub returns-in-CharConstant-clause-exact : goal.returns-in-CharConstant-clause-exact
returns-in-CharConstant-clause-exact g c focus =
    rw (c.in-CharConstant.is, exprs.outs-CharConstant, c.put-in-CharConstant.ensures, c.char_value.ensures) (λ m. refl)

pub returns-in-StringConstant-clause-exact : goal.returns-in-StringConstant-clause-exact
returns-in-StringConstant-clause-exact g c focus =
    rw (c.in-StringConstant.is, exprs.outs-StringConstant, c.settle-in-StringConstant.ensures) c.text_value.ensures

pub returns-in-DynamicConstant-clause-exact : goal.returns-in-DynamicConstant-clause-exact
returns-in-DynamicConstant-clause-exact g c focus =
    rw (c.in-DynamicConstant.is, exprs.outs-DynamicConstant, c.settle-in-DynamicConstant.ensures) c.constant_value.ensures

pub returns-in-Unit-clause-exact : goal.returns-in-Unit-clause-exact
returns-in-Unit-clause-exact g c focus = rw (c.in-Unit.is, exprs.outs-Unit, c.put_unit.ensures) (λ m. refl)

pub returns-in-Unit-clause-plain : goal.returns-in-Unit-clause-plain
returns-in-Unit-clause-plain g c done = rw (c.in-Unit.is, exprs.outs-Unit, c.put_unit.ensures) (λ is. cc)

pub returns-in-ThisPtr-clause-exact : goal.returns-in-ThisPtr-clause-exact
returns-in-ThisPtr-clause-exact g c focus = rw (c.in-ThisPtr.is, exprs.outs-ThisPtr, c.settle-in-ThisPtr.ensures) c.read_this.ensures

pub returns-in_default-clause-exact : goal.returns-in_default-clause-exact
returns-in_default-clause-exact g c focus = rw (c.stop.ensures.stopped, c.stop.ensures.told) (λ m. cc)
