use Rattle.std.proofs.Common.{arith}
use Rattle.rhai_values.specs.LiteralEquals.{equals}
use Rattle.rhai_values.proofs.EachLemmas.{each_more, each_not, each_uneven}
use Rattle.rhai_values.proofs.base.hashable.+equals.Goals as goal

pub all_equal-returns-then-literals-values : goal.all_equal-returns-then-literals-values
all_equal-returns-then-literals-values g t c = each_uneven equals c.args.literals.now c.args.values.now c.if-literals-values.true

pub all_equal-returns-then-not-literal_equals : goal.all_equal-returns-then-not-literal_equals
all_equal-returns-then-not-literal_equals g t c =
    each_not equals c.args.literals.now c.args.values.now c.loop-i.i _ _ c.loop-i-test.true (omega arith) c.index-literals-i.is
    c.index-values-i.is c.if-not-literal_equals.ensures

pub all_equal-loop-i-preserved : goal.all_equal-loop-i-preserved
all_equal-loop-i-preserved g t c =
    each_more equals c.args.literals.now c.args.values.now c.loop-i.i _ _ c.loop-i-test.true (omega arith) c.index-literals-i.is
    c.index-values-i.is c.loop-i.invariant c.if-not-literal_equals.ensures
