use Rattle.std.proofs.Common.{arith}
use Rattle.rhai_tree.specs.SameLiteral.{same_literal}
use Rattle.rhai_tree.proofs.Each.{each_more, each_not, each_uneven}
use Rattle.rhai_tree.proofs.literal.+same.Goals as goal

pub all_same-returns-then-these-those : goal.all_same-returns-then-these-those
all_same-returns-then-these-those t c = each_uneven same_literal c.args.these.now c.args.those.now c.if-these-those.true

pub all_same-returns-then-not-same_literal : goal.all_same-returns-then-not-same_literal
all_same-returns-then-not-same_literal t c =
    each_not same_literal c.args.these.now c.args.those.now c.loop-i.i _ _ c.loop-i-test.true (omega arith) c.index-these-i.is
    c.index-those-i.is c.if-not-same_literal.ensures

pub all_same-loop-i-preserved : goal.all_same-loop-i-preserved
all_same-loop-i-preserved t c =
    each_more same_literal c.args.these.now c.args.those.now c.loop-i.i _ _ c.loop-i-test.true (omega arith) c.index-these-i.is
    c.index-those-i.is c.loop-i.invariant c.if-not-same_literal.ensures
